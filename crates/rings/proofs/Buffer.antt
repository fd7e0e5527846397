-- A ring written to a buffer, entry by entry.
use Prim.Native.Nat.{ℕ, ◌+◌}
use native.Mathlib.Numerals.{add-one}
use mathlib.Core.List.{List}
use mathlib.Core.Path.{◌≡◌, refl, ◌∙◌}
use lib.ListN.{length, get_or, set, length-set}
use Rattle.rules.specs.Below.{fill}
use Rattle.rules.specs.Tables.{topology_of}
use Rattle.rings.specs.Rings.{ring_from}
use Rattle.rings.proofs.Walk.{EntryIs, LengthIs}

-- The buffer, which is b at first, holds the first n entries of the ring.
pub record Written (triangles : ℕ) (corners links : List ℕ) (s : ℕ) (b buffer : List ℕ) (n : ℕ) : Type 0 where
  pub size : length buffer ≡ length b
  pub front : (v : ℕ) (g : List ℕ)
      → buffer ≡ fill n (λ i. get_or (ring_from (topology_of v triangles corners links g) s) i 0) b

pub unwritten : (t : ℕ) (c l : List ℕ) (s : ℕ) (b : List ℕ) → Written t c l s b b 0
unfolding fill
unwritten t c l s b = record { size = refl; front = λ v g. refl }

write_more : (r b : List ℕ) {buffer : List ℕ} (n : ℕ) {x : ℕ} → buffer ≡ fill n (λ i. get_or r i 0) b
    → get_or r n 0 ≡ x → set buffer n x ≡ fill (n + 1) (λ i. get_or r i 0) b
unfolding fill
write_more r b n e q = rw (add-one, e, ← q, fill)

module _ {t : ℕ} {c l : List ℕ} {s : ℕ} {b buffer : List ℕ} {n : ℕ} (w : Written t c l s b buffer n) where
  pub writes : {x : ℕ} → EntryIs t c l s n x → Written t c l s b (set buffer n x) (n + 1)
  writes {x} e = record {
    size = length-set buffer n x ∙ w.size;
    front = λ v g. write_more (ring_from (topology_of v t c l g) s) b n (w.front v g) (e.is v g);
  }

  pub all_written : LengthIs t c l s n → (v : ℕ) (g : List ℕ) →
      let ring = ring_from (topology_of v t c l g) s in
      buffer ≡ fill (length ring) (λ i. get_or ring i 0) b
  all_written e v g = rw (← e.all v g) (w.front v g)
