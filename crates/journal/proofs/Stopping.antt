-- The tests of a record and of the header, one after the other.
use Prim.Native.Nat.{ℕ, ◌+◌, ◌-◌, ◌≤◌, ◌<◌}
use native.Mathlib.Omega.{arith}
use borrow.Author.Tests.{eq-eqb, ne_eqb, lt-ltb, le-ltb}
use mathlib.Core.Bool.{true, false, ◌&&◌, and-false, or-false}
use mathlib.Core.List.{List}
use mathlib.Core.Logic.{◌≢◌, ◌⊎◌, ⊎_elim}
use mathlib.Core.Path.{◌≡◌, refl, sym, ◌∙◌}
use lib.Dec.{eqb}
use lib.ListN.{length, take, drop}
use Rattle.crc.specs.Crc.{crc32}
use Rattle.rules.specs.Numbers.{number_at}
use Rattle.journal.specs.Journal.{size_at, kind_at, is_kind, holds, stop_at, header_stop}
use Rattle.journal.specs.Kinds.{stop_number, stop_refusal}
use Rattle.journal.specs.Stops.{Here, Missing, torn, other, StopsAt}
use Rattle.journal.specs.declared.stops.Stop.{Stop}
use Rattle.journal.specs.declared.stops.Stop.TheVariants.{End, Torn, Checksum, NoKind, Slots}

-- ---- the numbers of kinds

-- No kind is below 1 or above 8.
pub no_kind : (k s : ℕ) → (k < 1) ⊎ (8 < k) → is_kind k s ≡ false
unfolding is_kind
no_kind k s h =
    let other : (i : ℕ) → 1 ≤ i → i ≤ 8 → eqb k i ≡ false =
    λ i l m. ne_eqb k i (λ e. ⊎_elim (λ (x : k < 1). omega arith) (λ (x : 8 < k). omega arith) h) in
    rw (
      other 1 (omega arith) (omega arith),
      other 2 (omega arith) (omega arith),
      other 3 (omega arith) (omega arith),
      other 4 (omega arith) (omega arith),
      other 5 (omega arith) (omega arith),
      other 6 (omega arith) (omega arith),
      other 7 (omega arith) (omega arith),
      other 8 (omega arith) (omega arith),
    ) (simp (and-false, or-false))

-- ---- a part and its checksum

pub is_torn : {bytes : List ℕ} {i n end : ℕ} → end ≡ i + n → length bytes < end + 4 → Missing bytes i n Torn
is_torn e l = torn (omega arith)

-- The checksum that is read, and that of the bytes before it.
seal_told : {x y : ℕ} (bytes : List ℕ) (i n : ℕ) → x ≡ number_at bytes (i + n)
    → y ≡ crc32 (take (i + n - i) (drop i bytes)) → eqb x y ≡ holds bytes i n
seal_told bytes i n e f = let g : i + n - i ≡ n = omega arith in rw (e, f, g) refl

pub is_other : {x y : ℕ} (bytes : List ℕ) (i n : ℕ) → i + n + 4 ≤ length bytes → x ≡ number_at bytes (i + n)
    → y ≡ crc32 (take (i + n - i) (drop i bytes)) → x ≢ y → Missing bytes i n Checksum
is_other bytes i n l e f x = other l (sym (seal_told bytes i n e f) ∙ ne_eqb _ _ x)

pub is_here : {x y : ℕ} (bytes : List ℕ) (i n : ℕ) → i + n + 4 ≤ length bytes → x ≡ number_at bytes (i + n)
    → y ≡ crc32 (take (i + n - i) (drop i bytes)) → x ≡ y → Here bytes i n
is_here bytes i n l e f x = record { long = l; holds = sym (seal_told bytes i n e f) ∙ eq-eqb _ _ x }

-- ---- a record

some : (bytes : List ℕ) → 12 ≤ length bytes → eqb (length bytes) 0 ≡ false
some bytes l = ne_eqb _ _ (λ (e : length bytes ≡ 0). omega arith)

stops : {n : ℕ} {s : Stop} → stop_number s ≡ n → stop_refusal s ≡ 0 → StopsAt n s
stops e f = record { number = e; refusal = f }

module _ (bytes : List ℕ) where
  pub stop_empty : length bytes ≡ 0 → StopsAt (stop_at bytes) End
  unfolding stop_at
  stop_empty e = stops (rw (eq-eqb _ _ e) refl) refl

  pub stop_head : {s : Stop} → length bytes ≢ 0 → Missing bytes 0 8 s → StopsAt (stop_at bytes) s
  unfolding stop_at
  stop_head x (torn l) = stops (rw (ne_eqb _ _ x, lt-ltb (length bytes) 12 l) refl) refl
  stop_head x (other l h) = stops (rw (ne_eqb _ _ x, le-ltb (length bytes) 12 l, h) refl) refl

  module _ (H : Here bytes 0 8) (n : ℕ) (e : n ≡ size_at bytes) where
    pub stop_body : {s : Stop} → Missing bytes 12 n s → StopsAt (stop_at bytes) s
    unfolding stop_at
    stop_body (torn l) =
        let t : length bytes < 16 + size_at bytes = omega arith in
        stops (rw (some bytes H.long, le-ltb (length bytes) 12 H.long, H.holds, lt-ltb _ _ t) refl) refl
    stop_body (other l h) =
        let t : 16 + size_at bytes ≤ length bytes = omega arith in
        stops
        (rw (some bytes H.long, le-ltb (length bytes) 12 H.long, H.holds, le-ltb _ _ t, rw e at h) refl)
        refl

    module _ (B : Here bytes 12 n) (k : ℕ) (f : k ≡ kind_at bytes) where
      body_long : 16 + size_at bytes ≤ length bytes
      body_long = let l = B.long in omega arith

      pub stop_kind : is_kind k n ≡ false → StopsAt (stop_at bytes) NoKind
      unfolding stop_at
      stop_kind i =
          stops
          (rw (
            some bytes H.long,
            le-ltb (length bytes) 12 H.long,
            H.holds,
            le-ltb _ _ body_long,
            rw e at B.holds,
            rw (e, f) at i,
          ) refl)
          refl

      pub stop_none : is_kind k n ≡ true → stop_at bytes ≡ 0
      unfolding stop_at
      stop_none i =
          rw (
            some bytes H.long,
            le-ltb (length bytes) 12 H.long,
            H.holds,
            le-ltb _ _ body_long,
            rw e at B.holds,
            rw (e, f) at i,
          ) refl

-- ---- the header

module _ (v t : ℕ) (bytes : List ℕ) where
  pub header_empty : length bytes ≡ 0 → StopsAt (header_stop v t bytes) End
  unfolding header_stop
  header_empty e = stops (rw (eq-eqb _ _ e) refl) refl

  pub header_part : {s : Stop} → length bytes ≢ 0 → Missing bytes 0 16 s → StopsAt (header_stop v t bytes) s
  unfolding header_stop
  header_part x (torn l) = stops (rw (ne_eqb _ _ x, lt-ltb (length bytes) 20 l) refl) refl
  header_part x (other l h) = stops (rw (ne_eqb _ _ x, le-ltb (length bytes) 20 l, h) refl) refl

  module _ (H : Here bytes 0 16) where
    header_some : eqb (length bytes) 0 ≡ false
    header_some = let l = H.long in some bytes (omega arith)

    pub header_name : (eqb (number_at bytes 0) 1246515282 && eqb (number_at bytes 4) 1) ≡ false
        → StopsAt (header_stop v t bytes) NoKind
    unfolding header_stop
    header_name f = stops (rw (header_some, le-ltb (length bytes) 20 H.long, H.holds, f) refl) refl

    module _ (f : (eqb (number_at bytes 0) 1246515282 && eqb (number_at bytes 4) 1) ≡ true) where
      pub header_slots : (eqb (number_at bytes 8) v && eqb (number_at bytes 12) t) ≡ false
          → StopsAt (header_stop v t bytes) Slots
      unfolding header_stop
      header_slots g = stops (rw (header_some, le-ltb (length bytes) 20 H.long, H.holds, f, g) refl) refl

      pub header_none : (eqb (number_at bytes 8) v && eqb (number_at bytes 12) t) ≡ true → header_stop v t bytes ≡ 0
      unfolding header_stop
      header_none g = rw (header_some, le-ltb (length bytes) 20 H.long, H.holds, f, g) refl
