-- A base chain followed in the tables, and whether a refine along it alters a locked triangle.
use mathlib.Core.Bool.{Bool, ◌&&◌, ◌||◌}
use mathlib.Core.List.{List}
use mathlib.Core.Path.{◌≡◌, sym, ap, ◌∙◌}
use Prim.Native.Nat.{ℕ, zero, suc, ◌+◌, ◌*◌, ◌/◌, ◌%◌, ◌≤◌, ◌<◌}
use native.Mathlib.Decide.{dec_lt}
use native.Mathlib.Numerals.{add-one}
use native.Mathlib.Omega.{arith}
use lib.Dec.{eqb}
use lib.ListN.{length, get_or, get_or-eq_default, take}
use Rattle.std.proofs.lemmas.List.{get_or-take, length-take-le}
use Rattle.theory.proofs.Chains.Altering.{place_altered, end_altered}
use Rattle.theory.proofs.Chains.Chain.{path_use}
use Rattle.theory.proofs.Chains.Refine.{chain_path, chain_bound}
use Rattle.theory.proofs.Numbers.Decide.{any_none, any_more}
use Rattle.theory.proofs.Soundness.Relaxed.{sound_manifold, sound_bases}
use Rattle.rules.specs.Below.{any}
use Rattle.rules.specs.Calls.{alters_locked}
use Rattle.rules.specs.Sound.{Sound}
use Rattle.rules.specs.Split.{chain_end, chain_odd, chain_at}
use Rattle.rules.specs.Tables.{Mesh, link, is_base, locked}
use Rattle.split.specs.Made.{BaseChain}
use Rattle.split.specs.declared.Chain.{Chain}
use Rattle.tables.specs.Lent.{spares_now}
use Rattle.refining.specs.Locked.{Follows}

-- ---- the chain

module _ {t : ℕ} {m : Mesh} (S : Sound m) (l : t < m.topology.triangles) where
  -- The end of a base chain is in use.
  end_used : 3 * chain_end m.topology t + 2 < length m.topology.links
  end_used =
      let u = path_use (sound_manifold S) (sound_bases S) l (chain_path t m S l) in
      omega (arith, S.tables.links, S.triangle_room)

  -- A base chain has few odd triangles.
  pub few_odd : chain_odd m.topology t ≤ 20
  few_odd = omega (arith, chain_bound t m S l, S.generations t l)

  pub follows : {c : Chain} → BaseChain m.topology t c
      → Follows c (spares_now m.positions m.topology.corners m.topology.links m.topology.generations m.locks)
  follows C =
      let L = S.tables.locks in record {
        few = omega (arith, C.odd, few_odd);
        end = rw C.end end_used;
        places = λ i b. omega (arith, C.slots i b, (place_altered t m S l i (omega (arith, C.odd))).0, S.triangle_room, L);
        end_lock = omega (arith, C.end, (end_altered t m S l).0, S.triangle_room, L);
        room = omega (arith, L);
      }

  -- Whatever the corners are.
  pub follows_cornered : {c : Chain} (corners : List ℕ) → BaseChain m.topology t c
      → Follows c (spares_now m.positions corners m.topology.links m.topology.generations m.locks)
  follows_cornered corners C =
      let F = follows C in
      record { few = F.few; end = F.end; places = F.places; end_lock = F.end_lock; room = F.room }

-- ---- the locks

-- An odd triangle has a generation in the table.
pub odd_inside : (l : List ℕ) (i : ℕ) → get_or l i 0 % 2 ≡ 1 → i < length l
odd_inside l i e = go (dec_lt i (length l))
  where
    go : Dec (i < length l) → i < length l
    go (yes b) = b
    go (no b) = absurd (omega (arith, get_or-eq_default l 0 {n = i} (omega arith)))

-- Tests that agree below n find some number there alike.
any_same : (n : ℕ) (p q : ℕ → Bool) → ((i : ℕ) → i < n → p i ≡ q i) → any n p ≡ any n q
any_same zero p q e = any_none p ∙ sym (any_none q)
any_same (suc n) p q e =
    rw (← add-one n, any_more n p, any_more n q, any_same n p q (λ i b. e i (omega arith)), e n (omega arith))

-- The front of a list has what its first entries have.
pub front_locked : (n : ℕ) (slots locks : List ℕ) → n ≤ length slots
    → any (length (take n slots)) (λ i. eqb (get_or locks (get_or (take n slots) i 0) 0) 1)
    ≡ any n (λ i. eqb (get_or locks (get_or slots i 0) 0) 1)
front_locked n slots locks h =
    rw (length-take-le n slots h)
    (any_same n (λ i. eqb (get_or locks (get_or (take n slots) i 0) 0) 1) (λ i. eqb (get_or locks (get_or slots i 0) 0) 1)
    (λ i b. ap (λ (x : ℕ). eqb (get_or locks x 0) 1) (get_or-take n slots i 0 b)))

-- By the answers of the tests. A test that was not made stands for itself.
module _ (t : ℕ) (m : Mesh) {c : Chain} (C : BaseChain m.topology t c) where
  slots_locked :
      any c.odd (λ i. locked m (get_or c.slots i 0))
      ≡ any (chain_odd m.topology t) (λ i. locked m (chain_at i m.topology t))
  slots_locked =
      any_same _ _ _ (λ i b. ap (locked m) (C.slots i b))
      ∙ ap (λ (n : ℕ). any n (λ i. locked m (chain_at i m.topology t))) C.odd

  pub alters_by_tests : {a b d : Bool} → any c.odd (λ i. locked m (get_or c.slots i 0)) ≡ a
      → locked m c.end ≡ b
      → any 3 (λ i. let h = link m.topology (3 * c.end + i) in is_base m.topology h && locked m (h / 3)) ≡ d
      → (a || b || d) ≡ alters_locked t m
  unfolding alters_locked
  alters_by_tests a b d = rw (← a, ← b, ← d, slots_locked, C.end, alters_locked)
