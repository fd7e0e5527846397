-- What a split hands to its flips, and bounds that keep it within the tables, a byte and its counts.
use Prim.Native.Nat.{ℕ, suc, ◌+◌, ◌*◌, ◌/◌, ◌%◌, ◌≤◌, ◌<◌}
use native.Mathlib.Decide.{ℕ_discrete, dec_lt}
use native.Mathlib.Omega.{arith}
use native.Mathlib.Nat.{le_trans}
use mathlib.Core.Bool.{Bool, true, false}
use mathlib.Core.List.{List, [], ◌∷◌}
use mathlib.Core.Path.{◌≡◌, refl, sym}
use lib.ListN.{length, get_or, set, get_or-eq_default}
use lib.Seq.{get_or-set_same, get_or-set_other, set_out}
use Rattle.theory.proofs.Splits.Bases.{base_is}
use Rattle.theory.proofs.Numbers.Decide.{when_true}
use Rattle.theory.proofs.Chains.RefineLoop.{settle_counts}
use Rattle.theory.proofs.Chains.Runs.{split_even, split_odd}
use Rattle.rules.specs.Split.{Work, with_split, face_cut, rim_cut, flip, with_flip, face_placed, rim_placed, settle}
use Rattle.rules.specs.Split.{settle_all, face_split, rim_split, split_at}
use Rattle.rules.specs.Tables.{Topology, with_topology, link, generation, is_base}
use Rattle.split.specs.Made.{Hands}

-- A base is a side of a triangle within the table.
pub base_within : (m : Topology) (h : ℕ) → is_base m h ≡ true → h / 3 < length m.generations
base_within m h e = go (dec_lt (h / 3) (length m.generations))
  where
    go : Dec (h / 3 < length m.generations) → h / 3 < length m.generations
    go (yes l) = l
    go (no l) =
        let z : get_or m.generations (h / 3) 0 ≡ 0 = get_or-eq_default m.generations 0 (omega arith) in
        absurd (omega (arith, (when_true (base_is m h) e).1))

-- A slot that is written, and one that is not written above k.
written_at_most : (l : List ℕ) (i v : ℕ) → get_or (set l i v) i 0 ≤ v
written_at_most l i v = go (dec_lt i (length l))
  where
    go : Dec (i < length l) → get_or (set l i v) i 0 ≤ v
    go (yes b) = rw (get_or-set_same l i v 0 b) (omega arith)
    go (no b) = let q : length l ≤ i = omega arith in rw (set_out l i v q, get_or-eq_default l 0 q) (omega arith)

kept_at_most : (l : List ℕ) (i v x k : ℕ) → get_or l x 0 ≤ k → v ≤ k → get_or (set l i v) x 0 ≤ k
kept_at_most l i v x k b j = go (ℕ_discrete x i)
  where
    go : Dec (x ≡ i) → get_or (set l i v) x 0 ≤ k
    go (no n) = rw (get_or-set_other l i x v 0 n) b
    go (yes e) = let w = written_at_most l i v in rw e (omega arith)

-- ---- what is left to be settled

-- Three slots written with k at most.
three_low : (l : List ℕ) (t f e a b c k : ℕ) → a ≤ k → b ≤ k → c ≤ k →
    let n = set (set (set l t a) f b) e c in
    (get_or n t 0 ≤ k) × (get_or n f 0 ≤ k) × (get_or n e 0 ≤ k)
three_low l t f e a b c k i j h =
    let one : List ℕ = set l t a in
    let two : List ℕ = set one f b in
    let at-t = kept_at_most one f b t k (le_trans (written_at_most l t a) i) j in (
      kept_at_most two e c t k at-t h,
      kept_at_most two e c f k (le_trans (written_at_most one f b) j) h,
      le_trans (written_at_most two e c) h,
    )

-- A cut that writes the generations g, h and g leaves three young triangles.
cut_hands : (t g h : ℕ) (w : Work) (slots : List ℕ) (cut : Work) →
    let m = w.mesh.topology in
    cut.mesh.topology.generations ≡ set (set (set m.generations t g) m.triangles h) (m.triangles + 1) g
    → cut.flips ≡ w.flips → g < 23 → h < 23 → settle_all slots cut ≡ split_at t w → Hands t w slots cut
cut_hands t g h w slots cut written flips i j settled =
    let m : Topology = w.mesh.topology in
    let low =
    three_low m.generations t m.triangles (m.triangles + 1) g h g 22 (omega arith) (omega arith)
    (omega arith) in
    record {
      settled = settled;
      own = rw written (omega (arith, low.0));
      second = rw written (omega (arith, low.1));
      third = rw written (omega (arith, low.2));
      flips = flips;
    }

module _ (t : ℕ) (w a : Work) (young : generation w.mesh.topology t < 20) where
  -- A face split leaves its three triangles, one above t.
  pub face_hands : a ≡ with_split t (face_placed t w.mesh) w → generation w.mesh.topology t % 2 ≡ 0
      → let f = w.mesh.topology.triangles in
      Hands t w (t ∷ f ∷ (f + 1) ∷ []) a
  unfolding face_split face_placed face_cut
  face_hands ea even =
      let g : ℕ = suc (generation w.mesh.topology t) in
      rw ea (cut_hands t g g w _ _ refl refl (omega arith) (omega arith) (sym (split_even t w even)))

  -- A rim split leaves the outer two of its three triangles.
  pub rim_hands : a ≡ with_split t (rim_placed t w.mesh) w → generation w.mesh.topology t % 2 ≡ 1
      → Hands t w (t ∷ (w.mesh.topology.triangles + 1) ∷ []) a
  unfolding rim_split rim_placed rim_cut
  rim_hands ea odd =
      let g : ℕ = generation w.mesh.topology t in
      rw ea (cut_hands t (g + 2) (g + 3) w _ _ refl refl (omega arith) (omega arith) (sym (split_odd t w odd)))

-- ---- the settlings

-- Settling s raises it by one, and brings another to the same generation.
settle_young : (s x k : ℕ) (w : Work) → generation w.mesh.topology s ≤ k → generation w.mesh.topology x ≤ k
    → generation (settle s w).mesh.topology x ≤ suc k
unfolding settle flip
settle_young s x k w i j = go (is_base m h)
  where
    m : Topology
    m = w.mesh.topology

    h : ℕ
    h = link m (3 * s)

    go : (b : Bool) →
        let r : Work = elim b [ true ↦ with_flip s (h / 3) (with_topology (flip s (h / 3) m) w.mesh) w | false ↦ w ] in
        generation r.mesh.topology x ≤ suc k
    go true =
        let g : ℕ = suc (generation m s) in
        let b = kept_at_most m.generations s g x (suc k) (omega arith) (omega arith) in
        kept_at_most (set m.generations s g) (h / 3) g x (suc k) b (omega arith)
    go false = omega arith

-- After it another is one above k at most, and one flip more is counted at most.
pub settle_low : (s x k : ℕ) (w a : Work) → generation w.mesh.topology s ≤ k → generation w.mesh.topology x ≤ k
    → a ≡ settle s w → (generation a.mesh.topology x ≤ suc k) × (a.flips ≤ w.flips + 1)
settle_low s x k w a i j ea = rw ea (settle_young s x k w i j, settle_counts s w)
