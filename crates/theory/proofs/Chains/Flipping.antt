-- A refine flips once for each split after the first; so its flips are at most two more than its splits.
use mathlib.Core.Path.{◌≡◌, refl, sym, ap, ◌∙◌, subst}
use mathlib.Core.Bool.{Bool, true, false}
use mathlib.Core.List.{◌++◌}
use mathlib.Core.Logic.{◌≢◌, inl, inr}
use Prim.Native.Nat.{ℕ, zero, suc, ◌+◌, ◌*◌, ◌/◌, ◌%◌, ◌≤◌, ◌<◌}
use native.Mathlib.Omega.{arith}
use lib.ListN.{length, length-append}
use Rattle.theory.proofs.Calls.Carried.{RefineFound, found_refined}
use Rattle.theory.proofs.Chains.Altered.{after_next, last_met, last_alone, left_not}
use Rattle.theory.proofs.Chains.Chain.{falls, path_odd}
use Rattle.theory.proofs.Chains.Remembered.{path_from}
use Rattle.theory.proofs.Chains.RefineLoop.{split_ends, Ahead, ahead_end, ahead_splitting, ahead_report, ahead_on}
use Rattle.theory.proofs.Chains.RefineLoop.{path_after}
use Rattle.theory.proofs.Chains.RefineLoop.{ahead_across, path_of_two, split_counts, ahead, refine_is_split_ends}
use Rattle.theory.proofs.Chains.Runs.{top_of, rim_of, split_told}
use Rattle.theory.proofs.Links.Manifold.{Manifold, Base}
use Rattle.theory.proofs.Numbers.Decide.{is_same, is_false, odd_test, even_test}
use Rattle.theory.proofs.Splits.Bases.{reached, base_is, boundary_not_base}
use Rattle.theory.proofs.Splits.Cut.{Spread, CutResult}
use Rattle.theory.proofs.Splits.Flipped.{BaseAt, pair_if, pair_at}
use Rattle.rules.specs.Calls.{splits_of}
use Rattle.rules.specs.Conditions.{Splittable, is_even, on_boundary}
use Rattle.rules.specs.Promises.{Written}
use Rattle.rules.specs.Split.{Work, at_first, chain_end, chain_at, split_at, refine}
use Rattle.rules.specs.Tables.{Topology, Mesh, sides, boundary, link, generation, is_base}

module _ {k g t : ℕ} {w : Work} (A : Ahead (suc (suc k)) g t w) where
  abbrev m : Topology
  m = reached w

  abbrev n : Topology
  n = after_next t w

  abbrev v : ℕ
  v = chain_end m t

  abbrev u : ℕ
  u = chain_end n t

  -- What is split next was written by the split before, and flipped.
  end_flipped : (u < n.triangles) × (generation n u ≡ suc (top_of m v))
  end_flipped = (in_use, go (S.spread u in_use))
    where
      S : CutResult v (top_of m v) (1 + rim_of m v) (2 * rim_of m v) m n
      S = (ahead_splitting A).result

      in_use : u < n.triangles
      in_use = (ahead_end (ahead_on A)).in_use

      written : Written m n u
      written = subst (Written m n) (sym (ahead_across A).next) (last_met A).3

      go : Spread v (top_of m v) m n u → generation n u ≡ suc (top_of m v)
      go (inl (l, _, e)) = absurd (left_not m n l e written refl)
      go (inr (inl e)) = absurd (omega (arith, (path_after A).1, S.odd))
      go (inr (inr e)) = e

  -- A base that meets it is of a triangle that the split before left.
  meets_left : (h : ℕ) → BaseAt u n h → (h < sides m) × (generation n (h / 3) ≡ generation m (h / 3))
      × (link n h ≢ boundary)
  meets_left h (l, _, b, e) = (omega (arith, old.0), old.1, q)
    where
      B : Ahead (suc k) g t (split_at v w)
      B = ahead_on A

      z : 3 * (h / 3) ≡ h
      z = omega (arith, b.0)

      q : link n h ≢ boundary
      q i = omega (arith, end_flipped.0, B.manifold.slots, B.manifold.generation_room)

      above : top_of n u ≡ generation n (h / 3)
      above =
          subst (λ (y : ℕ). top_of n y ≡ generation n (h / 3)) (ap (λ (y : ℕ). link n y / 3) z ∙ e)
          (falls n B.manifold B.bases_meet (h / 3) (omega arith) b.1 (λ i. q (ap (link n) (sym z) ∙ i))).1

      go : Spread v (top_of m v) m n (h / 3)
          → (h / 3 < m.triangles) × (generation n (h / 3) ≡ generation m (h / 3))
      go (inl (i, _, x)) = (i, x)
      go (inr (inl x)) = absurd (omega (arith, above, end_flipped.1))
      go (inr (inr x)) = absurd (omega (arith, above, end_flipped.1))

      old : (h / 3 < m.triangles) × (generation n (h / 3) ≡ generation m (h / 3))
      old = go ((ahead_splitting A).result.spread (h / 3) (omega arith))

  -- The base of the last place of the chain that is left meets it, and no other.
  last_base : BaseAt u n (3 * chain_at k m t)
  last_base =
      let (l, e, q, o) = last_met A in
      let y : ℕ = chain_at k m t in
      let z : 3 * y / 3 ≡ y = omega arith in
      let c : y ≢ u = λ i. left_not m n l e o (i ∙ (ahead_across A).next) in
      let d : generation m y % 2 ≡ 1 = path_odd (path_from k 2 (omega arith) (path_of_two A)) in (
        omega (arith, (ahead_splitting A).result.triangles),
        (λ i. c (sym z ∙ i)),
        (omega arith, rw z (ap (λ (x : ℕ). x % 2) e ∙ d)),
        sym (ahead_across A).next,
      )

  next_flips : (split_at u (split_at v w)).flips ≡ (split_at v w).flips + 1
  next_flips =
      let S = ahead_splitting (ahead_on A) in
      omega (arith, S.some _ last_base, S.once (λ h i a b. at h a ∙ sym (at i b)))
    where
      at : (h : ℕ) → BaseAt u n h → h ≡ 3 * chain_at k m t
      at h a =
          let (l, e, q) = meets_left h a in
          last_alone A h l e q a.3

-- Each split after the first flips once.
ends_flips : {g t : ℕ} (k : ℕ) (w : Work) → Ahead (suc k) g t w
    → (split_ends (suc k) t w).flips ≡ (split_at (chain_end (reached w) t) w).flips + k
unfolding split_ends
ends_flips zero w A = omega arith
ends_flips (suc k) w A = omega (arith, ends_flips k _ (ahead_on A), next_flips A)

-- What the flip at side h adds to a report, whatever the child.
pair_length : (b : Bool) (c h : ℕ) → length (pair_if b c h) ≡ length (pair_if b 0 h)
pair_length true c h = refl
pair_length false c h = refl

-- What a split reports: three slots, and two for each side that meets a base.
told_length : (v : ℕ) (m : Topology) → Splittable m v → Manifold m
    → length (split_told m v)
    ≡ 3 + length (pair_at m 0 (3 * v)) + length (pair_at m 0 (3 * v + 1)) + length (pair_at m 0 (3 * v + 2))
told_length v m (is_even e) F =
    let f : ℕ = m.triangles in
    rw (even_test (generation m v) e)
    (omega (
      arith,
      length-append (pair_at m v (3 * v)) (pair_at m f (3 * v + 1) ++ pair_at m (f + 1) (3 * v + 2)),
      length-append (pair_at m f (3 * v + 1)) (pair_at m (f + 1) (3 * v + 2)),
      pair_length (is_base m (link m (3 * v))) v (link m (3 * v)),
      pair_length (is_base m (link m (3 * v + 1))) f (link m (3 * v + 1)),
      pair_length (is_base m (link m (3 * v + 2))) (f + 1) (link m (3 * v + 2)),
    ))
told_length v m (on_boundary o q) F =
    let f : ℕ = m.triangles in
    let x : is_base m (link m (3 * v)) ≡ false =
    is_same (base_is m (link m (3 * v))) (is_false (λ b. boundary_not_base m F (subst (Base m) q b))) in
    rw (odd_test (generation m v) o)
    (omega (
      arith,
      length-append (pair_at m v (3 * v + 2)) (pair_at m (f + 1) (3 * v + 1)),
      ap (λ (b : Bool). length (pair_if b 0 (link m (3 * v)))) x,
      pair_length (is_base m (link m (3 * v + 2))) v (link m (3 * v + 2)),
      pair_length (is_base m (link m (3 * v + 1))) (f + 1) (link m (3 * v + 1)),
    ))

module _ {t : ℕ} {m : Mesh} (R : RefineFound t m) where
  -- A refine flips once for each split after the first, and what the first flips.
  pub refine_flips_are :
      (refine t (at_first m)).flips + 1
      ≡ (split_at (chain_end m.topology t) (at_first m)).flips + splits_of m.topology t
  refine_flips_are = rw (refine_is_split_ends R) (go (splits_of m.topology t) (omega arith) (ahead R))
    where
      go : (k : ℕ) → 1 ≤ k → Ahead k (generation m.topology t) t (at_first m)
          → (split_ends k t (at_first m)).flips + 1 ≡ (split_at (chain_end m.topology t) (at_first m)).flips + k
      go zero i A = absurd (omega arith)
      go (suc k) i A = omega (arith, ends_flips k (at_first m) A)

  pub refine_flips : (refine t (at_first m)).flips ≤ splits_of m.topology t + 2
  refine_flips =
      let i = refine_flips_are in
      go (splits_of m.topology t) (omega arith) (ahead R) (omega arith)
    where
      go : (k : ℕ) → 1 ≤ k → Ahead k (generation m.topology t) t (at_first m)
          → (refine t (at_first m)).flips + 1 ≤ (split_at (chain_end m.topology t) (at_first m)).flips + k
          → (refine t (at_first m)).flips ≤ k + 2
      go zero i A j = absurd (omega arith)
      go (suc k) i A j =
          omega (arith, split_counts (chain_end m.topology t) (at_first m) (ahead_end A).fit)

  -- The report of a refine has five slots for each split, of which the first may flip up to three times.
  pub refine_report_length :
      let v = chain_end m.topology t in
      length (refine t (at_first m)).report + 2
      ≡ 5 * splits_of m.topology t + length (pair_at m.topology 0 (3 * v))
      + length (pair_at m.topology 0 (3 * v + 1)) + length (pair_at m.topology 0 (3 * v + 2))
  refine_report_length = go (splits_of m.topology t) refl (ahead R)
    where
      go : (k : ℕ) → splits_of m.topology t ≡ k → Ahead k (generation m.topology t) t (at_first m)
          → let v = chain_end m.topology t in
          length (refine t (at_first m)).report + 2
          ≡ 5 * splits_of m.topology t + length (pair_at m.topology 0 (3 * v))
          + length (pair_at m.topology 0 (3 * v + 1)) + length (pair_at m.topology 0 (3 * v + 2))
      go zero e A = absurd (omega arith)
      go (suc k) e A =
          let v : ℕ = chain_end m.topology t in
          let S = ahead_splitting A in
          let E = ahead_end A in
          let G = found_refined R in
          omega (
            arith,
            refine_flips_are,
            told_length v m.topology E.fit A.manifold,
            ap length (sym S.telling.report ∙ ahead_report A),
            S.telling.size,
            S.splits,
            ap length G.telling.report,
            G.telling.size,
            G.splits,
          )
