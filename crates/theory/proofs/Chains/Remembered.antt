-- The places of a base chain: a split at its end leaves those of all odd triangles but the last.
use mathlib.Core.Path.{◌≡◌, refl, ap, ◌∙◌, subst}
use Prim.Native.Nat.{ℕ, zero, suc, ◌+◌, ◌-◌, ◌*◌, ◌/◌, ◌≤◌, ◌<◌}
use native.Mathlib.Omega.{arith}
use Rattle.theory.proofs.Chains.Chain.{Path, ends, path_odd, path_meets, path_next, falls, not_v, left, stays}
use Rattle.theory.proofs.Splits.Cut.{CutResult}
use Rattle.theory.proofs.Links.Manifold.{Manifold, BasesMeetIn}
use Rattle.theory.proofs.Splits.Settled.{nowhere}
use Rattle.rules.specs.Conditions.{Splittable}
use Rattle.rules.specs.Split.{chain_at}
use Rattle.rules.specs.Tables.{Topology, link, generation}

module _ {m : Topology} where
  pub path_none : {t v : ℕ} → Path m t v 0 → v ≡ t
  path_none (ends f) = refl

  -- A path of n odd triangles goes on from each of its places.
  pub path_from : {t v n : ℕ} (i k : ℕ) → n ≡ i + k → Path m t v n → Path m (chain_at i m t) v k
  unfolding chain_at
  path_from {t} {v} zero k e p = let q : 0 + k ≡ k = omega arith in subst (Path m t v) (e ∙ q) p
  path_from (suc i) k e p = path_next (path_from i (suc k) (omega arith) p)

  -- It ends at its last place.
  pub path_last : {t v k : ℕ} → Path m t v k → v ≡ chain_at k m t
  path_last {k = k} p = path_none (path_from k 0 (omega arith) p)

  -- Its places are in use.
  pub path_within : {t v n : ℕ} (i k : ℕ) → Manifold m → BasesMeetIn nowhere m → t < m.triangles → n ≡ i + k
      → Path m t v n → chain_at i m t < m.triangles
  unfolding chain_at
  path_within zero k F K l e p = l
  path_within (suc i) k F K l e p =
      let q = path_from i (suc k) (omega arith) p in
      (falls m F K _ (path_within i (suc k) F K l (omega arith) p) (path_odd q) (path_meets q)).0

module _ (v g p r : ℕ) (m n : Topology) (F : Manifold m) (K : BasesMeetIn nowhere m) (b : v < m.triangles)
    (fit : Splittable m v) (S : CutResult v g p r m n) where
  -- A triangle with another odd one between it and v is left.
  stays_odd : (x k : ℕ) → x < m.triangles → Path m x v (suc (suc k)) → generation n x ≡ generation m x
  stays_odd x k l w =
      left v g p r m n F K b fit S x l (path_odd w) (path_meets w)
      (not_v v g p r m n F K b fit S (link m (3 * x) / 3) (path_odd (path_next w)) (path_meets (path_next w)))

  -- With two of them between, its base goes on meeting the next.
  keeps_link : (x k : ℕ) → x < m.triangles → Path m x v (suc (suc (suc k))) → link n (3 * x) ≡ link m (3 * x)
  keeps_link x k l w =
      stays v g p r m n F K b fit S x l (path_meets w) (stays_odd x (suc k) l w)
      (stays_odd (link m (3 * x) / 3) k (falls m F K x l (path_odd w) (path_meets w)).0 (path_next w))

  -- After the split of v the places of the odd triangles but the last are those before it.
  pub places_stay : (t i k : ℕ) → t < m.triangles → Path m t v (suc (suc k)) → i ≤ k → chain_at i n t ≡ chain_at i m t
  unfolding chain_at
  places_stay t zero k l w j = refl
  places_stay t (suc i) k l w j =
      let x : ℕ = chain_at i m t in
      let e : suc (suc k) ≡ i + suc (suc (suc (k - suc i))) = omega arith in
      ap (λ (y : ℕ). link n (3 * y) / 3) (places_stay t i k l w (omega arith))
      ∙ ap (λ (h : ℕ). h / 3) (keeps_link x (k - suc i) (path_within i _ F K l e w) (path_from i _ e w))
