-- From one side of a rim to the next: back round the vertex between them.
use Rattle.std.proofs.Common.{ℕ, zero, suc, ◌/◌, ◌<◌, ◌≤◌, arith, Bool, true, false, not, ◌&&◌, eqb, ltb, List, []}
use Rattle.std.proofs.Common.{length, get_or, ◌≡◌, ◌≢◌, refl, sym, ap, ◌∙◌, subst, inl, inr}
use Rattle.theory.proofs.Links.Manifold.{Manifold}
use Rattle.theory.proofs.Links.Sides.{next_lt, next_previous}
use Rattle.theory.proofs.Numbers.Decide.{Decides, is_eq}
use Rattle.theory.proofs.Rims.RimWalk.{ring_at, only_there, ends, goes_on_lem}
use Rattle.theory.proofs.Rings.Turning.{manifold_glued, rotate_back}
use Rattle.rules.specs.Promises.{RingMakes, walk_at}
use Rattle.rules.specs.Ring.{first_side, fan_from, fan}
use Rattle.rules.specs.Tables.{Topology, sides, next, previous, target, boundary, link, rotate}
use Rattle.rim.specs.Traced.{OnRimSide}

-- How many turns back from side k lead to the boundary; n at most.
unfoldable pub turns_back : ℕ → List ℕ → ℕ → ℕ
turns_back zero links k = 0
turns_back (suc n) links k = elim (eqb (get_or links k 0) boundary) [
  | true ↦ 0
  | false ↦ suc (turns_back n links (next (get_or links k 0)))
]

-- Side k is number i of the walk round w.
pub record At (m : Topology) (w k i : ℕ) : Type 0 where
  pub place : i < length (fan m w)
  pub side : walk_at m w i ≡ k

-- A walk has a side in each triangle at most.
from_few : (n : ℕ) (m : Topology) (s h : ℕ) → length (fan_from n m s h) ≤ n
unfolding fan_from
from_few zero m s h = omega arith
from_few (suc n) m s h =
    go (ltb (rotate m h) (sides m) && not (eqb (rotate m h) s)) (fan_from n m s (rotate m h))
    (from_few n m s (rotate m h))
  where
    go : (b : Bool) (l : List ℕ) → length l ≤ n → suc (length {A = ℕ} (elim b [ true ↦ l | false ↦ [] ])) ≤ suc n
    go true l i = omega arith
    go false l i = omega arith

fan_few : (m : Topology) (v : ℕ) → length (fan m v) ≤ m.triangles
unfolding fan
fan_few m v =
    let s = first_side m v in
    go (ltb s (sides m)) (fan_from m.triangles m s s) (from_few m.triangles m s s)
  where
    go : (b : Bool) (l : List ℕ) → length l ≤ m.triangles
        → length {A = ℕ} (elim b [ true ↦ l | false ↦ [] ]) ≤ m.triangles
    go true l i = i
    go false l i = omega arith

module _ (m : Topology) {h : ℕ} (R : OnRimSide m h) where
  abbrev F : Manifold m
  F = R.manifold

  abbrev w : ℕ
  w = target m h

  target_in_use : w < m.vertices
  target_in_use = F.corner (next h) (next_lt h m.triangles R.side.in_use)

  ring_there : RingMakes m w
  ring_there = ring_at m F w target_in_use

  pub begins : (i : ℕ) × At m w (next h) i
  begins = let (i, e, q) = ends m F R.side in (i, record { place = omega arith; side = q })

  at_in_use : {k i : ℕ} → At m w k i → k < sides m
  at_in_use {k} {i} A = subst (λ (x : ℕ). x < sides m) A.side (ring_there.in_use i A.place)

  pub side_small : {k i : ℕ} → At m w (next k) i → k < boundary
  side_small A = omega (arith, at_in_use A, (manifold_glued F).few)

  pub at_read : {k i : ℕ} → At m w k i → k < length m.links
  at_read A = omega (arith, at_in_use A, F.link_room)

  -- At the boundary it is the side sought.
  pub sought_at_boundary : {k i : ℕ} → At m w k i → link m k ≡ boundary → k ≡ first_side m w
  sought_at_boundary {k} {i} A e = sym (only_there m F target_in_use i A.place A.side e)

  -- Elsewhere the side across leads one place back.
  pub at_before : {k : ℕ} (i : ℕ) → At m w k i → link m k ≢ boundary
      → (j : ℕ) × (i ≡ suc j) × At m w (next (link m k)) j
  at_before zero A n =
      absurd (n (ap (λ (x : ℕ). link m x) (sym A.side ∙ ring_there.first)
      ∙ ring_there.start.0 (goes_on_lem m F R.side)))
  at_before {k} (suc j) A n =
      let g = walk_at m w j in
      let t = ring_there.turns j A.place in
      let u = ring_there.in_use j (omega (arith, A.place)) in
      let e : link m k ≡ previous g =
      ap (λ (x : ℕ). link m x) (sym A.side ∙ t)
      ∙ rotate_back m (manifold_glued F) g u (subst (λ (x : ℕ). x < sides m) t (ring_there.in_use (suc j) A.place)) in (
        j,
        refl,
        record { place = omega (arith, A.place); side = sym (ap next e ∙ next_previous g) },
      )

  pub across_small : {k i : ℕ} → At m w k i → link m k ≢ boundary → link m k < boundary
  across_small {k} A n = elim (F.linked k (at_in_use A)) [
    | inl e ↦ absurd (n e)
    | inr P ↦ omega (arith, P.in_use, (manifold_glued F).few)
  ]

  first_there : {k : ℕ} (i : ℕ) → At m w k i → link m k ≡ boundary → 0 ≡ i
  first_there {k} i A e =
      let q : walk_at m w i ≡ walk_at m w 0 =
      A.side ∙ sought_at_boundary A e ∙ sym ring_there.first in
      sym (ring_there.once i 0 A.place ring_there.some (ap (λ (x : ℕ). x / 3) q))

  turns_are : (n : ℕ) {k i : ℕ} → At m w k i → i < n → turns_back n m.links k ≡ i
  unfolding turns_back
  turns_are zero A l = absurd (omega arith)
  turns_are (suc n) {k} {i} A l =
      go (eqb (link m k) boundary) (is_eq (link m k) boundary) (λ j B d. turns_are n {i = j} B d)
    where
      go : (b : Bool) → Decides b (link m k ≡ boundary)
          → ((j : ℕ) → At m w (next (link m k)) j → j < n → turns_back n m.links (next (link m k)) ≡ j)
          → elim b [ true ↦ 0 | false ↦ suc (turns_back n m.links (next (link m k))) ] ≡ i
      go true d f = first_there i A (d.holds tt)
      go false d f = let (j, e, B) = at_before i A (λ q. d.passes q) in ap suc (f j B (omega arith)) ∙ sym e

  pub turns_to_place : {k i : ℕ} → At m w k i → turns_back (length m.links) m.links k ≡ i
  turns_to_place A =
      turns_are (length m.links) A (omega (arith, A.place, fan_few m w, F.link_room))
