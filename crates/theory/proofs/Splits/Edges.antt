-- Edges and boundary sides, counted.
use mathlib.Core.Path.{◌≡◌, refl, sym, ap, ◌∙◌}
use mathlib.Core.Logic.{◌≢◌, inl, inr}
use mathlib.Core.Bool.{Bool, ◌&&◌}
use Prim.Native.Nat.{ℕ, ◌+◌, ◌*◌, ◌/◌, ◌<◌}
use native.Mathlib.Omega.{arith}
use native.Mathlib.Decide.{dec_lt}
use lib.Dec.{eqb, ltb}
use Rattle.theory.proofs.Splits.Bases.{Settling, kept, flipped}
use Rattle.theory.proofs.Numbers.Decide.{Decides, is_eq, is_lt, is_iff, is_same, bit_yes, bit_no, is_and}
use Rattle.theory.proofs.Splits.FlipKeeps.{BasesMeet, meet_back}
use Rattle.theory.proofs.Splits.FlipRead.{Flips}
use Rattle.theory.proofs.Links.Manifold.{Manifold, Joined, few, partnered_with, no_self}
use Rattle.theory.proofs.Links.Sides.{by_rename}
use Rattle.theory.proofs.Splits.Parts.{Parts, Parted, face_parts, rim_parts}
use Rattle.theory.proofs.Numbers.Sums.{total_same, total_change, total_zero, total_add, total_swap, total_one}
use Rattle.theory.proofs.Numbers.Sums.{total_const, total_change₂, row, row_same, total_rows, total_two}
use Rattle.theory.proofs.Numbers.Sums.{zero_each}
use Rattle.rules.specs.Actions.{rename_two}
use Rattle.rules.specs.Below.{total, bit, count}
use Rattle.rules.specs.History.{edges}
use Rattle.rules.specs.Tables.{Topology, sides, boundary, link}

unfoldable pub boundary_sides : Topology → ℕ
boundary_sides m = count (sides m) (λ h. eqb (link m h) boundary)

-- ---- twice the edges

module _ (m : Topology) (F : Manifold m) where
  -- Side h leads up to its partner j.
  up_to : ℕ → ℕ → Bool
  up_to h j = eqb (link m h) j && ltb h j

  up_to_is : (h j : ℕ) → Decides (up_to h j) ((link m h ≡ j) × (h < j))
  unfolding up_to
  up_to_is h j = is_and (is_eq (link m h) j) (is_lt h j)

  up : ℕ → ℕ
  up h = count (sides m) (up_to h)

  down : ℕ → ℕ
  down j = count (sides m) (λ h. up_to h j)

  up_is : (h : ℕ) → h < sides m → bit (ltb h (link m h)) ≡ bit (eqb (link m h) boundary) + up h
  unfolding up
  up_is h l = go (F.linked h l)
    where
      go : Joined m h → bit (ltb h (link m h)) ≡ bit (eqb (link m h) boundary) + count (sides m) (up_to h)
      go (inl e) =
          let w = few m F in
          let a = total_zero (sides m) (λ j. bit (up_to h j)) (λ j k. bit_no (up_to_is h j) (λ q. omega arith)) in
          let b = bit_yes (is_lt h (link m h)) (omega arith) in
          let c = bit_yes (is_eq (link m h) boundary) e in
          omega arith
      go (inr M) =
          let w = few m F in
          let i : link m h < sides m = M.in_use in
          let a : count (sides m) (up_to h) ≡ bit (up_to h (link m h)) =
          total_one (sides m) (link m h) (λ j. bit (up_to h j)) i
          (λ j k n. bit_no (up_to_is h j) (λ q. n (sym q.0))) in
          let b : bit (up_to h (link m h)) ≡ bit (ltb h (link m h)) =
          ap bit (is_same (up_to_is h (link m h)) (is_iff (λ x. (refl, x)) (λ x. x.1) (is_lt h (link m h)))) in
          let c = bit_no (is_eq (link m h) boundary) (omega arith) in
          omega arith

  down_is : (j : ℕ) → j < sides m → bit (ltb (link m j) j) ≡ down j
  unfolding down
  down_is j l = go (F.linked j l)
    where
      back : (h : ℕ) → h < sides m → link m h ≡ j → link m j ≡ h
      back h i e = rw e at (partnered_with F i e l).back

      go : Joined m j → bit (ltb (link m j) j) ≡ count (sides m) (λ h. up_to h j)
      go (inl e) =
          let w = few m F in
          bit_no (is_lt (link m j) j) (λ q. omega arith)
          ∙ sym (total_zero (sides m) (λ h. bit (up_to h j))
          (λ h k. bit_no (up_to_is h j) (λ q. let z = back h k q.0 in omega arith)))
      go (inr M) =
          let a : count (sides m) (λ h. up_to h j) ≡ bit (up_to (link m j) j) =
          total_one (sides m) (link m j) (λ h. bit (up_to h j)) M.in_use
          (λ h k n. bit_no (up_to_is h j) (λ q. n (sym (back h k q.0)))) in
          sym (a ∙ ap bit (is_same (up_to_is (link m j) j)
          (is_iff (λ x. (M.back, x)) (λ x. x.1) (is_lt (link m j) j))))

  one_way : (h : ℕ) → h < sides m → bit (ltb h (link m h)) + bit (ltb (link m h) h) ≡ 1
  one_way h l = go (dec_lt h (link m h))
    where
      differ : Joined m h → link m h ≢ h
      differ (inl e) q = let w = few m F in omega arith
      differ (inr M) q = no_self m h F l M (ap (λ (x : ℕ). x / 3) q)

      go : Dec (h < link m h) → bit (ltb h (link m h)) + bit (ltb (link m h) h) ≡ 1
      go (yes q) =
          let a = bit_yes (is_lt h (link m h)) q in
          let b = bit_no (is_lt (link m h) h) (λ r. omega arith) in
          omega arith
      go (no q) =
          let n = differ (F.linked h l) in
          let a = bit_no (is_lt h (link m h)) q in
          let b = bit_yes (is_lt (link m h) h) (omega arith) in
          omega arith

  -- A linked pair has two sides and a boundary side one.
  pub edges_boundary : 2 * edges m ≡ 3 * m.triangles + boundary_sides m
  unfolding edges boundary_sides up down
  edges_boundary =
      let n : ℕ = 3 * m.triangles in
      let e : total n (λ h. bit (ltb h (link m h))) ≡ total n (λ h. bit (eqb (link m h) boundary) + up h) =
      total_same n _ _ up_is in
      let a = total_add n (λ h. bit (eqb (link m h) boundary)) up in
      let d : total n (λ h. bit (ltb (link m h) h)) ≡ total n down = total_same n _ _ down_is in
      let s : total n up ≡ total n down = total_swap n n (λ h j. bit (up_to h j)) in
      let o : total n (λ h. bit (ltb h (link m h)) + bit (ltb (link m h) h)) ≡ total n (λ h. 1) =
      total_same n _ _ one_way in
      let p = total_add n (λ h. bit (ltb h (link m h))) (λ h. bit (ltb (link m h) h)) in
      let c = total_const n 1 in
      omega arith

-- ---- the boundary sides: as many after a face split, two more after a rim split

-- 1 for a side on the boundary.
boundary_bit : Topology → ℕ → ℕ
boundary_bit m h = bit (eqb (link m h) boundary)

boundary_rows : (m : Topology) → boundary_sides m ≡ total m.triangles (row (boundary_bit m))
unfolding boundary_sides boundary_bit
boundary_rows m = total_rows m.triangles (boundary_bit m)

boundary_bit_lem : (m : Topology) (h k : ℕ) → link m h ≡ k → boundary_bit m h ≡ bit (eqb k boundary)
unfolding boundary_bit
boundary_bit_lem m h k e = ap (λ (x : ℕ). bit (eqb x boundary)) e

same_bit : (m n : Topology) (h k : ℕ) → link n h ≡ link m k → boundary_bit n h ≡ boundary_bit m k
unfolding boundary_bit
same_bit m n h k e = ap (λ (x : ℕ). bit (eqb x boundary)) e

linked_bit : (m : Topology) (h k : ℕ) → link m h ≡ k → k ≢ boundary → boundary_bit m h ≡ 0
linked_bit m h k e n = boundary_bit_lem m h k e ∙ bit_no (is_eq k boundary) n

edge_bit : (m : Topology) (h : ℕ) → link m h ≡ boundary → boundary_bit m h ≡ 1
edge_bit m h e = boundary_bit_lem m h boundary e

rename_boundary : (a a' b b' k : ℕ) → a ≢ b → a ≢ boundary → a' ≢ boundary → b ≢ boundary → b' ≢ boundary
    → bit (eqb (rename_two a a' b b' k) boundary) ≡ bit (eqb k boundary)
rename_boundary a a' b b' k ne x x' y y' =
    by_rename a a' b b' (λ z. bit (eqb z boundary) ≡ bit (eqb k boundary)) ne k
    (λ e. bit_no (is_eq a' boundary) x' ∙ sym (bit_no (is_eq k boundary) (λ q. x (sym e ∙ q))))
    (λ e. bit_no (is_eq b' boundary) y' ∙ sym (bit_no (is_eq k boundary) (λ q. y (sym e ∙ q))))
    (λ _ _. refl)

-- Renaming links leaves the boundary sides on the boundary.
renamed_bit : (a a' b b' h : ℕ) (m n : Topology) → a ≢ b → a < boundary → a' < boundary → b < boundary → b' < boundary
    → link n h ≡ rename_two a a' b b' (link m h) → boundary_bit m h ≡ boundary_bit n h
renamed_bit a a' b b' h m n ne x x' y y' e =
    boundary_bit_lem m h (link m h) refl
    ∙ sym (boundary_bit_lem n h (rename_two a a' b b' (link m h)) e
    ∙ rename_boundary a a' b b' (link m h) ne (omega arith) (omega arith) (omega arith) (omega arith))

-- r boundary sides more, where the three triangles in the place of t have them.
parted_boundary : (t r : ℕ) (p : Parts) (m n : Topology) → Manifold m → t < m.triangles → Parted t p m n
    → p.place₁ < boundary → p.place₂ < boundary
    → row (boundary_bit n) t + row (boundary_bit n) m.triangles + row (boundary_bit n) (m.triangles + 1)
    ≡ row (boundary_bit m) t + r
    → boundary_sides n ≡ boundary_sides m + r
parted_boundary t r p m n F b S i j three =
    let f : ℕ = m.triangles in
    let c : total f (row (boundary_bit n)) + row (boundary_bit m) t
    ≡ total f (row (boundary_bit m)) + row (boundary_bit n) t =
    total_change f t (row (boundary_bit m)) (row (boundary_bit n)) b (λ x l d. far x l d) in
    let d : total n.triangles (row (boundary_bit n))
    ≡ total f (row (boundary_bit n)) + row (boundary_bit n) f + row (boundary_bit n) (f + 1) =
    ap (λ (x : ℕ). total x (row (boundary_bit n))) S.triangles ∙ total_two f (row (boundary_bit n)) in
    boundary_rows n ∙ omega (arith, boundary_rows m)
  where
    one : (h : ℕ) → h < sides m → h / 3 ≢ t → boundary_bit m h ≡ boundary_bit n h
    one h l d =
        let q = few m F in
        renamed_bit (3 * t + 1) p.place₁ (3 * t + 2) p.place₂ h m n (omega arith) (omega arith) i (omega arith) j
        (S.links h l d)

    far : (x : ℕ) → x < m.triangles → x ≢ t → row (boundary_bit m) x ≡ row (boundary_bit n) x
    far x l d =
        row_same (boundary_bit m) (boundary_bit n) x (one (3 * x) (omega arith) (omega arith))
        (one (3 * x + 1) (omega arith) (omega arith)) (one (3 * x + 2) (omega arith) (omega arith))

pub split_boundary : (t : ℕ) (m n : Topology) → Manifold m → t < m.triangles → Parted t (face_parts t m) m n
    → boundary_sides n ≡ boundary_sides m + 0
split_boundary t m n F b S =
    let f : ℕ = m.triangles in
    let e : ℕ = f + 1 in
    let q : 3 * e + 2 < boundary = omega (arith, F.slots, F.generation_room) in
    let t₀ = same_bit m n (3 * t) (3 * t) S.own.links.0 in
    let t₁ = linked_bit n (3 * t + 1) (3 * f + 2) S.own.links.1 (omega arith) in
    let t₂ = linked_bit n (3 * t + 2) (3 * e + 1) S.own.links.2 (omega arith) in
    let f₀ = same_bit m n (3 * f) (3 * t + 1) S.second.links.0 in
    let f₁ = linked_bit n (3 * f + 1) (3 * e + 2) S.second.links.1 (omega arith) in
    let f₂ = linked_bit n (3 * f + 2) (3 * t + 1) S.second.links.2 (omega arith) in
    let e₀ = same_bit m n (3 * e) (3 * t + 2) S.third.links.0 in
    let e₁ = linked_bit n (3 * e + 1) (3 * t + 2) S.third.links.1 (omega arith) in
    let e₂ = linked_bit n (3 * e + 2) (3 * f + 1) S.third.links.2 (omega arith) in
    parted_boundary t 0 (face_parts t m) m n F b S (omega arith) (omega arith) (omega arith)

-- The base is a boundary side, and three of the new sides are.
pub rim_boundary : (t : ℕ) (m n : Topology) → Manifold m → t < m.triangles → link m (3 * t) ≡ boundary
    → Parted t (rim_parts t m) m n → boundary_sides n ≡ boundary_sides m + 2
rim_boundary t m n F b edge S =
    let f : ℕ = m.triangles in
    let e : ℕ = f + 1 in
    let q : 3 * e + 2 < boundary = omega (arith, F.slots, F.generation_room) in
    let old = edge_bit m (3 * t) edge in
    let t₀ = same_bit m n (3 * t) (3 * t + 2) S.own.links.0 in
    let t₁ = edge_bit n (3 * t + 1) S.own.links.1 in
    let t₂ = linked_bit n (3 * t + 2) (3 * f + 2) S.own.links.2 (omega arith) in
    let f₀ = edge_bit n (3 * f) S.second.links.0 in
    let f₁ = linked_bit n (3 * f + 1) (3 * e + 1) S.second.links.1 (omega arith) in
    let f₂ = linked_bit n (3 * f + 2) (3 * t + 2) S.second.links.2 (omega arith) in
    let e₀ = same_bit m n (3 * e) (3 * t + 1) S.third.links.0 in
    let e₁ = linked_bit n (3 * e + 1) (3 * f + 1) S.third.links.1 (omega arith) in
    let e₂ = edge_bit n (3 * e + 2) S.third.links.2 in
    parted_boundary t 2 (rim_parts t m) m n F b S (omega arith) (omega arith) (omega arith)

pub flip_boundary : (s u : ℕ) (m n : Topology) → Manifold m → BasesMeet s u m → Flips s u m n
    → boundary_sides n ≡ boundary_sides m
flip_boundary s u m n F B S =
    let f : ℕ = m.triangles in
    let bs = B.use_s in
    let bu = B.use_u in
    let q : 3 * f < boundary = few m F in
    let s₀ : boundary_bit n (3 * s) ≡ boundary_bit m (3 * u + 1) = same_bit m n (3 * s) (3 * u + 1) S.links_s.0 in
    let s₁ = linked_bit n (3 * s + 1) (3 * u + 1) S.links_s.1 (omega arith) in
    let s₂ : boundary_bit n (3 * s + 2) ≡ boundary_bit m (3 * s + 2) =
    same_bit m n (3 * s + 2) (3 * s + 2) S.links_s.2 in
    let u₀ : boundary_bit n (3 * u) ≡ boundary_bit m (3 * s + 1) = same_bit m n (3 * u) (3 * s + 1) S.links_u.0 in
    let u₁ = linked_bit n (3 * u + 1) (3 * s + 1) S.links_u.1 (omega arith) in
    let u₂ : boundary_bit n (3 * u + 2) ≡ boundary_bit m (3 * u + 2) =
    same_bit m n (3 * u + 2) (3 * u + 2) S.links_u.2 in
    let a₀ = linked_bit m (3 * s) (3 * u) B.meet (omega arith) in
    let b₀ = linked_bit m (3 * u) (3 * s) (meet_back s u m n F B S) (omega arith) in
    let c : total f (row (boundary_bit n)) + row (boundary_bit m) s + row (boundary_bit m) u
    ≡ total f (row (boundary_bit m)) + row (boundary_bit n) s + row (boundary_bit n) u =
    total_change₂ f s u (row (boundary_bit m)) (row (boundary_bit n)) bs bu B.differ (λ x l i j. far x l i j) in
    let d : total n.triangles (row (boundary_bit n)) ≡ total f (row (boundary_bit n)) =
    ap (λ (x : ℕ). total x (row (boundary_bit n))) S.triangles in
    boundary_rows n ∙ omega (arith, boundary_rows m)
  where
    one : (h : ℕ) → h < sides m → h / 3 ≢ s → h / 3 ≢ u → boundary_bit m h ≡ boundary_bit n h
    one h l i j =
        let q : 3 * m.triangles < boundary = few m F in
        let bs = B.use_s in
        let bu = B.use_u in
        let ne = B.differ in
        renamed_bit (3 * s + 1) (3 * u) (3 * u + 1) (3 * s) h m n (omega arith) (omega arith) (omega arith)
        (omega arith) (omega arith) (S.links h l i j)

    far : (x : ℕ) → x < m.triangles → x ≢ s → x ≢ u → row (boundary_bit m) x ≡ row (boundary_bit n) x
    far x l i j =
        row_same (boundary_bit m) (boundary_bit n) x (one (3 * x) (omega arith) (omega arith) (omega arith))
        (one (3 * x + 1) (omega arith) (omega arith) (omega arith))
        (one (3 * x + 2) (omega arith) (omega arith) (omega arith))

pub settling_boundary : (c : ℕ) (m n : Topology) → Manifold m → Settling c m n → boundary_sides n ≡ boundary_sides m
settling_boundary c m n F (kept x) = refl
settling_boundary c m n F (flipped u B S) = flip_boundary c u m n F B S

-- No boundary side, and none counted.
pub no_boundary : (m : Topology) → boundary_sides m ≡ 0 → (h : ℕ) → h < sides m → link m h ≢ boundary
unfolding boundary_sides
no_boundary m e h l q =
    let a = zero_each (3 * m.triangles) (λ h. bit (eqb (link m h) boundary)) e h l in
    let b = bit_yes (is_eq (link m h) boundary) q in
    omega arith

pub boundary_none : (m : Topology) → ((h : ℕ) → h < sides m → link m h ≢ boundary) → boundary_sides m ≡ 0
unfolding boundary_sides
boundary_none m n =
    total_zero (3 * m.triangles) (λ h. bit (eqb (link m h) boundary))
    (λ h l. bit_no (is_eq (link m h) boundary) (n h l))
