-- The edges of a loaded cage are the pairs of vertices that its triangles have as sides.
use mathlib.Core.Path.{◌≡◌, refl, sym, ap, ◌∙◌}
use mathlib.Core.Logic.{◌≢◌, ◌⊎◌, inl, inr}
use mathlib.Core.Bool.{Bool, true, false, ◌&&◌}
use Prim.Native.Nat.{ℕ, ◌*◌, ◌≤◌, ◌<◌, min, max}
use native.Mathlib.Omega.{arith}
use native.Mathlib.Decide.{dec_lt}
use lib.Dec.{ltb}
use Rattle.theory.proofs.Numbers.Decide.{Decides, is_eq, is_lt, is_iff, is_same, bit_yes, bit_no, is_and, is_or}
use Rattle.theory.proofs.Numbers.Decide.{is_any}
use Rattle.theory.proofs.Loads.Load.{opposite_back, matches_opposite, partner_matches, loaded_loads}
use Rattle.theory.proofs.Links.Sides.{next_lt}
use Rattle.theory.proofs.Numbers.Sums.{total_same, total_zero, total_swap, total_one}
use Rattle.rules.specs.Below.{any, total, bit, count}
use Rattle.rules.specs.Cage.{Cage, partner, loaded}
use Rattle.rules.specs.Conditions.{CornersFit, SidesDiffer}
use Rattle.rules.specs.History.{edges, characteristic, joins, cage_edges, cage_characteristic}
use Rattle.rules.specs.Promises.{Opposite, Matches, only, alone}
use Rattle.rules.specs.Tables.{Mesh, TablesAgree, next, boundary, vertex_slots, triangle_slots}

-- ---- the lower side of each edge

-- Side h joins a and b, one way or the other.
abbrev Joins : Cage → ℕ → ℕ → ℕ → Type 0
Joins c a b h = ((c.corner h ≡ a) × (c.corner (next h) ≡ b)) ⊎ ((c.corner h ≡ b) × (c.corner (next h) ≡ a))

joins_is : (c : Cage) (a b h : ℕ) → Decides (joins c a b h) (Joins c a b h)
joins_is c a b h =
    is_or (is_and (is_eq (c.corner h) a) (is_eq (c.corner (next h)) b))
    (is_and (is_eq (c.corner h) b) (is_eq (c.corner (next h)) a))

-- The higher and the lower of the two vertices of a side.
abbrev high : Cage → ℕ → ℕ
high c h = max (c.corner h) (c.corner (next h))

abbrev low : Cage → ℕ → ℕ
low c h = min (c.corner h) (c.corner (next h))

-- A side joins these two, and no other pair.
joins_ends : (c : Cage) (h : ℕ) → Joins c (high c h) (low c h) h
joins_ends c h = elim (dec_lt (c.corner h) (c.corner (next h))) [
  | yes q ↦ inr (omega arith, omega arith)
  | no q ↦ inl (omega arith, omega arith)
]

ends : (c : Cage) (a b h : ℕ) → b < a → Joins c a b h → (high c h ≡ a) × (low c h ≡ b)
ends c a b h l (inl x) = (omega arith, omega arith)
ends c a b h l (inr x) = (omega arith, omega arith)

joins_back : (c : Cage) (a b h k : ℕ) → Opposite c h k → Joins c a b h → Joins c a b k
joins_back c a b h k O (inl x) = inr (O.from ∙ x.1, O.onto ∙ x.0)
joins_back c a b h k O (inr x) = inl (O.from ∙ x.1, O.onto ∙ x.0)

-- Side h joins a and b, and its partner is above it.
abbrev lower : Cage → ℕ → ℕ → ℕ → Bool
lower c a b h = ltb h (partner c h) && joins c a b h

abbrev Lower : Cage → ℕ → ℕ → ℕ → Type 0
Lower c a b h = (h < partner c h) × Joins c a b h

lower_is : (c : Cage) (a b h : ℕ) → Decides (lower c a b h) (Lower c a b h)
lower_is c a b h = is_and (is_lt h (partner c h)) (joins_is c a b h)

module _ (c : Cage) (few : 3 * c.triangles < boundary) (K : CornersFit c) (D : SidesDiffer c) where
  -- A side below its partner is counted at one pair of vertices.
  at_pairs : (h : ℕ) → h < 3 * c.triangles
      → bit (ltb h (partner c h)) ≡ total c.vertices (λ a. count a (λ b. lower c a b h))
  at_pairs h l =
      let o = K.corner h l in
      let t = K.corner (next h) (next_lt h c.triangles l) in
      let n = K.distinct h l in
      let x : total c.vertices (λ a. count a (λ b. lower c a b h)) ≡ count (high c h) (λ b. lower c (high c h) b h) =
      total_one c.vertices (high c h) (λ a. count a (λ b. lower c a b h)) (omega arith) (λ a i e.
      total_zero a (λ b. bit (lower c a b h))
      (λ b j. bit_no (lower_is c a b h) (λ q. e (sym (ends c a b h j q.1).0)))) in
      let y : count (high c h) (λ b. lower c (high c h) b h) ≡ bit (lower c (high c h) (low c h) h) =
      total_one (high c h) (low c h) (λ b. bit (lower c (high c h) b h)) (omega arith) (λ b j e.
      bit_no (lower_is c (high c h) b h) (λ q. e (sym (ends c (high c h) b h j q.1).1))) in
      sym
      (x ∙ y ∙ ap bit (is_same (lower_is c (high c h) (low c h) h)
      (is_iff (λ q. (q, joins_ends c h)) (λ q. q.0) (is_lt h (partner c h)))))

  -- Of the sides that join two vertices one is the lower, and no other.
  find_lower : (a b h k : ℕ) → h < 3 * c.triangles → Joins c a b h → partner c h ≡ k → Matches c h k
      → (j : ℕ) × (j < 3 * c.triangles) × Lower c a b j
  find_lower a b h k l x e (alone n) = (h, l, (omega arith, x))
  find_lower a b h k l x e (only O u) = elim (dec_lt h k) [
    | yes q ↦ (h, l, (omega arith, x))
    | no q ↦ (k, O.in_use, (above q, joins_back c a b h k O x))
  ]
    where
      differ : k ≢ h
      differ q = K.distinct h l (sym (ap c.corner q) ∙ O.from)

      above : ¬ (h < k) → k < partner c k
      above q =
          let n = differ in
          rw (matches_opposite (partner_matches c D k) h (opposite_back c h k l O)) (omega arith)

  one_lower : (a b h k : ℕ) → h < 3 * c.triangles → k < 3 * c.triangles → Lower c a b h → Lower c a b k → k ≡ h
  one_lower a b h k l i x y = go x.1 y.1
    where
      never : Opposite c h k → ⊥
      never O =
          let p = matches_opposite (partner_matches c D h) k O in
          let q = matches_opposite (partner_matches c D k) h (opposite_back c h k l O) in
          omega arith

      go : Joins c a b h → Joins c a b k → k ≡ h
      go (inl p) (inl q) = D k h i l (q.0 ∙ sym p.0) (q.1 ∙ sym p.1)
      go (inl p) (inr q) = absurd (never (record { in_use = i; from = q.0 ∙ sym p.1; onto = q.1 ∙ sym p.0 }))
      go (inr p) (inl q) = absurd (never (record { in_use = i; from = q.0 ∙ sym p.1; onto = q.1 ∙ sym p.0 }))
      go (inr p) (inr q) = D k h i l (q.0 ∙ sym p.0) (q.1 ∙ sym p.1)

  -- A pair of vertices that some side joins is counted at one side.
  at_sides : (a b : ℕ) → bit (any (3 * c.triangles) (joins c a b)) ≡ count (3 * c.triangles) (lower c a b)
  at_sides a b =
      go (any (3 * c.triangles) (joins c a b)) (is_any (3 * c.triangles) (joins c a b) (Joins c a b) (joins_is c a b))
    where
      go : (x : Bool) → Decides x ((h : ℕ) × (h < 3 * c.triangles) × Joins c a b h)
          → bit x ≡ count (3 * c.triangles) (lower c a b)
      go true d =
          let (h, l, x) = d.holds tt in
          let (k, i, y) = find_lower a b h (partner c h) l x refl (partner_matches c D h) in
          sym (total_one (3 * c.triangles) k (λ j. bit (lower c a b j)) i
          (λ j q n. bit_no (lower_is c a b j) (λ z. n (one_lower a b k j i q y z))) ∙ bit_yes (lower_is c a b k) y)
      go false d = sym (total_zero (3 * c.triangles) (λ h. bit (lower c a b h))
          (λ h l. bit_no (lower_is c a b h) (λ z. d.passes (h, l, z.1))))

  -- Each edge is counted once by its lower side, and once by its pair.
  cage_edges_lem : count (3 * c.triangles) (λ h. ltb h (partner c h)) ≡ cage_edges c
  unfolding cage_edges
  cage_edges_lem =
      total_same (3 * c.triangles) _ _ at_pairs
      ∙ total_swap (3 * c.triangles) c.vertices (λ h a. count a (λ b. lower c a b h))
      ∙ total_same c.vertices _ _ (λ a i.
      total_swap (3 * c.triangles) a (λ h b. bit (lower c a b h)) ∙ total_same a _ _ (λ b j. sym (at_sides a b)))

module _ (c : Cage) (m : Mesh) (A : TablesAgree m)
    (vertex_room : c.vertices ≤ vertex_slots m) (triangle_room : c.triangles ≤ triangle_slots m) (K : CornersFit c)
    (D : SidesDiffer c) where
  pub load_edges : edges (loaded c m).topology ≡ cage_edges c
  unfolding edges loaded
  load_edges =
      let L = loaded_loads c m A vertex_room triangle_room in
      total_same (3 * c.triangles) _ _ (λ h l. ap (λ (k : ℕ). bit (ltb h k)) (L.links h l))
      ∙ cage_edges_lem c (omega (arith, A.few_triangles)) K D

  pub load_characteristic : characteristic (loaded c m).topology ≡ cage_characteristic c
  unfolding loaded
  load_characteristic = rw load_edges
