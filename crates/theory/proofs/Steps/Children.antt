-- The children of the old sides in a whole step: their slots, and what their sides are called on the way.
use mathlib.Core.Path.{◌≡◌, sym, ◌∙◌}
use mathlib.Core.Logic.{◌≢◌, ◌⊎◌, inl, inr}
use mathlib.Core.Bool.{true, false}
use Prim.Native.Nat.{ℕ, suc, ◌+◌, ◌*◌, ◌/◌, ◌%◌, ◌≤◌, ◌<◌, max}
use native.Mathlib.Omega.{arith}
use native.Mathlib.Decide.{ℕ_discrete, dec_lt}
use lib.Dec.{eqb, ltb}
use borrow.Author.Tests.{eq-eqb, ne_eqb, lt-ltb, le-ltb}
use Rattle.rules.specs.Tables.{Topology, sides, link}

-- The slot of the child at old side h, where there are f old triangles: at side 0 it keeps the slot of its triangle,
-- and the sides 1 and 2 have two new slots.
unfoldable pub child_slot : ℕ → ℕ → ℕ
child_slot f h = elim (eqb (h % 3) 0) [ true ↦ h / 3 | false ↦ f + 2 * (h / 3) + h % 3 / 2 ]

abbrev pub child_of : Topology → ℕ → ℕ
child_of d = child_slot d.triangles

-- What old side h is called while the first i triangles are split: the base of its child, or itself.
unfoldable pub base_name : Topology → ℕ → ℕ → ℕ
base_name d i h = elim (ltb (h / 3) i) [ true ↦ 3 * child_of d h | false ↦ h ]

-- The later of side h and its partner: with it the bases of the two children are flipped.
abbrev pub later : Topology → ℕ → ℕ
later d h = max h (link d h)

-- The side from the target of h to the centre, where the first n sides are settled: a flip moves it to the partner's
-- child.
unfoldable pub inward : Topology → ℕ → ℕ → ℕ
inward d n h = elim (ltb (later d h) n) [ true ↦ 3 * child_of d (link d h) | false ↦ 3 * child_of d h + 1 ]

-- Each side has a partner, of another triangle.
pub record Mates (d : Topology) : Type 0 where
  pub in_use : (h : ℕ) → h < sides d → link d h < sides d
  pub back : (h : ℕ) → h < sides d → link d (link d h) ≡ h
  pub other : (h : ℕ) → h < sides d → link d h / 3 ≢ h / 3

-- ---- slots

module _ (f h : ℕ) where
  pub slot_0 : h % 3 ≡ 0 → child_slot f h ≡ h / 3
  unfolding child_slot
  slot_0 e = rw (eq-eqb (h % 3) 0 e, child_slot)

  pub slot_12 : h % 3 ≢ 0 → child_slot f h ≡ f + 2 * (h / 3) + h % 3 / 2
  unfolding child_slot
  slot_12 e = rw (ne_eqb (h % 3) 0 e, child_slot)

-- The slots of the three sides of triangle t.
module _ (f t : ℕ) where
  pub slot₀ : child_slot f (3 * t) ≡ t
  slot₀ = slot_0 f (3 * t) (omega arith) ∙ omega arith

  pub slot₁ : child_slot f (3 * t + 1) ≡ f + 2 * t
  slot₁ = slot_12 f (3 * t + 1) (omega arith) ∙ omega arith

  pub slot₂ : child_slot f (3 * t + 2) ≡ f + 2 * t + 1
  slot₂ = slot_12 f (3 * t + 2) (omega arith) ∙ omega arith

module _ (d : Topology) where
  pub slot_is : (h : ℕ)
      → ((h % 3 ≡ 0) × (child_of d h ≡ h / 3))
      ⊎ ((h % 3 ≢ 0) × (child_of d h ≡ d.triangles + 2 * (h / 3) + h % 3 / 2))
  slot_is h = elim (ℕ_discrete (h % 3) 0) [
    | yes e ↦ inl (e, slot_0 d.triangles h e)
    | no e ↦ inr (e, slot_12 d.triangles h e)
  ]

  pub slot_lt : (h i : ℕ) → h < sides d → h / 3 < i → child_of d h < d.triangles + 2 * i
  slot_lt h i l j = elim (slot_is h) [ inl (a, b) ↦ omega arith | inr (a, b) ↦ omega arith ]

  pub slot_apart : (h k : ℕ) → h < sides d → k < sides d → h ≢ k → child_of d h ≢ child_of d k
  slot_apart h k l j ne e = go (slot_is h) (slot_is k)
    where
      go : ((h % 3 ≡ 0) × (child_of d h ≡ h / 3))
          ⊎ ((h % 3 ≢ 0) × (child_of d h ≡ d.triangles + 2 * (h / 3) + h % 3 / 2))
          → ((k % 3 ≡ 0) × (child_of d k ≡ k / 3))
          ⊎ ((k % 3 ≢ 0) × (child_of d k ≡ d.triangles + 2 * (k / 3) + k % 3 / 2)) → ⊥
      go (inl (a, b)) (inl (a', b')) = omega arith
      go (inl (a, b)) (inr (a', b')) = omega arith
      go (inr (a, b)) (inl (a', b')) = omega arith
      go (inr (a, b)) (inr (a', b')) = omega arith

  -- No child stands in the slot of another old triangle.
  pub slot_not : (h t : ℕ) → t < d.triangles → h / 3 ≢ t → child_of d h ≢ t
  slot_not h t l ne e = elim (slot_is h) [ inl (a, b) ↦ omega arith | inr (a, b) ↦ omega arith ]

  -- ---- names

  pub name_split : (i h : ℕ) → h / 3 < i → base_name d i h ≡ 3 * child_of d h
  unfolding base_name
  name_split i h l = rw (lt-ltb (h / 3) i l, base_name)

  pub name_waits : (i h : ℕ) → i ≤ h / 3 → base_name d i h ≡ h
  unfolding base_name
  name_waits i h l = rw (le-ltb (h / 3) i l, base_name)

  pub name_is : (i h : ℕ)
      → ((h / 3 < i) × (base_name d i h ≡ 3 * child_of d h)) ⊎ ((i ≤ h / 3) × (base_name d i h ≡ h))
  name_is i h = elim (dec_lt (h / 3) i) [
    | yes l ↦ inl (l, name_split i h l)
    | no l ↦ let j : i ≤ h / 3 = omega arith in inr (j, name_waits i h j)
  ]

  pub name_lt : (i h : ℕ) → h < sides d → base_name d i h < 3 * (d.triangles + 2 * i)
  name_lt i h l = elim (name_is i h) [
    | inl (a, b) ↦ omega (arith, slot_lt h i l a)
    | inr (a, b) ↦ omega arith
  ]

  -- It is a side of no other child, and no side but a base.
  pub name_apart : (i h k : ℕ) → h < sides d → k < sides d → k / 3 < i → h ≢ k → base_name d i h / 3 ≢ child_of d k
  name_apart i h k l j s ne = elim (name_is i h) [
    | inl (a, b) ↦ λ e. slot_apart h k l j ne (omega arith)
    | inr (a, b) ↦ λ e. slot_not k (h / 3) (omega arith) (omega arith) (omega arith)
  ]

  pub name_base : (i h k : ℕ) → h < sides d → k < sides d → k / 3 < i → base_name d i h ≢ 3 * child_of d k + 1
  name_base i h k l j s = elim (name_is i h) [
    | inl (a, b) ↦ λ e. omega arith
    | inr (a, b) ↦ λ e. slot_not k (h / 3) (omega arith) (omega arith) (omega arith)
  ]

  pub inward_flipped : (n h : ℕ) → later d h < n → inward d n h ≡ 3 * child_of d (link d h)
  unfolding inward
  inward_flipped n h l = rw (lt-ltb (later d h) n l, inward)

  pub inward_waits : (n h : ℕ) → n ≤ later d h → inward d n h ≡ 3 * child_of d h + 1
  unfolding inward
  inward_waits n h l = rw (le-ltb (later d h) n l, inward)

  pub inward_is : (n h : ℕ)
      → ((later d h < n) × (inward d n h ≡ 3 * child_of d (link d h)))
      ⊎ ((n ≤ later d h) × (inward d n h ≡ 3 * child_of d h + 1))
  inward_is n h = elim (dec_lt (later d h) n) [
    | yes l ↦ inl (l, inward_flipped n h l)
    | no l ↦ let j : n ≤ later d h = omega arith in inr (j, inward_waits n h j)
  ]

  pub inward_same : (n h : ℕ) → later d h ≢ n → inward d (suc n) h ≡ inward d n h
  inward_same n h ne = elim (inward_is n h) [
    | inl (a, b) ↦ inward_flipped (suc n) h (omega arith) ∙ sym b
    | inr (a, b) ↦ inward_waits (suc n) h (omega arith) ∙ sym b
  ]

  module _ (M : Mates d) where
    pub later_mate : (h : ℕ) → h < sides d → later d (link d h) ≡ later d h
    later_mate h l = let b = M.back h l in omega arith

    -- A flipped side and its partner are both of split triangles.
    pub inward_lt : (i n h : ℕ) → n ≤ 3 * i → h < sides d → h / 3 < i → inward d n h < 3 * (d.triangles + 2 * i)
    inward_lt i n h q l j = elim (inward_is n h) [
      | inl (a, b) ↦ omega (arith, slot_lt (link d h) i (M.in_use h l) (omega arith))
      | inr (a, b) ↦ omega (arith, slot_lt h i l j)
    ]

    pub inward_apart : (n h k : ℕ) → h < sides d → k < sides d → h ≢ k → link d h ≢ k
        → inward d n h / 3 ≢ child_of d k
    inward_apart n h k l j x y = elim (inward_is n h) [
      | inl (a, b) ↦ λ e. slot_apart (link d h) k (M.in_use h l) j y (omega arith)
      | inr (a, b) ↦ λ e. slot_apart h k l j x (omega arith)
    ]

    pub inward_not : (n h k : ℕ) → h < sides d → k < sides d → h ≢ k → inward d n h ≢ 3 * child_of d k + 1
    inward_not n h k l j x = elim (inward_is n h) [
      | inl (a, b) ↦ λ e. omega arith
      | inr (a, b) ↦ λ e. slot_apart h k l j x (omega arith)
    ]
