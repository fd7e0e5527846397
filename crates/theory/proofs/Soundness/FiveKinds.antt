-- The five kinds of linked pairs are those of one level that are not two bases.
use mathlib.Core.Path.{◌≡◌, refl}
use mathlib.Core.Logic.{◌≢◌}
use mathlib.Core.Bool.{Bool, true, false}
use Prim.Native.Nat.{ℕ, ◌+◌, ◌/◌, ◌%◌, min}
use native.Mathlib.Omega.{arith}
use lib.Dec.{T, eqb}
use Rattle.theory.proofs.Numbers.Decide.{is_eq, when_true, when_false, odd_is_lem}
use Rattle.rules.specs.Sound.{Role, even, base, other, role_of, five_kinds}
use Rattle.rules.specs.Tables.{odd}

-- What a role says of the generation and the side.
data Is : ℕ → ℕ → Role → Type 0 where
  of_even : {g i : ℕ} → g % 2 ≡ 0 → Is g i (even g)
  of_base : {g i : ℕ} → g % 2 ≡ 1 → i ≡ 0 → Is g i (base g)
  of_other : {g i : ℕ} → g % 2 ≡ 1 → i ≢ 0 → Is g i (other g)

role_is : (g i : ℕ) → Is g i (role_of g i)
role_is g i = go (odd g) refl
  where
    in_odd : g % 2 ≡ 1 → (c : Bool) → eqb i 0 ≡ c → Is g i (elim c [ true ↦ base g | false ↦ other g ])
    in_odd o true e = of_base o (when_true (is_eq i 0) e)
    in_odd o false e = of_other o (when_false (is_eq i 0) e)

    go : (b : Bool) → odd g ≡ b
        → Is g i (elim b [ false ↦ even g | true ↦ elim (eqb i 0) [ true ↦ base g | false ↦ other g ] ])
    go true e = in_odd (when_true (odd_is_lem g) e) (eqb i 0) refl
    go false e = of_even {g = g} (omega (arith, when_false (odd_is_lem g) e))

to_level : {s r : Role} (g i h j : ℕ) → Is g i s → Is h j r → T (five_kinds s r) → (g + min 1 i) / 2 ≡ (h + min 1 j) / 2
to_level g i h j (of_even a) (of_even b) t = let e = (is_eq g h).holds t in omega arith
to_level g i h j (of_even a) (of_base b c) t = let e = (is_eq h (g + 1)).holds t in omega arith
to_level g i h j (of_even a) (of_other b c) t = let e = (is_eq g (h + 1)).holds t in omega arith
to_level g i h j (of_base a d) (of_even b) t = let e = (is_eq g (h + 1)).holds t in omega arith
to_level g i h j (of_base a d) (of_base b c) t = absurd t
to_level g i h j (of_base a d) (of_other b c) t = let e = (is_eq g (h + 2)).holds t in omega arith
to_level g i h j (of_other a d) (of_even b) t = let e = (is_eq h (g + 1)).holds t in omega arith
to_level g i h j (of_other a d) (of_base b c) t = let e = (is_eq h (g + 2)).holds t in omega arith
to_level g i h j (of_other a d) (of_other b c) t = let e = (is_eq g h).holds t in omega arith

-- Side i of a triangle of generation g is a base.
abbrev pub BaseOf : ℕ → ℕ → Type 0
BaseOf g i = (i ≡ 0) × (g % 2 ≡ 1)

of_level : {s r : Role} (g i h j : ℕ) → Is g i s → Is h j r → (g + min 1 i) / 2 ≡ (h + min 1 j) / 2
    → (BaseOf g i → BaseOf h j → ⊥) → T (five_kinds s r)
of_level g i h j (of_even a) (of_even b) e n = (is_eq g h).passes (omega arith)
of_level g i h j (of_even a) (of_base b c) e n = (is_eq h (g + 1)).passes (omega arith)
of_level g i h j (of_even a) (of_other b c) e n = (is_eq g (h + 1)).passes (omega arith)
of_level g i h j (of_base a d) (of_even b) e n = (is_eq g (h + 1)).passes (omega arith)
of_level g i h j (of_base a d) (of_base b c) e n = absurd (n (d, a) (c, b))
of_level g i h j (of_base a d) (of_other b c) e n = (is_eq g (h + 2)).passes (omega arith)
of_level g i h j (of_other a d) (of_even b) e n = (is_eq h (g + 1)).passes (omega arith)
of_level g i h j (of_other a d) (of_base b c) e n = (is_eq h (g + 2)).passes (omega arith)
of_level g i h j (of_other a d) (of_other b c) e n = (is_eq g h).passes (omega arith)

no_two : {s r : Role} (g i h j : ℕ) → Is g i s → Is h j r → T (five_kinds s r) → BaseOf g i → BaseOf h j → ⊥
no_two g i h j (of_even a) q t x y = let z = x.1 in omega arith
no_two g i h j (of_other a d) q t x y = d x.0
no_two g i h j (of_base a d) (of_even b) t x y = let z = y.1 in omega arith
no_two g i h j (of_base a d) (of_base b c) t x y = t
no_two g i h j (of_base a d) (of_other b c) t x y = c y.0

module _ (g i h j : ℕ) where
  pub kind_level : T (five_kinds (role_of g i) (role_of h j)) → (g + min 1 i) / 2 ≡ (h + min 1 j) / 2
  kind_level = to_level g i h j (role_is g i) (role_is h j)

  pub kind_bases : T (five_kinds (role_of g i) (role_of h j)) → BaseOf g i → BaseOf h j → ⊥
  kind_bases = no_two g i h j (role_is g i) (role_is h j)

  pub level_kind : (g + min 1 i) / 2 ≡ (h + min 1 j) / 2 → (BaseOf g i → BaseOf h j → ⊥)
      → T (five_kinds (role_of g i) (role_of h j))
  level_kind = of_level g i h j (role_is g i) (role_is h j)
