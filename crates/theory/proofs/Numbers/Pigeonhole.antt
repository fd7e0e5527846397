-- Different numbers that pass a test: no more than all that pass, and as many only where they are all of them; and no
-- more than the entries of a list in which they stand.
use mathlib.Core.Path.{◌≡◌, refl, sym, ◌∙◌, subst}
use mathlib.Core.Bool.{Bool, true, false}
use mathlib.Core.List.{List, [], ◌∷◌, ◌++◌}
use mathlib.Core.Logic.{inl, inr}
use Prim.Native.Nat.{ℕ, zero, suc, ◌+◌, ◌≤◌, ◌<◌}
use native.Mathlib.Decide.{dec_lt}
use native.Mathlib.Omega.{arith}
use lib.Dec.{T, eqb}
use lib.ListN.{length, length-append}
use Rattle.theory.proofs.Numbers.Decide.{Decides, is_eq, bit_yes, bit_no, is_any}
use Rattle.theory.proofs.Numbers.Entries.{Some}
use Rattle.theory.proofs.Numbers.Sums.{total_same, total_zero, total_add, total_swap, total_one, total_const}
use Rattle.theory.proofs.Numbers.Sums.{total_le, total_tight}
use Rattle.rules.specs.Below.{any, total, bit, count, those}

bit_le : (a b : Bool) → (T a → T b) → bit a ≤ bit b
bit_le true true f = omega arith
bit_le true false f = absurd (f tt)
bit_le false b f = omega arith

bit_back : (a b : Bool) → bit a ≡ bit b → T b → T a
bit_back true b e t = tt
bit_back false true e t = absurd (omega arith)
bit_back false false e t = t

-- h is f i for some i below c.
abbrev pub Reached : ℕ → (ℕ → ℕ) → ℕ → Type 0
Reached c f h = (i : ℕ) × (i < c) × (f i ≡ h)

reached : ℕ → (ℕ → ℕ) → ℕ → Bool
reached c f h = any c (λ i. eqb (f i) h)

reached_is : (c : ℕ) (f : ℕ → ℕ) (h : ℕ) → Decides (reached c f h) (Reached c f h)
unfolding reached
reached_is c f h = is_any c (λ i. eqb (f i) h) (λ i. f i ≡ h) (λ i. is_eq (f i) h)

-- The numbers below c, counted by what f makes of them.
pub counted_by_value : (n c : ℕ) (f : ℕ → ℕ) → ((i : ℕ) → i < c → f i < n)
    → total n (λ h. count c (λ i. eqb (f i) h)) ≡ c
counted_by_value n c f below =
    let a = total_swap n c (λ h i. bit (eqb (f i) h)) in
    let b : total c (λ i. total n (λ h. bit (eqb (f i) h))) ≡ total c (λ i. 1) = total_same c _ _ (λ i l.
    total_one n (f i) (λ h. bit (eqb (f i) h)) (below i l) (λ h k o. bit_no (is_eq (f i) h) (λ q. o (sym q)))
    ∙ bit_yes (is_eq (f i) (f i)) refl) in
    let d = total_const c 1 in
    omega arith

module _ (n c : ℕ) (f : ℕ → ℕ) (p : ℕ → Bool)
    (below : (i : ℕ) → i < c → f i < n)
    (pass : (i : ℕ) → i < c → T (p (f i)))
    (differ : (i j : ℕ) → i < c → j < c → f i ≡ f j → i ≡ j) where
  -- h is reached once or not at all.
  once : (h : ℕ) → count c (λ i. eqb (f i) h) ≡ bit (reached c f h)
  once h = go (reached c f h) (reached_is c f h)
    where
      go : (b : Bool) → Decides b (Reached c f h) → count c (λ i. eqb (f i) h) ≡ bit b
      go true d =
          let x : Reached c f h = d.holds tt in
          total_one c x.0 (λ i. bit (eqb (f i) h)) x.1
          (λ j l o. bit_no (is_eq (f j) h) (λ q. o (differ j x.0 l x.1 (q ∙ sym x.2))))
          ∙ bit_yes (is_eq (f x.0) h) x.2
      go false d = total_zero c (λ i. bit (eqb (f i) h)) (λ i l. bit_no (is_eq (f i) h) (λ q. d.passes (i, l, q)))

  reached_count : count n (reached c f) ≡ c
  reached_count = total_same n _ _ (λ h l. sym (once h)) ∙ counted_by_value n c f below

  passes : (h : ℕ) → T (reached c f h) → T (p h)
  passes h t = let x = (reached_is c f h).holds t in subst (λ (k : ℕ). T (p k)) x.2 (pass x.0 x.1)

  at_most : (h : ℕ) → h < n → bit (reached c f h) ≤ bit (p h)
  at_most h l = bit_le (reached c f h) (p h) (passes h)

  -- They are no more than all that pass.
  pub no_more : c ≤ count n p
  no_more =
      let a = reached_count in
      let b = total_le n (λ h. bit (reached c f h)) (λ h. bit (p h)) at_most in
      omega arith

  -- Where they are as many, each that passes is reached.
  pub each_reached : c ≡ count n p → (h : ℕ) → h < n → T (p h) → Reached c f h
  each_reached e h l t =
      let q = total_tight n (λ k. bit (reached c f k)) (λ k. bit (p k)) at_most (reached_count ∙ e) h l in
      (reached_is c f h).holds (bit_back (reached c f h) (p h) q t)

  -- Where each is, they are as many.
  pub as_many : ((h : ℕ) → h < n → T (p h) → Reached c f h) → c ≡ count n p
  as_many r = sym reached_count ∙ total_same n (λ h. bit (reached c f h)) (λ h. bit (p h)) (λ h l.
      let a = at_most h l in
      let b = bit_le (p h) (reached c f h) (λ t. (reached_is c f h).passes (r h l t)) in
      omega arith)

-- ---- numbers that all stand in a list

-- How often h stands in it.
occurs : List ℕ → ℕ → ℕ
occurs [] h = 0
occurs (c ∷ l) h = bit (eqb c h) + occurs l h

occurs_some : (l : List ℕ) (h : ℕ) → Some (λ c. h ≡ c) l → 1 ≤ occurs l h
unfolding occurs
occurs_some [] h s = absurd s
occurs_some (c ∷ l) h (inl e) = omega (arith, bit_yes (is_eq c h) (sym e))
occurs_some (c ∷ l) h (inr s) = omega (arith, occurs_some l h s)

-- One number passes once at most.
total_single : (n c : ℕ) → total n (λ h. bit (eqb c h)) ≤ 1
total_single n c = go (dec_lt c n)
  where
    go : Dec (c < n) → total n (λ h. bit (eqb c h)) ≤ 1
    go (yes l) =
        let a = total_one n c (λ h. bit (eqb c h)) l (λ h k o. bit_no (is_eq c h) (λ q. o (sym q))) in
        let b = bit_yes (is_eq c c) refl in
        omega arith
    go (no l) =
        let a = total_zero n (λ h. bit (eqb c h)) (λ h k. bit_no (is_eq c h) (λ q. omega arith)) in
        omega arith

occurs_total : (n : ℕ) (l : List ℕ) → total n (occurs l) ≤ length l
unfolding occurs
occurs_total n [] = let a = total_zero n (λ h. 0) (λ h k. refl) in omega arith
occurs_total n (c ∷ l) =
    omega (arith, total_add n (λ h. bit (eqb c h)) (occurs l), total_single n c, occurs_total n l)

length_those : (n : ℕ) (p : ℕ → Bool) → length (those n p) ≡ count n p
unfolding those total
length_those zero p = refl
length_those (suc n) p = go (length_those n p) (p n)
  where
    go : length (those n p) ≡ count n p → (b : Bool)
        → length (those n p ++ elim b [ true ↦ n ∷ [] | false ↦ [] ]) ≡ count n p + bit b
    go e true = omega (arith, length-append (those n p) (n ∷ []))
    go e false = omega (arith, length-append (those n p) [])

-- Those that pass are no more than the entries of a list in which they all stand.
pub those_few : (n : ℕ) (p : ℕ → Bool) (l : List ℕ) → ((h : ℕ) → h < n → T (p h) → Some (λ c. h ≡ c) l)
    → length (those n p) ≤ length l
those_few n p l f =
    let a = length_those n p in
    let b = total_le n (λ h. bit (p h)) (occurs l) (λ h k. once_there h k (p h) refl) in
    omega (arith, occurs_total n l)
  where
    once_there : (h : ℕ) → h < n → (b : Bool) → p h ≡ b → bit b ≤ occurs l h
    once_there h k false e = omega arith
    once_there h k true e = omega (arith, occurs_some l h (f h k (subst T (sym e) tt)))
