-- What holds of each entry of a list, and of some entry.
use mathlib.Core.Logic.{◌⊎◌, inl, inr}
use mathlib.Core.List.{List, [], ◌∷◌}
use Prim.Native.Nat.{ℕ}

abbrev pub Each : (ℕ → Type 0) → List ℕ → Type 0
Each P [] = Unit {0}
Each P (x ∷ xs) = P x × Each P xs

abbrev pub Some : (ℕ → Type 0) → List ℕ → Type 0
Some P [] = ⊥
Some P (x ∷ xs) = P x ⊎ Some P xs

module _ {P Q R : ℕ → Type 0} (f : (x : ℕ) → P x → Q x → R x) where
  pub each_both : (l : List ℕ) → Each P l → Each Q l → Each R l
  each_both [] p q = tt
  each_both (x ∷ l) p q = (f x p.0 q.0, each_both l p.1 q.1)

  pub some_with : (l : List ℕ) → Each P l → Some Q l → Some R l
  some_with [] p q = absurd q
  some_with (x ∷ l) p (inl q) = inl (f x p.0 q)
  some_with (x ∷ l) p (inr q) = inr (some_with l p.1 q)

pub some_map : {P Q : ℕ → Type 0} → ((x : ℕ) → P x → Q x) → (l : List ℕ) → Some P l → Some Q l
some_map f [] p = absurd p
some_map f (x ∷ l) (inl p) = inl (f x p)
some_map f (x ∷ l) (inr p) = inr (some_map f l p)
