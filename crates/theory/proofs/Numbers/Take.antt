-- The first entries of a list.
use mathlib.Core.Path.{◌≡◌, refl, sym, ap, ◌∙◌}
use mathlib.Core.List.{List, [], ◌∷◌}
use Prim.Native.Nat.{ℕ, zero, suc, ◌-◌}
use native.Mathlib.Nat.{sub-zero, zero-sub, suc-sub-suc}
use lib.ListN.{set, take, drop}
use lib.Seq.{take-nil}
use Rattle.rules.specs.Tables.{put_three}

module _ {A : Type 0} where
  -- Those of what is written: an entry past them changes none.
  pub take_set : (n : ℕ) (l : List A) (i : ℕ) (x : A) → take n (set l i x) ≡ set (take n l) i x
  take_set zero l i x = refl
  take_set (suc n) [] i x = refl
  take_set (suc n) (y ∷ l) zero x = refl
  take_set (suc n) (y ∷ l) (suc i) x = ap (λ (k : List A). y ∷ k) (take_set n l i x)

  pub take_three : (n : ℕ) (l : List A) (i : ℕ) (x : A × A × A) → take n (put_three i x l) ≡ put_three i x (take n l)
  take_three n l i x = simp take_set

  drop_take : (n j : ℕ) (l : List A) → drop n (take j l) ≡ take (j - n) (drop n l)
  drop_take zero j l = ap (λ (k : ℕ). take k l) (sym (sub-zero j))
  drop_take (suc n) zero l = ap (λ (k : ℕ). take k (drop (suc n) l)) (sym (zero-sub (suc n)))
  drop_take (suc n) (suc j) [] = sym (take-nil (suc j - suc n))
  drop_take (suc n) (suc j) (x ∷ l) = drop_take n j l ∙ ap (λ (k : ℕ). take k (drop n l)) (sym (suc-sub-suc j n))

  -- Those of lists that go on the same.
  pub drop_take_same : (n j : ℕ) (l k : List A) → drop n l ≡ drop n k → drop n (take j l) ≡ drop n (take j k)
  drop_take_same n j l k e = drop_take n j l ∙ ap (take (j - n)) e ∙ sym (drop_take n j k)
