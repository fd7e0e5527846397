-- The numbers below n that pass a test, listed in rising order.
use mathlib.Core.Path.{◌≡◌, refl, sym, ap, ◌∙◌, subst}
use mathlib.Core.Bool.{Bool, true, false}
use mathlib.Core.List.{List, [], ◌∷◌, ◌++◌, append-nil}
use Prim.Native.Nat.{ℕ, zero, suc, ◌+◌, ◌<◌}
use native.Mathlib.Omega.{arith}
use native.Mathlib.Decide.{ℕ_discrete, dec_lt}
use lib.Dec.{T}
use lib.ListN.{length, get_or, length-append, get_or-append}
use lib.Seq.{get_or-append_seam}
use Rattle.rules.specs.Below.{bit, count, total, those}

-- l has exactly the numbers below n that pass, each above the one before.
pub record Those (n : ℕ) (p : ℕ → Bool) (l : List ℕ) : Type 0 where
  pub below : (i : ℕ) → i < length l → get_or l i 0 < n
  pub pass : (i : ℕ) → i < length l → T (p (get_or l i 0))
  pub rising : (i : ℕ) → suc i < length l → get_or l i 0 < get_or l (suc i) 0
  pub has : (s : ℕ) → s < n → T (p s) → (i : ℕ) × (i < length l) × (get_or l i 0 ≡ s)

-- One number more, which fails, or passes.
module _ {n : ℕ} {p : ℕ → Bool} {l : List ℕ} (L : Those n p l) where
  those_fails : p n ≡ false → Those (suc n) p l
  those_fails e = record {
    below = λ i b. omega (arith, L.below i b);
    pass = L.pass;
    rising = L.rising;
    has = λ s b t. L.has s (other s b t (ℕ_discrete s n)) t;
  }
    where
      other : (s : ℕ) → s < suc n → T (p s) → Dec (s ≡ n) → s < n
      other s b t (yes q) = absurd (subst T (ap p q ∙ e) t)
      other s b t (no q) = omega arith

  those_passes : p n ≡ true → Those (suc n) p (l ++ n ∷ [])
  those_passes e = record {
    below = λ i b. at (λ k. k < suc n) i b (λ c. omega (arith, L.below i c)) (omega arith);
    pass = λ i b. at (λ k. T (p k)) i b (L.pass i) (subst T (sym e) tt);
    rising = λ i b.
        let c : i < length l = omega (arith, size) in
        rw (get_or-append l (n ∷ []) 0 i c)
        (at (λ k. get_or l i 0 < k) (suc i) b (L.rising i) (L.below i c));
    has = λ s b t. find s b t (ℕ_discrete s n);
  }
    where
      size : length (l ++ n ∷ []) ≡ length l + 1
      size = length-append l (n ∷ [])

      last : get_or (l ++ n ∷ []) (length l) 0 ≡ n
      last = get_or-append_seam l n [] 0

      at : (P : ℕ → Type 0) (i : ℕ) → i < length (l ++ n ∷ []) → (i < length l → P (get_or l i 0)) → P n
          → P (get_or (l ++ n ∷ []) i 0)
      at P i b f x = go (dec_lt i (length l))
        where
          go : Dec (i < length l) → P (get_or (l ++ n ∷ []) i 0)
          go (yes c) = subst P (sym (get_or-append l (n ∷ []) 0 i c)) (f c)
          go (no c) =
              let q : i ≡ length l = omega (arith, size) in
              subst P (sym (ap (λ (i : ℕ). get_or (l ++ n ∷ []) i 0) q ∙ last)) x

      find : (s : ℕ) → s < suc n → T (p s) → Dec (s ≡ n)
          → (i : ℕ) × (i < length (l ++ n ∷ [])) × (get_or (l ++ n ∷ []) i 0 ≡ s)
      find s b t (yes q) = (length l, omega (arith, size), last ∙ sym q)
      find s b t (no q) =
          let (i, c, r) = L.has s (omega arith) t in
          (i, omega (arith, size), get_or-append l (n ∷ []) 0 i c ∙ r)

pub those_are : (n : ℕ) (p : ℕ → Bool) → Those n p (those n p)
unfolding those
those_are zero p = record {
  below = λ i b. absurd (omega arith);
  pass = λ i b. absurd (omega arith);
  rising = λ i b. absurd (omega arith);
  has = λ s b t. absurd (omega arith);
}
those_are (suc n) p = go (those_are n p) (p n) refl
  where
    go : {l : List ℕ} → Those n p l → (b : Bool) → p n ≡ b
        → Those (suc n) p (l ++ elim b [ true ↦ n ∷ [] | false ↦ [] ])
    go L true e = those_passes L e
    go L false e = rw append-nil (those_fails L e)

-- They are as many as are counted.
pub length_those : (n : ℕ) (p : ℕ → Bool) → length (those n p) ≡ count n p
unfolding those total
length_those zero p = refl
length_those (suc n) p =
    length-append (those n p) (elim (p n) [ true ↦ n ∷ [] | false ↦ [] ]) ∙ go (length_those n p) (p n)
  where
    go : length (those n p) ≡ count n p → (b : Bool)
        → length (those n p) + length {A = ℕ} (elim b [ true ↦ n ∷ [] | false ↦ [] ]) ≡ count n p + bit b
    go e true = rw e refl
    go e false = rw e refl

-- Tests that answer the same below n.
pub those_same : (n : ℕ) (p q : ℕ → Bool) → ((i : ℕ) → i < n → p i ≡ q i) → those n p ≡ those n q
unfolding those
those_same zero p q e = refl
those_same (suc n) p q e = rw (those_same n p q (λ i l. e i (omega arith)), e n (omega arith)) refl
