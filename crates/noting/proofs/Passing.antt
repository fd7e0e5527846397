-- Numbers that rise and pass a test are those that the rules list.
use mathlib.Core.Path.{◌≡◌, refl, sym, ap, ◌∙◌, subst}
use mathlib.Core.Bool.{Bool, true, false}
use mathlib.Core.List.{List, [], ◌∷◌, ◌++◌, append-nil}
use Prim.Native.Nat.{ℕ, zero, suc, ◌<◌}
use native.Mathlib.Decide.{ℕ_discrete, dec_lt}
use native.Mathlib.Omega.{arith}
use lib.Dec.{T}
use lib.ListN.{length, get_or, length-append, get_or-append}
use lib.Seq.{get_or-append_seam}
use Rattle.rules.specs.Below.{those}
use Rattle.noting.specs.Changed.{FrontIs}

-- The first n entries rise.
abbrev Rising : List ℕ → ℕ → Type 0
Rising l n = (i : ℕ) → suc i < n → get_or l i 0 < get_or l (suc i) 0

-- y is one of the first n entries.
abbrev Among : List ℕ → ℕ → ℕ → Type 0
Among l n y = (i : ℕ) × (i < n) × (get_or l i 0 ≡ y)

-- Entries that rise differ by their place.
rises_far : (l : List ℕ) (n : ℕ) → Rising l n → (i j : ℕ) → i < j → j < n → get_or l i 0 < get_or l j 0
rises_far l n R i zero b d = absurd (omega arith)
rises_far l n R i (suc j) b d = go (ℕ_discrete i j) (λ c. rises_far l n R i j c (omega arith))
  where
    go : Dec (i ≡ j) → (i < j → get_or l i 0 < get_or l j 0) → get_or l i 0 < get_or l (suc j) 0
    go (yes e) f = rw e (R j d)
    go (no e) f = omega (arith, f (omega arith), R j d)

-- The first k entries of l rise, and are the numbers below n that pass.
pub record Passing (n : ℕ) (p : ℕ → Bool) (l : List ℕ) (k : ℕ) : Type 0 where
  pub rises : Rising l k
  pub below : (x : ℕ) → Among l k x → x < n
  pub pass : (x : ℕ) → Among l k x → T (p x)
  pub whole : (x : ℕ) → x < n → T (p x) → Among l k x

-- One number more, which does not pass.
without_last : {n k : ℕ} {p : ℕ → Bool} {l : List ℕ} → ¬ T (p n) → Passing (suc n) p l k → Passing n p l k
without_last {n} {k} {p} {l} f P = record {
  rises = P.rises;
  below = λ x a. go x a (ℕ_discrete x n);
  pass = P.pass;
  whole = λ x b. P.whole x (omega arith);
}
  where
    go : (x : ℕ) → Among l k x → Dec (x ≡ n) → x < n
    go x a (yes e) = absurd (f (subst (λ (y : ℕ). T (p y)) e (P.pass x a)))
    go x a (no e) = omega (arith, P.below x a)

-- One that passes stands last.
module _ {n k : ℕ} {p : ℕ → Bool} {l : List ℕ} (t : T (p n)) (P : Passing (suc n) p l k) where
  last_place : Among l k n
  last_place = P.whole n (omega arith) t

  stands_last : (k ≡ suc last_place.0) × (get_or l last_place.0 0 ≡ n)
  stands_last = (go (dec_lt (suc last_place.0) k), last_place.2)
    where
      go : Dec (suc last_place.0 < k) → k ≡ suc last_place.0
      go (yes b) =
          absurd (omega (
            arith,
            rises_far l k P.rises last_place.0 (suc last_place.0) (omega arith) b,
            P.below (get_or l (suc last_place.0) 0) (suc last_place.0, b, refl),
            last_place.2,
          ))
      go (no b) = omega (arith, last_place.1)

  before_last : Passing n p l last_place.0
  before_last = record {
    rises = λ i b. P.rises i (omega (arith, last_place.1));
    below = λ x a.
        omega (arith, rises_far l k P.rises a.0 last_place.0 a.1 last_place.1, a.2, last_place.2);
    pass = λ x a. P.pass x (a.0, omega (arith, a.1, last_place.1), a.2);
    whole = λ x b q. go x b (P.whole x (omega arith) q);
  }
    where
      here : (x : ℕ) → x < n → (i : ℕ) → i < k → get_or l i 0 ≡ x → Dec (i ≡ last_place.0) → Among l last_place.0 x
      here x b i c e (yes q) =
          absurd (omega (arith, ap (λ (h : ℕ). get_or l h 0) q, last_place.2))
      here x b i c e (no q) = (i, omega (arith, stands_last.0), e)

      go : (x : ℕ) → x < n → Among l k x → Among l last_place.0 x
      go x b a = here x b a.0 a.1 a.2 (ℕ_discrete a.0 last_place.0)

pub passing_front : (n : ℕ) (p : ℕ → Bool) {l : List ℕ} {k : ℕ} → Passing n p l k → FrontIs (those n p) l k
unfolding those
passing_front zero p {l} {k} P = go (ℕ_discrete k 0)
  where
    go : Dec (k ≡ 0) → FrontIs [] l k
    go (yes e) = record { size = sym e; entries = λ i b. absurd (omega arith) }
    go (no e) = absurd (omega (arith, P.below (get_or l 0 0) (0, omega arith, refl)))
passing_front (suc n) p {l} {k} P =
    go (p n) refl (λ t. passing_front n p (before_last t P)) (λ f. passing_front n p (without_last f P))
  where
    with_last : (t : T (p n)) → FrontIs (those n p) l (last_place t P).0 → FrontIs (those n p ++ n ∷ []) l k
    with_last t H = record {
      size = omega (arith, length-append (those n p) (n ∷ []), H.size, (stands_last t P).0);
      entries = λ i b. entry i b (ℕ_discrete i (last_place t P).0);
    }
      where
        entry : (i : ℕ) → i < k → Dec (i ≡ (last_place t P).0) → get_or (those n p ++ n ∷ []) i 0 ≡ get_or l i 0
        entry i b (yes e) =
            let z : i ≡ length (those n p) = e ∙ sym H.size in
            ap (λ (h : ℕ). get_or (those n p ++ n ∷ []) h 0) z ∙ get_or-append_seam (those n p) n [] 0
            ∙ sym (stands_last t P).1 ∙ ap (λ (h : ℕ). get_or l h 0) (sym e)
        entry i b (no e) =
            get_or-append (those n p) (n ∷ []) 0 i (omega (arith, H.size, (stands_last t P).0))
            ∙ H.entries i (omega (arith, (stands_last t P).0))

    none_last : FrontIs (those n p) l k → FrontIs (those n p ++ []) l k
    none_last H = subst (λ (q : List ℕ). FrontIs q l k) (sym (append-nil (those n p))) H

    go : (b : Bool) → p n ≡ b → ((t : T (p n)) → FrontIs (those n p) l (last_place t P).0)
        → (¬ T (p n) → FrontIs (those n p) l k) → FrontIs (those n p ++ elim b [ true ↦ n ∷ [] | false ↦ [] ]) l k
    go true e f g = let t : T (p n) = subst T (sym e) tt in with_last t (f t)
    go false e f g = none_last (g (λ t. subst T e t))
