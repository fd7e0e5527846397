-- Tests and what they decide.
use mathlib.Core.Path.{◌≡◌, refl, sym, subst, ap}
use mathlib.Core.Logic.{◌⊎◌, inl, inr}
use mathlib.Core.Bool.{Bool, true, false, not, ◌&&◌, ◌||◌}
use Prim.Native.Nat.{ℕ, zero, suc, ◌+◌, ◌≤◌, ◌<◌, ◌%◌}
use native.Mathlib.Numerals.{add-one}
use native.Mathlib.Omega.{arith}
use native.Mathlib.Decide.{ℕ_discrete}
use lib.Dec.{T, eqb, leb, ltb, lt→ltb, ltb→lt, le→leb, leb→le, eqb_refl, eqb→eq}
use Rattle.rules.specs.Below.{all, lowest, any, bit}
use Rattle.rules.specs.Tables.{odd}

-- The test b says whether P holds.
pub record Decides (b : Bool) (P : Type 0) : Type 0 where
  pub holds : T b → P
  pub passes : P → T b

pub is_self : (b : Bool) → Decides b (T b)
is_self b = record { holds = λ x. x; passes = λ x. x }

pub is_eq : (m n : ℕ) → Decides (eqb m n) (m ≡ n)
is_eq m n = record { holds = eqb→eq m n; passes = λ e. subst (λ (x : ℕ). T (eqb m x)) e (eqb_refl m) }

pub is_lt : (m n : ℕ) → Decides (ltb m n) (m < n)
is_lt m n = record { holds = ltb→lt m n; passes = lt→ltb m n }

pub is_le : (m n : ℕ) → Decides (leb m n) (m ≤ n)
is_le m n = record { holds = leb→le m n; passes = le→leb m n }

pub is_not : {b : Bool} {P : Type 0} → Decides b P → Decides (not b) (¬ P)
is_not {b = true} d = record { holds = λ x. absurd x; passes = λ n. n (d.holds tt) }
is_not {b = false} d = record { holds = λ x p. d.passes p; passes = λ n. tt }

pub is_iff : {b : Bool} {P Q : Type 0} → (P → Q) → (Q → P) → Decides b P → Decides b Q
is_iff f g d = record { holds = λ x. f (d.holds x); passes = λ q. d.passes (g q) }

pub is_true : {P : Type 0} → P → Decides true P
is_true p = record { holds = λ x. p; passes = λ x. tt }

pub is_false : {P : Type 0} → ¬ P → Decides false P
is_false n = record { holds = λ x. absurd x; passes = n }

pub when_true : {b : Bool} {P : Type 0} → Decides b P → b ≡ true → P
when_true d e = d.holds (subst T (sym e) tt)

pub when_false : {b : Bool} {P : Type 0} → Decides b P → b ≡ false → ¬ P
when_false d e p = subst T e (d.passes p)

-- What a test decides holds where it cannot fail.
pub stable : {b : Bool} {P : Type 0} → Decides b P → ¬ (¬ P) → P
stable {b = true} d n = d.holds tt
stable {b = false} d n = absurd (n d.passes)

-- Tests of one thing are equal.
pub is_same : {a b : Bool} {P : Type 0} → Decides a P → Decides b P → a ≡ b
is_same {a = true} {b = true} d e = refl
is_same {a = true} {b = false} d e = absurd (e.passes (d.holds tt))
is_same {a = false} {b = true} d e = absurd (d.passes (e.holds tt))
is_same {a = false} {b = false} d e = refl

-- A test counts 1 or 0.
pub bit_yes : {b : Bool} {P : Type 0} → Decides b P → P → bit b ≡ 1
bit_yes d p = ap bit (is_same d (is_true p))

pub bit_no : {b : Bool} {P : Type 0} → Decides b P → ¬ P → bit b ≡ 0
bit_no d n = ap bit (is_same d (is_false n))

-- A second test that says what it should only where the first holds.
pub is_then : {a b : Bool} {P Q : Type 0} → Decides a P → (P → Decides b Q) → Decides (a && b) (P × Q)
is_then {a = true} d e =
    let f = e (d.holds tt) in
    record { holds = λ x. (d.holds tt, f.holds x); passes = λ p. f.passes p.1 }
is_then {a = false} d e = record { holds = λ x. absurd x; passes = λ p. d.passes p.0 }

pub is_and : {a b : Bool} {P Q : Type 0} → Decides a P → Decides b Q → Decides (a && b) (P × Q)
is_and d e = is_then d (λ p. e)

-- A second test that says what it should only where the first fails.
pub is_else : {a b : Bool} {P Q : Type 0} → Decides a P → (¬ P → Decides b Q) → Decides (a || b) (P ⊎ Q)
is_else {a = true} d e = record { holds = λ x. inl (d.holds tt); passes = λ p. tt }
is_else {a = false} d e =
    let f = e d.passes in
    record {
      holds = λ x. inr (f.holds x);
      passes = λ p. elim p [ inl q ↦ absurd (d.passes q) | inr q ↦ f.passes q ];
    }

pub is_or : {a b : Bool} {P Q : Type 0} → Decides a P → Decides b Q → Decides (a || b) (P ⊎ Q)
is_or d e = is_else d (λ n. e)

-- ---- odd and even generations

pub odd_is_lem : (g : ℕ) → Decides (odd g) (g % 2 ≡ 1)
odd_is_lem g = is_eq (g % 2) 1

pub even_is : (g : ℕ) → Decides (not (odd g)) (g % 2 ≡ 0)
even_is g = is_iff (λ n. omega arith) (λ e q. omega arith) (is_not (odd_is_lem g))

-- What the test `odd` says of them.
pub odd_test : (g : ℕ) → g % 2 ≡ 1 → odd g ≡ true
odd_test g o = is_same (odd_is_lem g) (is_true o)

-- Two more than an even number is even.
pub two_even : {x g : ℕ} → x ≡ suc (suc g) → g % 2 ≡ 0 → x % 2 ≡ 0
two_even e q = omega arith

pub even_test : (g : ℕ) → g % 2 ≡ 0 → odd g ≡ false
even_test g e = is_same (odd_is_lem g) (is_false (omega arith))

-- ---- all numbers below n

-- Every number below n.
pub is_all : (n : ℕ) (p : ℕ → Bool) (P : ℕ → Type 0) → ((h : ℕ) → h < n → Decides (p h) (P h))
    → Decides (all n p) ((h : ℕ) → h < n → P h)
unfolding all
is_all zero p P d = record { holds = λ x h l. absurd (omega arith); passes = λ f. tt }
is_all (suc n) p P d =
    is_iff (λ x h l. go x h l (ℕ_discrete h n)) (λ f. ((λ h l. f h (omega arith)), f n (omega arith)))
    (is_and (is_all n p P (λ h l. d h (omega arith))) (d n (omega arith)))
  where
    go : ((h : ℕ) → h < n → P h) × P n → (h : ℕ) → h < suc n → Dec (h ≡ n) → P h
    go x h l (yes e) = rw e x.1
    go x h l (no e) = x.0 h (omega arith)

-- Every number below n + 1 passes where every one below n does, and n.
pub all_more : (n : ℕ) (p : ℕ → Bool) → all n p ≡ true → p n ≡ true → all (n + 1) p ≡ true
unfolding all
all_more n p e f = rw (add-one, all, e, f)

-- The same of a test so far and the test of n.
pub all_and : {a b : Bool} (n : ℕ) (p : ℕ → Bool) → a ≡ all n p → b ≡ p n → (a && b) ≡ all (n + 1) p
unfolding all
all_and n p d e = rw (add-one, d, e)

-- Not every number below n passes where i does not.
pub all_fails : (n i : ℕ) (p : ℕ → Bool) → i < n → p i ≡ false → all n p ≡ false
all_fails n i p l e =
    is_same (is_all n p (λ h. T (p h)) (λ h k. is_self (p h))) (is_false (λ f. subst T e (f i l)))

-- ---- the lowest number that passes

pub record Lowest (n : ℕ) (p : ℕ → Bool) (k : ℕ) : Type 0 where
  pub most : k ≤ n
  pub passes : k < n → T (p k)
  pub none : (h : ℕ) → h < k → ¬ T (p h)

pub lowest_is : (n : ℕ) (p : ℕ → Bool) → Lowest n p (lowest n p)
unfolding lowest
lowest_is zero p = record { most = omega arith; passes = λ l. absurd (omega arith); none = λ h l. absurd (omega arith) }
lowest_is (suc n) p = go (lowest n p) (lowest_is n p) (ltb (lowest n p) n) refl (p n) refl
  where
    step : (k h : ℕ) → Lowest n p k → k ≡ n → ¬ T (p n) → h < suc n → Dec (h ≡ n) → ¬ T (p h)
    step k h L e f l (yes q) t = f (subst (λ (x : ℕ). T (p x)) q t)
    step k h L e f l (no q) t = L.none h (omega arith) t

    go : (k : ℕ) → Lowest n p k → (b : Bool) → ltb k n ≡ b → (c : Bool) → p n ≡ c
        → Lowest (suc n) p (elim b [ true ↦ k | false ↦ elim c [ true ↦ n | false ↦ suc n ] ])
    go k L true e c f =
        let l = when_true (is_lt k n) e in
        record { most = omega arith; passes = λ _. L.passes l; none = L.none }
    go k L false e true f =
        let n' = when_false (is_lt k n) e in
        let m = L.most in
        record { most = omega arith; passes = λ _. subst T (sym f) tt; none = λ h l. L.none h (omega arith) }
    go k L false e false f =
        let n' = when_false (is_lt k n) e in
        let m = L.most in
        record {
          most = omega arith;
          passes = λ l. absurd (omega arith);
          none = λ h l. step k h L (omega arith) (λ t. subst T f t) l (ℕ_discrete h n);
        }

-- Some number below n.
pub is_any : (n : ℕ) (p : ℕ → Bool) (P : ℕ → Type 0) → ((h : ℕ) → Decides (p h) (P h))
    → Decides (any n p) ((h : ℕ) × (h < n) × P h)
unfolding any
is_any n p P d = is_iff
    (λ l. (lowest n p, l, (d (lowest n p)).holds (L.passes (omega arith))))
    (λ x. go x (ℕ_discrete (lowest n p) n))
    (is_lt (lowest n p) n)
  where
    L : Lowest n p (lowest n p)
    L = lowest_is n p

    go : (h : ℕ) × (h < n) × P h → Dec (lowest n p ≡ n) → lowest n p < n
    go x (yes e) = absurd (L.none x.0 (omega (arith, x.1)) ((d x.0).passes x.2))
    go x (no e) = omega (arith, L.most)

-- None is below 0.
pub any_none : (p : ℕ → Bool) → any 0 p ≡ false
unfolding any lowest
any_none p = refl

-- Some number below n + 1 passes where one below n does, or n.
pub any_more : (n : ℕ) (p : ℕ → Bool) → any (n + 1) p ≡ (any n p || p n)
any_more n p =
    is_same (is_any (n + 1) p (λ h. T (p h)) (λ h. is_self (p h)))
    (is_iff up (λ x. down x (ℕ_discrete x.0 n))
    (is_or (is_any n p (λ h. T (p h)) (λ h. is_self (p h))) (is_self (p n))))
  where
    up : ((h : ℕ) × (h < n) × T (p h)) ⊎ T (p n) → (h : ℕ) × (h < n + 1) × T (p h)
    up (inl (h, l, t)) = (h, omega arith, t)
    up (inr t) = (n, omega arith, t)

    down : (x : (h : ℕ) × (h < n + 1) × T (p h)) → Dec (x.0 ≡ n) → ((h : ℕ) × (h < n) × T (p h)) ⊎ T (p n)
    down (h, l, t) (yes e) = inr (subst (λ (x : ℕ). T (p x)) e t)
    down (h, l, t) (no e) = inl (h, omega arith, t)
