-- Sums over the numbers below n.
use mathlib.Core.Path.{◌≡◌, refl, sym, ap, ap₂, ◌∙◌}
use mathlib.Core.Logic.{◌≢◌}
use mathlib.Core.Bool.{Bool, true, false}
use Prim.Native.Nat.{ℕ, zero, suc, ◌+◌, ◌*◌, ◌<◌, ◌≤◌}
use native.Mathlib.Omega.{arith}
use native.Mathlib.Decide.{ℕ_discrete}
use lib.Dec.{eqb}
use borrow.Author.Tests.{eq-eqb, ne_eqb}
use Rattle.rules.specs.Below.{total}

pub total_same : (n : ℕ) (f g : ℕ → ℕ) → ((h : ℕ) → h < n → f h ≡ g h) → total n f ≡ total n g
unfolding total
total_same zero f g e = refl
total_same (suc n) f g e = ap₂ (λ (x y : ℕ). x + y) (total_same n f g (λ h l. e h (omega arith))) (e n (omega arith))

pub total_first : (n : ℕ) (f : ℕ → ℕ) → total (suc n) f ≡ f 0 + total n (λ i. f (suc i))
unfolding total
total_first zero f = omega arith
total_first (suc n) f = let a = total_first n f in omega arith

-- One term changes.
pub total_change : (n i : ℕ) (f g : ℕ → ℕ) → i < n → ((h : ℕ) → h < n → h ≢ i → f h ≡ g h)
    → total n g + f i ≡ total n f + g i
unfolding total
total_change zero i f g l e = absurd (omega arith)
total_change (suc n) i f g l e = go (ℕ_discrete i n) (total_change n i f g)
  where
    go : Dec (i ≡ n) → (i < n → ((h : ℕ) → h < n → h ≢ i → f h ≡ g h) → total n g + f i ≡ total n f + g i)
        → total n g + g n + f i ≡ total n f + f n + g i
    go (yes q) ih =
        let a : total n f ≡ total n g = total_same n f g (λ h k. e h (omega arith) (omega arith)) in
        rw q (omega arith)
    go (no q) ih =
        let a : total n g + f i ≡ total n f + g i = ih (omega arith) (λ h k j. e h (omega arith) j) in
        let b : f n ≡ g n = e n (omega arith) (omega arith) in
        omega arith

pub total_zero : (n : ℕ) (f : ℕ → ℕ) → ((h : ℕ) → h < n → f h ≡ 0) → total n f ≡ 0
unfolding total
total_zero zero f e = refl
total_zero (suc n) f e = let a = total_zero n f (λ h l. e h (omega arith)) in let b = e n (omega arith) in omega arith

pub total_add : (n : ℕ) (f g : ℕ → ℕ) → total n (λ h. f h + g h) ≡ total n f + total n g
unfolding total
total_add zero f g = refl
total_add (suc n) f g = let a = total_add n f g in omega arith

-- Sums over a square, either way round.
pub total_swap : (n k : ℕ) (f : ℕ → ℕ → ℕ) → total n (λ h. total k (f h)) ≡ total k (λ j. total n (λ h. f h j))
unfolding total
total_swap zero k f = sym (total_zero k (λ j. 0) (λ h l. refl))
total_swap (suc n) k f =
    ap (λ (x : ℕ). x + total k (f n)) (total_swap n k f) ∙ sym (total_add k (λ j. total n (λ h. f h j)) (f n))

-- A sum with one term that is not zero.
pub total_one : (n i : ℕ) (f : ℕ → ℕ) → i < n → ((h : ℕ) → h < n → h ≢ i → f h ≡ 0) → total n f ≡ f i
total_one n i f l e =
    let a = total_change n i f (λ h. 0) l e in
    let b = total_zero n (λ h. 0) (λ h k. refl) in
    omega arith

pub total_const : (n c : ℕ) → total n (λ h. c) ≡ n * c
unfolding total
total_const zero c = omega arith
total_const (suc n) c = let a = total_const n c in omega arith

-- Two terms change.
pub total_change₂ : (n i j : ℕ) (f g : ℕ → ℕ) → i < n → j < n → i ≢ j → ((h : ℕ) → h < n → h ≢ i → h ≢ j → f h ≡ g h)
    → total n g + f i + f j ≡ total n f + g i + g j
total_change₂ n i j f g l k ne e =
    let mid : ℕ → ℕ = λ h. pick (eqb h i) (g h) (f h) in
    let mi : mid i ≡ g i = ap (λ (b : Bool). pick b (g i) (f i)) (eq-eqb i i refl) in
    let mo : (h : ℕ) → h ≢ i → mid h ≡ f h = λ h q. ap (λ (b : Bool). pick b (g h) (f h)) (ne_eqb h i q) in
    let a : total n mid + f i ≡ total n f + mid i = total_change n i f mid l (λ h w q. sym (mo h q)) in
    let b : total n g + mid j ≡ total n mid + g j = total_change n j mid g k (λ h w q. on h w q (ℕ_discrete h i)) in
    let c : mid j ≡ f j = mo j (λ q. ne (sym q)) in
    omega arith
  where
    pick : Bool → ℕ → ℕ → ℕ
    pick true x y = x
    pick false x y = y

    on : (h : ℕ) → h < n → h ≢ j → Dec (h ≡ i) → pick (eqb h i) (g h) (f h) ≡ g h
    on h w q (yes z) = ap (λ (b : Bool). pick b (g h) (f h)) (eq-eqb h i z)
    on h w q (no z) = ap (λ (b : Bool). pick b (g h) (f h)) (ne_eqb h i z) ∙ e h w z q

-- A sum over sides, triangle by triangle.
abbrev pub row : (ℕ → ℕ) → ℕ → ℕ
row f t = f (3 * t) + f (3 * t + 1) + f (3 * t + 2)

pub row_same : (f g : ℕ → ℕ) (t : ℕ) → f (3 * t) ≡ g (3 * t) → f (3 * t + 1) ≡ g (3 * t + 1)
    → f (3 * t + 2) ≡ g (3 * t + 2) → row f t ≡ row g t
row_same f g t a b c = omega arith

pub total_rows : (n : ℕ) (f : ℕ → ℕ) → total (3 * n) f ≡ total n (row f)
unfolding total
total_rows zero f = refl
total_rows (suc n) f =
    let e : 3 * suc n ≡ suc (suc (suc (3 * n))) = omega arith in
    let a : suc (3 * n) ≡ 3 * n + 1 = omega arith in
    let b : suc (suc (3 * n)) ≡ 3 * n + 2 = omega arith in
    let i : total (3 * n) f ≡ total n (row f) = total_rows n f in
    ap (λ (x : ℕ). total x f) e ∙ three (total (3 * n) f) (total n (row f)) (f (3 * n)) (f (suc (3 * n)))
    (f (3 * n + 1)) (f (suc (suc (3 * n)))) (f (3 * n + 2)) i (ap f a) (ap f b)
  where
    three : (p q x y y' z z' : ℕ) → p ≡ q → y ≡ y' → z ≡ z' → p + x + y + z ≡ q + (x + y' + z')
    three p q x y y' z z' a b c = omega arith

pub total_two : (n : ℕ) (f : ℕ → ℕ) → total (n + 2) f ≡ total n f + f n + f (n + 1)
unfolding total
total_two n f =
    let e : n + 2 ≡ suc (suc n) = omega arith in
    let a : suc n ≡ n + 1 = omega arith in
    ap (λ (x : ℕ). total x f) e ∙ ap (λ (x : ℕ). total n f + f n + f x) a

pub total_le : (n : ℕ) (f g : ℕ → ℕ) → ((h : ℕ) → h < n → f h ≤ g h) → total n f ≤ total n g
unfolding total
total_le zero f g e = omega arith
total_le (suc n) f g e = let a = total_le n f g (λ h l. e h (omega arith)) in let b = e n (omega arith) in omega arith

-- Terms that are at most others and add up to as much are those.
pub total_tight : (n : ℕ) (f g : ℕ → ℕ) → ((h : ℕ) → h < n → f h ≤ g h) → total n f ≡ total n g → (h : ℕ) → h < n
    → f h ≡ g h
unfolding total
total_tight zero f g e s h l = absurd (omega arith)
total_tight (suc n) f g e s h l =
    let a = total_le n f g (λ k i. e k (omega arith)) in
    let b = e n (omega arith) in
    go (ℕ_discrete h n) (total_tight n f g (λ k i. e k (omega arith)) (omega arith) h) (omega arith)
  where
    go : Dec (h ≡ n) → (h < n → f h ≡ g h) → f n ≡ g n → f h ≡ g h
    go (yes q) ih x = rw q x
    go (no q) ih x = ih (omega arith)

pub zero_each : (n : ℕ) (f : ℕ → ℕ) → total n f ≡ 0 → (h : ℕ) → h < n → f h ≡ 0
zero_each n f e h l =
    sym (total_tight n (λ _. 0) f (λ k i. omega arith) (total_zero n (λ _. 0) (λ k i. refl) ∙ sym e) h l)
