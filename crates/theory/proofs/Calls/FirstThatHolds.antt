-- The first condition that holds, by the tests that decide the conditions.
use mathlib.Core.Path.{◌≡◌, refl, sym, ◌∙◌, ap}
use mathlib.Core.Logic.{◌≢◌}
use mathlib.Core.Bool.{Bool, true, false, not, ◌&&◌}
use mathlib.Core.List.{List, [], ◌∷◌, ◌++◌}
use Prim.Native.Nat.{ℕ, zero, suc, ◌<◌}
use native.Mathlib.Omega.{arith}
use lib.Dec.{T, ltb, eqb}
use Rattle.theory.proofs.Numbers.Decide.{Decides, is_self, is_lt, is_not, stable, is_and, is_eq}
use Rattle.rules.specs.Calls.{Room, Outcome, Test, ◌if◌, first_of, refused_with, unless}
use Rattle.rules.specs.Conditions.{Condition, ◌when◌, First, this, later, none}
use Rattle.rules.specs.Sound.{is_sound}
use Rattle.rules.specs.Tables.{Mesh, tables_agree}

-- A condition that holds where its test passes. What comes after may use that it does not hold.
pub first_if : (n : ℕ) {b : Bool} {P : Type 0} {k : ℕ} {rest : List Condition} → Decides b P → (¬ P → First rest k)
    → First (n when P ∷ rest) (elim b [ true ↦ n | false ↦ k ])
first_if n {b = true} d f = this (d.holds tt)
first_if n {b = false} d f = later d.passes (f d.passes)

-- A condition that holds where the test of its opposite fails.
pub first_unless : (n : ℕ) {b : Bool} {Q : Type 0} {k : ℕ} {rest : List Condition} → Decides b Q → (Q → First rest k)
    → First (n when (¬ Q) ∷ rest) (elim (not b) [ true ↦ n | false ↦ k ])
first_unless n d f = first_if n (is_not d) (λ x. f (stable d x))

-- One of the first conditions holds; the rest do not matter.
pub first_before : {conditions : List Condition} {n : ℕ} (rest : List Condition) → First conditions n → n ≢ 0
    → First (conditions ++ rest) n
first_before rest none z = absurd (z refl)
first_before rest (this p) z = this p
first_before rest (later q f) z = later q (first_before rest f z)

-- ---- no condition holds

-- No number of the list is 0.
abbrev pub positive : List Condition → Bool
positive [] = true
positive (n when P ∷ rest) = ltb 0 n && positive rest

-- None of the conditions holds.
abbrev pub NoneHold : List Condition → Type 0
NoneHold [] = Unit {0}
NoneHold (n when P ∷ rest) = (¬ P) × NoneHold rest

positive_both : (n : ℕ) (b : Bool) → T (ltb 0 n && b) → (0 < n) × T b
positive_both n b = (is_and (is_lt 0 n) (is_self b)).holds

not_zero : (n : ℕ) → n ≡ 0 → 0 < n → ⊥
not_zero n z l = omega arith

-- None holds where the refusal is 0.
pub none_hold : {conditions : List Condition} {k : ℕ} → First conditions k → k ≡ 0 → T (positive conditions)
    → NoneHold conditions
none_hold none z t = tt
none_hold (this {n} {rest = rest} p) z t = absurd (not_zero n z (positive_both n (positive rest) t).0)
none_hold (later {n} {rest = rest} q f) z t = (q, none_hold f z (positive_both n (positive rest) t).1)

-- The refusal is 0 where none holds.
pub none_refuses : {conditions : List Condition} {k : ℕ} → First conditions k → NoneHold conditions → k ≡ 0
none_refuses none n = refl
none_refuses (this p) n = absurd (n.0 p)
none_refuses (later q f) n = none_refuses f n.1

-- Where none of the first conditions holds, the rest decide.
pub first_after : {conditions rest : List Condition} {n k : ℕ} → First conditions n → n ≡ 0 → T (positive conditions)
    → First rest k → First (conditions ++ rest) k
first_after none z t g = g
first_after (this {n} {rest = others} p) z t g = absurd (not_zero n z (positive_both n (positive others) t).0)
first_after (later {n} {rest = others} q f) z t g =
    later q (first_after f z (positive_both n (positive others) t).1 g)

pub first_then : {conditions rest : List Condition} {n k : ℕ} → First conditions n → T (positive conditions)
    → (n ≡ 0 → First rest k) → First (conditions ++ rest) (elim n [ zero ↦ k | suc r ↦ suc r ])
first_then {n = zero} f t g = first_after f refl t (g refl)
first_then {rest = rest} {n = suc r} f t g = first_before rest f (λ e. omega arith)

-- ---- a number that no condition has

-- Neither 0 nor a number of the list is k.
abbrev without : ℕ → List Condition → Bool
without k [] = ltb 0 k
without k (n when P ∷ rest) = not (eqb n k) && without k rest

without_both : (n k : ℕ) (b : Bool) → T (not (eqb n k) && b) → (n ≢ k) × T b
without_both n k b = (is_and (is_not (is_eq n k)) (is_self b)).holds

-- It is not returned.
pub first_not : {conditions : List Condition} {n : ℕ} (k : ℕ) → First conditions n → T (without k conditions) → n ≢ k
first_not k none t = λ e. not_zero k (sym e) ((is_lt 0 k).holds t)
first_not k (this {n} {rest = rest} p) t = (without_both n k (without k rest) t).0
first_not k (later {n} {rest = rest} q f) t = first_not k f (without_both n k (without k rest) t).1

-- ---- the two tests that every call but load begins with

-- Where one of the first two tests refuses, the later ones do not matter; where none does, they decide.
pub two_kept : (a b : Bool) (rest : List Test) (r : ℕ) → r ≡ first_of (1 if a ∷ 7 if b ∷ []) → r ≢ 0
    → r ≡ first_of (1 if a ∷ 7 if b ∷ rest)
two_kept true b rest r e x = e
two_kept false true rest r e x = e
two_kept false false rest r e x = absurd (x e)

pub two_passed : (a b : Bool) (rest : List Test) (r : ℕ) → r ≡ first_of (1 if a ∷ 7 if b ∷ []) → r ≡ 0
    → first_of (1 if a ∷ 7 if b ∷ rest) ≡ first_of rest
two_passed true b rest r e z = absurd (omega arith)
two_passed false true rest r e z = absurd (omega arith)
two_passed false false rest r e z = refl

-- One test after them, by the answer r to the two.
module _ (m : Mesh) (k : ℕ) (t : Bool) (r : ℕ) (e : r ≡ first_of (1 if not (tables_agree m) ∷ 7 if not (is_sound m) ∷ []))
  where
    abbrev third_of : ℕ
    third_of = first_of (1 if not (tables_agree m) ∷ 7 if not (is_sound m) ∷ k if t ∷ [])

    pub third_kept : r ≢ 0 → r ≡ third_of
    third_kept = two_kept (not (tables_agree m)) (not (is_sound m)) (k if t ∷ []) r e

    module _ (z : r ≡ 0) where
      pub third_holds : t ≡ true → k ≡ third_of
      third_holds x = sym (two_passed (not (tables_agree m)) (not (is_sound m)) (k if t ∷ []) r e z ∙ rw x refl)

      pub third_none : t ≡ false → 0 ≡ third_of
      third_none x = sym (two_passed (not (tables_agree m)) (not (is_sound m)) (k if t ∷ []) r e z ∙ rw x refl)

-- ---- what a refusal leaves

-- The call that m and this room are lent to either is refused, or its outcome is `success`.
pub data Judged (n : ℕ) (m : Mesh) (room : Room) (success : Outcome) : Outcome → Type 0 where
  carried : n ≡ 0 → Judged n m room success success
  refused : n ≢ 0 → Judged n m room success (refused_with n m room)

pub judged : (n : ℕ) (m : Mesh) (room : Room) (success : Outcome)
    → Judged n m room success (unless n m room success)
judged zero m room success = carried refl
judged (suc n) m room success = refused (λ e. omega arith)

pub judged_refusal : {n : ℕ} {m : Mesh} {room : Room} {success o : Outcome} → success.answer.refusal ≡ 0
    → Judged n m room success o → o.answer.refusal ≡ n
judged_refusal z (carried e) = z ∙ sym e
judged_refusal z (refused e) = refl

pub judged_refused : {n : ℕ} {m : Mesh} {room : Room} {success o : Outcome} → success.answer.refusal ≡ 0
    → Judged n m room success o
    → o.answer.refusal ≢ 0 → o ≡ refused_with o.answer.refusal m room
judged_refused z (carried e) r = absurd (r z)
judged_refused z (refused e) r = refl

pub judged_carried : {n : ℕ} {m : Mesh} {room : Room} {success o : Outcome} → Judged n m room success o
    → o.answer.refusal ≡ 0 → (n ≡ 0) × (o ≡ success)
judged_carried (carried e) r = (e, refl)
judged_carried (refused e) r = absurd (e r)

-- The outcome of a call whose refusal n was found to be r.
module _ (m : Mesh) (room : Room) (success : Outcome) (n r : ℕ) (e : r ≡ n) where
  pub refuses : r ≢ 0 → refused_with r m room ≡ unless n m room success
  refuses x = go (judged n m room success)
    where
      go : {o : Outcome} → Judged n m room success o → refused_with r m room ≡ o
      go (carried z) = absurd (x (e ∙ z))
      go (refused z) = ap (λ (k : ℕ). refused_with k m room) e

  pub carries : r ≡ 0 → success ≡ unless n m room success
  carries z = ap (λ (k : ℕ). unless k m room success) (sym z ∙ e)
