-- A call that works in spare tables: refused before the work, failed half way or carried out.
use mathlib.Core.Path.{◌≡◌, refl, sym, subst}
use mathlib.Core.Logic.{◌≢◌}
use mathlib.Core.List.{List, [], ◌∷◌, ◌++◌}
use Prim.Native.Nat.{ℕ, zero, suc}
use native.Mathlib.Omega.{arith}
use lib.Dec.{T}
use Rattle.theory.proofs.Calls.FirstThatHolds.{NoneHold, none_hold, positive, first_before}
use Rattle.rules.specs.Calls.{Outcome, spare_room, refused_with, unless}
use Rattle.rules.specs.Conditions.{Condition, ◌when◌, First, later}
use Rattle.rules.specs.Lists.{Progress, all_or_nothing}
use Rattle.rules.specs.Promises.{refused_work}
use Rattle.rules.specs.Spares.{Spares, copied}
use Rattle.rules.specs.Tables.{Mesh}

-- None of the first conditions holds: the rest decide.
first_after : (conditions : List Condition) {rest : List Condition} {k : ℕ} → NoneHold conditions → First rest k
    → First (conditions ++ rest) k
first_after [] n F = F
first_after (n when P ∷ conditions) (p, q) F = later p (first_after conditions q F)

-- What refuses the call before the work, 0 for nothing, and the work.
module _ (first : ℕ) (p : Progress) (spares : Spares) (m : Mesh) where
  abbrev pub work_call : Outcome
  work_call = unless first m (spare_room spares) (all_or_nothing p.refusal p spares m)

  pub done_refusal : (n : ℕ) → (all_or_nothing n p spares m).answer.refusal ≡ n
  done_refusal zero = refl
  done_refusal (suc n) = refl

  -- It returns the first number of both.
  pub work_first : {conditions rest : List Condition} → First conditions first → T (positive conditions)
      → (first ≡ 0 → First rest p.refusal) → First (conditions ++ rest) work_call.answer.refusal
  work_first {conditions} {rest} F t f = go first F f
    where
      go : (n : ℕ) → First conditions n → (n ≡ 0 → First rest p.refusal)
          → First (conditions ++ rest)
          (unless n m (spare_room spares) (all_or_nothing p.refusal p spares m)).answer.refusal
      go zero F f =
          subst (First (conditions ++ rest)) (sym (done_refusal p.refusal))
          (first_after conditions (none_hold F refl t) (f refl))
      go (suc n) F f = first_before rest F (λ z. omega arith)

  -- Where it is carried out, neither refuses.
  pub work_both : work_call.answer.refusal ≡ 0 → (first ≡ 0) × (p.refusal ≡ 0)
  work_both = go first p.refusal
    where
      go : (n k : ℕ) → (unless n m (spare_room spares) (all_or_nothing k p spares m)).answer.refusal ≡ 0
          → (n ≡ 0) × (k ≡ 0)
      go zero zero z = (refl, refl)
      go zero (suc k) z = absurd (omega arith)
      go (suc n) k z = absurd (omega arith)

  -- Refused before the work, it leaves all.
  pub work_refused : first ≢ 0 → work_call ≡ refused_with first m (spare_room spares)
  work_refused = go first
    where
      go : (n : ℕ) → n ≢ 0
          → unless n m (spare_room spares) (all_or_nothing p.refusal p spares m) ≡ refused_with n m (spare_room spares)
      go zero x = absurd (x refl)
      go (suc n) x = refl

  -- Refused at all, it leaves the mesh, and spare tables that it worked in with what was made.
  pub work_refused_is : work_call.answer.refusal ≢ 0
      → work_call ≡ refused_work first p spares work_call.answer.refusal m
  work_refused_is = go first p.refusal
    where
      go : (n k : ℕ) →
          let o = unless n m (spare_room spares) (all_or_nothing k p spares m) in
          o.answer.refusal ≢ 0 → o ≡ refused_work n p spares o.answer.refusal m
      go zero zero x = absurd (x refl)
      go zero (suc k) x = refl
      go (suc n) k x = refl

  -- Once it works, the spare tables hold what was made.
  pub work_held : first ≡ 0 → work_call.room ≡ spare_room (copied p.work.mesh spares)
  work_held z = rw z (go p.refusal)
    where
      go : (n : ℕ) → (all_or_nothing n p spares m).room ≡ spare_room (copied p.work.mesh spares)
      go zero = refl
      go (suc n) = refl

  -- The mesh stands, or it is what was made.
  pub work_keeps : (P : Mesh → Type 0) → P m → (first ≡ 0 → P p.work.mesh) → P work_call.mesh
  work_keeps P q f = go first p.refusal f
    where
      go : (n k : ℕ) → (n ≡ 0 → P p.work.mesh)
          → P (unless n m (spare_room spares) (all_or_nothing k p spares m)).mesh
      go zero zero f = f refl
      go zero (suc k) f = q
      go (suc n) k f = q
