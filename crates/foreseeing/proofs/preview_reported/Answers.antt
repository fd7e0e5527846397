-- `foreseeing::preview_reported` meets its contract.
use mathlib.Core.List.{List}
use mathlib.Core.Path.{◌≡◌, ap}
use Prim.Native.Nat.{ℕ, ◌≤◌}
use native.Mathlib.Omega.{arith}
use Rattle.rules.specs.Calls.{Outcome}
use Rattle.rules.specs.Lists.{Progress, refine_each, all_or_nothing}
use Rattle.rules.specs.Spares.{Spares}
use Rattle.rules.specs.Tables.{Mesh}
use Rattle.refining.specs.Batches.{Made, MayWork, Holds, only_read, fitted}
use Rattle.refining.specs.declared.spares.Batch.{Batch}
use Rattle.refining.proofs.Batching.{list_going}
use Rattle.refining.proofs.Fitting.{fitted_made, few_answered, foreseen_reported}
use Rattle.foreseeing.proofs.Foreseeing.{foreseen_is}
use Rattle.foreseeing.proofs.preview_reported.Goals as goal

-- What was made.
made : (list buffer : List ℕ) {m : Mesh} {s : Spares} (r : Batch) {x : Mesh} → MayWork m s
    → Holds (fitted (refine_each list m) buffer) s r x → Made (fitted (refine_each list m) buffer) s m r x
made list buffer {m} r W H = fitted_made (refine_each list m) buffer W.sizes (list_going list W) H

-- The counts that are foreseen are small.
few : {p : Progress} {s : Spares} {m : Mesh} {r : Batch} {x : Mesh} {o : Outcome} → Made p s m r x
    → o ≡ only_read m (all_or_nothing p.refusal p s m) → (o.answer.splits ≤ 32768) × (o.answer.flips ≤ 98304)
few M e = few_answered M (ap (λ (o : Outcome). o.answer) e)

pub overflow_mul-result : goal.overflow_mul-result
overflow_mul-result c =
    let M = made _ c.args.report.now c.work_reported-made.result c.requires c.work_reported-made.ensures.worked.0 in
    omega (arith, (few M (foreseen_is c.args.counts c.work_reported-made.result c.foresee-foreseen.ensures M)).0)

pub overflow_mul-result-2 : goal.overflow_mul-result-2
overflow_mul-result-2 c =
    let M = made _ c.args.report.now c.work_reported-made.result c.requires c.work_reported-made.ensures.worked.0 in
    omega (arith, (few M (foreseen_is c.args.counts c.work_reported-made.result c.foresee-foreseen.ensures M)).1)

pub overflow_add-result : goal.overflow_add-result
overflow_add-result c =
    let M = made _ c.args.report.now c.work_reported-made.result c.requires c.work_reported-made.ensures.worked.0 in
    omega (arith, few M (foreseen_is c.args.counts c.work_reported-made.result c.foresee-foreseen.ensures M))

pub returns-clause-foreseen : goal.returns-clause-foreseen
returns-clause-foreseen c =
    let M = made _ c.args.report.now c.work_reported-made.result c.requires c.work_reported-made.ensures.worked.0 in
    foreseen_reported _ c.args.report.now _ (list_going c.args.list.now c.requires)
    c.work_reported-made.ensures.worked.1
    (foreseen_is c.args.counts c.work_reported-made.result c.foresee-foreseen.ensures M)
