-- `boxing::refine_box_reported` meets its contract.
use mathlib.Core.Path.{◌≡◌, sym, ap, ◌∙◌}
use Prim.Native.Nat.{◌≤◌}
use native.Mathlib.Omega.{arith}
use Rattle.rules.specs.Calls.{Outcome}
use Rattle.rules.specs.Lists.{Progress, all_or_nothing}
use Rattle.rules.specs.Spares.{Spares}
use Rattle.rules.specs.Tables.{Mesh}
use Rattle.tables.specs.Lent.{held}
use Rattle.refining.specs.Batches.{Made, batch_outcome}
use Rattle.refining.specs.declared.spares.Batch.{Batch}
use Rattle.refining.proofs.Fitting.{few_answered, reported_is}
use Rattle.wanting.proofs.Begins.{box_going}
use Rattle.boxing.proofs.Seen.{fitted_of, left_of}
use Rattle.boxing.proofs.refine_box_reported.Goals as goal

-- The counts that are answered are small.
few : {p : Progress} {s : Spares} {m : Mesh} {r : Batch} {x : Mesh} {o : Outcome} → Made p s m r x
    → o ≡ all_or_nothing p.refusal p s m → (o.answer.splits ≤ 32768) × (o.answer.flips ≤ 98304)
few M e = few_answered M (ap (λ (o : Outcome). o.answer) e)

pub carry_back-done-requires : goal.carry_back-done-requires
carry_back-done-requires c = (
  _,
  _,
  fitted_of _ _ c.view.ensures.same c.args.report.now c.work_reported-made.result c.requires
      c.work_reported-made.ensures.boxed c.view-2.ensures.same,
)

pub overflow_mul-result : goal.overflow_mul-result
overflow_mul-result c =
    let M = fitted_of _ _ c.view.ensures.same c.args.report.now c.work_reported-made.result c.requires
    c.work_reported-made.ensures.boxed c.view-2.ensures.same in
    omega (arith, (few M (c.carry_back-done.ensures.carried _ _ M)).0)

pub overflow_mul-result-2 : goal.overflow_mul-result-2
overflow_mul-result-2 c =
    let M = fitted_of _ _ c.view.ensures.same c.args.report.now c.work_reported-made.result c.requires
    c.work_reported-made.ensures.boxed c.view-2.ensures.same in
    omega (arith, (few M (c.carry_back-done.ensures.carried _ _ M)).1)

pub overflow_add-result : goal.overflow_add-result
overflow_add-result c =
    let M = fitted_of _ _ c.view.ensures.same c.args.report.now c.work_reported-made.result c.requires
    c.work_reported-made.ensures.boxed c.view-2.ensures.same in
    omega (arith, few M (c.carry_back-done.ensures.carried _ _ M))

pub returns-clause-boxed : goal.returns-clause-boxed
returns-clause-boxed c =
    let M = fitted_of _ _ c.view.ensures.same c.args.report.now c.work_reported-made.result c.requires
    c.work_reported-made.ensures.boxed c.view-2.ensures.same in
    reported_is _ c.args.report.now _ (box_going _ c.requires)
    (left_of _ _ c.view.ensures.same _ c.work_reported-made.ensures.reported)
    (ap (λ (s : Spares). batch_outcome c.carry_back-done.result (held c.carry_back-done.new.tables) s)
    (sym c.view-2.ensures.same)
    ∙ c.carry_back-done.ensures.carried _ _ M)
