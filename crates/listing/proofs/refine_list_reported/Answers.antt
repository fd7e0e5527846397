-- `listing::refine_list_reported` meets its contract.
use mathlib.Core.Path.{◌≡◌, ap, subst}
use Prim.Native.Nat.{◌≤◌}
use native.Mathlib.Omega.{arith}
use Rattle.rules.specs.Calls.{Outcome}
use Rattle.rules.specs.Lists.{refine_each}
use Rattle.rules.specs.Spares.{Spares}
use Rattle.tables.specs.Lent.{mesh_with, held, seen}
use Rattle.refining.specs.Batches.{Made, fitted, report_left}
use Rattle.refining.proofs.Batching.{list_going}
use Rattle.refining.proofs.Fitting.{few_answered, reported_is}
use Rattle.listing.proofs.Seen.{fitted_seen}
use Rattle.listing.proofs.refine_list_reported.Goals.{After-view-2, After-carry_back-done}
use Rattle.listing.proofs.refine_list_reported.Goals as goal

made : (c : After-view-2) →
    let m = mesh_with c.args.counts (held c.args.tables.now) in
    Made (fitted (refine_each c.args.list.now m) c.args.report.now) (held c.args.spares.now) m
    c.work_reported-made.result (mesh_with c.work_reported-made.result.counts (seen c.view-2.result))
made c =
    fitted_seen c.args.list.now c.args.counts c.work_reported-made.result c.view.ensures.same c.view-2.ensures.same
    c.requires c.args.report.now c.work_reported-made.ensures.worked.0

few : (c : After-carry_back-done)
    → (c.carry_back-done.result.splits ≤ 32768) × (c.carry_back-done.result.flips ≤ 98304)
few c =
    let M =
    fitted_seen c.args.list.now c.args.counts c.work_reported-made.result c.view.ensures.same c.view-2.ensures.same
    c.requires c.args.report.now c.work_reported-made.ensures.worked.0 in
    few_answered M (ap (λ (o : Outcome). o.answer) (c.carry_back-done.ensures.carried _ _ M))

pub carry_back-done-requires : goal.carry_back-done-requires
carry_back-done-requires c = (_, _, made (goal.at.carry_back-done-requires c).After-view-2)

pub overflow_mul-result : goal.overflow_mul-result
overflow_mul-result c = omega (arith, (few (goal.at.overflow_mul-result c).After-carry_back-done).0)

pub overflow_mul-result-2 : goal.overflow_mul-result-2
overflow_mul-result-2 c = omega (arith, (few (goal.at.overflow_mul-result-2 c).After-carry_back-done).1)

pub overflow_add-result : goal.overflow_add-result
overflow_add-result c =
    let (i, j) = few (goal.at.overflow_add-result c).After-carry_back-done in
    omega arith

pub returns-clause-refined : goal.returns-clause-refined
returns-clause-refined c =
    let m = mesh_with c.args.counts (held c.args.tables.now) in
    let told =
    subst (λ (v : Spares). c.work_reported-made.new.report
    ≡ report_left (refine_each c.args.list.now (mesh_with c.args.counts v)) c.args.report.now) c.view.ensures.same
    c.work_reported-made.ensures.worked.1 in
    let carried =
    rw c.view-2.ensures.same at
    (c.carry_back-done.ensures.carried _ _ (made (goal.at.returns-clause-refined c).After-view-2)) in
    reported_is (refine_each c.args.list.now m) c.args.report.now (held c.args.spares.now)
    (list_going c.args.list.now c.requires) told carried
