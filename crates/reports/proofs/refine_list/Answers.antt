-- `reports::refine_list` meets its contract.
use mathlib.Core.Bool.{true}
use mathlib.Core.Path.{refl, ◌∙◌}
use Rattle.tables.proofs.Refusing.{number_some}
use Rattle.lending.proofs.InSpares.{may_work}
use Rattle.lending.proofs.Reporting.{list_refused, list_carried}
use Rattle.lending.proofs.Seen.{by_seen}
use Rattle.reports.proofs.refine_list.Goals as goal

pub returns-in-Err-clause-refined : goal.returns-in-Err-clause-refined
returns-in-Err-clause-refined c =
    rw (c.refused.ensures, c.number.ensures)
    (list_refused _ _ c.args.report.now _
    (by_seen c.args.counts true c.view-view.ensures.same c.view.ensures.same c.in-Err.ensures c.first_refusal-stands.ensures)
    _ (number_some _))

pub refine_list_reported-requires : goal.refine_list_reported-requires
refine_list_reported-requires c =
    may_work _ _ _
    (by_seen c.args.counts true c.view-view.ensures.same c.view.ensures.same c.in_default.ensures
    c.first_refusal-stands.ensures) refl

pub returns-clause-refined : goal.returns-clause-refined
returns-clause-refined c =
    c.refine_list_reported.ensures.refined
    ∙ list_carried _ _ c.args.report.now _
    (by_seen c.args.counts true c.view-view.ensures.same c.view.ensures.same c.in_default.ensures
    c.first_refusal-stands.ensures) _ refl
