-- `batch_reports::refine_box` meets its contract.
use mathlib.Core.Path.{refl, ◌∙◌}
use Rattle.points.specs.Axes.{box_of}
use Rattle.tables.proofs.Refusing.{number_some}
use Rattle.lending.proofs.InSpares.{box_may_work}
use Rattle.lending.proofs.Reporting.{box_refused, box_carried}
use Rattle.lending.proofs.Seen.{by_seen}
use Rattle.batch_reports.proofs.refine_box.Goals as goal

pub returns-in-Err-clause-boxed : goal.returns-in-Err-clause-boxed
returns-in-Err-clause-boxed c =
    rw (c.refused.ensures, c.number.ensures)
    (box_refused _ _ c.args.report.now _ _ c.box_fits-fits.ensures
    (by_seen c.args.counts _ c.view-view.ensures.same c.view.ensures.same c.in-Err.ensures c.first_refusal-stands.ensures)
    (number_some _))

pub refine_box_reported-requires : goal.refine_box_reported-requires
refine_box_reported-requires c =
    box_may_work _ _ (box_of c.args.low c.args.high c.args.below) c.box_fits-fits.ensures _
    (by_seen c.args.counts _ c.view-view.ensures.same c.view.ensures.same c.in_default.ensures
    c.first_refusal-stands.ensures) refl

pub returns-clause-boxed : goal.returns-clause-boxed
returns-clause-boxed c =
    c.refine_box_reported.ensures.boxed
    ∙ box_carried _ _ c.args.report.now _ _ c.box_fits-fits.ensures
    (by_seen c.args.counts _ c.view-view.ensures.same c.view.ensures.same c.in_default.ensures
    c.first_refusal-stands.ensures) refl
