-- `boxes::refine_box_known` meets its contract.
use mathlib.Core.Path.{refl, ◌∙◌}
use Rattle.points.specs.Axes.{box_of}
use Rattle.tables.proofs.Refusing.{number_some}
use Rattle.lending.proofs.InSpares.{box_may_work}
use Rattle.lending.proofs.Seen.{by_tables}
use Rattle.boxes.proofs.BoxCalls.{box_refused, box_carried}
use Rattle.boxes.proofs.refine_box_known.Goals as goal

pub returns-in-Err-clause-boxed : goal.returns-in-Err-clause-boxed
returns-in-Err-clause-boxed c =
    rw (c.refused.ensures, c.number.ensures)
    (box_refused _ _ _ c.box_fits-fits.ensures _
    (by_tables c.args.counts _ c.view.ensures.same c.view-2.ensures.same c.in-Err.ensures c.requires) (number_some _))

pub refine_box-requires : goal.refine_box-requires
refine_box-requires c =
    box_may_work _ _ (box_of c.args.low c.args.high c.args.below) c.box_fits-fits.ensures _
    (by_tables c.args.counts _ c.view.ensures.same c.view-2.ensures.same c.in_default.ensures c.requires) refl

pub returns-clause-boxed : goal.returns-clause-boxed
returns-clause-boxed c =
    c.refine_box.ensures.boxed
    ∙ box_carried _ _ _ c.box_fits-fits.ensures _
    (by_tables c.args.counts _ c.view.ensures.same c.view-2.ensures.same c.in_default.ensures c.requires) refl
