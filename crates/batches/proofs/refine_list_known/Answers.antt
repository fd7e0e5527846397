-- `batches::refine_list_known` meets its contract.
use mathlib.Core.Bool.{true}
use mathlib.Core.Path.{refl, ◌∙◌}
use Rattle.tables.proofs.Refusing.{number_some}
use Rattle.lending.proofs.InSpares.{may_work, list_refused, list_carried}
use Rattle.lending.proofs.Seen.{by_tables}
use Rattle.batches.proofs.refine_list_known.Goals as goal

pub returns-in-Err-clause-refined : goal.returns-in-Err-clause-refined
returns-in-Err-clause-refined c =
    rw (c.refused.ensures, c.number.ensures)
    (list_refused _ _ _
    (by_tables c.args.counts true c.view.ensures.same c.view-2.ensures.same c.in-Err.ensures c.requires) _ (number_some _))

pub refine_list-requires : goal.refine_list-requires
refine_list-requires c =
    may_work _ _ _
    (by_tables c.args.counts true c.view.ensures.same c.view-2.ensures.same c.in_default.ensures c.requires) refl

pub returns-clause-refined : goal.returns-clause-refined
returns-clause-refined c =
    c.refine_list.ensures.refined
    ∙ list_carried _ _ _
    (by_tables c.args.counts true c.view.ensures.same c.view-2.ensures.same c.in_default.ensures c.requires) _ refl
