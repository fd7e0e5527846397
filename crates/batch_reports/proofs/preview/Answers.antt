-- `batch_reports::preview` meets its contract.
use mathlib.Core.Bool.{true}
use mathlib.Core.Path.{refl, ◌∙◌}
use Rattle.tables.proofs.Refusing.{number_some}
use Rattle.lending.proofs.InSpares.{may_work}
use Rattle.lending.proofs.Reporting.{preview_refused, preview_carried}
use Rattle.lending.proofs.Seen.{by_seen}
use Rattle.batch_reports.proofs.preview.Goals as goal

pub returns-in-Err-clause-foreseen : goal.returns-in-Err-clause-foreseen
returns-in-Err-clause-foreseen c =
    rw (c.refused.ensures, c.number.ensures)
    (preview_refused _ _ c.args.report.now _
    (by_seen c.args.counts true refl c.view.ensures.same c.in-Err.ensures c.first_refusal-stands.ensures) _ (number_some _))

pub preview_reported-requires : goal.preview_reported-requires
preview_reported-requires c =
    may_work _ _ _
    (by_seen c.args.counts true refl c.view.ensures.same c.in_default.ensures c.first_refusal-stands.ensures) refl

pub returns-clause-foreseen : goal.returns-clause-foreseen
returns-clause-foreseen c =
    c.preview_reported.ensures.foreseen
    ∙ preview_carried _ _ c.args.report.now _
    (by_seen c.args.counts true refl c.view.ensures.same c.in_default.ensures c.first_refusal-stands.ensures) _ refl
