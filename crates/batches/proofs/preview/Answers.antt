-- `batches::preview` meets its contract.
use mathlib.Core.Bool.{true}
use mathlib.Core.Path.{refl, ◌∙◌}
use Rattle.tables.proofs.Refusing.{number_some}
use Rattle.lending.proofs.InSpares.{may_work, preview_refused, preview_carried}
use Rattle.lending.proofs.Seen.{by_seen}
use Rattle.batches.proofs.preview.Goals as goal

pub returns-in-Err-clause-foreseen : goal.returns-in-Err-clause-foreseen
returns-in-Err-clause-foreseen c =
    rw (c.refused.ensures, c.number.ensures)
    (preview_refused _ _ _
    (by_seen c.args.counts true refl c.view.ensures.same c.in-Err.ensures c.first_refusal-stands.ensures) _ (number_some _))

pub preview-requires : goal.preview-requires
preview-requires c =
    may_work _ _ _
    (by_seen c.args.counts true refl c.view.ensures.same c.in_default.ensures c.first_refusal-stands.ensures) refl

pub returns-clause-foreseen : goal.returns-clause-foreseen
returns-clause-foreseen c =
    c.preview.ensures.foreseen
    ∙ preview_carried _ _ _
    (by_seen c.args.counts true refl c.view.ensures.same c.in_default.ensures c.first_refusal-stands.ensures) _ refl
