-- `undoing::check_note` meets its contract.
use mathlib.Core.Path.{ap, ◌∙◌}
use Rattle.tables.proofs.Refusing.{refused_some, passed_on}
use Rattle.tables.proofs.Standing.{standing_sound}
use Rattle.tables.specs.Refusals.{refused}
use Rattle.undoing.proofs.TakingBack.{refused_standing, refused_by_note}
use Rattle.undoing.proofs.check_note.Goals as goal

pub returns-in_err-stands : goal.returns-in_err-stands
returns-in_err-stands c =
    passed_on _ c.in_err-stands.was c.from_residual.ensures.1
    ∙ refused_standing _ _ _ c.requires (refused_some c.in_err-stands.was)

pub is_accepted-requires : goal.is_accepted-requires
is_accepted-requires c = standing_sound _ _ c.requires (ap refused c.in_ok-stands.was)

pub returns-then-not-is_accepted : goal.returns-then-not-is_accepted
returns-then-not-is_accepted c =
    rw c.if-not-is_accepted.true at
    (refused_by_note _ _ _ c.requires (ap refused c.in_ok-stands.was) c.is_accepted.ensures)

pub returns : goal.returns
returns c =
    rw c.if-not-is_accepted.false at
    (refused_by_note _ _ _ c.requires (ap refused c.in_ok-stands.was) c.is_accepted.ensures)
