-- `reading::find_position` meets its contract.
use Rattle.std.proofs.Common.{ap}
use Rattle.tables.specs.Refusals.{refused}
use Rattle.reading.proofs.Refusing.{position_passed, position_carried, position_agrees}
use Rattle.reading.proofs.find_position.Goals as goal

pub returns-in_err-slot_refusal : goal.returns-in_err-slot_refusal
returns-in_err-slot_refusal c =
    position_passed _ _ _ c.in_err-slot_refusal.was c.from_residual.ensures.1
    (c.slot_refusal.ensures _ c.first_refusal-stands.ensures)

pub point_at-requires : goal.point_at-requires
point_at-requires c =
    let A =
    position_agrees c.args.v _ _ (c.slot_refusal.ensures _ c.first_refusal-stands.ensures)
    (ap refused c.in_ok-slot_refusal.was) in
    record { whole = A.positions; few = A.few_vertices }

pub returns : goal.returns
returns c =
    position_carried _ _ _ (c.slot_refusal.ensures _ c.first_refusal-stands.ensures)
    (ap refused c.in_ok-slot_refusal.was) c.point_at.ensures
