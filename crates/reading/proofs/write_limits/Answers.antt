-- `reading::write_limits` meets its contract.
use Rattle.std.proofs.Common.{ap}
use Rattle.theory.proofs.Steps.StepRefusals.{limit_refused}
use Rattle.tables.specs.Refusals.{refused}
use Rattle.tables.proofs.Refusing.{refused_some, passed_on}
use Rattle.tables.proofs.Standing.{standing_sound}
use Rattle.reading.proofs.Refusing.{limit_standing}
use Rattle.reading.proofs.write_limits.Goals as goal

pub returns-in_err-first_refusal : goal.returns-in_err-first_refusal
returns-in_err-first_refusal c =
    let some = refused_some c.in_err-first_refusal.was in
    rw (passed_on c.from_residual.result c.in_err-first_refusal.was c.from_residual.ensures.1)
    (limit_refused _ _ _ (limit_standing _ _ _ c.first_refusal.ensures some) some)

pub limit_positions-requires : goal.limit_positions-requires
limit_positions-requires c =
    (_, standing_sound _ _ c.first_refusal.ensures (ap refused c.in_ok-first_refusal.was))

pub returns : goal.returns
returns c =
    c.limit_positions.ensures _ (standing_sound _ _ c.first_refusal.ensures (ap refused c.in_ok-first_refusal.was))
