-- `mesh::whole_step_known` meets its contract.
use mathlib.Core.Path.{sym, ap, ◌∙◌}
use Rattle.theory.proofs.Steps.StepRefusals.{step_refused}
use Rattle.mesh.proofs.Refusing.{step_standing}
use Rattle.tables.specs.Refusals.{refused}
use Rattle.tables.proofs.Standing.{standing_sound}
use Rattle.tables.proofs.Refusing.{number_some}
use Rattle.mesh.proofs.whole_step_known.Goals as goal

pub smoothing_step-requires : goal.smoothing_step-requires
smoothing_step-requires c = standing_sound _ _ c.requires (ap refused c.in-Ok.is)

pub returns-in-Err-clause-stepped : goal.returns-in-Err-clause-stepped
returns-in-Err-clause-stepped c =
    let some = number_some c.in-Err.refusal in
    rw c.refused.ensures (step_refused _ _ (step_standing _ _ (sym (ap refused c.in-Err.is) ∙ c.requires) some) some)
