-- What is proved of whole step. (Whole step)
use mathlib.Core.Path.{◌≡◌}
use Rattle.theory.proofs.Calls.Outcomes.{whole_step_makes}
use Rattle.rules.specs.Calls.{worked, whole_step_call}
use Rattle.rules.specs.Promises.{StepMakes}
use Rattle.rules.specs.Step.{whole_step}
use Rattle.rules.specs.Tables.{Mesh, generation}

-- A whole step that is carried out answers and leaves what `whole_step` makes.
pub whole_step_carried : (m : Mesh) → (whole_step_call m).answer.refusal ≡ 0
    → let w = whole_step m in
    (whole_step_call m ≡ worked w) × StepMakes (generation m.topology 0) m w
whole_step_carried = whole_step_makes
