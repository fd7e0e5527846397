-- `step::step_by` meets its contract: what is refused on the view is refused on the tables.
use mathlib.Core.Path.{sym, ap, ◌∙◌, refl, subst}
use Rattle.theory.proofs.Calls.Carried.{step_found}
use Rattle.theory.proofs.Steps.StepRefusals.{step_refused, step_carried}
use Rattle.rules.specs.Calls.{whole_step_refusal}
use Rattle.rules.specs.Spares.{Spares}
use Rattle.rings.specs.Sums.{RingSums}
use Rattle.tables.specs.Lent.{mesh_with}
use Rattle.tables.proofs.Refusing.{number_some}
use Rattle.step.proofs.step_by.Goals as goal

pub whole_step-requires : goal.whole_step-requires
whole_step-requires c =
    let same = ap (λ (s : Spares). whole_step_refusal (mesh_with c.args.counts s)) c.view.ensures.same in
    let P : Spares → Type 0 = λ s. RingSums (mesh_with c.args.counts s) c.refusal.new.rings in
    let told = c.in-Ok.ensures in
    (step_found _ (sym (told.0 ∙ same)), subst P c.view.ensures.same (told.1 refl))

pub returns-in-Err-clause-stepped : goal.returns-in-Err-clause-stepped
returns-in-Err-clause-stepped c =
    let same = ap (λ (s : Spares). whole_step_refusal (mesh_with c.args.counts s)) c.view.ensures.same in
    let told = c.in-Err.ensures in
    rw c.refused.ensures (step_refused _ _ (told.0 ∙ same) (number_some c.in-Err.refusal))

pub returns-in-Ok-clause-stepped : goal.returns-in-Ok-clause-stepped
returns-in-Ok-clause-stepped c =
    let same = ap (λ (s : Spares). whole_step_refusal (mesh_with c.args.counts s)) c.view.ensures.same in
    let told = c.in-Ok.ensures in
    c.whole_step.ensures.stepped ∙ step_carried _ (told.0 ∙ same)
