-- `undoing::trying::refines_to` meets its contract.
use mathlib.Core.Bool.{Bool}
use mathlib.Core.Path.{◌≡◌, sym, ap, ◌∙◌}
use Rattle.std.specs.Prelude.{Ok, Err}
use Rattle.rules.specs.Calls.{Outcome}
use Rattle.rules.specs.Notes.{same_in_use}
use Rattle.rules.specs.Sound.{is_sound}
use Rattle.rules.specs.Spares.{Spares}
use Rattle.rules.specs.Tables.{Mesh}
use Rattle.tables.proofs.Refusing.{number_some}
use Rattle.tables.specs.declared.Counts.{Counts}
use Rattle.tables.specs.Lent.{mesh_with}
use Rattle.refining.proofs.Refusing.{finds_goes, found_seen}
use Rattle.undoing.proofs.Trials.{old_stands, not_refined, refined_compared}
use Rattle.undoing.proofs.trying.refines_to.Goals as goal

-- What was found by what was seen holds of the tables.
sound_by_tables : (n : Counts) {s t : Spares} {r : Bool} → r ≡ is_sound (mesh_with n s) → s ≡ t
    → r ≡ is_sound (mesh_with n t)
sound_by_tables n e q = e ∙ ap (λ (s : Spares). is_sound (mesh_with n s)) q

same_by_tables : (m : Mesh) (n : Counts) {s t : Spares} {r : Bool} → r ≡ same_in_use m (mesh_with n s) → s ≡ t
    → r ≡ same_in_use m (mesh_with n t)
same_by_tables m n e q = e ∙ ap (λ (s : Spares). same_in_use m (mesh_with n s)) q

pub find-requires : goal.find-requires
find-requires c = (c.view-before.result.corners.now, old_stands _ c.is_sound.ensures c.if-not-is_sound.false)

pub returns-in_default-clause-refined : goal.returns-in_default-clause-refined
returns-in_default-clause-refined c =
    let sound = sound_by_tables _ c.is_sound.ensures c.view-before.ensures.same in
    not_refined _ _ _ sound c.if-not-is_sound.false
    (found_seen c.args.tried c.view-before.ensures.same c.args.t (Err c.in_default.field-0) c.in_default.ensures
    (old_stands _ sound c.if-not-is_sound.false)).0
    (number_some _)

pub carry_out-made-requires : goal.carry_out-made-requires
carry_out-made-requires c =
    let sound = sound_by_tables _ c.is_sound.ensures c.view-before.ensures.same in
    finds_goes (found_seen c.args.tried c.view-before.ensures.same c.args.t (Ok c.in-Ok.chain) c.in-Ok.ensures
    (old_stands _ sound c.if-not-is_sound.false))

pub returns-clause-refined : goal.returns-clause-refined
returns-clause-refined c =
    let sound = sound_by_tables _ c.is_sound.ensures c.view-before.ensures.same in
    let found = found_seen c.args.tried c.view-before.ensures.same c.args.t (Ok c.in-Ok.chain) c.in-Ok.ensures
    (old_stands _ sound c.if-not-is_sound.false) in
    refined_compared _ _ _ sound c.if-not-is_sound.false
    (sym found.0) (ap (λ (o : Outcome). o.mesh) c.carry_out-made.ensures.refined)
    (same_by_tables _ _ c.same_in_use.ensures c.view.ensures.same)
