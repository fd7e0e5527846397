-- `undoing::trying::accepts_by` meets its contract.
use Rattle.undoing.proofs.CutTables.{copy_restored}
use Rattle.undoing.proofs.Trials.{tried}
use Rattle.undoing.proofs.trying.accepts_by.Goals as goal

pub returns-clause-accepted : goal.returns-clause-accepted
returns-clause-accepted c =
    tried _ _ c.if-counts-note.false c.if-counts-note-2.false
    (copy_restored _ _ c.requires.sound c.requires.just_slots c.copy_mesh.ensures.copied _ c.put_back_all.ensures.put)
    c.refines_to.ensures.refined
