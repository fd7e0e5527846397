-- `undoing::is_accepted` meets its contract.
use mathlib.Core.Path.{sym, ◌∙◌}
use Rattle.std.proofs.Common.{rules}
use Rattle.theory.proofs.Numbers.Decide.{when_true}
use Rattle.restoring.proofs.NoteTests.{note_fits_is}
use Rattle.undoing.proofs.AcceptedCut.{accepted_tried}
use Rattle.undoing.proofs.is_accepted.Goals as goal

pub accepts-requires-clause-note_fits : goal.accepts-requires-clause-note_fits
accepts-requires-clause-note_fits c =
    when_true (note_fits_is c.args.note.now) (sym c.note_fits.ensures ∙ c.if-note_fits.true)

pub returns-then-note_fits : goal.returns-then-note_fits
returns-then-note_fits c = rw (accepted_tried c.args.note.now _ c.requires) (search rules)

pub returns-else-note_fits : goal.returns-else-note_fits
returns-else-note_fits c = rw (accepted_tried c.args.note.now _ c.requires) (search rules)
