-- `restoring::fitting::note_fits` meets its contract.
use Rattle.std.proofs.Common.{◌≡◌, false, refl, rules}
use Rattle.theory.proofs.Numbers.Decide.{all_more, all_fails}
use Rattle.rules.specs.Below.{all}
use Rattle.rules.specs.Notes.{note_slots}
use Rattle.restoring.specs.Fitting.{slot_fits, note_fits}
use Rattle.restoring.proofs.fitting.note_fits.Goals as goal

pub loop-i-init : goal.loop-i-init
unfolding all
loop-i-init c = refl

pub returns-then-not-slot_fits : goal.returns-then-not-slot_fits
unfolding note_fits
returns-then-not-slot_fits c =
    let unfit : all (note_slots c.args.note.now) (slot_fits c.args.note.now) ≡ false
    = all_fails _ c.loop-i.i _ c.loop-i-test.true (search rules) in
    search rules

pub loop-i-preserved : goal.loop-i-preserved
loop-i-preserved c = all_more _ _ c.loop-i.invariant (search rules)
