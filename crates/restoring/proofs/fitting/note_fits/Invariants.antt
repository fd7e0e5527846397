use mathlib.Core.Bool.{true}
use mathlib.Core.Path.{◌≡◌}
use Rattle.rules.specs.Below.{all}
use Rattle.restoring.specs.Fitting.{slot_fits}
use Rattle.restoring.proofs.fitting.note_fits.Given as goal

abbrev pub invariant-loop-i : goal.invariant-loop-i
invariant-loop-i l = all l.i (slot_fits l.note) ≡ true
