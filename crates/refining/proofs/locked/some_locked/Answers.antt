-- `refining::locked::some_locked` meets its contract.
use mathlib.Core.Path.{sym}
use Rattle.theory.proofs.Numbers.Decide.{any_none, any_more}
use Rattle.refining.proofs.locked.some_locked.Goals as goal

pub loop-slot-init : goal.loop-slot-init
loop-slot-init c = sym (any_none _)

pub loop-slot-preserved : goal.loop-slot-preserved
loop-slot-preserved c = rw (any_more, c.loop-slot.invariant, c.is_locked-some.ensures)
