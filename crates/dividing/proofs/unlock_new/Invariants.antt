use mathlib.Core.Path.{◌≡◌}
use Rattle.theory.proofs.Steps.Closed.{unlocked_new}
use Rattle.dividing.proofs.unlock_new.Given as goal

abbrev pub invariant-loop-t : goal.invariant-loop-t
invariant-loop-t l =
    l.locks ≡ unlocked_new l.t l.f l.initial.locks
