use Prim.Native.Nat.{◌+◌}
use mathlib.Core.Path.{◌≡◌}
use lib.ListN.{length}
use Rattle.noting.specs.Rising.{Moved}
use Rattle.noting.proofs.rising.move_down.Given as goal

abbrev pub invariant-loop-i : goal.invariant-loop-i
invariant-loop-i g l =
    Moved l.initial.numbers l.at (l.at + l.i) l.numbers × (length l.numbers ≡ length l.initial.numbers)
