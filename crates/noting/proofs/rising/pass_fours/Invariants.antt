use Prim.Native.Nat.{◌+◌, ◌-◌, ◌<◌}
use mathlib.Core.Path.{◌≡◌}
use lib.ListN.{length, get_or}
use Rattle.noting.specs.Rising.{Passed}
use Rattle.noting.proofs.rising.pass_fours.Given as goal

abbrev pub invariant-loop-numbers : goal.invariant-loop-numbers
invariant-loop-numbers l =
    Passed l.initial.numbers l.from l.x l.at l.numbers × (get_or l.initial.numbers (l.at + 4) 0 < l.x) × (length l.numbers ≡ length l.initial.numbers)

abbrev pub decreases-loop-numbers : goal.decreases-loop-numbers
decreases-loop-numbers l =
    32 - l.at
