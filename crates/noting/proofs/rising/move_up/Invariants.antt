use Prim.Native.Nat.{ℕ, ◌-◌}
use mathlib.Core.List.{List}
use mathlib.Core.Path.{◌≡◌}
use lib.ListN.{length}
use Rattle.noting.specs.Rising.{Back}
use Rattle.noting.proofs.rising.move_up.Given as goal

abbrev pub invariant-loop-i : goal.invariant-loop-i
invariant-loop-i g l =
    ((k : List ℕ) (from : ℕ) → Back k from l.at l.initial.numbers → Back k from (l.at - l.i) l.numbers)
    × (length l.numbers ≡ length l.initial.numbers)
