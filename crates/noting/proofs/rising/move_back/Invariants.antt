use Prim.Native.Nat.{ℕ, ◌≤◌}
use mathlib.Core.List.{List}
use mathlib.Core.Path.{◌≡◌}
use lib.ListN.{length}
use Rattle.noting.specs.Rising.{Back}
use Rattle.noting.proofs.rising.move_back.Given as goal

abbrev pub invariant-loop-at : goal.invariant-loop-at
invariant-loop-at l =
    (l.at ≤ l.to) × (length l.numbers ≡ length l.initial.numbers) × ((k : List ℕ) → Back k l.from l.to l.initial.numbers → Back k l.from l.at l.numbers)

abbrev pub decreases-loop-at : goal.decreases-loop-at
decreases-loop-at l =
    l.at
