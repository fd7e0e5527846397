use Prim.Native.Nat.{◌+◌, ◌*◌, ◌≤◌}
use mathlib.Core.Path.{◌≡◌}
use lib.ListN.{length}
use Rattle.noting.specs.Changed.{NearOne}
use Rattle.noting.specs.Rising.{Adds}
use Rattle.noting.proofs.changed.list_all.Given as goal

abbrev pub invariant-loop-x : goal.invariant-loop-x
invariant-loop-x l =
    Adds l.initial.slots l.from (NearOne l.links l.odd l.x-index) l.slots l.at
    × (l.from ≤ l.at + 2 * l.x-index) × (length l.slots ≡ length l.initial.slots)
