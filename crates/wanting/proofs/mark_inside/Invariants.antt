use Prim.Native.Nat.{◌≤◌, ◌<◌}
use Rattle.wanting.specs.Wanting.{SeenFrom}
use Rattle.wanting.proofs.mark_inside.Given as goal

abbrev pub invariant-loop-v : goal.invariant-loop-v
invariant-loop-v l =
    (l.from ≤ l.v)
    × (l.vertices < l.v → l.v ≤ l.from)
    × SeenFrom l.from l.v l.low l.high l.positions l.initial.inside l.inside
