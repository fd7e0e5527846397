use Prim.Native.Nat.{◌-◌}
use Rattle.rings.proofs.Walk.{OnWalk}
use Rattle.rings.proofs.walk_from.Given as goal

abbrev pub invariant-loop-k : goal.invariant-loop-k
invariant-loop-k l =
    OnWalk l.triangles l.links l.first l.n l.h

abbrev pub decreases-loop-k : goal.decreases-loop-k
decreases-loop-k l =
    l.triangles - l.n
