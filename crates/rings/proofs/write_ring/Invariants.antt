use Prim.Native.Nat.{◌-◌}
use Rattle.rings.proofs.Walk.{OnWalk}
use Rattle.rings.proofs.Buffer.{Written}
use Rattle.rings.proofs.write_ring.Given as goal

abbrev pub invariant-loop-buffer : goal.invariant-loop-buffer
invariant-loop-buffer l =
    OnWalk l.triangles l.links l.first l.n l.h × Written l.triangles l.corners l.links l.first l.initial.buffer l.buffer l.n

abbrev pub decreases-loop-buffer : goal.decreases-loop-buffer
decreases-loop-buffer l =
    l.triangles - l.n
