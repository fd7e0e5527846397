use Prim.Native.Nat.{◌*◌}
use Rattle.rings.specs.Walks.{AllBegun}
use Rattle.pairing.proofs.fans.begin_at_boundary.Given as goal

abbrev pub invariant-loop-h : goal.invariant-loop-h
invariant-loop-h l = AllBegun l.vertices l.corners l.links (3 * l.triangles) l.h l.heads
