use Prim.Native.Nat.{◌*◌}
use Rattle.rings.specs.Sums.{Summed}
use Rattle.rings.proofs.sums.ring_sums.Given as goal

abbrev pub invariant-loop-t : goal.invariant-loop-t
invariant-loop-t l =
    Summed (3 * l.t) l.counts.vertices l.positions l.corners l.rings
