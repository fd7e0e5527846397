use Prim.Native.Nat.{◌*◌}
use mathlib.Core.Path.{◌≡◌}
use Rattle.rules.specs.Below.{all}
use Rattle.decoding.specs.Decoded.{corner_fits}
use Rattle.decoding.proofs.corners_fit.Given as goal

abbrev pub invariant-loop-t : goal.invariant-loop-t
invariant-loop-t l =
    l.fit ≡ all (3 * l.t) (corner_fits l.vertices l.corners)
