use Prim.Native.Nat.{◌+◌, ◌*◌}
use mathlib.Core.Path.{◌≡◌}
use Rattle.rules.specs.Below.{fill}
use Rattle.rules.specs.Numbers.{number_at}
use Rattle.decoding.proofs.decode.Given as goal

abbrev pub invariant-loop-i : goal.invariant-loop-i
invariant-loop-i l =
    l.corners ≡ fill l.i (λ k. number_at l.cage (l.from + 4 * k)) l.initial.corners
