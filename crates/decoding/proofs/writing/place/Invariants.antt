use Prim.Native.Nat.{◌+◌, ◌*◌}
use mathlib.Core.Path.{◌≡◌}
use Rattle.rules.specs.Below.{fill}
use Rattle.rules.specs.Numbers.{number_at, signed}
use Rattle.decoding.proofs.writing.place.Given as goal

abbrev pub invariant-loop-i : goal.invariant-loop-i
invariant-loop-i l =
    l.positions ≡ fill l.i (λ k. signed (number_at l.cage (8 + 4 * k))) l.initial.positions
