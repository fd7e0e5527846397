use Prim.Native.Nat.{◌+◌, ◌*◌}
use mathlib.Core.Path.{◌≡◌}
use Rattle.rules.specs.Below.{all}
use Rattle.rules.specs.Numbers.{number_at, signed, in_range}
use Rattle.decoding.proofs.coordinates_fit.Given as goal

abbrev pub invariant-loop-i : goal.invariant-loop-i
invariant-loop-i l =
    l.fit ≡ all l.i (λ k. in_range (signed (number_at l.cage (8 + 4 * k))))
