-- What the tests of a sound mesh tell, for the whole step and for limit positions.
use native.Mathlib.Omega.{arith}
use mathlib.Core.Bool.{Bool, true, false, not}
use mathlib.Core.List.{List}
use mathlib.Core.Path.{◌≡◌, refl}
use Rattle.theory.proofs.Calls.CallRefusals.{closed_even_is, long_ring_is}
use Rattle.theory.proofs.Numbers.Decide.{is_true, is_false, is_same, when_true}
use Rattle.rules.specs.Calls.{closed_even, long_ring}
use Rattle.rules.specs.Sound.{Sound}
use Rattle.rules.specs.Tables.{Mesh}
use Rattle.rings.specs.Sums.{Closed, RingsAdded}
use Rattle.rings.specs.declared.sums.RingSum.{RingSum}

pub closed_of : {m : Mesh} → Sound m → closed_even m.topology ≡ true → Closed m
closed_of {m} S e =
    record { sound = S; inner = (when_true (closed_even_is m.topology S.some_triangle) e).closed }

-- The answer of the ring sums tells whether a ring is too long.
pub rings_tell : {m : Mesh} {rings : List RingSum} (r : Bool) → RingsAdded m rings r
    → not r ≡ long_ring m.topology
rings_tell {m} true A =
    let S = A.whole refl in
    is_same (is_false (λ (v, b, l). omega (arith, S.long v b, S.few v b))) (long_ring_is m.topology)
rings_tell {m} false A = is_same (is_true (A.crowded refl)) (long_ring_is m.topology)
