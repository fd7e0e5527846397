-- Arrays of rings of which nothing is known, of any size.
use Prim.Native.Nat.{ℕ, ◌≤◌}
use native.Mathlib.Omega.{arith}
use lib.ListN.{replicate, length-replicate, get_or-replicate}
use Rattle.rings.specs.Sums.{nothing, Cleared}

-- Room for k vertices is room for n of them.
pub cleared : (n k : ℕ) → n ≤ k → Cleared n (replicate k nothing)
cleared n k l =
    let e = length-replicate k nothing in
    record { size = omega arith; each = λ v b. get_or-replicate k v nothing nothing (omega arith) }
