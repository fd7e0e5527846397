-- Working room for a cage whose sizes fit.
use Prim.Native.Nat.{ℕ, ◌*◌, ◌≤◌}
use native.Mathlib.Omega.{arith}
use lib.ListN.{replicate, length-replicate}
use Rattle.sides.proofs.Starts.{zeroed}
use Rattle.judging.specs.Loading.{WorkingRoom}

-- Zeros for the sides and the vertices of a cage of at most k vertices and n sides.
pub room_within : {v f k n : ℕ} → v ≤ k → 3 * f ≤ n
    → WorkingRoom v f (replicate n 0) (replicate n 0) (replicate k 0) (replicate n 0) (replicate k 0)
room_within {k = k} {n = n} l m =
    let e = length-replicate {A = ℕ} n 0 in
    record {
      origin_room = omega arith;
      partner_room = omega arith;
      head_room = zeroed k _ l;
      next_room = omega arith;
      slot_room = zeroed k _ l;
    }
