-- `tables::unlock_two` meets its contract.
use lib.ListN.{length-set}
use native.Mathlib.Omega.{arith}
use Rattle.tables.proofs.unlock_two.Goals as goal

pub bounds-locks-slot-2 : goal.bounds-locks-slot-2
bounds-locks-slot-2 c =
    simp length-set (omega arith)
