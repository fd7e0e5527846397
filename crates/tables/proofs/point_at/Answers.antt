-- `tables::point_at` meets its contract.
use borrow.Author.Rules.{sfits_of}
use Prim.Native.Nat.{ℕ, ◌+◌, ◌*◌}
use native.Mathlib.Nat.{add-zero}
use native.Mathlib.Omega.{arith}
use mathlib.Core.Path.{◌≡◌}
use lib.IntN.{pos}
use lib.ListN.{get_or, get_or-eq_default}
use mir.Facts.{to_z-of_z}
use Rattle.tables.proofs.point_at.Goals as goal

pub returns-then-i-positions : goal.returns-then-i-positions
returns-then-i-positions c =
    rw (add-zero, to_z-of_z (sfits_of c.result-1.given), to_z-of_z (sfits_of c.result-then-i-positions-1.given), to_z-of_z (sfits_of c.result-then-i-positions-2-1.given))

pub returns-else-i-positions : goal.returns-else-i-positions
returns-else-i-positions c =
    let past : (k : ℕ) → get_or c.args.positions.now (3 * c.args.v + k) (pos 0) ≡ pos 0 = λ k. get_or-eq_default c.args.positions.now (pos 0) (omega (arith, c.if-i-positions.false)) in
    rw (past 0, past 1, past 2)
