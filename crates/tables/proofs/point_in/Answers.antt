-- `tables::point_in` meets its contract.
use Prim.Native.Nat.{ℕ, ◌+◌, ◌*◌}
use native.Mathlib.Omega.{arith}
use mathlib.Core.Path.{◌≡◌, refl, ◌∙◌}
use lib.IntN.{ℤ, pos}
use lib.ListN.{get_or}
use mir.Syntax.{w32}
use Rattle.points.proofs.Signed.{returned}
use Rattle.tables.proofs.point_in.Goals as goal

pub returns : goal.returns
returns c =
    let i = 3 * c.args.v in
    let number : ℕ → ℤ = λ k. get_or c.args.table.now k (pos 0) in
    let first : i + 0 ≡ i = omega arith in
    let x = returned w32 {r = number i} c.new-arg-1.given refl in
    let y = returned w32 {r = number (i + 1)} c.new-arg-2-1.given refl in
    let z = returned w32 {r = number (i + 2)} c.new-arg-3-1.given refl in
    c.new.ensures ∙ rw (first, x, y, z)
