-- `dividing::centre_in` meets its contract.
use mathlib.Core.Path.{◌≡◌, refl}
use native.Mathlib.Omega.{arith}
use Prim.Native.Nat.{ℕ, ◌+◌, ◌*◌}
use Rattle.points.specs.Axes.{each_axis, thirds}
use Rattle.points.specs.declared.Point.{Point}
use Rattle.rules.specs.Split.{centre}
use Rattle.rules.specs.Tables.{Mesh, origin}
use Rattle.tables.specs.Lent.{mesh_now, point_in}
use Rattle.dividing.proofs.centre_in.Goals as goal

centre_steps : (m : Mesh) (t : ℕ) (a b c r : Point) → a ≡ point_in m.positions (origin m.topology (3 * t))
    → b ≡ point_in m.positions (origin m.topology (3 * t + 1))
    → c ≡ point_in m.positions (origin m.topology (3 * t + 2)) → r ≡ thirds a b c → r ≡ each_axis (centre m t)
unfolding centre
centre_steps m t a b c r ea eb ec er = let z : 3 * t + 0 ≡ 3 * t = omega arith in rw (z, er, ec, eb, ea) refl

pub returns : goal.returns
returns c n l g k =
    centre_steps (mesh_now n c.args.positions.now c.args.corners.now l g k) c.args.t _ _ _ _
    c.point_in-a.ensures c.point_in-b.ensures c.point_in-c.ensures c.thirds.ensures
