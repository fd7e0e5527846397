-- `moving::move_all` meets its contract: when a vertex is moved, it stands where it stood.
use Prim.Native.Nat.{ℕ, ◌+◌, ◌*◌, ◌<◌}
use native.Mathlib.Numerals.{add-one}
use native.Mathlib.Omega.{arith}
use mathlib.Core.List.{List}
use mathlib.Core.Path.{◌≡◌, refl}
use lib.IntN.{ℤ, pos}
use lib.ListN.{get_or}
use Rattle.points.specs.Axes.{coordinate, moved_point}
use Rattle.points.specs.declared.Point.{Point}
use Rattle.theory.proofs.Steps.StepPositions.{move_else, move_next}
use Rattle.rules.specs.Numbers.{moved}
use Rattle.rules.specs.Step.{moved_coordinate, move_vertices}
use Rattle.rules.specs.Tables.{Mesh}
use Rattle.tables.specs.Lent.{point_in, put_point}
use Rattle.rings.specs.Sums.{nothing}
use Rattle.rings.specs.declared.sums.RingSum.{RingSum}
use Rattle.moving.specs.Moves.{Movable}
use Rattle.moving.proofs.move_all.Goals as goal

-- The next vertex moved, v.
module _ {n rule v : ℕ} {m : Mesh} {positions : List ℤ} {rings : List RingSum}
    (M : Movable n rule m positions rings) (b : v < n) where
  -- Its ring.
  abbrev ring : RingSum
  ring = get_or rings v nothing

  goes_to : (k : ℕ) → k < 3
      → moved rule ring.length (get_or (move_vertices v m positions) (3 * v + k) (pos 0)) (coordinate ring.sum k)
      ≡ moved_coordinate m v k
  unfolding moved_coordinate
  goes_to k i =
      let R = M.summed in
      let u : v < m.topology.vertices = omega (arith, M.all) in
      let e = move_else v m positions (3 * v + k) (omega arith) in
      rw (e, M.rule, M.old (3 * v + k) (omega arith), R.long v u, R.sum v k u i, moved_coordinate)

  one_moved : (p q : Point) {l l' : List ℤ} → l ≡ move_vertices v m positions
      → p ≡ point_in l v → q ≡ moved_point rule ring.length p ring.sum → l' ≡ put_point v q l
      → l' ≡ move_vertices (v + 1) m positions
  one_moved p q el ep eq put =
      let x = goes_to 0 (omega arith) in
      let y = goes_to 1 (omega arith) in
      let z = goes_to 2 (omega arith) in
      rw (add-one v, move_next, put, eq, ep, el, x, y, z)

pub loop-v-init : goal.loop-v-init
unfolding move_vertices
loop-v-init c = λ m M. refl

pub loop-v-preserved : goal.loop-v-preserved
loop-v-preserved c = λ m M.
    one_moved M c.loop-v-test.true _ _ (c.loop-v.invariant m M) c.point_in-p.ensures c.moved.ensures
    c.store_point.ensures
