-- `limits::write_all` meets its contract.
use Prim.Native.Nat.{ℕ, ◌+◌, ◌*◌, ◌/◌, ◌%◌, ◌<◌}
use native.Mathlib.Omega.{arith}
use mathlib.Core.List.{List}
use mathlib.Core.Path.{◌≡◌, refl}
use lib.IntN.{ℤ, pos}
use lib.ListN.{get_or}
use Rattle.points.specs.Axes.{coordinate, limit_point}
use Rattle.points.specs.declared.Point.{Point}
use Rattle.theory.proofs.Numbers.Fill.{fill_three}
use Rattle.rules.specs.Below.{fill}
use Rattle.rules.specs.Numbers.{limit}
use Rattle.rules.specs.Step.{limit_coordinate, limit_positions}
use Rattle.rules.specs.Tables.{Mesh}
use Rattle.tables.specs.Lent.{point_in, put_point}
use Rattle.rings.specs.Sums.{nothing}
use Rattle.rings.specs.declared.sums.RingSum.{RingSum}
use Rattle.moving.specs.Moves.{Movable}
use Rattle.limits.proofs.write_all.Invariants.{limit_at}
use Rattle.limits.proofs.write_all.Goals as goal

-- The next vertex, v.
module _ {n rule v : ℕ} {m : Mesh} {positions : List ℤ} {rings : List RingSum}
    (M : Movable n rule m positions rings) (b : v < n) where
  -- Its ring.
  abbrev ring : RingSum
  ring = get_or rings v nothing

  limit_of : (k : ℕ) → k < 3
      → limit rule ring.length (get_or positions (3 * v + k) (pos 0)) (coordinate ring.sum k) ≡ limit_at m (3 * v + k)
  unfolding limit_coordinate
  limit_of k i =
      let R = M.summed in
      let u : v < m.topology.vertices = omega (arith, M.all) in
      let d : (3 * v + k) / 3 ≡ v = omega arith in
      let r : (3 * v + k) % 3 ≡ k = omega arith in
      rw (d, r, M.rule, M.old (3 * v + k) (omega arith), R.long v u, R.sum v k u i, limit_coordinate)

  one_written : (p q : Point) (before : List ℤ) {l l' : List ℤ} → l ≡ fill (3 * v) (limit_at m) before
      → p ≡ point_in positions v → q ≡ limit_point rule ring.length p ring.sum → l' ≡ put_point v q l
      → l' ≡ fill (3 * (v + 1)) (limit_at m) before
  one_written p q before el ep eq put =
      let x = limit_of 0 (omega arith) in
      let y = limit_of 1 (omega arith) in
      let z = limit_of 2 (omega arith) in
      rw (fill_three v (limit_at m) before, put, eq, ep, el, x, y, z)

pub loop-v-init : goal.loop-v-init
unfolding fill
loop-v-init c = λ m M. refl

pub loop-v-preserved : goal.loop-v-preserved
loop-v-preserved c = λ m M.
    one_written M c.loop-v-test.true _ _ _ (c.loop-v.invariant m M) c.point_in-p.ensures c.limit.ensures
    c.store_point.ensures

pub returns : goal.returns
unfolding limit_positions
returns c m M =
    let e : c.loop-v.v ≡ m.topology.vertices = omega (arith, M.all) in
    rw e at (c.loop-v.invariant m M)
