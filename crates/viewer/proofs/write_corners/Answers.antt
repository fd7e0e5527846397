-- `viewer::write_corners` meets its contract.
use Rattle.std.proofs.Common.{ℕ, ◌+◌, ◌*◌, ◌/◌, ◌%◌, ◌<◌, arith, List, length, get_or, ℤ, pos, ◌≡◌, refl, ap}
use Rattle.std.proofs.Common.{◌∙◌, Float, lt-ltb}
use Rattle.points.specs.declared.Point.{Point}
use Rattle.theory.proofs.Numbers.Fill.{fill_three}
use Rattle.rules.specs.Below.{fill}
use Rattle.rules.specs.Tables.{put_three}
use Rattle.reading.specs.Answers.{point_if, point_or_zero}
use Rattle.tables.specs.Lent.{point_in}
use Rattle.viewer.specs.declared.ViewPoint.{ViewPoint}
use Rattle.viewer.specs.View.{millimetres, in_millimetres, entry_of}
use Rattle.viewer.proofs.write_corners.Goals as goal

in_table : (table : List ℤ) (v : ℕ) → v < length table / 3 → point_or_zero table v ≡ point_in table v
in_table table v l = ap (λ b. point_if b (point_in table v)) (lt-ltb v (length table / 3) l)

-- The next corner, h.
module _ (positions : List ℤ) (corners : List ℕ) (before : List Float) (h : ℕ) where
  entry_is : (k : ℕ) → k < 3
      → millimetres (get_or positions (3 * get_or corners h 0 + k) (pos 0)) ≡ entry_of positions corners (3 * h + k)
  entry_is k i =
      let d : (3 * h + k) / 3 ≡ h = omega arith in
      let r : (3 * h + k) % 3 ≡ k = omega arith in
      rw (d, r)

  one_written : (p : Point) (q : ViewPoint) (l : List Float) {l' : List Float}
      → l ≡ fill (3 * h) (entry_of positions corners) before → p ≡ point_in positions (get_or corners h 0)
      → q ≡ in_millimetres (p.x, p.y, p.z) → l' ≡ put_three h (q.x, q.y, q.z) l
      → l' ≡ fill (3 * (h + 1)) (entry_of positions corners) before
  one_written p q l el ep eq put =
      let x = entry_is 0 (omega arith) in
      let y = entry_is 1 (omega arith) in
      let z = entry_is 2 (omega arith) in
      rw (fill_three h (entry_of positions corners) before, put, eq, ep, el, x, y, z)

pub loop-h-init : goal.loop-h-init
unfolding fill
loop-h-init c = record { size = refl; written = refl }

pub loop-h-preserved : goal.loop-h-preserved
loop-h-preserved c = record {
  size = c.store.auto.table ∙ c.loop-h.invariant.size;
  written =
      one_written c.args.positions.now c.args.corners.now c.args.table.now c.loop-h.h _ _ _ c.loop-h.invariant.written
      (c.point_of-p.ensures ∙ in_table _ _ (c.requires.0.vertex c.loop-h.h c.loop-h-test.true))
      c.view_point.ensures c.store.ensures;
}
