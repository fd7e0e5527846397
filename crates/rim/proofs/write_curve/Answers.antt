-- `rim::write_curve` meets its contract: each vertex meets what the ones before left of the table.
use Rattle.std.proofs.Common.{arith, refl, ◌∙◌}
use Rattle.rim.proofs.Writing.{readable, last_on_rim, few, writing_begins, writing_on_rim}
use Rattle.rim.proofs.Writing.{next_readable, writing_on}
use Rattle.rim.proofs.write_curve.Goals as goal

pub offset_bounds-corners-last : goal.offset_bounds-corners-last
offset_bounds-corners-last c = let (n, W) = c.requires.1 in omega (arith, (readable _ W (last_on_rim _ W)).0)

pub bounds-corners-last : goal.bounds-corners-last
bounds-corners-last c = let (n, W) = c.requires.1 in (readable _ W (last_on_rim _ W)).1

pub point_in-before-requires : goal.point_in-before-requires
point_in-before-requires c = let (n, W) = c.requires.1 in (readable _ W (last_on_rim _ W)).2

pub loop-j-init : goal.loop-j-init
loop-j-init c = record {
  size = refl;
  written = λ n W. writing_begins _ W _ c.point_in-before.ensures c.point_in-this.ensures;
}

pub onward-h-requires : goal.onward-h-requires
onward-h-requires c =
    let (n, W) = c.requires.1 in
    (n.vertices, n.triangles, c.args.view.now.corners.now, c.args.view.now.generations.now, writing_on_rim _ W (c.loop-j.invariant.written n W))

pub offset_bounds-corners-h : goal.offset_bounds-corners-h
offset_bounds-corners-h c =
    let (n, W) = c.requires.1 in
    omega (arith, (next_readable _ W (c.loop-j.invariant.written n W) (c.onward-h.ensures _ _ _ _)).0)

pub bounds-corners-h : goal.bounds-corners-h
bounds-corners-h c =
    let (n, W) = c.requires.1 in
    (next_readable _ W (c.loop-j.invariant.written n W) (c.onward-h.ensures _ _ _ _)).1

pub point_in-after-requires : goal.point_in-after-requires
point_in-after-requires c =
    let (n, W) = c.requires.1 in
    (next_readable _ W (c.loop-j.invariant.written n W) (c.onward-h.ensures _ _ _ _)).2

pub overflow_mul-j : goal.overflow_mul-j
overflow_mul-j c = let (n, W) = c.requires.1 in omega (arith, few _ W)

pub store_three-requires : goal.store_three-requires
store_three-requires c =
    let (n, W) = c.requires.1 in
    let few_vertices = few _ W in
    (omega arith, omega arith)

pub loop-j-preserved : goal.loop-j-preserved
loop-j-preserved c = record {
  size = c.store_three.auto.table ∙ c.loop-j.invariant.size;
  written = λ n W.
      writing_on _ W (c.loop-j.invariant.written n W) (c.onward-h.ensures _ _ _ _) c.loop-j-test.true
      c.point_in-after.ensures c.store_three.ensures;
}
