-- `dividing::place_centres` meets its contract: the corners of a triangle still stand where they stood.
use Prim.Native.Nat.{ℕ, ◌+◌, ◌*◌, ◌/◌, ◌<◌}
use native.Mathlib.Omega.{arith}
use mathlib.Core.List.{List}
use mathlib.Core.Path.{◌≡◌, refl, ap, ◌∙◌}
use lib.IntN.{ℤ, pos}
use lib.ListN.{get_or}
use Rattle.points.specs.Axes.{each_axis}
use Rattle.points.specs.declared.Point.{Point}
use Rattle.theory.proofs.Links.Rows.{put_rows, rows_more}
use Rattle.theory.proofs.Steps.Closed.{with_centres, centres_leave}
use Rattle.rules.specs.Split.{centre}
use Rattle.rules.specs.Tables.{Mesh, with_positions, origin, coordinate}
use Rattle.tables.specs.declared.Counts.{Counts}
use Rattle.tables.specs.Lent.{mesh_now, put_point}
use Rattle.dividing.proofs.ChildRows.{corner_room}
use Rattle.dividing.proofs.place_centres.Goals as goal

none_placed : (m : Mesh) → m.positions ≡ with_centres 0 m
unfolding with_centres put_rows
none_placed m = refl

module _ (m : Mesh) (t : ℕ) (corner : (h : ℕ) → h / 3 ≡ t → origin m.topology h < m.topology.vertices)
    {positions : List ℤ} (e : positions ≡ with_centres t m) where
  stays : (h k : ℕ) → h / 3 ≡ t → k < 3
      → coordinate (with_positions positions m) (origin m.topology h) k ≡ coordinate m (origin m.topology h) k
  stays h k q i =
      ap (λ (p : List ℤ). get_or p (3 * origin m.topology h + k) (pos 0)) e
      ∙ centres_leave t m (3 * origin m.topology h + k) (omega (arith, corner h q))

  centre_same : (k : ℕ) → k < 3 → centre (with_positions positions m) t k ≡ centre m t k
  unfolding centre
  centre_same k i =
      rw (
        stays (3 * t + 0) k (omega arith) i,
        stays (3 * t + 1) k (omega arith) i,
        stays (3 * t + 2) k (omega arith) i,
      )

  one_placed : {p : Point} {l : List ℤ} → p ≡ each_axis (centre (with_positions positions m) t)
      → l ≡ put_point (m.topology.vertices + t) p positions → l ≡ with_centres (t + 1) m
  unfolding with_centres
  one_placed ep el =
      el ∙ rw (ep, centre_same 0 (omega arith), centre_same 1 (omega arith), centre_same 2 (omega arith), e)
      (rows_more (pos 0) _ _ m.positions t)

pub loop-t-init : goal.loop-t-init
loop-t-init c = λ l g k rule. none_placed _

pub centre_in-p-requires : goal.centre_in-p-requires
centre_in-p-requires c =
    let (_, _, _, R) = c.requires in
    let room = R.sound.vertex_room in (
      omega (arith, corner_room _ R),
      omega (arith, R.sound.corner (3 * c.loop-t.t) (omega arith)),
      omega (arith, R.sound.corner (3 * c.loop-t.t + 1) (omega arith)),
      omega (arith, R.sound.corner (3 * c.loop-t.t + 2) (omega arith)),
    )

pub loop-t-preserved : goal.loop-t-preserved
loop-t-preserved c = λ l g k rule.
    let (_, _, _, R) = c.requires in
    let n' : Counts = record { vertices = c.args.counts.vertices; triangles = c.args.counts.triangles; rule = rule } in
    one_placed (mesh_now n' c.args.positions.now c.args.corners.now l g k) c.loop-t.t
    (λ h e. R.sound.corner h (omega (arith, c.loop-t-test.true))) (c.loop-t.invariant l g k rule)
    (c.centre_in-p.ensures n' l g k) c.store_point.ensures

pub returns : goal.returns
returns c l g k =
    let e : c.loop-t.t ≡ c.args.counts.triangles = omega arith in
    rw e at (c.loop-t.invariant l g k c.args.counts.rule)
