-- `wanting::refine_wanted` meets its contract: turn by turn, with the marks right before each.
use mathlib.Core.List.{List}
use mathlib.Core.Path.{◌≡◌, refl, ap, subst}
use mathlib.Core.Logic.{◌≢◌}
use Prim.Native.Nat.{ℕ, ◌+◌, ◌*◌, ◌≤◌, ◌<◌}
use native.Mathlib.Omega.{arith}
use lib.ListN.{length}
use Rattle.marks.specs.Marks.{marked}
use Rattle.points.specs.Axes.{box_of}
use Rattle.points.specs.declared.Point.{Point}
use Rattle.theory.proofs.Boxes.InSpares.{boxing_few}
use Rattle.theory.proofs.Lists.Holding.{Done, holding_sound, holding_few}
use Rattle.rules.specs.Below.{lowest}
use Rattle.rules.specs.Boxes.{Box, refine_in_box}
use Rattle.rules.specs.Calls.{Outcome, refine_call}
use Rattle.rules.specs.Conditions.{LowestWanted}
use Rattle.rules.specs.Sound.{Sound}
use Rattle.rules.specs.Spares.{Spares}
use Rattle.rules.specs.Split.{at_first, refine}
use Rattle.rules.specs.Tables.{Mesh, vertex_slots}
use Rattle.tables.proofs.Lending.{same_at_first, same_on}
use Rattle.tables.specs.declared.Counts.{Counts}
use Rattle.reporting.specs.Told.{Told, told_unless}
use Rattle.tables.specs.Lent.{held, mesh_with}
use Rattle.wanting.specs.Wanting.{SeenFrom, Looks, Marked, Unseen}
use Rattle.wanting.proofs.Begins.{begins_sound}
use Rattle.wanting.proofs.Told.{BoxingTold, told_begins, told_on, told_stops, told_ends}
use Rattle.wanting.proofs.Turn.{refine_carried, lowest_is_wanted, none_wanted, marked_all, unmarked_fit}
use Rattle.wanting.proofs.Turn.{seen_all, grows_by}
use Rattle.wanting.proofs.refine_wanted.Goals as goal

-- ---- before the loop

-- The vertices are marked, by what is seen of the tables.
first_looks : (n : Counts) {v s : Spares} → v ≡ s → {low high : Point} {below : ℕ} {inside after : List ℕ}
    → Sound (mesh_with n s) → Unseen (vertex_slots (mesh_with n s)) inside
    → SeenFrom 0 n.vertices low high v.positions inside after
    → Looks (box_of low high below) (mesh_with n s) v.corners v.generations after below
first_looks n e {low} {high} {inside = inside} {after} S U A = record {
  sound = S;
  corners = ap (λ (y : Spares). y.corners) e;
  generations = ap (λ (y : Spares). y.generations) e;
  below = refl;
  seen = seen_all U (subst (λ (y : Spares). SeenFrom 0 n.vertices low high y.positions inside after) e A);
}

pub mark_inside-requires : goal.mark_inside-requires
mark_inside-requires c =
    let (m, s, B) = c.requires.0 in
    let U = c.requires.2 in (
      omega (arith, (begins_sound B).vertex_room, c.view-first.ensures.sizes),
      omega (arith, (begins_sound B).vertex_room, U.room),
      λ v _. U.none v,
    )

pub mark_from-requires : goal.mark_from-requires
mark_from-requires c =
    let (m, s, B) = c.requires.0 in
    let first : Mesh = mesh_with c.args.counts (held c.args.tables.now) in (
      (
        _,
        _,
        first_looks c.args.counts c.view-first.ensures.same (begins_sound B) c.requires.2 c.mark_inside.ensures,
        unmarked_fit first c.requires.1,
        refl,
      ),
      λ j l. c.requires.1.none j,
    )

pub lowest-t-requires : goal.lowest-t-requires
lowest-t-requires c =
    let (m, s, B) = c.requires.0 in
    let K = first_looks c.args.counts c.view-first.ensures.same {below = c.args.below} (begins_sound B) c.requires.2
    c.mark_inside.ensures in
    let A = c.mark_from.ensures _ _ K refl in
    (A.fit.levels, A.fit.few)

pub loop-t-init : goal.loop-t-init
loop-t-init c =
    let (m, s, B) = c.requires.0 in
    let K = first_looks c.args.counts c.view-first.ensures.same {below = c.args.below} (begins_sound B) c.requires.2
    c.mark_inside.ensures in (
      λ m s B. told_begins B _ _,
      record { seen = K.seen; marks = marked_all (c.mark_from.ensures _ _ K refl) },
      c.lowest-t.ensures,
      same_at_first _,
    )

-- ---- one turn

module _ {b : Box} {m : Mesh} {s : Spares} {at k f : ℕ} {before now : List ℕ} {x : Mesh}
    (D : BoxingTold b m s at k f before now x) where
  so_few : (k ≤ 32768) × (f ≤ 98304)
  so_few = holding_few D.1.held

  module _ {inside bits words : List ℕ} {t : ℕ} (M : Marked b x inside bits words)
      (l : t ≡ lowest (64 * length bits) (marked bits)) (u : t < x.topology.triangles) {o : Outcome}
      (e : o ≡ refine_call t x) {after : List ℕ}
      (T : Told (told_unless o.answer.refusal (refine t (at_first x)).report) now after (3 * k + 2 * f)) where
    next : LowestWanted b x t
    next = lowest_is_wanted (holding_sound D.1.held) M.marks l u

    stops : o.answer.refusal ≢ 0
        → Done (refine_in_box b m) s o.answer.refusal at k f o.mesh
        × Told (refine_in_box b m).work.report before after 0
    stops n = told_stops D next e T n

    goes_on : o.answer.refusal ≡ 0
        → BoxingTold b m s (at + 1) (k + o.answer.splits) (f + o.answer.flips) before after o.mesh
    goes_on z = told_on D next e T z

    few : o.answer.refusal ≡ 0
        → (k + o.answer.splits ≤ 32768) × (f + o.answer.flips ≤ 98304) × (at + 1 ≤ 32768)
    few z =
        let G = (goes_on z).1 in
        ((holding_few G.held).0, (holding_few G.held).1, boxing_few G)

pub overflow_cast-splits : goal.overflow_cast-splits
overflow_cast-splits c =
    let (m, s, B) = c.requires.0 in
    omega (arith, (so_few (c.loop-t.invariant.0 m s B)).0)

pub overflow_mul-splits : goal.overflow_mul-splits
overflow_mul-splits c =
    let (m, s, B) = c.requires.0 in
    omega (arith, (so_few (c.loop-t.invariant.0 m s B)).0)

pub overflow_cast-flips : goal.overflow_cast-flips
overflow_cast-flips c =
    let (m, s, B) = c.requires.0 in
    omega (arith, (so_few (c.loop-t.invariant.0 m s B)).1)

pub overflow_mul-flips : goal.overflow_mul-flips
overflow_mul-flips c =
    let (m, s, B) = c.requires.0 in
    omega (arith, (so_few (c.loop-t.invariant.0 m s B)).1)

pub overflow_add-splits : goal.overflow_add-splits
overflow_add-splits c =
    let (m, s, B) = c.requires.0 in
    let F = so_few (c.loop-t.invariant.0 m s B) in
    omega (arith, F.0, F.1)

pub refine_marked-done-requires : goal.refine_marked-done-requires
refine_marked-done-requires c =
    let (m, s, B) = c.requires.0 in
    (c.loop-t.invariant.1, holding_sound (c.loop-t.invariant.0 m s B).1.held, c.loop-t-test.true)

pub returns-then-done-ne0-clause-boxed : goal.returns-then-done-ne0-clause-boxed
returns-then-done-ne0-clause-boxed c m s B =
    stops (c.loop-t.invariant.0 m s B) c.loop-t.invariant.1 c.loop-t.invariant.2 c.loop-t-test.true
    c.refine_marked-done.ensures.refined c.refine_marked-done.ensures.told c.if-done-ne0.true

pub overflow_add-splits-in-loop-t : goal.overflow_add-splits-in-loop-t
overflow_add-splits-in-loop-t c =
    let (m, s, B) = c.requires.0 in
    let F = few (c.loop-t.invariant.0 m s B) c.loop-t.invariant.1 c.loop-t.invariant.2 c.loop-t-test.true
    c.refine_marked-done.ensures.refined c.refine_marked-done.ensures.told c.if-done-ne0.false in
    omega (arith, F.0)

pub overflow_add-flips : goal.overflow_add-flips
overflow_add-flips c =
    let (m, s, B) = c.requires.0 in
    let F = few (c.loop-t.invariant.0 m s B) c.loop-t.invariant.1 c.loop-t.invariant.2 c.loop-t-test.true
    c.refine_marked-done.ensures.refined c.refine_marked-done.ensures.told c.if-done-ne0.false in
    omega (arith, F.1)

pub overflow_add-handled : goal.overflow_add-handled
overflow_add-handled c =
    let (m, s, B) = c.requires.0 in
    let F = few (c.loop-t.invariant.0 m s B) c.loop-t.invariant.1 c.loop-t.invariant.2 c.loop-t-test.true
    c.refine_marked-done.ensures.refined c.refine_marked-done.ensures.told c.if-done-ne0.false in
    omega (arith, F.2)

pub lowest-t-requires-in-loop-t : goal.lowest-t-requires-in-loop-t
lowest-t-requires-in-loop-t c =
    let M = (c.refine_marked-done.ensures.marked c.if-done-ne0.false).marks in
    (M.fit.levels, M.fit.few)

pub loop-t-smaller : goal.loop-t-smaller
loop-t-smaller c =
    let G = grows_by (refine_carried c.loop-t.t (mesh_with c.loop-t.reached (held c.loop-t.tables)) c.refine_marked-done.ensures.refined c.if-done-ne0.false) in
    omega (arith, G.0, G.1)

pub loop-t-preserved : goal.loop-t-preserved
loop-t-preserved c = (
  λ m s B.
      goes_on (c.loop-t.invariant.0 m s B) c.loop-t.invariant.1 c.loop-t.invariant.2 c.loop-t-test.true
      c.refine_marked-done.ensures.refined c.refine_marked-done.ensures.told c.if-done-ne0.false,
  c.refine_marked-done.ensures.marked c.if-done-ne0.false,
  c.lowest-t-in-loop-t.ensures,
  same_on c.refine_marked-done.ensures.lent c.loop-t.invariant.3,
)

-- ---- after the loop

pub returns-clause-boxed : goal.returns-clause-boxed
returns-clause-boxed c m s B =
    let D = c.loop-t.invariant.0 m s B in
    let M = c.loop-t.invariant.1.marks in
    told_ends D (none_wanted (holding_sound D.1.held) M c.loop-t.invariant.2 c.loop-t-test.false)
