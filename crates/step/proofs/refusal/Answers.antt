-- `step::refusal` meets its contract.
use borrow.Author.Tests.{eq-eqb, ne_eqb}
use native.Mathlib.Omega.{arith}
use mathlib.Core.Bool.{Bool, not}
use mathlib.Core.Path.{◌≡◌, refl, sym, ◌∙◌, ap}
use Prim.Native.Nat.{◌+◌, ◌*◌}
use native.Mathlib.Nat.{add-zero}
use Rattle.theory.proofs.Steps.StepRefusals.{step_by_tests}
use Rattle.rules.specs.Calls.{room_for}
use Rattle.rules.specs.Tables.{Mesh}
use Rattle.moving.proofs.Deciding.{closed_of, rings_tell}
use Rattle.tables.specs.Lent.{seen, mesh_with}
use Rattle.step.proofs.refusal.Goals as goal

-- Room for a vertex and two triangles more for each triangle.
room_told : (m : Mesh) {r : Bool} → r ≡ room_for (m.topology.triangles + 0) (2 * m.topology.triangles) m
    → r ≡ room_for m.topology.triangles (2 * m.topology.triangles) m
room_told m e = e ∙ ap (λ v. room_for v (2 * m.topology.triangles) m) (add-zero m.topology.triangles)

pub returns-then-not-closed_even : goal.returns-then-not-closed_even
returns-then-not-closed_even c = (
  step_by_tests c.requires.0 (sym (c.closed_even.ensures _ _) ∙ c.if-not-closed_even.true) refl refl refl refl,
  λ e. absurd (omega arith),
)

pub returns-then-view-eq20 : goal.returns-then-view-eq20
returns-then-view-eq20 c =
    let even = sym (c.closed_even.ensures c.args.counts.vertices c.args.view.now.corners.now) ∙ c.if-not-closed_even.false in
    (step_by_tests c.requires.0 even (eq-eqb _ _ c.if-view-eq20.true) refl refl refl, λ e. absurd (omega arith))

pub ring_sums-requires : goal.ring_sums-requires
ring_sums-requires c =
    let even = sym (c.closed_even.ensures c.args.counts.vertices c.args.view.now.corners.now) ∙ c.if-not-closed_even.false in
    record { by_index = (_, _, _, closed_of c.requires.0 even); cleared = c.requires.1 }

pub returns-then-not-ring_sums : goal.returns-then-not-ring_sums
returns-then-not-ring_sums c =
    let even = sym (c.closed_even.ensures c.args.counts.vertices c.args.view.now.corners.now) ∙ c.if-not-closed_even.false in
    let rings = c.ring_sums.ensures c.args.view.now.links.now c.args.view.now.generations.now c.args.view.now.locks.now (closed_of c.requires.0 even) in (
      step_by_tests c.requires.0 even (ne_eqb _ _ c.if-view-eq20.false)
          (sym (rings_tell _ rings) ∙ ap not c.if-not-ring_sums.true) refl refl,
      λ e. absurd (omega arith),
    )

pub returns-then-some_locked : goal.returns-then-some_locked
returns-then-some_locked c =
    let even = sym (c.closed_even.ensures c.args.counts.vertices c.args.view.now.corners.now) ∙ c.if-not-closed_even.false in
    let rings = c.ring_sums.ensures c.args.view.now.links.now c.args.view.now.generations.now c.args.view.now.locks.now (closed_of c.requires.0 even) in
    let locks = c.some_locked.ensures c.args.counts.vertices c.args.counts.rule c.args.view.now.positions.now c.args.view.now.corners.now
    c.args.view.now.links.now c.args.view.now.generations.now in (
      step_by_tests c.requires.0 even (ne_eqb _ _ c.if-view-eq20.false)
          (sym (rings_tell _ rings) ∙ ap not c.if-not-ring_sums.false) (sym locks ∙ c.if-some_locked.true) refl,
      λ e. absurd (omega arith),
    )

pub returns-then-not-has_room : goal.returns-then-not-has_room
returns-then-not-has_room c =
    let even = sym (c.closed_even.ensures c.args.counts.vertices c.args.view.now.corners.now) ∙ c.if-not-closed_even.false in
    let rings = c.ring_sums.ensures c.args.view.now.links.now c.args.view.now.generations.now c.args.view.now.locks.now (closed_of c.requires.0 even) in
    let locks = c.some_locked.ensures c.args.counts.vertices c.args.counts.rule c.args.view.now.positions.now c.args.view.now.corners.now
    c.args.view.now.links.now c.args.view.now.generations.now in
    let m : Mesh = mesh_with c.args.counts (seen c.args.view.now) in
    let room = room_told m c.has_room.ensures in (
      step_by_tests c.requires.0 even (ne_eqb _ _ c.if-view-eq20.false)
          (sym (rings_tell _ rings) ∙ ap not c.if-not-ring_sums.false) (sym locks ∙ c.if-some_locked.false)
          (sym room ∙ c.if-not-has_room.true),
      λ e. absurd (omega arith),
    )

pub returns : goal.returns
returns c =
    let even = sym (c.closed_even.ensures c.args.counts.vertices c.args.view.now.corners.now) ∙ c.if-not-closed_even.false in
    let rings = c.ring_sums.ensures c.args.view.now.links.now c.args.view.now.generations.now c.args.view.now.locks.now (closed_of c.requires.0 even) in
    let locks = c.some_locked.ensures c.args.counts.vertices c.args.counts.rule c.args.view.now.positions.now c.args.view.now.corners.now
    c.args.view.now.links.now c.args.view.now.generations.now in
    let m : Mesh = mesh_with c.args.counts (seen c.args.view.now) in
    let room = room_told m c.has_room.ensures in (
      step_by_tests c.requires.0 even (ne_eqb _ _ c.if-view-eq20.false)
          (sym (rings_tell _ rings) ∙ ap not c.if-not-ring_sums.false) (sym locks ∙ c.if-some_locked.false)
          (sym room ∙ c.if-not-has_room.false),
      λ e. rings.whole c.if-not-ring_sums.false,
    )
