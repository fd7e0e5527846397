-- `listing::handle_all` meets its contract: the first entries are handled.
use Rattle.std.proofs.Common.{rules}
use Prim.Native.Nat.{◌+◌, ◌≤◌}
use native.Mathlib.Omega.{arith}
use lib.ListN.{length}
use mathlib.Core.Path.{◌≡◌}
use Rattle.theory.proofs.Lists.Holding.{holding_sound, holding_few}
use Rattle.rules.specs.Spares.{Spares}
use Rattle.rules.specs.Tables.{Mesh}
use Rattle.tables.specs.Lent.{mesh_with, held}
use Rattle.refining.specs.Batches.{Begins}
use Rattle.refining.proofs.Batching.{begins_with, DoingTold, told_begins, told_goes_on, told_stops, told_ends}
use Rattle.tables.proofs.Standing.{sound_standing}
use Rattle.listing.proofs.handle_all.Goals.{After-handle-done}
use Rattle.listing.proofs.handle_all.Goals as goal

goes_on : (c : After-handle-done) → c.handle-done.result.refusal ≡ 0 → (m : Mesh) (s : Spares)
    → Begins m s c.args.start.now (mesh_with c.args.counts (held c.args.tables.now))
    → DoingTold m s c.args.list.now (c.loop-at.at + 1) (c.loop-at.splits + c.handle-done.result.splits)
    (c.loop-at.flips + c.handle-done.result.flips) c.args.report.now c.handle-done.new.report
    (mesh_with c.handle-done.result.counts (held c.handle-done.new.tables))
goes_on c z m s B =
    told_goes_on (c.loop-at.invariant.0 m s B) (omega arith) (c.handle-done.ensures.handled m (begins_with B))
    (c.handle-done.ensures.told m (begins_with B)) z

few_after : (c : After-handle-done) → c.handle-done.result.refusal ≡ 0
    → (c.loop-at.splits + c.handle-done.result.splits ≤ 32768) × (c.loop-at.flips + c.handle-done.result.flips ≤ 98304)
few_after c z =
    let (m, s, B) = c.requires in
    holding_few (goes_on c z m s B).1.held

pub loop-at-init : goal.loop-at-init
loop-at-init c = (λ m s B. told_begins B _ _, search rules)

pub handle-done-requires : goal.handle-done-requires
handle-done-requires c =
    let (m, s, B) = c.requires in
    let W = begins_with B in (
      sound_standing (holding_sound (c.loop-at.invariant.0 m s B).1.held),
      rw (W.triangles, W.generations) B.sound.triangle_room,
    )

pub returns-then-done-ne0-clause-handled : goal.returns-then-done-ne0-clause-handled
returns-then-done-ne0-clause-handled c m s B =
    told_stops (c.loop-at.invariant.0 m s B) (omega arith) (c.handle-done.ensures.handled m (begins_with B))
    (c.handle-done.ensures.told m (begins_with B)) c.if-done-ne0.true

pub overflow_add-splits-in-loop-at : goal.overflow_add-splits-in-loop-at
overflow_add-splits-in-loop-at c =
    omega (arith, (few_after (goal.at.overflow_add-splits-in-loop-at c).After-handle-done c.if-done-ne0.false).0)

pub overflow_add-flips : goal.overflow_add-flips
overflow_add-flips c =
    omega (arith, (few_after (goal.at.overflow_add-flips c).After-handle-done c.if-done-ne0.false).1)

pub loop-at-preserved : goal.loop-at-preserved
loop-at-preserved c = (goes_on (goal.at.loop-at-preserved c).After-handle-done c.if-done-ne0.false, search rules)

pub returns-clause-handled : goal.returns-clause-handled
returns-clause-handled c m s B =
    let e : c.loop-at.at ≡ length c.args.list.now = omega arith in
    rw e at (told_ends (c.loop-at.invariant.0 m s B) (omega arith))
