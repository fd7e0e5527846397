-- `listing::handle` meets its contract.
use lib.ListN.{get_or}
use mathlib.Core.Path.{◌≡◌, ap, ◌∙◌}
use Rattle.rules.specs.Spares.{Spares}
use Rattle.rules.specs.Tables.{Mesh, generation}
use Rattle.tables.specs.Lent.{mesh_with, held}
use Rattle.reporting.proofs.Telling.{tells_none}
use Rattle.refining.proofs.Batching.{entry_eight, entry_passed, entry_refined, passed_told, refined_told}
use Rattle.listing.proofs.handle.Goals.{Start, After-generation_at}
use Rattle.listing.proofs.handle.Goals as goal

abbrev mesh_of : Start → Mesh
mesh_of c = mesh_with c.args.counts (held c.args.tables.now)

-- The generation of the triangle, read by the view.
now : (c : After-generation_at)
    → c.generation_at.result ≡ generation (mesh_with c.args.counts (held c.args.tables.now)).topology c.args.t
now c =
    c.generation_at.ensures
    ∙ ap (λ (s : Spares). get_or s.generations c.args.t 0) c.view.ensures.same

pub returns-then-triangles-t-clause-handled : goal.returns-then-triangles-t-clause-handled
returns-then-triangles-t-clause-handled c m W =
    rw c.refused.ensures
    (entry_eight m (mesh_of (goal.at.returns-then-triangles-t-clause-handled c).Start) _ _ _ W c.if-triangles-t.true)

pub returns-then-triangles-t-clause-told : goal.returns-then-triangles-t-clause-told
returns-then-triangles-t-clause-told c m W = rw c.refused.ensures (_, tells_none _ _)

pub returns-then-start-t-clause-handled : goal.returns-then-start-t-clause-handled
returns-then-start-t-clause-handled c m W =
    let x = mesh_of (goal.at.returns-then-start-t-clause-handled c).Start in
    let e = now (goal.at.returns-then-start-t-clause-handled c).After-generation_at in
    rw c.done.ensures
    (entry_passed m x _ _ _ W c.if-triangles-t.false (rw e at c.if-start-t.true))

pub returns-then-start-t-clause-told : goal.returns-then-start-t-clause-told
returns-then-start-t-clause-told c m W =
    let x = mesh_of (goal.at.returns-then-start-t-clause-told c).Start in
    let e = now (goal.at.returns-then-start-t-clause-told c).After-generation_at in
    rw c.done.ensures (passed_told m x _ _ _ W (rw e at c.if-start-t.true))

pub returns-clause-handled : goal.returns-clause-handled
returns-clause-handled c m W =
    let x = mesh_of (goal.at.returns-clause-handled c).Start in
    let e = now (goal.at.returns-clause-handled c).After-generation_at in
    c.refine.ensures.refined
    ∙ entry_refined m x _ _ _ W c.if-triangles-t.false (rw e at c.if-start-t.false)

pub returns-clause-told : goal.returns-clause-told
returns-clause-told c m W =
    let x = mesh_of (goal.at.returns-clause-told c).Start in
    let e = now (goal.at.returns-clause-told c).After-generation_at in
    refined_told m x _ _ _ W c.refine.result.refusal
    (rw e at c.if-start-t.false) c.refine.ensures.told
