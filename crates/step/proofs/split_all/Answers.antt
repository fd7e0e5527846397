-- `step::split_all` meets its contract: what it writes is the closed form.
use Prim.Native.Nat.{ℕ, ◌+◌, ◌*◌}
use mathlib.Core.List.{List}
use mathlib.Core.Path.{◌≡◌, refl}
use lib.IntN.{ℤ}
use Rattle.theory.proofs.Links.Rows.{put_rows}
use Rattle.theory.proofs.Steps.Children.{child_of}
use Rattle.theory.proofs.Steps.Closed.{child_corners, child_links, with_centres, unlocked_new, closed_step}
use Rattle.rules.specs.Below.{fill}
use Rattle.rules.specs.Tables.{Mesh, topology_of, mesh_of, sides, generation}
use Rattle.tables.specs.Lent.{held, mesh_with}
use Rattle.step.proofs.split_all.Goals as goal

closed_of : (m : Mesh) {positions : List ℤ} {corners links generations locks : List ℕ} →
    let d = m.topology in
    positions ≡ with_centres d.triangles m
    → corners ≡ put_rows (sides d) (child_of d) (child_corners d) d.corners
    → links ≡ put_rows (sides d) (child_of d) (child_links d) d.links
    → generations ≡ fill (3 * d.triangles) (λ _. generation d 0 + 2) d.generations
    → locks ≡ unlocked_new d.triangles d.triangles m.locks
    → mesh_of (topology_of (d.vertices + d.triangles) (3 * d.triangles) corners links generations) positions locks
    m.rule
    ≡ closed_step m
unfolding closed_step
closed_of m ep ec el eg ek = rw (ep, ec, el, eg, ek) refl

pub returns-clause-split : goal.returns-clause-split
returns-clause-split c =
    let children = c.write_all.ensures c.args.tables.now.generations.now in
    closed_of (mesh_with c.args.counts (held c.args.tables.now))
    (c.place_centres.ensures c.args.tables.now.links.now c.args.tables.now.generations.now c.args.tables.now.locks.now) children.0 children.1 c.set_generations.ensures
    c.unlock_new.ensures
