-- `tables::View::has_room` meets its contract.
use borrow.Author.Tests.{le-leb, lt-leb}
use Prim.Native.Nat.{ℕ, ◌+◌, ◌*◌, ◌≤◌, ◌<◌}
use mathlib.Core.Bool.{true, false}
use mathlib.Core.Path.{◌≡◌, refl}
use lib.Dec.{leb}
use Rattle.rules.specs.Calls.{room_for}
use Rattle.rules.specs.Tables.{Mesh, vertex_slots, triangle_slots}
use Rattle.tables.specs.Lent.{mesh_with, seen}
use Rattle.tables.proofs.View.has_room.Goals as goal

module _ (v f : ℕ) (m : Mesh) where
  room_by_triangles : m.topology.vertices + v ≤ vertex_slots m
      → leb (m.topology.triangles + f) (triangle_slots m) ≡ room_for v f m
  room_by_triangles i = let e : leb (m.topology.vertices + v) (vertex_slots m) ≡ true = le-leb _ _ i in rw e refl

  no_room_lem : vertex_slots m < m.topology.vertices + v
      → leb (m.topology.vertices + v) (vertex_slots m) ≡ room_for v f m
  no_room_lem i = let e : leb (m.topology.vertices + v) (vertex_slots m) ≡ false = lt-leb _ _ i in rw e refl

pub returns-then-vertices-self : goal.returns-then-vertices-self
returns-then-vertices-self c =
    room_by_triangles (c.args.splits + c.args.rim) (2 * c.args.splits)
    (mesh_with c.args.counts (seen c.args.self.now)) c.if-vertices-self.true

pub returns-else-vertices-self : goal.returns-else-vertices-self
returns-else-vertices-self c =
    no_room_lem (c.args.splits + c.args.rim) (2 * c.args.splits)
    (mesh_with c.args.counts (seen c.args.self.now)) c.if-vertices-self.false
