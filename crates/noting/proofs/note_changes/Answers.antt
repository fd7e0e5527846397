-- `noting::note_changes` meets its contract.
use native.Mathlib.Omega.{arith}
use mathlib.Core.List.{List}
use mathlib.Core.Path.{◌≡◌, subst}
use Prim.Native.Nat.{ℕ, ◌+◌, ◌-◌}
use lib.ListN.{length, take, drop, length-take, length-drop}
use Rattle.rules.specs.Notes.{changed_slots, refined}
use Rattle.rules.specs.Tables.{Mesh}
use Rattle.tables.specs.Lent.{seen, mesh_with}
use Rattle.noting.specs.Changed.{FrontIs}
use Rattle.noting.proofs.Inserting.{none_listed}
use Rattle.noting.proofs.Listing.{front_part, changed_below}
use Rattle.noting.proofs.Noted.{too_short, no_report, long_enough}
use Rattle.noting.proofs.note_changes.Goals.{After-list_changed-from}
use Rattle.noting.proofs.note_changes.Goals as goal

abbrev mesh_of : After-list_changed-from → Mesh
mesh_of c = mesh_with c.args.counts (seen c.args.view.now)

abbrev part : After-list_changed-from → List ℕ
part c =
    let first = c.list_changed-from.result + 1 in
    take (33 - first) (drop first c.list_changed-from.new.slots)

part_size : (c : After-list_changed-from) → 32 - c.list_changed-from.result ≡ length (part c)
part_size c =
    let first = c.list_changed-from.result + 1 in
    omega (
      arith,
      length-take (33 - first) (drop first c.list_changed-from.new.slots),
      length-drop first c.list_changed-from.new.slots,
      c.list_changed-from.auto.slots,
    )

listed : (c : After-list_changed-from)
    → FrontIs (changed_slots (mesh_of c) (refined c.args.t (mesh_of c))) (part c) (length (part c))
listed c =
    subst (FrontIs (changed_slots (mesh_of c) (refined c.args.t (mesh_of c))) (part c)) (part_size c)
    (front_part (33 - (c.list_changed-from.result + 1))
    (c.list_changed-from.ensures.1 c.args.t c.args.counts _ _ _ c.requires) (omega arith))

pub list_changed-from-requires : goal.list_changed-from-requires
list_changed-from-requires c =
    let s = seen c.args.view.now in
    (none_listed, (c.args.t, c.args.counts, s.positions, s.corners, s.locks, c.requires))

pub returns-then-note-listed : goal.returns-then-note-listed
returns-then-note-listed c =
    let at = (goal.at.returns-then-note-listed c).After-list_changed-from in
    too_short c.args.t (mesh_of at) (listed at) c.args.note.now c.if-note-listed.true

pub returns-then-not-report_fits : goal.returns-then-not-report_fits
returns-then-not-report_fits c =
    let at = (goal.at.returns-then-not-report_fits c).After-list_changed-from in
    no_report c.args.t (mesh_of at) (listed at) c.args.note.now c.if-note-listed.false c.if-not-report_fits.true

pub write_note-requires : goal.write_note-requires
write_note-requires c =
    let at = (goal.at.write_note-requires c).After-list_changed-from in
    let S = c.requires.found.sound in (
      record { corners = S.tables.corners; links = S.tables.links; few = S.tables.few_triangles },
      S.tables.locks,
      omega (arith, part_size at),
      λ i b. omega (arith, changed_below _ _ (listed at) i b, c.requires.found.room),
      c.if-note-listed.false,
    )

pub returns : goal.returns
returns c =
    let at = (goal.at.returns c).After-list_changed-from in
    let H = listed at in
    long_enough c.args.t (mesh_of at) H c.args.note.now c.if-note-listed.false c.if-not-report_fits.false
    (c.write_note.ensures _ H)
