-- `noting::refine_noted` meets its contract.
use mathlib.Core.Path.{refl, sym}
use Rattle.std.specs.Prelude.{Ok, Err}
use Rattle.rules.specs.Tables.{Mesh}
use Rattle.tables.specs.Lent.{held, mesh_with}
use Rattle.tables.proofs.Refusing.{number_some}
use Rattle.noting.proofs.Noted.{noted_refused, noted_short, noted_carried, notes_seen, goes_seen}
use Rattle.refining.proofs.Refusing.{finds_goes, stands_seen, found_seen}
use Rattle.refining.specs.Finding.{Finds}
use Rattle.noting.proofs.refine_noted.Goals.{After-find, In-Ok}
use Rattle.noting.proofs.refine_noted.Goals as goal

abbrev mesh_of : After-find → Mesh
mesh_of c = mesh_with c.args.counts (held c.args.tables.now)

found : (c : In-Ok) → Finds c.args.t (mesh_with c.args.counts (held c.args.tables.now)) (Ok c.in-Ok.chain)
found c = found_seen c.args.counts c.view-view.ensures.same c.args.t (Ok c.in-Ok.chain) c.in-Ok.ensures c.requires

pub find-requires : goal.find-requires
find-requires c = stands_seen c.args.counts c.view-view.ensures.same c.requires

pub returns-in-Err-clause-refined : goal.returns-in-Err-clause-refined
returns-in-Err-clause-refined c =
    let F = found_seen c.args.counts c.view-view.ensures.same c.args.t (Err c.in-Err.refusal) c.in-Err.ensures c.requires in
    rw c.refused.ensures
    (noted_refused c.args.t c.args.note.now (mesh_of (goal.at.returns-in-Err-clause-refined c).After-find) _ F.0
    (number_some c.in-Err.refusal))

pub note_changes-requires : goal.note_changes-requires
note_changes-requires c =
    goes_seen c.args.counts c.view-view.ensures.same (finds_goes (found (goal.at.note_changes-requires c).In-Ok))

pub carry_out-requires : goal.carry_out-requires
carry_out-requires c = finds_goes (found (goal.at.carry_out-requires c).In-Ok)

pub returns-in-Ok-note_changes-clause-refined : goal.returns-in-Ok-note_changes-clause-refined
returns-in-Ok-note_changes-clause-refined c =
    let F = found (goal.at.returns-in-Ok-note_changes-clause-refined c).In-Ok in
    let N =
    notes_seen c.args.counts c.view-view.ensures.same (Ok c.in-Ok-note_changes.field-0) c.in-Ok-note_changes.ensures in
    noted_carried c.args.t c.args.note.now (mesh_of (goal.at.returns-in-Ok-note_changes-clause-refined c).After-find) 0
    (sym F.0) N.refusal _ c.carry_out.ensures.refined refl N.written

pub returns-in-Err-note_changes-clause-refined : goal.returns-in-Err-note_changes-clause-refined
returns-in-Err-note_changes-clause-refined c =
    let F = found (goal.at.returns-in-Err-note_changes-clause-refined c).In-Ok in
    let N =
    notes_seen c.args.counts c.view-view.ensures.same (Err c.in-Err-note_changes.refusal) c.in-Err-note_changes.ensures in
    rw c.refused-in-Err-note_changes.ensures
    (noted_short c.args.t c.args.note.now (mesh_of (goal.at.returns-in-Err-note_changes-clause-refined c).After-find) _
    (sym F.0) N.refusal (number_some c.in-Err-note_changes.refusal) N.short)
