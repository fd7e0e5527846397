-- `noting::refine_noted_reported` meets its contract.
use lib.Dec.{leb}
use lib.ListN.{length}
use native.Mathlib.Omega.{arith}
use mathlib.Core.Path.{◌≡◌, refl, sym}
use Rattle.std.specs.Prelude.{Ok, Err}
use Rattle.rules.specs.Split.{at_first, refine}
use Rattle.rules.specs.Tables.{Mesh}
use Rattle.tables.specs.Lent.{held, mesh_with}
use Rattle.tables.proofs.Refusing.{number_some}
use Rattle.reporting.proofs.Telling.{fits_seen}
use Rattle.noting.proofs.Noted.{reported_refused, reported_short, reported_written, notes_seen, goes_seen}
use Rattle.refining.proofs.Locking.{follows}
use Rattle.refining.proofs.Refusing.{finds_goes, stands_seen, found_seen}
use Rattle.refining.proofs.Telling.{told_length}
use Rattle.refining.specs.Finding.{Finds, Goes}
use Rattle.noting.proofs.refine_noted_reported.Goals.{After-find, In-Ok, After-fits-report_fits}
use Rattle.noting.proofs.refine_noted_reported.Goals as goal

abbrev mesh_of : After-find → Mesh
mesh_of c = mesh_with c.args.counts (held c.args.tables.now)

found : (c : In-Ok) → Finds c.args.t (mesh_with c.args.counts (held c.args.tables.now)) (Ok c.in-Ok.chain)
found c = found_seen c.args.counts c.view-view.ensures.same c.args.t (Ok c.in-Ok.chain) c.in-Ok.ensures c.requires

fits_is : (c : After-fits-report_fits) →
    let m = mesh_with c.args.counts (held c.args.tables.now) in
    Goes c.args.t m c.in-Ok.chain
    → c.fits-report_fits.result ≡ leb (length (refine c.args.t (at_first m)).report) (length c.args.report.now)
fits_is c G =
    fits_seen c.args.t c.args.counts c.in-Ok.chain _ c.view-view.ensures.same
    (c.fits-report_fits.ensures c.args.t c.args.counts _ _ _) G.found G.chain

pub find-requires : goal.find-requires
find-requires c = stands_seen c.args.counts c.view-view.ensures.same c.requires

pub returns-in-Err-clause-refined : goal.returns-in-Err-clause-refined
returns-in-Err-clause-refined c =
    let F = found_seen c.args.counts c.view-view.ensures.same c.args.t (Err c.in-Err.refusal) c.in-Err.ensures c.requires in
    rw (c.refused.ensures, c.number.ensures)
    (reported_refused c.args.t c.args.note.now (mesh_of (goal.at.returns-in-Err-clause-refined c).After-find)
    c.args.report.now _ F.0 (number_some c.in-Err.refusal))

pub fits-report_fits-requires : goal.fits-report_fits-requires
fits-report_fits-requires c =
    let G = finds_goes (found (goal.at.fits-report_fits-requires c).In-Ok) in
    omega (arith, c.view-view.ensures.sizes, (follows G.found.sound G.found.in_use G.chain).end)

pub note_changes-requires : goal.note_changes-requires
note_changes-requires c =
    goes_seen c.args.counts c.view-view.ensures.same (finds_goes (found (goal.at.note_changes-requires c).In-Ok))

pub carry_out-requires : goal.carry_out-requires
carry_out-requires c = finds_goes (found (goal.at.carry_out-requires c).In-Ok)

pub carried-requires : goal.carried-requires
carried-requires c =
    let m = mesh_of (goal.at.carried-requires c).After-find in
    let F = found (goal.at.carried-requires c).In-Ok in
    (told_length c.args.t m c.args.report.now 0 F.0 refl c.carry_out.ensures.refined).1

pub returns-in-Ok-note_changes-clause-refined : goal.returns-in-Ok-note_changes-clause-refined
returns-in-Ok-note_changes-clause-refined c =
    let m = mesh_of (goal.at.returns-in-Ok-note_changes-clause-refined c).After-find in
    let F = found (goal.at.returns-in-Ok-note_changes-clause-refined c).In-Ok in
    let fits = fits_is (goal.at.returns-in-Ok-note_changes-clause-refined c).After-fits-report_fits (finds_goes F) in
    let N =
    notes_seen c.args.counts c.view-view.ensures.same (Ok c.in-Ok-note_changes.field-0) c.in-Ok-note_changes.ensures in
    let e = (told_length c.args.t m c.args.report.now 0 F.0 refl c.carry_out.ensures.refined).0 in
    rw c.carried.ensures
    (reported_written c.args.t c.args.note.now m c.args.report.now (sym F.0) fits _ N c.carry_out.ensures.refined e
    c.carry_out.ensures.told)

pub returns-in-Err-note_changes-clause-refined : goal.returns-in-Err-note_changes-clause-refined
returns-in-Err-note_changes-clause-refined c =
    let m = mesh_of (goal.at.returns-in-Err-note_changes-clause-refined c).After-find in
    let F = found (goal.at.returns-in-Err-note_changes-clause-refined c).In-Ok in
    let fits = fits_is (goal.at.returns-in-Err-note_changes-clause-refined c).After-fits-report_fits (finds_goes F) in
    let N =
    notes_seen c.args.counts c.view-view.ensures.same (Err c.in-Err-note_changes.refusal) c.in-Err-note_changes.ensures in
    rw (c.refused-in-Err-note_changes.ensures, c.number-in-Err-note_changes.ensures)
    (reported_short c.args.t c.args.note.now m c.args.report.now (sym F.0) fits c.in-Err-note_changes.refusal N)
