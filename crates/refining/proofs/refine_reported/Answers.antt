-- `refining::refine_reported` meets its contract.
use borrow.Author.Tests.{leb-true, leb-false}
use Prim.Native.Nat.{◌+◌, ◌*◌, ◌≤◌}
use mathlib.Core.Path.{◌≡◌, refl, sym, ◌∙◌}
use native.Mathlib.Omega.{arith}
use Rattle.std.specs.Prelude.{Ok, Err}
use Rattle.rules.specs.Calls.{with_report}
use Rattle.rules.specs.Reports.{one, reported_call}
use Rattle.rules.specs.Tables.{Mesh}
use Rattle.tables.specs.Answers.{worked_outcome}
use Rattle.tables.specs.Lent.{held, mesh_with}
use Rattle.tables.proofs.Refusing.{number_some}
use Rattle.refining.specs.Finding.{Finds}
use Rattle.reporting.proofs.Telling.{fits_seen}
use Rattle.refining.proofs.Locking.{follows}
use Rattle.refining.proofs.Refusing.{finds_goes, stands_seen, found_seen}
use Rattle.refining.proofs.Telling.{report_refused, told_length, report_short, report_written}
use Rattle.refining.proofs.refine_reported.Goals.{Start, In-Ok, After-fits, Joined-find, in-Ok+then-fits, in-Ok+else-fits, in-Err}
use Rattle.refining.proofs.refine_reported.Goals as goal

abbrev mesh_of : Start → Mesh
mesh_of c = mesh_with c.args.counts (held c.args.tables.now)

found : (c : In-Ok) → Finds c.args.t (mesh_with c.args.counts (held c.args.tables.now)) (Ok c.in-Ok.chain)
found c = found_seen c.args.counts c.view.ensures.same c.args.t (Ok c.in-Ok.chain) c.in-Ok.ensures c.requires

pub find-requires : goal.find-requires
find-requires c = stands_seen c.args.counts c.view.ensures.same c.requires

pub fits-requires : goal.fits-requires
fits-requires c =
    let G = finds_goes (found (goal.at.fits-requires c).In-Ok) in
    omega (arith, c.view-in-Ok.ensures.sizes, (follows G.found.sound G.found.in_use G.chain).end)

pub carry_out-requires : goal.carry_out-requires
carry_out-requires c = finds_goes (found (goal.at.carry_out-requires c).In-Ok)

-- What each branch answers, with its report.
answered : (c : Joined-find) →
    let w = c.match-find.worked in
    let n = 3 * w.splits + 2 * w.flips in
    (n ≤ 54) × (with_report c.match-find.report n (worked_outcome w (held c.match-find.tables))
    ≡ reported_call (one c.args.t) c.args.report.now (mesh_with c.args.counts (held c.args.tables.now)))
answered c =
    let t = c.args.t in
    let b = c.args.report.now in
    let m : Mesh = mesh_with c.args.counts (held c.args.tables.now) in
    elim c.match-find.branch [
      | in-Ok+then-fits w ↦
          let F = found_seen c.args.counts c.view.ensures.same t (Ok w.in-Ok.chain) w.in-Ok.ensures c.requires in
          let G = finds_goes F in
          let fits = fits_seen t c.args.counts w.in-Ok.chain _ w.view-in-Ok.ensures.same (w.fits.ensures t c.args.counts _ _ _) G.found G.chain in
          let L = told_length t m b 0 F.0 refl w.carry_out.ensures.refined in
          rw (w.worked-is, w.report-is, w.tables-is) (
            L.1,
            report_written t m b 0 F.0 refl w.carry_out.ensures.refined L.0
                (omega (arith, L.0, leb-true _ _ (sym fits ∙ w.if-fits.true))) w.carry_out.ensures.told,
          )
      | in-Ok+else-fits w ↦
          let F = found_seen c.args.counts c.view.ensures.same t (Ok w.in-Ok.chain) w.in-Ok.ensures c.requires in
          let G = finds_goes F in
          let fits = fits_seen t c.args.counts w.in-Ok.chain _ w.view-in-Ok.ensures.same (w.fits.ensures t c.args.counts _ _ _) G.found G.chain in
          rw (w.worked-is, w.refused.ensures, w.report-is, w.tables-is)
          (omega arith, report_short t m b 0 F.0 refl (leb-false _ _ (sym fits ∙ w.if-fits.false)))
      | in-Err w ↦
          let F = found_seen c.args.counts c.view.ensures.same t (Err w.in-Err.refusal) w.in-Err.ensures c.requires in
          rw (w.worked-is, w.refused-worked.ensures, w.report-is, w.tables-is)
          (omega arith, report_refused t m b _ F.0 (number_some w.in-Err.refusal))
    ]

pub carried-requires : goal.carried-requires
carried-requires c = (answered (goal.at.carried-requires c).Joined-find).0

pub returns-clause-refined : goal.returns-clause-refined
returns-clause-refined c = rw c.carried.ensures (answered (goal.at.returns-clause-refined c).Joined-find).1
