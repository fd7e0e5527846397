-- `refining::refine` meets its contract.
use mathlib.Core.Path.{refl, ap, ◌∙◌}
use Rattle.std.specs.Prelude.{Ok, Err}
use Rattle.rules.specs.Calls.{Outcome}
use Rattle.rules.specs.Tables.{Mesh}
use Rattle.tables.specs.Lent.{held, mesh_with}
use Rattle.tables.proofs.Refusing.{number_some}
use Rattle.refining.proofs.Refusing.{refine_refused, refine_carried, finds_goes, stands_seen, found_seen}
use Rattle.refining.proofs.Telling.{told_refused, told_done}
use Rattle.refining.proofs.refine.Goals.{After-find}
use Rattle.refining.proofs.refine.Goals as goal

abbrev mesh_of : After-find → Mesh
mesh_of c = mesh_with c.args.counts (held c.args.tables.now)

pub find-requires : goal.find-requires
find-requires c = stands_seen c.args.counts c.view.ensures.same c.requires

pub carry_out-requires : goal.carry_out-requires
carry_out-requires c = finds_goes (found_seen c.args.counts c.view.ensures.same c.args.t (Ok c.in-Ok.chain) c.in-Ok.ensures c.requires)

pub returns-in-Ok : goal.returns-in-Ok
returns-in-Ok c =
    let F = found_seen c.args.counts c.view.ensures.same c.args.t (Ok c.in-Ok.chain) c.in-Ok.ensures c.requires in
    record {
      refined =
          c.carry_out.ensures.refined
          ∙ refine_carried c.args.t (mesh_of (goal.at.returns-in-Ok c).After-find) 0 F.0 refl;
      told =
          told_done _ (ap (λ (o : Outcome). o.answer.refusal) c.carry_out.ensures.refined) c.carry_out.ensures.told;
      lent = c.carry_out.ensures.lent;
    }

pub returns-in-Err-clause-refined : goal.returns-in-Err-clause-refined
returns-in-Err-clause-refined c =
    let F = found_seen c.args.counts c.view.ensures.same c.args.t (Err c.in-Err.refusal) c.in-Err.ensures c.requires in
    rw c.refused.ensures
    (refine_refused c.args.t (mesh_of (goal.at.returns-in-Err-clause-refined c).After-find) _ F.0 (number_some c.in-Err.refusal))

pub returns-in-Err-clause-told : goal.returns-in-Err-clause-told
returns-in-Err-clause-told c = rw c.refused.ensures (told_refused _ _ (number_some c.in-Err.refusal))
