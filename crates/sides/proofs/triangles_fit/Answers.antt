-- `sides::triangles_fit` meets its contract.
use native.Mathlib.Omega.{arith}
use mathlib.Core.Path.{refl, sym, ◌∙◌}
use Rattle.theory.proofs.Numbers.Decide.{all_more, all_fails}
use Rattle.rules.specs.Below.{all}
use Rattle.tables.specs.Lent.{seen, topology_with}
use Rattle.rules.specs.Tables.{Topology}
use Rattle.sides.specs.Parts.{triangle_fits}
use Rattle.theory.proofs.Numbers.Answers.{never}
use Rattle.sides.proofs.Starts.{none_seen, kept_at}
use Rattle.sides.proofs.triangles_fit.Goals as goal

pub loop-t-init : goal.loop-t-init
unfolding all
loop-t-init c =
    (refl, none_seen _ _ _ _ c.requires.zeroed)

pub returns-then-not-triangle_fits : goal.returns-then-not-triangle_fits
returns-then-not-triangle_fits c =
    let topology : Topology = topology_with c.args.counts (seen c.args.view.now) in
    let one = sym c.triangle_fits.ensures.value ∙ c.if-not-triangle_fits.true in
    record { value = sym (all_fails _ _ (triangle_fits topology) c.loop-t-test.true one); all_kept = never }

pub loop-t-preserved : goal.loop-t-preserved
loop-t-preserved c =
    let topology : Topology = topology_with c.args.counts (seen c.args.view.now) in (
      all_more _ (triangle_fits topology) c.loop-t.invariant.0 (sym c.triangle_fits.ensures.value ∙ c.if-not-triangle_fits.false),
      kept_at _ _ (omega arith) (c.triangle_fits.ensures.kept_after c.if-not-triangle_fits.false),
    )
