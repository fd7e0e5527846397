-- `limits::refusal` meets its contract.
use borrow.Author.Tests.{eq-eqb, ne_eqb}
use native.Mathlib.Omega.{arith}
use mathlib.Core.Bool.{not}
use mathlib.Core.Path.{ap, refl, sym, ◌∙◌}
use Rattle.theory.proofs.Steps.StepRefusals.{limit_by_tests}
use Rattle.moving.proofs.Deciding.{closed_of, rings_tell}
use Rattle.limits.proofs.refusal.Goals as goal

pub returns-then-not-closed_even : goal.returns-then-not-closed_even
returns-then-not-closed_even c k S = (
  λ table e.
      limit_by_tests table S (sym (c.closed_even.ensures _ _) ∙ c.if-not-closed_even.true) refl refl,
  λ e. absurd (omega arith),
)

pub ring_sums-requires : goal.ring_sums-requires
ring_sums-requires c =
    let even = sym (c.closed_even.ensures c.args.counts.vertices c.args.view.now.corners.now) ∙ c.if-not-closed_even.false in
    let (k, S) = c.requires.0 in
    record { by_index = (_, _, k, closed_of S even); cleared = c.requires.1 }

pub returns-then-not-ring_sums : goal.returns-then-not-ring_sums
returns-then-not-ring_sums c k S =
    let even = sym (c.closed_even.ensures c.args.counts.vertices c.args.view.now.corners.now) ∙ c.if-not-closed_even.false in
    let rings = c.ring_sums.ensures c.args.view.now.links.now c.args.view.now.generations.now k (closed_of S even) in (
      λ table e. limit_by_tests table S even (sym (rings_tell _ rings) ∙ ap not c.if-not-ring_sums.true) refl,
      λ e. absurd (omega arith),
    )

pub returns-then-entries-counts : goal.returns-then-entries-counts
returns-then-entries-counts c k S =
    let even = sym (c.closed_even.ensures c.args.counts.vertices c.args.view.now.corners.now) ∙ c.if-not-closed_even.false in
    let rings = c.ring_sums.ensures c.args.view.now.links.now c.args.view.now.generations.now k (closed_of S even) in (
      λ table e.
          limit_by_tests table S even (sym (rings_tell _ rings) ∙ ap not c.if-not-ring_sums.false)
          (ne_eqb _ _ (λ q. c.if-entries-counts.true (sym e ∙ q))),
      λ e. absurd (omega arith),
    )

pub returns : goal.returns
returns c k S =
    let even = sym (c.closed_even.ensures c.args.counts.vertices c.args.view.now.corners.now) ∙ c.if-not-closed_even.false in
    let rings = c.ring_sums.ensures c.args.view.now.links.now c.args.view.now.generations.now k (closed_of S even) in (
      λ table e.
          limit_by_tests table S even (sym (rings_tell _ rings) ∙ ap not c.if-not-ring_sums.false)
          (eq-eqb _ _ (e ∙ c.if-entries-counts.false)),
      λ e. (rings.whole c.if-not-ring_sums.false, c.if-entries-counts.false),
    )
