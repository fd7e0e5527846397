-- `split::base_chain` meets its contract: at each turn what is counted and what is ahead make the whole chain.
use borrow.Author.Rules.{rules}
use Prim.Native.Nat.{ℕ, ◌+◌, ◌-◌, ◌%◌}
use native.Mathlib.Nat.{sub-zero}
use native.Mathlib.Omega.{arith}
use mathlib.Core.Path.{◌≡◌, sym, ◌∙◌, ap}
use lib.ListN.{length, length-set}
use Rattle.rules.specs.Tables.{Topology}
use Rattle.tables.specs.Lent.{topology_now}
use Rattle.split.proofs.Walk.{Walking, walk_begins, walk_ends, walk_more, walk_even}
use Rattle.split.proofs.Walk.{walk_boundary, walk_on, Walked, walk_tells}
use Rattle.split.proofs.base_chain.Goals.{In-loop-step}
use Rattle.split.proofs.base_chain.Goals as goal
use Rattle.split.proofs.base_chain.Goals.{else-loop-step-test, then-loop-step-test+then-generation_at-eq0, then-loop-step-test+else-generation_at-eq0+then-across}

pub loop-step-init : goal.loop-step-init
loop-step-init c =
    (λ n k. rw (c.generation_at-steps.ensures, sub-zero) (walk_begins _), search rules, search rules)

-- An odd triangle's generation, as it was read.
odd_read : (g r : ℕ) → r ≡ g → (r % 2 ≡ 0 → ⊥) → g % 2 ≡ 1
odd_read g r e n = rw (← e) (omega (arith, n))

-- The steps left after this one.
abbrev left : In-loop-step → ℕ
left c = c.generation_at-steps.result - (c.loop-step._step + 1)

pub loop-step-preserved : goal.loop-step-preserved
loop-step-preserved c = (
  λ n k.
      rw c.base_link-across.ensures
      (walk_on _ (walk_more (left (goal.at.loop-step-preserved c).In-loop-step) (omega (arith, c.loop-step-test.true)) (c.loop-step.invariant.0 n k))
      (odd_read _ _ c.generation_at.ensures c.if-generation_at-eq0.false) (omega arith)
      (λ e. c.if-across.false (c.base_link-across.ensures ∙ e))),
  omega arith,
  length-set c.loop-step.slots c.loop-step.odd c.loop-step.end ∙ c.loop-step.invariant.2,
)

pub returns : goal.returns
returns c n k =
    let m : Topology = topology_now n k c.args.view.now.links.now c.args.view.now.generations.now in
    let ahead : ℕ = c.generation_at-steps.result - c.loop-step._step in
    let walking : Walking m c.args.t c.loop-step.odd c.loop-step.end ahead c.loop-step.slots =
    c.loop-step.invariant.0 n k in
    -- past the loop: by its test, or by one of its two breaks
    let walked : Walked m c.args.t c.loop-step-test.odd c.loop-step.end c.loop-step-test.slots =
    elim c.loop-step-test.branch [
      | else-loop-step-test w ↦
          let none : ahead ≡ 0 = omega (arith, w.loop-step-test.false) in
          rw (w.odd-is, w.slots-is) (walk_ends (rw none at walking))
      | then-loop-step-test+then-generation_at-eq0 w ↦
          rw (w.odd-is, w.slots-is)
          (walk_even _ (walk_more (ahead - 1) (omega (arith, w.loop-step-test.true)) walking)
          (rw (← w.generation_at.ensures) w.if-generation_at-eq0.true))
      | then-loop-step-test+else-generation_at-eq0+then-across w ↦
          rw (w.odd-is, w.slots-is)
          (walk_boundary _ (walk_more (ahead - 1) (omega (arith, w.loop-step-test.true)) walking)
          (odd_read _ _ w.generation_at.ensures w.if-generation_at-eq0.false) (omega arith)
          (sym w.base_link-across.ensures ∙ w.if-across.true))
    ] in
    -- the array is as long as it was
    let held : length c.loop-step-test.slots ≡ 20 =
    elim c.loop-step-test.branch [
      | else-loop-step-test w ↦ rw w.slots-is c.loop-step.invariant.2
      | then-loop-step-test+then-generation_at-eq0 w ↦ rw w.slots-is c.loop-step.invariant.2
      | then-loop-step-test+else-generation_at-eq0+then-across w ↦
          rw w.slots-is (length-set c.loop-step.slots c.loop-step.odd c.loop-step.end ∙ c.loop-step.invariant.2)
    ] in
    walk_tells _ walked held (ap (λ g. g % 2) c.generation_at-2.ensures)
