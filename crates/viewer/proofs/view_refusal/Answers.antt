-- `viewer::view_refusal` meets its contract.
use Rattle.std.proofs.Common.{ap, ◌∙◌, lt-ltb, le-ltb}
use Rattle.theory.proofs.Calls.FirstThatHolds.{third_kept, third_holds, third_none}
use Rattle.rules.specs.Calls.{view_refusal}
use Rattle.tables.specs.Refusals.{refused}
use Rattle.tables.proofs.Refusing.{refused_some, passed_on}
use Rattle.viewer.proofs.view_refusal.Goals as goal

pub returns-in_err-first_refusal : goal.returns-in_err-first_refusal
unfolding view_refusal
returns-in_err-first_refusal c =
    passed_on _ c.in_err-first_refusal.was c.from_residual.ensures.1
    ∙ third_kept _ 20 _ _ c.first_refusal.ensures (refused_some c.in_err-first_refusal.was)

pub returns-then-entries-counts : goal.returns-then-entries-counts
unfolding view_refusal
returns-then-entries-counts c =
    third_holds _ 20 _ _ c.first_refusal.ensures (ap refused c.in_ok-first_refusal.was)
    (lt-ltb _ _ c.if-entries-counts.true)

pub returns : goal.returns
unfolding view_refusal
returns c =
    third_none _ 20 _ _ c.first_refusal.ensures (ap refused c.in_ok-first_refusal.was)
    (le-ltb _ _ c.if-entries-counts.false)
