-- `rings::walk_from` meets its contract.
use native.Mathlib.Omega.{arith}
use mathlib.Core.Path.{refl, sym, ◌∙◌}
use Rattle.rings.proofs.Walk.{walks_on, meets}
use Rattle.rings.proofs.walk_from.Goals as goal

pub loop-k-preserved : goal.loop-k-preserved
loop-k-preserved c =
    let on = sym c.goes_on.ensures ∙ c.if-not-goes_on.false in
    rw c.turned-k.ensures (walks_on c.loop-k.invariant _ refl (rw c.turned-k.ensures at on))

pub returns : goal.returns
returns c =
    let end = sym c.goes_on.ensures ∙ c.if-not-goes_on.true in
    meets c.loop-k.invariant _ refl (omega arith) (rw c.turned-k.ensures at end) (rw c.turned-k.ensures at c.entries_at.ensures)
