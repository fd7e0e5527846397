-- `noting::changed::list_all` meets its contract.
use mathlib.Core.Path.{◌∙◌}
use native.Mathlib.Omega.{arith}
use Rattle.noting.proofs.Listing.{chain_on}
use Rattle.noting.proofs.changed.list_all.Goals as goal

pub loop-x-preserved : goal.loop-x-preserved
loop-x-preserved c = (
  chain_on c.args.links.now c.args.odd.now c.loop-x.invariant.0 c.list_near-at.ensures.0,
  omega (arith, c.loop-x.invariant.1, c.list_near-at.ensures.1),
  c.list_near-at.auto.slots ∙ c.loop-x.invariant.2,
)
