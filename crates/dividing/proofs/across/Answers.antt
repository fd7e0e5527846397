-- `dividing::across` meets its contract.
use mathlib.Core.Path.{◌∙◌}
use native.Mathlib.Omega.{arith}
use Rattle.dividing.proofs.ChildRows.{base_is, base_low, partner_is}
use Rattle.dividing.proofs.across.Goals as goal

pub returns : goal.returns
returns c = (
  partner_is _ _ _ c.requires.2 c.chosen.ensures c.chosen-2.ensures,
  omega (arith, c.chosen.ensures ∙ base_is _ _ c.requires.2, base_low _ _ c.requires.2 c.requires.1),
)
