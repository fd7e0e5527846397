-- `reporting::flip_length` meets its contract.
use mathlib.Core.Path.{refl, sym, ◌∙◌}
use native.Mathlib.Omega.{arith}
use Rattle.reporting.proofs.flip_length.Goals as goal

pub returns-then-is_base : goal.returns-then-is_base
returns-then-is_base c = (
  λ n k. rw (sym (c.is_base.ensures n k c.args.view.now.links.now) ∙ c.if-is_base.true) refl,
  omega arith,
)

pub returns : goal.returns
returns c = (
  λ n k. rw (sym (c.is_base.ensures n k c.args.view.now.links.now) ∙ c.if-is_base.false) refl,
  omega arith,
)
