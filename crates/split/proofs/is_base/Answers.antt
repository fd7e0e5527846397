-- `split::is_base` meets its contract.
use borrow.Author.Tests.{ne_eqb}
use Rattle.split.proofs.is_base.Goals as goal

pub returns-then-h-eq0 : goal.returns-then-h-eq0
returns-then-h-eq0 c n corners links =
    rw (c.if-h-eq0.true, c.generation_at.ensures)

pub returns-else-h-eq0 : goal.returns-else-h-eq0
returns-else-h-eq0 c n corners links =
    rw (ne_eqb _ _ c.if-h-eq0.false)
