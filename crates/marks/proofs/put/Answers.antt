-- `marks::put` meets its contract.
use Rattle.marks.proofs.Tables.{mark_put}
use Rattle.marks.proofs.put.Goals as goal

pub returns : goal.returns
returns c = mark_put _ _ _ _ c.requires c.with_bit.ensures
