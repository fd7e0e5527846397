-- `marks::mark` meets its contract.
use Rattle.marks.proofs.Tables.{levels_keep}
use Rattle.marks.proofs.mark.Goals as goal

pub returns : goal.returns
returns c =
    (c.put.ensures, levels_keep _ _ _ _ c.requires.0 c.put.ensures c.put-2.ensures, c.put-2.ensures.size)
