-- `tables::store_point` meets its contract.
use borrow.Author.Rules.{rules}
use lib.IntN.{pos}
use Rattle.tables.proofs.store_point.Goals as goal

pub returns : goal.returns
returns c = let e = c.store_three.ensures (pos 0) in search rules
