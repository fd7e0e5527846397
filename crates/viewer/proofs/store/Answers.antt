-- `viewer::store` meets its contract.
use borrow.Author.Rules.{rules}
use Rattle.viewer.proofs.store.Goals as goal

pub returns : goal.returns
returns c = let e = c.store_three.ensures c.args.p.x in search rules
