-- `tables::Tables::relink` meets its contract.
use lib.Seq.{set_out}
use Rattle.tables.proofs.Tables.relink.Goals as goal

pub returns-else-i-self-clause-linked : goal.returns-else-i-self-clause-linked
returns-else-i-self-clause-linked c n =
    rw (set_out _ _ _ c.if-i-self.false)
