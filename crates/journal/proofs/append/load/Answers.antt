-- `journal::append::load` meets its contract.
use Rattle.journal.proofs.Appending.{bytes_one}
use Rattle.journal.proofs.append.load.Goals as goal

pub returns : goal.returns
returns c = rw bytes_one at c.record.ensures
