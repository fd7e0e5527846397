-- `journal::append::refine` meets its contract.
use Rattle.journal.proofs.Appending.{bytes_one}
use Rattle.journal.proofs.append.refine.Goals as goal

pub returns : goal.returns
returns c = rw bytes_one at c.numbers.ensures
