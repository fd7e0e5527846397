-- `journal::append::whole_step` meets its contract.
use Rattle.journal.specs.Journal.{bytes_of}
use Rattle.journal.proofs.append.whole_step.Goals as goal

pub returns : goal.returns
unfolding bytes_of
returns c = c.numbers.ensures
