-- `journal::append::put_number` meets its contract.
use Rattle.std.proofs.Common.{◌∙◌}
use Rattle.journal.proofs.Appending.{four_low_first}
use Rattle.journal.proofs.append.put_number.Goals as goal

pub returns : goal.returns
returns c = rw (c.to_le_bytes.ensures ∙ four_low_first c.args.n) at c.put_bytes.ensures
