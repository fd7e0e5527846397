-- `journal::append::put_numbers` meets its contract.
use Rattle.std.proofs.Common.{arith}
use Rattle.journal.proofs.Appending.{no_numbers_put, number_put}
use Rattle.journal.proofs.append.put_numbers.Goals as goal

pub loop-i-init : goal.loop-i-init
loop-i-init c = no_numbers_put _ _

pub loop-i-preserved : goal.loop-i-preserved
loop-i-preserved c = number_put _ _ (omega arith) c.loop-i.invariant c.put_number.ensures
