-- `journal::append::put_bytes` meets its contract.
use Rattle.std.proofs.Common.{arith}
use Rattle.journal.proofs.Appending.{no_bytes_put, byte_put}
use Rattle.journal.proofs.append.put_bytes.Goals as goal

pub loop-i-init : goal.loop-i-init
loop-i-init c = no_bytes_put _ _

pub loop-i-preserved : goal.loop-i-preserved
loop-i-preserved c = byte_put _ _ (omega arith) c.loop-i.invariant
