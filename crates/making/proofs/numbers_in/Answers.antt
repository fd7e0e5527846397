-- `making::numbers_in` meets its contract: the first i numbers are read.
use Rattle.std.proofs.Common.{arith, refl}
use Rattle.journal.specs.Journal.{numbers_in}
use Rattle.making.proofs.Calling.{number_put}
use Rattle.making.proofs.numbers_in.Goals as goal

pub loop-i-init : goal.loop-i-init
unfolding numbers_in
loop-i-init c = refl

pub loop-i-preserved : goal.loop-i-preserved
loop-i-preserved c = number_put _ _ _ _ (omega arith) c.loop-i.invariant c.number_at.ensures
