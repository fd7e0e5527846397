-- `restoring::putting::put_back_all` meets its contract.
use Rattle.restoring.proofs.SlotsBack.{none_put, one_more_put}
use Rattle.restoring.proofs.putting.put_back_all.Goals as goal

pub loop-i-init : goal.loop-i-init
loop-i-init c = none_put _ _

pub loop-i-preserved : goal.loop-i-preserved
loop-i-preserved c = one_more_put c.loop-i.invariant c.put_back.ensures.lent c.put_back.ensures.put c.put_back.ensures.over
