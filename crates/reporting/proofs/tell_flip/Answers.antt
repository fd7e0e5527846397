-- `reporting::tell_flip` meets its contract.
use Rattle.reporting.proofs.Telling.{tells_two}
use Rattle.reporting.proofs.tell_flip.Goals as goal

pub returns : goal.returns
returns c =
    rw c.if-not-flipped.false (tells_two c.args.c _ c.args.at c.args.report.now)
