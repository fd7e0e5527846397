-- `reporting::report_length` meets its contract.
use Rattle.reporting.proofs.Telling.{length_steps}
use Rattle.reporting.proofs.report_length.Goals as goal

pub returns : goal.returns
returns c t n p k l R C =
    length_steps R C (c.flip_length-own.ensures.0 n k) (c.flip_length-second.ensures.0 n k)
    (c.flip_length-third.ensures.0 n k) c.splits.ensures
