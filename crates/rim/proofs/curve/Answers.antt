-- `rim::curve` meets its contract.
use Rattle.rim.proofs.Finding.{curve_refused, curve_carried}
use Rattle.rim.proofs.curve.Goals as goal

pub returns-in-Ok : goal.returns-in-Ok
returns-in-Ok c =
    curve_carried _ _ _ c.in-Ok.ensures (c.write_curve.ensures c.args.counts c.in-Ok.ensures.traced)

pub returns-in-Err : goal.returns-in-Err
returns-in-Err c = rw c.number.ensures (curve_refused _ _ _ c.in-Err.refusal c.in-Err.ensures)
