-- `reporting::tell_slots` meets its contract.
use Prim.Native.Nat.{◌+◌}
use Rattle.reporting.proofs.Telling.{tells_three}
use Rattle.reporting.proofs.tell_slots.Goals as goal

pub returns : goal.returns
returns c =
    tells_three c.args.t c.args.f (c.args.f + 1) c.args.at c.args.report.now
