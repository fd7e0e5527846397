-- `noting::changed::list_beside` meets its contract.
use Rattle.noting.proofs.Inserting.{adds_then}
use Rattle.noting.proofs.changed.list_beside.Goals as goal

pub returns : goal.returns
returns c =
    adds_then c.list_unmet-second.ensures.0 c.list_unmet.ensures.0
