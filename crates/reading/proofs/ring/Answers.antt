-- `reading::ring` meets its contract.
use Rattle.reading.proofs.FindRing.{written, refused}
use Rattle.reading.proofs.ring.Goals as goal

pub returns-in-Ok : goal.returns-in-Ok
returns-in-Ok c =
    written _ _ _ _ _ c.in-Ok.ensures (c.write_ring.ensures c.args.counts.vertices c.args.view.now.generations.now)

pub returns-in-Err : goal.returns-in-Err
returns-in-Err c = rw c.number.ensures (refused _ _ _ c.in-Err.refusal c.in-Err.ensures)
