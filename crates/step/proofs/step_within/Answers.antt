-- `step::step_within` meets its contract.
use Rattle.rings.proofs.sums.Zeros.{cleared}
use Rattle.step.proofs.step_within.Goals as goal

pub step_by-requires : goal.step_by-requires
step_by-requires g c =
    (c.requires.sound, rw c.nothing-unknown.ensures (cleared _ g.row.N c.requires.slots.0))
