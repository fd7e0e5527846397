-- `limits::limits_within` meets its contract.
use Rattle.rings.proofs.sums.Zeros.{cleared}
use Rattle.limits.proofs.limits_within.Goals as goal

pub limits_by-requires : goal.limits_by-requires
limits_by-requires g c =
    (c.requires.sound, rw c.nothing-unknown.ensures (cleared _ g.row.N c.requires.slots.0))
