-- `viewer::millimetres` meets its contract.
use lib.Ieee.{of_bits}
use mir.Facts.{to_z-of_z}
use Rattle.viewer.specs.View.{millimetres}
use Rattle.viewer.proofs.millimetres.Goals as goal

pub returns : goal.returns
unfolding millimetres of_bits
returns c =
    rw (to_z-of_z c.ranges.x)
