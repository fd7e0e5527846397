-- `decoding::triangle_fits` meets its contract.
use mathlib.Core.Path.{refl}
use Rattle.theory.proofs.Links.Sides.{next_0, next_1, next_2}
use Rattle.decoding.proofs.triangle_fits.Goals as goal

pub returns : goal.returns
returns c =
    rw (next_0, next_1, next_2) refl
