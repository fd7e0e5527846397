-- `marks::is_marked` meets its contract.
use mathlib.Core.Path.{refl}
use Rattle.marks.specs.Marks.{marked, bit_at}
use Rattle.marks.proofs.is_marked.Goals as goal

pub returns : goal.returns
unfolding marked bit_at
returns c = refl
