-- `judging::load_by` meets its contract: what is copied is the cage's.
use mathlib.Core.Path.{refl}
use Rattle.judging.proofs.Sides.{hold}
use Rattle.judging.proofs.load_by.Goals as goal

pub returns-clause-sides_left : goal.returns-clause-sides_left
returns-clause-sides_left c =
    hold _ _ refl c.requires.sized.0.triangles c.in_ok-judge.ensures.holds (c.copy.ensures 0) (c.copy-2.ensures 0)
