-- `rawplinth::reads::rawplinth_view_point` meets its contract: a refusal's arm is given which answer `viewer::point` gave.
use mathlib.Core.Path.{◌≡◌, sym, ap, ◌∙◌}
use Prim.Native.Nat.{ℕ}
use lib.Ieee.{div, of_int, of_bits}
use Rattle.rules.specs.Calls.{position_call}
use Rattle.rules.specs.Tables.{Mesh}
use Rattle.viewer.proofs.Results.{point_told_lem}
use Rattle.viewer.specs.declared.Seen.{Seen}
use Rattle.viewer.specs.declared.ViewPoint.{ViewPoint}
use Rattle.viewer.specs.View.{millimetres, told, seen_of}
use Rattle.rawplinth.specs.declared.reads.PointSeen.{PointSeen}
use Rattle.rawplinth.specs.Seeing.{point_told}
use Rattle.rawplinth.proofs.reads.rawplinth_view_point.Goals as goal

-- A number and a point, as C is told of them.
abbrev as_struct : ℕ × ViewPoint → PointSeen
as_struct x = record { refusal = x.0; point = x.1 }

told_is : (v : ℕ) (m : Mesh) {s r : Seen} → r ≡ s → r ≡ seen_of (position_call v m)
    → as_struct (told s) ≡ point_told (position_call v m)
told_is v m e told_of = ap as_struct (ap told (sym e ∙ told_of) ∙ point_told_lem v m)

pub returns-in-Refused : goal.returns-in-Refused
unfolding of_bits millimetres div of_int
returns-in-Refused c =
    told_is _ _ c.in-Refused.is c.point.ensures
