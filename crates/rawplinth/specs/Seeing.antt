-- What C, which has no type that is one of two, is told of a seen vertex. (Request j)
use Rattle.rules.specs.Calls.{Outcome}
use Rattle.viewer.specs.View.{in_millimetres}
use Rattle.rawplinth.specs.declared.reads.PointSeen.{PointSeen}

-- The refusal's number and the point of the position query with this outcome, in millimetres: zeros on a refusal.
abbrev pub point_told : Outcome → PointSeen
point_told o = record { refusal = o.answer.refusal; point = in_millimetres o.answer.point }
