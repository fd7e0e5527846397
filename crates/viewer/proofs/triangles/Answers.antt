-- `viewer::triangles` meets its contract.
use Rattle.std.proofs.Common.{refl, arith}
use Rattle.tables.proofs.Refusing.{number_some}
use Rattle.viewer.proofs.Viewing.{view_answered, view_kept, view_fits, view_corners, view_shown}
use Rattle.viewer.proofs.triangles.Goals as goal

pub returns-in-Err : goal.returns-in-Err
returns-in-Err c = (
  rw c.number.ensures (view_answered _ _ _ c.in-Err.ensures),
  view_kept _ _ _ c.in-Err.ensures _ (number_some c.in-Err.refusal),
)

pub overflow_mul-counts : goal.overflow_mul-counts
overflow_mul-counts c = omega (arith, (view_corners _ _ _ c.in_default.ensures refl).few)

pub write_corners-requires : goal.write_corners-requires
write_corners-requires c =
    (view_corners _ _ _ c.in_default.ensures refl, view_fits _ _ _ c.in_default.ensures refl)

pub returns : goal.returns
returns c = (
  view_answered _ _ _ c.in_default.ensures,
  view_shown _ _ _ c.in_default.ensures refl _ c.write_corners.ensures,
)
