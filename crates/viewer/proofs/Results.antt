-- What is proved of what a viewer is given, to be read alone. (Request j)
use Rattle.std.proofs.Common.{ℕ, ◌+◌, ◌*◌, ◌<◌, arith, List, length, ℤ, ◌≡◌, ◌≢◌, refl, sym, ap, Float}
use Rattle.theory.proofs.Calls.CallRefusals.{view_judged}
use Rattle.theory.proofs.Calls.FirstThatHolds.{judged_carried, judged_refusal}
use Rattle.theory.proofs.Results.Rings.{position_carried}
use Rattle.rules.specs.Calls.{position_call, view_call}
use Rattle.rules.specs.Numbers.{InRange}
use Rattle.rules.specs.Sound.{Sound}
use Rattle.rules.specs.Tables.{Mesh, coordinate}
use Rattle.viewer.proofs.Exact.{is_exact}
use Rattle.viewer.proofs.Viewing.{position_told, view_kept, passed, shown_holds}
use Rattle.viewer.specs.declared.Seen.TheVariants as Seen·
use Rattle.viewer.specs.View.{millimetres, in_millimetres, told, seen_of, table_after, IsExact, ShownIn}

-- Over the whole range a coordinate is given exactly, and times 1024 it is the integer again.
pub exact_in_range : (z : ℤ) → InRange z → IsExact z (millimetres z)
exact_in_range = is_exact

-- So is every coordinate of a sound mesh.
pub exact_coordinates : {m : Mesh} → Sound m → (v k : ℕ) → v < m.topology.vertices → k < 3
    → IsExact (coordinate m v k) (millimetres (coordinate m v k))
exact_coordinates {m} S v k l i = is_exact (coordinate m v k) (S.range (3 * v + k) (omega arith))

-- A call for a vertex answers the number of its position query, and its point in millimetres, which on a refusal is
-- zeros.
pub point_told_lem : (v : ℕ) (m : Mesh) →
    let o = position_call v m in
    told (seen_of o) ≡ (o.answer.refusal, in_millimetres o.answer.point)
point_told_lem = position_told

-- One that is carried out answers a point, that of the vertex.
pub point_carried : (v : ℕ) (m : Mesh) → (position_call v m).answer.refusal ≡ 0
    → seen_of (position_call v m) ≡ Seen·.Point (in_millimetres (coordinate m v 0, coordinate m v 1, coordinate m v 2))
point_carried v m z = ap seen_of (position_carried v m z)

-- A refused call for all triangles leaves the table as it was.
pub triangles_refused : (m : Mesh) (table : List Float) → (view_call (length table) m).answer.refusal ≢ 0
    → table_after m table ≡ table
triangles_refused m table x =
    let e = judged_refusal refl (view_judged (length table) m) in
    sym (view_kept (length table) m _ refl table (rw (sym e) x))

-- Any other leaves in it the points of their corners, in the order of the slots, and later entries as they were.
pub triangles_carried : (m : Mesh) (table : List Float) → (view_call (length table) m).answer.refusal ≡ 0
    → ShownIn m table (table_after m table)
triangles_carried m table z =
    let none = (judged_carried (view_judged (length table) m) z).0 in
    rw none (shown_holds m table (passed (length table) m _ refl none).1)
