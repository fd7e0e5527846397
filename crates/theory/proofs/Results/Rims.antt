-- What is proved of the rim as a curve. (Request n)
use mathlib.Core.Path.{◌≡◌}
use mathlib.Core.List.{List}
use Prim.Native.Nat.{ℕ, ◌*◌, ◌≤◌, ◌<◌}
use lib.IntN.{ℤ, pos}
use lib.ListN.{length, get_or}
use Rattle.theory.proofs.Calls.Outcomes.{rim_closed, curve_makes, curve_enough, same_curves}
use Rattle.rules.specs.Promises.{RimMakes, CurveMakes, SameRims}
use Rattle.rules.specs.Rim.{rim, curve_read, curve_call}
use Rattle.rules.specs.Ring.{OnBoundary}
use Rattle.rules.specs.Sound.{Sound}
use Rattle.rules.specs.Tables.{Mesh}

-- The rim from a vertex on closes, lists each of its vertices once, and has at least two.
pub rim_whole : {m : Mesh} → Sound m → (v : ℕ) → OnBoundary m.topology v
    → RimMakes m.topology v (rim m.topology v)
rim_whole = rim_closed

-- A call for the curve of a rim that is carried out writes it into the first entries of the table and nothing else, and
-- the mesh stands. Each coordinate is nearest to its fraction, which is never half-way between two whole numbers, and
-- lies within the least and the greatest of its three sources.
pub curve_carried : (v : ℕ) (table : List ℤ) (m : Mesh) → (curve_call v table m).answer.refusal ≡ 0
    → (curve_call v table m ≡ curve_read v table m) × CurveMakes v m table (curve_call v table m).room.table
curve_carried = curve_makes

-- On a sound mesh 9 V entries do for the rim of every vertex that is on one.
pub curve_in_9_v : (v : ℕ) (table : List ℤ) (m : Mesh) → Sound m → OnBoundary m.topology v
    → 9 * m.topology.vertices ≤ length table → (curve_call v table m).answer.refusal ≡ 0
curve_in_9_v = curve_enough

-- Two rims with equal points in this order get equal curves, whatever the rules and the tables lent.
pub same_rims_same_curves : (v w : ℕ) (table table' : List ℤ) (m n : Mesh) →
    let o = curve_call v table m in
    let q = curve_call w table' n in
    o.answer.refusal ≡ 0 → q.answer.refusal ≡ 0
    → SameRims m n (rim m.topology v) (rim n.topology w)
    → (q.answer.ring_length ≡ o.answer.ring_length)
    × ((i : ℕ) → i < 9 * o.answer.ring_length → get_or q.room.table i (pos 0) ≡ get_or o.room.table i (pos 0))
same_rims_same_curves = same_curves
