-- What a viewer is given: coordinates in millimetres, as f32. (Request j)
use Rattle.std.specs.Prelude.{ℕ, zero, suc, ◌+◌, ◌*◌, ◌/◌, ◌%◌, ◌≤◌, ◌<◌, Bool, true, false, List, ◌≡◌, T, Float, ℤ, pos, negsuc, nat_abs, get_or, length, drop}
use Rattle.std.specs.Float.{fin, binary32}
use Rattle.std.specs.Float.Ieee.{mul, div, of_int, in_signed, to_signed}
use Rattle.std.specs.Float.Ieee.Exact.{HasValue}
use Rattle.points.specs.declared.Point.{Point}
use Rattle.rules.specs.Below.{fill}
use Rattle.rules.specs.Calls.{Outcome, answer_of, no_room, outcome_of, zero_point, view_refusal}
use Rattle.rules.specs.Numbers.{InRange}
use Rattle.rules.specs.Spares.{Spares}
use Rattle.rules.specs.Tables.{Mesh, origin, coordinate}
use Rattle.tables.specs.Lent.{mesh_with, point_in}
use Rattle.viewer.specs.declared.Seen.{Seen}
use Rattle.viewer.specs.declared.Seen.TheVariants as Seen·
use Rattle.viewer.specs.declared.Shown.{Shown}
use Rattle.viewer.specs.declared.ViewPoint.{ViewPoint}

-- 1024, which is 2 to the power of 10.
abbrev pub scale : Float
scale = fin false 1 (pos 10)

-- A coordinate, in units of 1/1024 mm, in millimetres: converted and divided as binary32.
unfoldable pub millimetres : ℤ → Float
millimetres z = div binary32 (of_int binary32 z) scale

abbrev pub in_millimetres : ℤ × ℤ × ℤ → ViewPoint
in_millimetres p = record { x = millimetres p.0; y = millimetres p.1; z = millimetres p.2 }

-- ---- one vertex

-- What each case of the answer says: a point 0 and its coordinates, a refusal its number and zeros.
abbrev pub told : Seen → ℕ × ViewPoint
told (Seen·.Point p) = (0, p)
told (Seen·.Refused n) = (n, in_millimetres zero_point)

-- The case for a refusal's number, 0 for none, and a point.
abbrev pub seen_unless : ℕ → ViewPoint → Seen
seen_unless zero p = Seen·.Point p
seen_unless (suc n) p = Seen·.Refused (suc n)

-- What is seen of a vertex whose position query has this outcome.
abbrev pub seen_of : Outcome → Seen
seen_of o = seen_unless o.answer.refusal (in_millimetres o.answer.point)

-- ---- all triangles

-- Entry i is coordinate i % 3 of the vertex at corner i / 3; corners 3 t, 3 t + 1 and 3 t + 2 are those of slot t.
abbrev pub entry_of : List ℤ → List ℕ → ℕ → Float
entry_of positions corners i = millimetres (get_or positions (3 * get_or corners (i / 3) 0 + i % 3) (pos 0))

-- The table with all triangles of m in it, nine numbers each; later entries keep their content.
unfoldable pub shown : Mesh → List Float → List Float
shown m table = fill (9 * m.topology.triangles) (entry_of m.positions m.topology.corners) table

-- The same unless the call is refused, n being the refusal's number.
abbrev pub shown_unless : ℕ → Mesh → List Float → List Float
shown_unless zero m table = shown m table
shown_unless (suc n) m table = table

-- The table after a call that shows all triangles of m in it.
abbrev pub table_after : Mesh → List Float → List Float
table_after m table = shown_unless (view_refusal (length table) m) m table

-- The outcome of such a call.
abbrev pub shown_outcome : Shown → Spares → Outcome
shown_outcome a s =
    let m = mesh_with a.counts s in
    outcome_of (answer_of a.refusal 0 0 0 zero_point m) m no_room

-- ---- what is promised

abbrev pub negative : ℤ → Bool
negative (pos n) = false
negative (negsuc n) = true

-- x is finite, has the sign of z (plus for 0) and is |z| / 1024 in size. Times 1024, as binary32, it is z with nothing
-- rounded, and so it may be converted to an i32, which is z.
pub record IsExact (z : ℤ) (x : Float) : Type 0 where
  pub value : HasValue x (negative z) (nat_abs z) 1024
  pub product : HasValue (mul binary32 x scale) (negative z) (nat_abs z) 1
  pub castable : T (in_signed binary32 31 (mul binary32 x scale))
  pub back : to_signed 31 (mul binary32 x scale) ≡ z

-- The table after a call that shows all triangles of m: corner c of triangle t stands at 9 t + 3 c, and later entries
-- keep their content.
pub record ShownIn (m : Mesh) (before after : List Float) : Type 0 where
  pub size : length after ≡ length before
  pub entries : (t c k : ℕ) → t < m.topology.triangles → c < 3 → k < 3 → (d : Float)
      → get_or after (9 * t + 3 * c + k) d ≡ millimetres (coordinate m (origin m.topology (3 * t + c)) k)
  pub later : drop (9 * m.topology.triangles) after ≡ drop (9 * m.topology.triangles) before

-- ---- what the functions below the calls require

pub record PointInRange (p : Point) : Type 0 where
  pub x : InRange p.x
  pub y : InRange p.y
  pub z : InRange p.z

-- The first n corners are vertices of the positions, in range.
pub record Corners (n : ℕ) (positions : List ℤ) (corners : List ℕ) : Type 0 where
  pub held : n ≤ length corners
  pub few : n ≤ 196608
  pub vertex : (h : ℕ) → h < n → get_or corners h 0 < length positions / 3
  pub in_range : (h : ℕ) → h < n → PointInRange (point_in positions (get_or corners h 0))
