-- A rim followed from one of its sides, and the outcome of its curve.
use Rattle.std.specs.Prelude.{ℕ, ◌+◌, ◌-◌, ◌*◌, ◌≤◌, List, ◌≡◌, ℤ, length}
use Rattle.theory.proofs.Links.Manifold.{Manifold}
use Rattle.theory.proofs.Rims.RimWalk.{RimSide, along}
use Rattle.rules.specs.Calls.{Outcome, answer_of, outcome_of, table_room, zero_point}
use Rattle.rules.specs.Rim.{rim, curve_refusal}
use Rattle.rules.specs.Ring.{first_side}
use Rattle.rules.specs.Sound.{Sound}
use Rattle.rules.specs.Spares.{Spares}
use Rattle.rules.specs.Tables.{Topology, Mesh, origin}
use Rattle.points.specs.Axes.{smoothed_point}
use Rattle.points.specs.declared.Point.{Point}
use Rattle.tables.specs.Lent.{mesh_with, put_point}
use Rattle.rim.specs.declared.Trace.{Trace}
use Rattle.rim.specs.declared.FoundRim.{FoundRim}
use Rattle.rim.specs.declared.RimRead.{RimRead}

-- Side h is on the boundary of a mesh that is sound, but for bases that meet.
pub record OnRimSide (m : Topology) (h : ℕ) : Type 0 where
  pub manifold : Manifold m
  pub side : RimSide m (origin m h) h

-- The rim from the side `first` on has so many vertices, and `last` is its side back to the first of them.
pub record Closes (m : Topology) (first : ℕ) (a : Trace) : Type 0 where
  pub size : a.length ≡ length (rim m (origin m first))
  pub back : a.last ≡ first_side m (along m (origin m first) (a.length - 1))

-- Both, in a sound mesh.
pub record Traced (m : Mesh) (first : ℕ) (a : Trace) : Type 0 where
  pub sound : Sound m
  pub on_rim : OnRimSide m.topology first
  pub closes : Closes m.topology first a

-- The three points of a vertex at b, where the one before is at a and the one after at c, in slots i, i + 1 and i + 2 of
-- a table.
abbrev pub three_points : ℕ → Point → Point → Point → List ℤ → List ℤ
three_points i a b c table =
    put_point (i + 2) (smoothed_point 1 16 10 a b c)
    (put_point (i + 1) (smoothed_point 4 19 4 a b c) (put_point i (smoothed_point 10 16 1 a b c) table))

-- A curve of v into a table with this room is refused with n, or 0 for none.
pub record Refused (v room n : ℕ) (m : Mesh) : Type 0 where
  pub first : (table : List ℤ) → length table ≡ room → n ≡ curve_refusal v table m

-- A rim from v on whose curve fits a table with this room.
pub record Found (v room : ℕ) (m : Mesh) (a : FoundRim) : Type 0 where
  pub traced : Traced m a.first a.trace
  pub from : origin m.topology a.first ≡ v
  pub fits : 9 * a.trace.length ≤ room
  pub accepted : Refused v room 0 m

-- The outcome of a call that reads a curve.
abbrev pub curve_outcome : RimRead → Spares → List ℤ → Outcome
curve_outcome a s table =
    let m = mesh_with a.counts s in
    outcome_of (answer_of a.refusal 0 0 a.length zero_point m) m (table_room table)
