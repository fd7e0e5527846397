-- `wanting::is_wanted` meets its contract.
use mathlib.Core.Bool.{Bool, true, false, ◌&&◌, ◌||◌}
use mathlib.Core.List.{List}
use mathlib.Core.Path.{◌≡◌, refl, sym, ◌∙◌}
use Prim.Native.Nat.{ℕ, ◌+◌, ◌*◌, ◌<◌}
use native.Mathlib.Omega.{arith}
use lib.Dec.{ltb}
use lib.ListN.{length, get_or}
use Rattle.marks.specs.Marks.{marked}
use Rattle.rules.specs.Boxes.{Box, in_box, wanted}
use Rattle.rules.specs.Tables.{Mesh, origin}
use Rattle.wanting.specs.Wanting.{Looks}
use Rattle.wanting.proofs.is_wanted.Goals as goal

and_false : (x : Bool) → false ≡ (x && false)
and_false true = refl
and_false false = refl

and_true : (x : Bool) → x ≡ (x && true)
and_true true = refl
and_true false = refl

module _ {b : Box} {m : Mesh} {c g inside : List ℕ} {k t : ℕ} (X : Looks b m c g inside k)
    (u : t < m.topology.triangles) where
  -- A corner can be read, has a mark, and is marked where it lies in the box.
  corner_there : 3 * t + 2 < length c
  corner_there = rw X.corners (omega (arith, X.sound.tables.corners, X.sound.triangle_room))

  corner_has_mark : (i : ℕ) → i < 3 → get_or c (3 * t + i) 0 < 64 * length inside
  corner_has_mark i l =
      rw X.corners
      (omega (arith, X.sound.corner (3 * t + i) (omega arith), X.sound.vertex_room, X.seen.room))

  corner_seen : (i : ℕ) → i < 3
      → marked inside (get_or c (3 * t + i) 0) ≡ in_box b m (origin m.topology (3 * t + i))
  corner_seen i l = rw X.corners (X.seen.right _ (X.sound.corner (3 * t + i) (omega arith)))

  by_corners : (r : Bool)
      → r ≡ (marked inside (get_or c (3 * t + 0) 0) || marked inside (get_or c (3 * t + 1) 0)
      || marked inside (get_or c (3 * t + 2) 0))
      → (ltb (get_or g t 0) k && r) ≡ wanted b m t
  unfolding wanted
  by_corners r e =
      rw (
        e,
        corner_seen 0 (omega arith),
        corner_seen 1 (omega arith),
        corner_seen 2 (omega arith),
        X.generations,
        X.below,
      ) refl

  none_inside : false ≡ (marked inside (get_or c (3 * t + 0) 0) || marked inside (get_or c (3 * t + 1) 0)
      || marked inside (get_or c (3 * t + 2) 0)) → false ≡ wanted b m t
  none_inside e = and_false (ltb (get_or g t 0) k) ∙ by_corners false e

  some_inside : true ≡ (marked inside (get_or c (3 * t + 0) 0) || marked inside (get_or c (3 * t + 1) 0)
      || marked inside (get_or c (3 * t + 2) 0)) → ltb (get_or g t 0) k ≡ wanted b m t
  some_inside e = and_true (ltb (get_or g t 0) k) ∙ by_corners true e

pub has_marked_corner-requires : goal.has_marked_corner-requires
has_marked_corner-requires c =
    let (b, m, X, u) = c.requires in
    (corner_there X u, corner_has_mark X u)

pub returns-then-not-has_marked_corner : goal.returns-then-not-has_marked_corner
returns-then-not-has_marked_corner c b m X u =
    none_inside X u (sym c.if-not-has_marked_corner.true ∙ c.has_marked_corner.ensures)

pub returns : goal.returns
returns c b m X u =
    let e = sym c.if-not-has_marked_corner.false ∙ c.has_marked_corner.ensures in
    rw c.generation_at.ensures (some_inside X u e)
