-- What refutes the wrong rules of must-fail that are not left to Examples, each named in brackets. The meshes are
-- small, as every wrong rule costs a check of this crate; more examples are in the crate `examples`.
use Prim.Native.Nat.{ℕ}
use mathlib.Core.Bool.{true}
use mathlib.Core.List.{List, [], ◌∷◌, ◌++◌, map}
use mathlib.Core.Path.{◌≡◌, refl}
use lib.IntN.{ℤ, pos, negsuc}
use lib.ListN.{replicate, take, drop}
use Rattle.rules.proofs.Computing.{computing, made, fresh, lent_sevens, sevens, box_of, tetrahedron, refusal_after}
use Rattle.rules.proofs.Computing.{cage_at_origin, hinge}
use Rattle.rules.proofs.Examples.{line_of, one_triangle}
use Rattle.rules.specs.Actions.{place_after, flips, rename_two}
use Rattle.rules.specs.Boxes.{Box}
use Rattle.rules.specs.Calls.{Outcome, zero_point, refine_call}
use Rattle.rules.specs.History.{loads, refines, steps, refines_each, refines_in_box, sets_lock, limits_of, curve_of}
use Rattle.rules.specs.History.{asked, changes, outcome}
use Rattle.rules.specs.Numbers.{nearest_third, rounded}
use Rattle.rules.specs.Ring.{ring}
use Rattle.rules.specs.Sound.{is_sound}
use Rattle.rules.specs.Split.{flip}
use Rattle.rules.specs.Tables.{Mesh, Topology, topology_of, mesh_of, with_rule, origin, boundary}

-- The tetrahedron in 7 and 9 slots, and in no more than it takes.
unfoldable pub solid : Mesh
unfolding computing fresh tetrahedron
solid = made (loads 1 tetrahedron ∷ []) (fresh 7 9)

unfoldable pub full : Mesh
unfolding computing fresh tetrahedron
full = made (loads 1 tetrahedron ∷ []) (fresh 4 4)

-- The triangle alone, at (0,0,0), (9,0,0) and (0,9,0), in 8 and 7 slots.
unfoldable pub alone : Mesh
unfolding computing fresh one_triangle
alone = made (loads 1 one_triangle ∷ []) (fresh 8 7)

-- Stored tables of two triangles that share all three sides.
unfoldable pub foil : Mesh
foil =
    mesh_of (topology_of 3 2 (0 ∷ 1 ∷ 2 ∷ 0 ∷ 2 ∷ 1 ∷ []) (5 ∷ 4 ∷ 3 ∷ 2 ∷ 1 ∷ 0 ∷ []) (0 ∷ 0 ∷ []))
    (replicate 9 (pos 0)) (0 ∷ 0 ∷ []) 1

-- Two odd triangles whose bases meet.
unfoldable pub two_bases : Topology
two_bases =
    topology_of 4 2 (0 ∷ 1 ∷ 2 ∷ 1 ∷ 0 ∷ 3 ∷ []) (3 ∷ boundary ∷ boundary ∷ 0 ∷ boundary ∷ boundary ∷ []) (1 ∷ 1 ∷ [])

-- Two odd triangles, the base of slot 1 on slot 0 and that of slot 0 on the boundary, with 2 slots more of each kind.
unfoldable pub two_odd : Mesh
two_odd =
    mesh_of (topology_of 4 2
    (1 ∷ 0 ∷ 2 ∷ 2 ∷ 0 ∷ 3 ∷ replicate 6 0)
    (boundary ∷ 3 ∷ boundary ∷ 1 ∷ boundary ∷ boundary ∷ replicate 6 0)
    (1 ∷ 3 ∷ 0 ∷ 0 ∷ [])) (replicate 18 (pos 0)) (replicate 4 0) 1

-- What work in spare tables leaves: the refusal, the triangles of the mesh, the entries or turns that succeeded, and
-- the generations in the spare tables.
abbrev pub left_by : Outcome → List ℕ
left_by o =
    o.answer.refusal ∷ o.mesh.topology.triangles ∷ o.answer.handled ∷ o.room.spares.generations

-- The box of one point, and the line of the triangle alone with what has a corner there refined.
unfoldable pub box_at : ℤ × ℤ × ℤ → ℕ → Box
box_at p = box_of p p

unfoldable pub boxed_alone : ℤ × ℤ × ℤ → ℕ → List ℕ
unfolding box_at alone sevens
boxed_alone p below = line_of (outcome (changes (refines_in_box (box_at p below) (sevens 8 7))) alone)

pub record Table : Type 0 where
  -- -5 / 3 to the nearest is -2; -5 / 2 is -2 by rule 1, and -3 by rule 2. (thirds_truncated; half_down,
  -- half_up_below_zero)
  pub third : nearest_third (negsuc 4) ≡ negsuc 1
  pub halves : map (λ rule. rounded rule (negsuc 4) 2) (1 ∷ 2 ∷ []) ≡ negsuc 1 ∷ negsuc 2 ∷ []
  -- The limit position of vertex 0, and the x of that of vertex 1. (limit_of_moved)
  pub limits : take 4 (asked (limits_of (replicate 12 (pos 77))) solid).room.table ≡ pos 2 ∷ pos 2 ∷ pos 2 ∷ pos 3 ∷ []
  -- A ring starts at the boundary. (ring_start_not_at_boundary)
  pub open_ring : ring (made (loads 1 hinge ∷ []) (fresh 4 2)).topology 0 ≡ 3 ∷ 1 ∷ 2 ∷ []
  -- The last vertex of a rim, between (9,0,0) and (0,0,0). (rim_against_its_sides, last_after_itself)
  pub curve : drop 18 (asked (curve_of 0 (replicate 27 (pos 77))) alone).room.table
      ≡ pos 3 ∷ pos 5 ∷ pos 0 ∷ pos 1 ∷ pos 6 ∷ pos 0 ∷ pos 0 ∷ pos 5 ∷ pos 0 ∷ []
  -- Two triangles back to back, stored. (stored_foil_unsound)
  pub foil_sound : is_sound foil ≡ true
  -- The sides round a flip keep their origins. (flipped_sides_stay)
  pub flipped : map (λ h. origin (flip 0 1 two_bases) (place_after (flips 0 1) two_bases h)) (1 ∷ 2 ∷ 4 ∷ 5 ∷ [])
      ≡ 1 ∷ 2 ∷ 0 ∷ 3 ∷ []
  -- A chain of two odd triangles that ends at the boundary takes one split. (odd_reported, splits_as_odd)
  pub one_at_boundary : line_of (refine_call 1 two_odd) ≡ 0 ∷ 1 ∷ 1 ∷ 6 ∷ 4 ∷ []
  -- A side that occurs twice the same way. (equal_sides_accepted)
  pub equal_sides : refusal_after [] (changes (loads 1 (cage_at_origin 4 2 (0 ∷ 1 ∷ 2 ∷ 0 ∷ 1 ∷ 3 ∷ [])))) (fresh 4 2) ≡ 5
  -- A load clears generations and locks of its own triangles alone; a refused one leaves the rule.
  -- (generations_past_cleared, load_keeps_locks; refused_changes_rule)
  pub load_writes : let m = made (loads 1 tetrahedron ∷ []) lent_sevens in m.topology.generations ++ m.locks
      ≡ 0 ∷ 0 ∷ 0 ∷ 0 ∷ 7 ∷ 7 ∷ 0 ∷ 0 ∷ 0 ∷ 0 ∷ 7 ∷ 7 ∷ []
  pub rule_kept : (made (loads 1 [] ∷ []) (with_rule 2 (fresh 1 1))).rule ≡ 2
  -- The lock of slot 2, whose link only follows; of the triangle itself, before 11; and of the last one, in a whole
  -- step. (follower_counted; nineteen_after_eleven; step_lets_locks_pass)
  pub follower_passes : refusal_after (sets_lock true 2 ∷ []) (changes (refines 0)) solid ≡ 0
  pub lock_before_room : refusal_after (sets_lock true 0 ∷ []) (changes (refines 0)) full ≡ 19
  pub last_lock : refusal_after (sets_lock true 3 ∷ []) (changes steps) full ≡ 19
  -- A list of which the second entry was not in use at the start. (made_earlier_accepted, unused_passed_over,
  -- failed_list_writes, spares_left, copied_past_the_counts)
  pub list_fails : left_by (outcome (changes (refines_each (0 ∷ 4 ∷ []) (sevens 7 9))) solid)
      ≡ 8 ∷ 4 ∷ 1 ∷ 1 ∷ 0 ∷ 0 ∷ 0 ∷ 1 ∷ 1 ∷ 7 ∷ 7 ∷ 7 ∷ []
  -- A box that holds corner 1 alone, up to generation 2, and one that holds corner 2. (box_face_left_out,
  -- one_generation_short, too_few_turns; third_corner_unseen)
  pub boxed : boxed_alone (pos 9, pos 0, pos 0) 2 ∷ boxed_alone (pos 0, pos 9, pos 0) 1 ∷ []
      ≡ (0 ∷ 3 ∷ 1 ∷ 8 ∷ 7 ∷ []) ∷ (0 ∷ 1 ∷ 0 ∷ 4 ∷ 3 ∷ []) ∷ []
  -- The first of these boxes on the tetrahedron, where the third refine lacks a triangle slot.
  -- (failing_triangle_skipped, highest_slot_first, box_spares_left)
  pub box_fails : left_by (outcome (changes (refines_in_box (box_at (pos 9, pos 0, pos 0) 2) (sevens 7 9))) solid)
      ≡ 11 ∷ 4 ∷ 2 ∷ 2 ∷ 1 ∷ 0 ∷ 0 ∷ 1 ∷ 1 ∷ 1 ∷ 2 ∷ 7 ∷ []
  -- A generation of 21, on a mesh that is not sound. (eighteen_after_seven)
  pub box_before_sound : refusal_after [] (changes (refines_in_box (box_at zero_point 21) (sevens 1 1))) (fresh 1 1) ≡ 18

pub refuting : Table
unfolding computing rename_two fresh sevens lent_sevens tetrahedron one_triangle cage_at_origin hinge solid full alone foil
    two_bases two_odd box_at boxed_alone
refuting = record {
  third = refl;
  halves = refl;
  limits = refl;
  open_ring = refl;
  curve = refl;
  foil_sound = refl;
  flipped = refl;
  one_at_boundary = refl;
  equal_sides = refl;
  load_writes = refl;
  rule_kept = refl;
  follower_passes = refl;
  lock_before_room = refl;
  last_lock = refl;
  list_fails = refl;
  boxed = refl;
  box_fails = refl;
  box_before_sound = refl;
}
