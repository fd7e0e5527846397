-- Places where a plausible other reading of the paper would give another result, computed from the rules.
use Prim.Native.Nat.{ℕ}
use mathlib.Core.Bool.{true, false}
use mathlib.Core.List.{List, [], ◌∷◌, ◌++◌, map}
use mathlib.Core.Path.{◌≡◌, refl}
use lib.IntN.{ℤ, pos, negsuc}
use lib.ListN.{replicate, take, drop, get_or, set}
use Rattle.examples.proofs.Refusals.{triangle, cut_at_boundary, first_note}
use Rattle.rules.proofs.Computing.{computing, made, made_each, fresh, sevens, box_of, bytes, tetrahedron, outcomes}
use Rattle.rules.proofs.Computing.{refusal_after, lent_sevens, cage_at_origin, hinge}
use Rattle.rules.proofs.Examples.{line_of, triangle_of, point_of, one_triangle}
use Rattle.rules.specs.Actions.{place_after, flips, rename_two}
use Rattle.rules.specs.Below.{those}
use Rattle.rules.specs.Boxes.{Box}
use Rattle.rules.specs.Calls.{Outcome}
use Rattle.rules.specs.History.{Change, loads, refines, steps, refines_each, refines_in_box, sets_lock, ring_of}
use Rattle.rules.specs.History.{position_of, limits_of, asked, changes, asks, preview_of, outcome}
use Rattle.rules.specs.History.{refines_noted, takes_back, reports, preview_reported, curve_of, nothing, cage}
use Rattle.rules.specs.History.{last_load, edges}
use Rattle.rules.specs.Mirror.{mirror, mirror_table}
use Rattle.rules.specs.Numbers.{nearest_third, rounded}
use Rattle.rules.specs.Reports.{one, each, in_box}
use Rattle.rules.specs.Rim.{rim}
use Rattle.rules.specs.Sound.{is_sound}
use Rattle.rules.specs.Split.{face_cut, flip}
use Rattle.rules.specs.Tables.{Mesh, topology_of, mesh_of, with_locks, sides, origin, link, generation, coordinate}
use Rattle.rules.specs.Tables.{Topology, triangle_slots, boundary}

unfoldable pub store : Mesh
unfolding fresh
store = fresh 12 20

-- The tetrahedron in the store, and after a whole step.
unfoldable pub solid : Mesh
unfolding computing store tetrahedron
solid = made (loads 1 tetrahedron ∷ []) store

unfoldable pub smoothed : Mesh
unfolding computing solid
smoothed = made (steps ∷ []) solid

-- With triangles 0 and 1 cut, and the bases of slots 0 and 7 not yet flipped.
unfoldable pub unflipped : Topology
unfolding computing solid
unflipped = face_cut 1 (made (refines 0 ∷ []) solid).topology

unfoldable pub side_one : List Change
unfolding tetrahedron
side_one = loads 1 tetrahedron ∷ refines 0 ∷ refines 3 ∷ refines 7 ∷ refines 9 ∷ []

unfoldable pub through_one : Mesh
unfolding computing store side_one
through_one = made side_one store

-- The tetrahedron with a list of its triangles refined.
unfoldable pub listed : List ℕ → List Change
unfolding tetrahedron sevens
listed list = loads 1 tetrahedron ∷ refines_each list (sevens 12 20) ∷ []

-- Of that list: how many entries succeeded, the vertices and triangles of the mesh in the spare tables, and there the
-- generations in slots 0, 1, 5 and 6.
unfoldable pub held_by : List ℕ → List ℕ
unfolding sevens solid
held_by list =
    let o = outcome (changes (refines_each list (sevens 12 20))) solid in
    let g : ℕ → ℕ = λ t. get_or o.room.spares.generations t 0 in
    o.answer.handled ∷ o.answer.spare_vertices ∷ o.answer.spare_triangles ∷ g 0 ∷ g 1 ∷ g 5 ∷ g 6 ∷ []

-- The tetrahedron in 9 triangle slots; the triangle alone.
unfoldable pub tight : Mesh
unfolding computing fresh tetrahedron
tight = made (loads 1 tetrahedron ∷ []) (fresh 12 9)

unfoldable pub alone : Mesh
unfolding computing store one_triangle
alone = made (loads 1 one_triangle ∷ []) store

-- A mesh of 12 vertex slots, with what has a corner in a box refined.
unfoldable pub boxed : Mesh → Box → Outcome
unfolding sevens
boxed m b = outcome (changes (refines_in_box b (sevens 12 (triangle_slots m)))) m

-- Its printed line, and how many refines it took.
unfoldable pub box_line : Outcome → List ℕ
box_line o = line_of o ++ (o.answer.handled ∷ [])

-- The box of one point, (9,0,0), where vertex 1 of the tetrahedron is, and vertex 1 of the triangle alone.
unfoldable pub at_point : ℕ → Box
at_point = box_of (pos 9, pos 0, pos 0) (pos 9, pos 0, pos 0)

-- The box of all that 32 bits can hold.
unfoldable pub everywhere : ℕ → Box
everywhere =
    let low = negsuc 2147483647 in
    let high = pos 2147483647 in
    box_of (low, low, low) (high, high, high)

-- The box from (8,-1,-1) to (10,1,1) round that point, with one face drawn in past it: it ends one unit short.
unfoldable pub short_boxes : List Box
short_boxes =
    let box : ℤ → ℤ → ℤ → ℤ → ℤ → ℤ → Box = λ x x' y y' z z'. box_of (x, y, z) (x', y', z') 2 in
    let minus = negsuc 0 in
    box (pos 10) (pos 10) minus (pos 1) minus (pos 1)
    ∷ box (pos 8) (pos 8) minus (pos 1) minus (pos 1)
    ∷ box (pos 8) (pos 10) (pos 1) (pos 1) minus (pos 1)
    ∷ box (pos 8) (pos 10) minus minus minus (pos 1)
    ∷ box (pos 8) (pos 10) minus (pos 1) (pos 1) (pos 1)
    ∷ box (pos 8) (pos 10) minus (pos 1) minus minus
    ∷ []

unfoldable pub octahedron : List Change
unfolding cage_at_origin
octahedron =
    loads 1 (cage_at_origin 6 8 (
    0 ∷ 1 ∷ 4 ∷ 1 ∷ 2 ∷ 4 ∷ 2 ∷ 3 ∷ 4 ∷ 3 ∷ 0 ∷ 4 ∷ 1 ∷ 0 ∷ 5 ∷ 2 ∷ 1 ∷ 5 ∷ 3 ∷ 2 ∷ 5 ∷ 0 ∷ 3 ∷ 5 ∷ []
    )) ∷ refines 0 ∷ refines 4 ∷ []

-- The same by a rule, with only vertex 2 away from the origin, at this x, whose four bytes are given.
unfoldable pub pulled : ℕ → List ℕ → List Change
unfolding bytes
pulled rule x =
    loads rule (bytes (6 ∷ 8 ∷ []) ++ replicate 24 0 ++ x ++ replicate 44 0 ++ bytes (
    0 ∷ 1 ∷ 4 ∷ 1 ∷ 2 ∷ 4 ∷ 2 ∷ 3 ∷ 4 ∷ 3 ∷ 0 ∷ 4 ∷ 1 ∷ 0 ∷ 5 ∷ 2 ∷ 1 ∷ 5 ∷ 3 ∷ 2 ∷ 5 ∷ 0 ∷ 3 ∷ 5 ∷ []
    )) ∷ []

-- A tetrahedron by a rule, with only vertex 1 away from the origin, at x = 98304.
unfoldable pub spike : ℕ → List Change
unfolding bytes
spike rule =
    loads rule (bytes (4 ∷ 4 ∷ []) ++ replicate 12 0 ++ (0 ∷ 128 ∷ 1 ∷ 0 ∷ []) ++ replicate 32 0 ++ bytes (
    0 ∷ 1 ∷ 2 ∷ 0 ∷ 3 ∷ 1 ∷ 1 ∷ 3 ∷ 2 ∷ 2 ∷ 3 ∷ 0 ∷ []
    )) ∷ []

-- Coordinate 0 of vertex 0 after a whole step, here and in the mirror.
abbrev pub stepped : Mesh → List ℤ
stepped m = coordinate (made (steps ∷ []) m) 0 0 ∷ coordinate (made (steps ∷ []) (mirror 0 m)) 0 0 ∷ []

-- Coordinate 0 of the limit of vertex 1, here and in the mirror.
abbrev pub limits_at : Mesh → List ℤ
limits_at m =
    let at : Mesh → ℤ = λ n. get_or (asked (limits_of (replicate 18 (pos 0))) n).room.table 3 (pos 0) in
    at m ∷ at (mirror 0 m) ∷ []

unfoldable pub long_chain : List Change
unfolding tetrahedron
long_chain =
    loads 1 tetrahedron ∷ refines 0 ∷ refines 0 ∷ refines 0 ∷ refines 7 ∷ refines 8 ∷ refines 8 ∷ []

-- A triangle whose first coordinate has these four bytes.
unfoldable pub with_first : List ℕ → List ℕ
unfolding bytes
with_first first = bytes (3 ∷ 1 ∷ []) ++ first ++ replicate 32 0 ++ bytes (0 ∷ 1 ∷ 2 ∷ [])

-- A triangle with the first vertex at (-16777216, 66051, 16777216).
unfoldable pub signed_bytes : List ℕ
unfolding bytes
signed_bytes =
    bytes (3 ∷ 1 ∷ [])
    ++ (0 ∷ 0 ∷ 0 ∷ 255 ∷ 3 ∷ 2 ∷ 1 ∷ 0 ∷ 0 ∷ 0 ∷ 0 ∷ 1 ∷ [])
    ++ replicate 24 0
    ++ bytes (0 ∷ 1 ∷ 2 ∷ [])

-- Stored tables of two triangles that share all three sides, with vertex 0 at x = 900,000 and the others at the origin.
unfoldable pub foil : Mesh
foil =
    mesh_of (topology_of 3 2
    (0 ∷ 1 ∷ 2 ∷ 0 ∷ 2 ∷ 1 ∷ replicate 12 0)
    (5 ∷ 4 ∷ 3 ∷ 2 ∷ 1 ∷ 0 ∷ replicate 12 0)
    (replicate 6 0)) (pos 900000 ∷ replicate 14 (pos 0)) (replicate 6 0) 1

-- The same two at generation 18, in 6 triangle slots.
unfoldable pub at_eighteen : Mesh
at_eighteen =
    mesh_of (topology_of 3 2
    (0 ∷ 1 ∷ 2 ∷ 0 ∷ 2 ∷ 1 ∷ replicate 12 0)
    (5 ∷ 4 ∷ 3 ∷ 2 ∷ 1 ∷ 0 ∷ replicate 12 0)
    (18 ∷ 18 ∷ replicate 4 0)) (replicate 15 (pos 0)) (replicate 6 0) 1

-- The links of these sides, before and after the last change.
unfoldable pub links_after : List Change → Change → List ℕ → List ℕ
unfolding store
links_after before c hs =
    map (link (made before store).topology) hs ++ map (link (made (before ++ (c ∷ [])) store).topology) hs

-- The notes of the second and of the fourth refine of triangle 0 of the tetrahedron. (Request l)
unfoldable pub second_note : List ℕ
second_note =
    0 ∷ 5 ∷ 6 ∷ 4
    ∷ 0 ∷ 0 ∷ 1 ∷ 4 ∷ 5 ∷ 14 ∷ 16 ∷ 1 ∷ 0
    ∷ 1 ∷ 0 ∷ 3 ∷ 1 ∷ 10 ∷ 6 ∷ 0 ∷ 0 ∷ 0
    ∷ 2 ∷ 1 ∷ 3 ∷ 2 ∷ 4 ∷ 9 ∷ 12 ∷ 0 ∷ 0
    ∷ 4 ∷ 1 ∷ 2 ∷ 4 ∷ 8 ∷ 17 ∷ 1 ∷ 1 ∷ 0
    ∷ []

unfoldable pub fourth_note : List ℕ
fourth_note =
    0 ∷ 7 ∷ 10 ∷ 7
    ∷ 0 ∷ 0 ∷ 5 ∷ 6 ∷ 5 ∷ 26 ∷ 28 ∷ 3 ∷ 0
    ∷ 1 ∷ 0 ∷ 3 ∷ 5 ∷ 10 ∷ 20 ∷ 0 ∷ 1 ∷ 0
    ∷ 3 ∷ 2 ∷ 3 ∷ 0 ∷ 7 ∷ 3 ∷ 15 ∷ 0 ∷ 0
    ∷ 5 ∷ 2 ∷ 0 ∷ 4 ∷ 11 ∷ 27 ∷ 13 ∷ 1 ∷ 0
    ∷ 6 ∷ 3 ∷ 1 ∷ 5 ∷ 6 ∷ 23 ∷ 4 ∷ 1 ∷ 0
    ∷ 8 ∷ 5 ∷ 4 ∷ 6 ∷ 22 ∷ 29 ∷ 1 ∷ 3 ∷ 0
    ∷ 9 ∷ 4 ∷ 0 ∷ 6 ∷ 16 ∷ 2 ∷ 25 ∷ 3 ∷ 0
    ∷ []

-- The tetrahedron with its four triangles refined, and the note of the last refine. (Request l)
unfoldable pub four_refined : List Change
unfolding tetrahedron
four_refined = loads 1 tetrahedron ∷ refines 0 ∷ refines 1 ∷ refines 2 ∷ refines 3 ∷ []

unfoldable pub last_note : List ℕ
last_note =
    3 ∷ 7 ∷ 10 ∷ 7
    ∷ 0 ∷ 0 ∷ 5 ∷ 4 ∷ 5 ∷ 22 ∷ 16 ∷ 2 ∷ 0
    ∷ 1 ∷ 0 ∷ 3 ∷ 5 ∷ 10 ∷ 20 ∷ 0 ∷ 1 ∷ 0
    ∷ 3 ∷ 2 ∷ 3 ∷ 0 ∷ 24 ∷ 3 ∷ 15 ∷ 0 ∷ 0
    ∷ 5 ∷ 2 ∷ 0 ∷ 4 ∷ 11 ∷ 2 ∷ 27 ∷ 1 ∷ 0
    ∷ 6 ∷ 3 ∷ 6 ∷ 5 ∷ 26 ∷ 7 ∷ 4 ∷ 2 ∷ 0
    ∷ 8 ∷ 3 ∷ 2 ∷ 6 ∷ 9 ∷ 29 ∷ 18 ∷ 1 ∷ 0
    ∷ 9 ∷ 2 ∷ 4 ∷ 6 ∷ 17 ∷ 13 ∷ 25 ∷ 2 ∷ 0
    ∷ []

-- The corners and the links of the twelve triangles.
unfoldable pub twelve : List ℕ
twelve =
    0 ∷ 5 ∷ 4 ∷ 0 ∷ 7 ∷ 5 ∷ 1 ∷ 5 ∷ 6 ∷ 2 ∷ 6 ∷ 7 ∷ 1 ∷ 6 ∷ 4 ∷ 2 ∷ 7 ∷ 4
    ∷ 3 ∷ 6 ∷ 5 ∷ 1 ∷ 4 ∷ 5 ∷ 3 ∷ 7 ∷ 6 ∷ 2 ∷ 4 ∷ 6 ∷ 3 ∷ 5 ∷ 7 ∷ 0 ∷ 4 ∷ 7
    ∷ 5 ∷ 22 ∷ 33 ∷ 35 ∷ 31 ∷ 0 ∷ 23 ∷ 19 ∷ 12 ∷ 29 ∷ 25 ∷ 15 ∷ 8 ∷ 28 ∷ 21 ∷ 11 ∷ 34 ∷ 27
    ∷ 26 ∷ 7 ∷ 30 ∷ 14 ∷ 1 ∷ 6 ∷ 32 ∷ 10 ∷ 18 ∷ 17 ∷ 13 ∷ 9 ∷ 20 ∷ 4 ∷ 24 ∷ 2 ∷ 16 ∷ 3
    ∷ []

-- What is lent for a note, n sevens, after a refine of t that follows these changes.
unfoldable pub noted_by : List Change → ℕ → ℕ → List ℕ
unfolding store
noted_by cs t n = (outcome (changes (refines_noted t (replicate n 7))) (made cs store)).room.buffer

-- Stored tables of one triangle alone, with its vertices at (0,0,1), (27,0,-5) and (0,27,3), and its curve from vertex
-- 0 on. (Request n)
unfoldable pub pane : Mesh
pane =
    mesh_of (topology_of 3 1 (0 ∷ 1 ∷ 2 ∷ []) (replicate 3 boundary) (0 ∷ []))
    (pos 0 ∷ pos 0 ∷ pos 1 ∷ pos 27 ∷ pos 0 ∷ negsuc 4 ∷ pos 0 ∷ pos 27 ∷ pos 3 ∷ []) (0 ∷ []) 1

unfoldable pub pane_curve : List ℤ
pane_curve =
    pos 1 ∷ pos 10 ∷ pos 2 ∷ pos 4 ∷ pos 4 ∷ pos 0 ∷ pos 10 ∷ pos 1 ∷ negsuc 0
    ∷ pos 16 ∷ pos 1 ∷ negsuc 1 ∷ pos 19 ∷ pos 4 ∷ negsuc 2 ∷ pos 16 ∷ pos 10 ∷ negsuc 1
    ∷ pos 10 ∷ pos 16 ∷ pos 0 ∷ pos 4 ∷ pos 19 ∷ pos 2 ∷ pos 1 ∷ pos 16 ∷ pos 2
    ∷ []

-- Stored tables of two triangles that share two of their three sides: the rim is vertex 0 at (0,54,-2) and vertex 1 at
-- (27,0,3). (Request n)
unfoldable pub pocket : Mesh
pocket =
    mesh_of (topology_of 3 2 (0 ∷ 1 ∷ 2 ∷ 1 ∷ 0 ∷ 2 ∷ []) (boundary ∷ 5 ∷ 4 ∷ boundary ∷ 2 ∷ 1 ∷ []) (0 ∷ 0 ∷ []))
    (pos 0 ∷ pos 54 ∷ negsuc 1 ∷ pos 27 ∷ pos 0 ∷ pos 3 ∷ replicate 3 (pos 9)) (0 ∷ 0 ∷ []) 1

-- The table of n entries, 77 in each, after the curve of the rim of v.
unfoldable pub curve_in : ℕ → ℕ → Mesh → List ℤ
curve_in n v m = (asked (curve_of v (replicate n (pos 77))) m).room.table

-- The corners of all sides, and their links.
unfoldable pub sides_of : Mesh → List ℕ
unfolding those
sides_of m =
    let all : List ℕ = those (sides m.topology) (λ h. true) in
    map (origin m.topology) all ++ map (link m.topology) all

pub record Table : Type 0 where
  -- After a flip the even triangle across the previous base may be in another slot: here in slot 1 and not in slot 6.
  pub through_side_one : map line_of (made_each side_one store) ≡
      (0 ∷ 0 ∷ 0 ∷ 4 ∷ 4 ∷ [])
      ∷ (0 ∷ 1 ∷ 0 ∷ 5 ∷ 6 ∷ [])
      ∷ (0 ∷ 1 ∷ 1 ∷ 6 ∷ 8 ∷ [])
      ∷ (0 ∷ 1 ∷ 0 ∷ 7 ∷ 10 ∷ [])
      ∷ (0 ∷ 2 ∷ 3 ∷ 9 ∷ 14 ∷ [])
      ∷ []
  pub through_side_one₉ : triangle_of through_one 9 ≡ 5 ∷ 8 ∷ 6 ∷ 4 ∷ []
  pub through_side_one₆ : triangle_of through_one 6 ≡ 3 ∷ 7 ∷ 5 ∷ 2 ∷ []
  pub through_side_one₁ : triangle_of through_one 1 ≡ 0 ∷ 6 ∷ 8 ∷ 4 ∷ []
  -- A request that splits three times.
  pub chain_of_three : map line_of (drop 6 (made_each long_chain store)) ≡ (0 ∷ 3 ∷ 4 ∷ 12 ∷ 20 ∷ []) ∷ []
  pub chain_of_three₈ : triangle_of (made long_chain store) 8 ≡ 5 ∷ 11 ∷ 8 ∷ 6 ∷ []
  -- An even triangle rises by two where its own slot is flipped.
  pub own_slot_flipped : triangle_of (made octahedron store) 4 ≡ 1 ∷ 6 ∷ 7 ∷ 2 ∷ []
  -- Links are no function of the corners: the nine edges here join only seven pairs of vertices.
  pub foil_edges : edges (made (refines 0 ∷ refines 1 ∷ []) foil).topology ≡ 9
  -- Load turns such a cage away (Refusals.n6_by_foil), but stored it is sound, is refined, makes a whole step with rings
  -- of two entries, and has its rings and limit positions. (Request g)
  pub foil_sound : is_sound foil ≡ true
  pub foil_refined : map line_of (made_each (refines 0 ∷ refines 1 ∷ []) foil)
      ≡ (0 ∷ 1 ∷ 0 ∷ 4 ∷ 4 ∷ []) ∷ (0 ∷ 1 ∷ 3 ∷ 5 ∷ 6 ∷ []) ∷ []
  pub foil_stepped : map line_of (made_each (steps ∷ []) foil) ≡ (0 ∷ 2 ∷ 3 ∷ 5 ∷ 6 ∷ []) ∷ []
  pub foil_moved : map (λ v. coordinate (made (steps ∷ []) foil) v 0) (0 ∷ 1 ∷ 2 ∷ [])
      ≡ pos 299995 ∷ pos 300002 ∷ pos 300002 ∷ []
  pub foil_limits : (asked (limits_of (replicate 9 (pos 77))) foil).room.table
      ≡ pos 299998 ∷ pos 0 ∷ pos 0 ∷ pos 300001 ∷ pos 0 ∷ pos 0 ∷ pos 300001 ∷ pos 0 ∷ pos 0 ∷ []
  pub foil_ring : (asked (ring_of 1 (replicate 3 77)) foil).room.buffer ≡ 2 ∷ 0 ∷ 77 ∷ []
  -- Generation 19 with an even triangle across its base is refined to 20.
  pub to_twenty : generation (made (refines 0 ∷ refines 0 ∷ []) at_eighteen).topology 0 ≡ 20
  -- The room that the first refine of the tetrahedron takes, and one slot less of either kind.
  pub enough_room : refusal_after (loads 1 tetrahedron ∷ []) (changes (refines 0)) (fresh 5 6) ≡ 0
  pub few_triangle_slots : refusal_after (loads 1 tetrahedron ∷ []) (changes (refines 0)) (fresh 5 5) ≡ 11
  pub few_vertex_slots : refusal_after (loads 1 tetrahedron ∷ []) (changes (refines 0)) (fresh 4 6) ≡ 11
  -- A ring leaves the rest of its buffer; at the boundary it starts there, and ends with the last neighbour.
  pub closed_ring : (asked (ring_of 0 (replicate 5 77)) solid).room.buffer ≡ 1 ∷ 2 ∷ 3 ∷ 77 ∷ 77 ∷ []
  pub hinge_ring : (asked (ring_of 0 (replicate 4 77)) (made (loads 1 hinge ∷ []) store)).room.buffer ≡ 3 ∷ 1 ∷ 2 ∷ 77
      ∷ []
  pub open_ring : (asked (ring_of 0 (replicate 3 77)) (made (loads 1 triangle ∷ []) store)).room.buffer ≡ 1 ∷ 2 ∷ 77 ∷ []
  -- All vertices move at once.
  pub moved_two : point_of smoothed 2 ≡ pos 2 ∷ pos 4 ∷ pos 2 ∷ []
  pub moved_three : point_of smoothed 3 ≡ pos 2 ∷ pos 2 ∷ pos 4 ∷ []
  -- New vertices are placed by the old positions.
  pub placed_four : point_of smoothed 4 ≡ pos 3 ∷ pos 3 ∷ pos 0 ∷ []
  -- Limit positions.
  pub limits : (asked (limits_of (replicate 12 (pos 77))) solid).room.table
      ≡ pos 2 ∷ pos 2 ∷ pos 2 ∷ pos 3 ∷ pos 2 ∷ pos 2 ∷ pos 2 ∷ pos 3 ∷ pos 2 ∷ pos 2 ∷ pos 2 ∷ pos 3 ∷ []
  -- Where vertex 2 is at x = 305834 or -305834, vertex 1 has its limit at a half, 43690.5 or -43690.5. Rule 1 takes it
  -- up on both sides of zero, so that the mirror image of a limit is not the limit of the mirror image; rule 2 takes it
  -- away from zero. (Request c)
  pub limit_half : limits_at (made (pulled 1 (170 ∷ 170 ∷ 4 ∷ 0 ∷ [])) store) ≡ pos 43691 ∷ negsuc 43689 ∷ []
  pub limit_half_away : limits_at (made (pulled 2 (170 ∷ 170 ∷ 4 ∷ 0 ∷ [])) store) ≡ pos 43691 ∷ negsuc 43690 ∷ []
  pub limit_half_below : limits_at (made (pulled 2 (86 ∷ 85 ∷ 251 ∷ 255 ∷ [])) store) ≡ negsuc 43690 ∷ pos 43691 ∷ []
  -- The load of a mirrored cage is the mirror image of the load.
  pub load_mirrored : made (pulled 2 (86 ∷ 85 ∷ 251 ∷ 255 ∷ [])) store
      ≡ mirror 0 (made (pulled 2 (170 ∷ 170 ∷ 4 ∷ 0 ∷ [])) store)
  -- The same half of a whole step, 18204.5.
  pub step_half : stepped (made (spike 1) store) ≡ pos 18205 ∷ negsuc 18203 ∷ []
  pub step_half_away : stepped (made (spike 2) store) ≡ pos 18205 ∷ negsuc 18204 ∷ []
  -- A load sets the rule, and a refused one leaves it.
  pub rule_set : (made (spike 2) store).rule ≡ 2
  pub rule_kept : (made (loads 2 tetrahedron ∷ loads 1 [] ∷ refines 0 ∷ []) store).rule ≡ 2
  -- A side alone links to 2^32 - 1.
  pub unlinked : link (made (loads 1 triangle ∷ []) store).topology 0 ≡ 4294967295
  -- Coordinates are signed, low byte first, and both limits are allowed.
  pub signed_point : (asked (position_of 0) (made (loads 1 signed_bytes ∷ []) store)).answer.point
      ≡ (negsuc 16777215, pos 66051, pos 16777216)
  pub greatest : refusal_after [] (changes (loads 1 (with_first (0 ∷ 0 ∷ 0 ∷ 1 ∷ [])))) store ≡ 0
  pub least : refusal_after [] (changes (loads 1 (with_first (0 ∷ 0 ∷ 0 ∷ 255 ∷ [])))) store ≡ 0
  pub below_least : refusal_after [] (changes (loads 1 (with_first (255 ∷ 255 ∷ 255 ∷ 254 ∷ [])))) store ≡ 4
  -- The cage that demand 3 speaks of is that of the last accepted load.
  pub last_accepted :
      last_load (map changes (loads 1 triangle ∷ loads 1 tetrahedron ∷ loads 1 [] ∷ steps ∷ [])) store nothing
      ≡ cage tetrahedron
  -- The nearest third, on both sides of zero.
  pub thirds : map nearest_third (pos 4 ∷ pos 5 ∷ negsuc 0 ∷ negsuc 3 ∷ negsuc 4 ∷ []) ≡ pos 1 ∷ pos 2 ∷ pos 0
      ∷ negsuc 0 ∷ negsuc 1 ∷ []
  -- Half goes up by rule 1, and away from zero by rule 2.
  pub halves : rounded 1 (pos 5) 2 ∷ rounded 1 (negsuc 4) 2 ∷ [] ≡ pos 3 ∷ negsuc 1 ∷ []
  pub halves_away : rounded 2 (pos 5) 2 ∷ rounded 2 (negsuc 4) 2 ∷ [] ≡ pos 3 ∷ negsuc 2 ∷ []
  -- A triangle listed twice is refined once; two lists are not one. (Request e)
  pub listed_twice : map line_of (made_each (listed (0 ∷ 0 ∷ [])) store)
      ≡ (0 ∷ 0 ∷ 0 ∷ 4 ∷ 4 ∷ []) ∷ (0 ∷ 1 ∷ 0 ∷ 5 ∷ 6 ∷ []) ∷ []
  pub two_lists : map line_of (made_each (listed (0 ∷ []) ++ (refines_each (0 ∷ []) (sevens 12 20) ∷ [])) store)
      ≡ (0 ∷ 0 ∷ 0 ∷ 4 ∷ 4 ∷ []) ∷ (0 ∷ 1 ∷ 0 ∷ 5 ∷ 6 ∷ []) ∷ (0 ∷ 1 ∷ 1 ∷ 6 ∷ 8 ∷ []) ∷ []
  -- A triangle that another entry has raised is passed over: the refine of slot 0, which is odd, splits slot 1.
  pub raised_by_other :
      let calls = loads 1 tetrahedron ∷ refines 0 ∷ refines_each (0 ∷ 1 ∷ []) (sevens 12 20) ∷ [] in
      map line_of (drop 2 (made_each calls store)) ≡ (0 ∷ 1 ∷ 1 ∷ 6 ∷ 8 ∷ []) ∷ []
  -- A slot that an earlier entry made was not in use at the start: the mesh stands, the spare tables hold the mesh
  -- after that entry, and the answer says how many entries succeeded, and the counts there.
  pub made_by_earlier : map line_of (made_each (listed (0 ∷ 4 ∷ [])) store)
      ≡ (0 ∷ 0 ∷ 0 ∷ 4 ∷ 4 ∷ []) ∷ (8 ∷ 0 ∷ 0 ∷ 4 ∷ 4 ∷ []) ∷ []
  pub held_in_spares : held_by (0 ∷ 4 ∷ []) ≡ 1 ∷ 5 ∷ 6 ∷ 1 ∷ 0 ∷ 1 ∷ 7 ∷ []
  -- An empty list is carried out, with zeros, and copies the mesh.
  pub empty_list : map line_of (made_each (listed []) store)
      ≡ (0 ∷ 0 ∷ 0 ∷ 4 ∷ 4 ∷ []) ∷ (0 ∷ 0 ∷ 0 ∷ 4 ∷ 4 ∷ []) ∷ []
  pub held_by_none : held_by [] ≡ 0 ∷ 4 ∷ 4 ∷ 0 ∷ 0 ∷ 7 ∷ 7 ∷ []
  -- A preview answers the list's V and F, and the mesh keeps its own. (Request f)
  pub foreseen : map line_of (outcomes (map changes (loads 1 tetrahedron ∷ [])
      ++ (asks (preview_of (0 ∷ 1 ∷ []) (sevens 12 20)) ∷ changes (refines 0) ∷ [])) store)
      ≡ (0 ∷ 0 ∷ 0 ∷ 4 ∷ 4 ∷ []) ∷ (0 ∷ 2 ∷ 1 ∷ 6 ∷ 8 ∷ []) ∷ (0 ∷ 1 ∷ 0 ∷ 5 ∷ 6 ∷ []) ∷ []
  pub foreseen_refused : map line_of (outcomes (map changes (loads 1 tetrahedron ∷ [])
      ++ (asks (preview_of (0 ∷ 4 ∷ []) (sevens 12 20)) ∷ changes (refines_each (0 ∷ 4 ∷ []) (sevens 12 20)) ∷ [])) store)
      ≡ (0 ∷ 0 ∷ 0 ∷ 4 ∷ 4 ∷ []) ∷ (8 ∷ 0 ∷ 0 ∷ 4 ∷ 4 ∷ []) ∷ (8 ∷ 0 ∷ 0 ∷ 4 ∷ 4 ∷ []) ∷ []
  -- A box of one point has all its faces there, and holds it. The triangle alone for generations 0, 1 and 2: nothing;
  -- a face split; a face split and two rim splits. In the tetrahedron it is corner 1 of slot 0, corner 2 of slot 1 and
  -- corner 0 of slot 2: three splits lift all it touches to 2, and three more to 4. The third refine of the triangle
  -- alone is of a slot that the first made. (Request h)
  pub boxed_open : map (λ k. box_line (boxed alone (at_point k))) (0 ∷ 1 ∷ 2 ∷ []) ≡
      (0 ∷ 0 ∷ 0 ∷ 3 ∷ 1 ∷ 0 ∷ []) ∷ (0 ∷ 1 ∷ 0 ∷ 4 ∷ 3 ∷ 1 ∷ []) ∷ (0 ∷ 3 ∷ 1 ∷ 8 ∷ 7 ∷ 3 ∷ []) ∷ []
  pub boxed_closed : map (λ k. box_line (boxed solid (at_point k))) (1 ∷ 2 ∷ 3 ∷ []) ≡
      (0 ∷ 3 ∷ 3 ∷ 7 ∷ 10 ∷ 3 ∷ []) ∷ (0 ∷ 3 ∷ 3 ∷ 7 ∷ 10 ∷ 3 ∷ []) ∷ (0 ∷ 6 ∷ 6 ∷ 10 ∷ 16 ∷ 6 ∷ []) ∷ []
  -- A box of all that 32 bits can hold takes every triangle: to generation 1 that is all but the whole step's moves.
  pub boxed_all : box_line (boxed solid (everywhere 1)) ≡ 0 ∷ 4 ∷ 6 ∷ 8 ∷ 12 ∷ 4 ∷ []
  -- The lowest slot comes first: vertex 4 is the centre of triangle 0.
  pub lowest_first : point_of (boxed solid (at_point 1)).mesh 4 ≡ pos 3 ∷ pos 3 ∷ pos 0 ∷ []
  -- A box that is one unit short holds nothing: it is carried out, with zeros, and leaves the mesh.
  pub short_by_one : map (λ b. box_line (boxed solid b)) short_boxes ≡ replicate 6 (0 ∷ 0 ∷ 0 ∷ 4 ∷ 4 ∷ 0 ∷ [])
  pub short_leaves : map (λ b. (boxed solid b).mesh) short_boxes ≡ replicate 6 solid
  -- The third refine lacks a slot: the mesh stands, and the spare tables hold the mesh after two.
  pub runs_out : box_line (boxed tight (at_point 2)) ≡ 11 ∷ 0 ∷ 0 ∷ 4 ∷ 4 ∷ 2 ∷ []
  pub runs_out_stands : (boxed tight (at_point 2)).mesh ≡ tight
  pub runs_out_spares : (boxed tight (at_point 2)).room.spares.generations ≡ 2 ∷ 1 ∷ 0 ∷ 0 ∷ 1 ∷ 1 ∷ 1 ∷ 2 ∷ 7 ∷ []
  -- A load writes the generations of its triangles alone.
  pub load_leaves_past : (made (loads 1 tetrahedron ∷ []) lent_sevens).topology.generations
      ≡ 0 ∷ 0 ∷ 0 ∷ 0 ∷ 7 ∷ 7 ∷ []
  -- Load clears the locks of the cage's triangles, locked or not, and a split those of its two new slots; others keep
  -- what they hold. (Request i)
  pub load_unlocks : (made (loads 1 tetrahedron ∷ []) (with_locks (replicate 20 7) store)).locks
      ≡ 0 ∷ 0 ∷ 0 ∷ 0 ∷ replicate 16 7
  pub load_unlocks_locked : (made (loads 1 tetrahedron ∷ sets_lock true 3 ∷ loads 1 tetrahedron ∷ []) store).locks
      ≡ replicate 20 0
  pub split_unlocks :
      (made (loads 1 tetrahedron ∷ sets_lock true 3 ∷ refines 0 ∷ []) (with_locks (replicate 20 7) store)).locks
      ≡ 0 ∷ 0 ∷ 0 ∷ 1 ∷ 0 ∷ 0 ∷ replicate 14 7
  -- What is past the counts is no lock.
  pub past_is_no_lock : refusal_after (loads 1 tetrahedron ∷ []) (changes steps) (with_locks (replicate 20 1) store) ≡ 0
  -- The copy in spare tables has the locks, on a refusal too.
  pub spares_locked : map (λ list. let o = outcome (changes (refines_each list (sevens 12 20)))
      (made (sets_lock true 3 ∷ []) solid) in o.answer.refusal ∷ o.room.spares.locks)
      ((0 ∷ []) ∷ (0 ∷ 3 ∷ []) ∷ [])
      ≡ (0 ∷ 0 ∷ 0 ∷ 0 ∷ 1 ∷ 0 ∷ 0 ∷ replicate 14 7) ∷ (19 ∷ 0 ∷ 0 ∷ 0 ∷ 1 ∷ 0 ∷ 0 ∷ replicate 14 7) ∷ []
  -- A link of a locked triangle follows its side: through a face split from side 1 of slot 0 to side 0 of slot 4,
  -- through a flip from side 1 of slot 0 to side 0 of slot 7, and through a rim split from side 1 of slot 0 to side 0
  -- of slot 4 and from side 2 of slot 0 to its side 0.
  pub link_follows : links_after (loads 1 tetrahedron ∷ sets_lock true 2 ∷ []) (refines 0) (8 ∷ []) ≡ 1 ∷ 12 ∷ []
  pub link_follows_flip : links_after (loads 1 tetrahedron ∷ refines 0 ∷ sets_lock true 4 ∷ []) (refines 1) (14 ∷ [])
      ≡ 1 ∷ 21 ∷ []
  pub link_follows_rim : links_after (loads 1 triangle ∷ refines 0 ∷ sets_lock true 1 ∷ sets_lock true 2 ∷ []) (refines 0)
      (5 ∷ 7 ∷ []) ≡ 1 ∷ 2 ∷ 12 ∷ 0 ∷ []
  -- The sides round this flip, of slots 7 and 0, are where Actions tells, with the corners that they had.
  pub flipped_meet : link unflipped 21 ≡ 0
  pub flipped_sides : map (λ h. origin (flip 7 0 unflipped) (place_after (flips 7 0) unflipped h)) (1 ∷ 2 ∷ 22 ∷ 23 ∷ [])
      ≡ map (origin unflipped) (1 ∷ 2 ∷ 22 ∷ 23 ∷ [])
  -- A lock set twice is set, one cleared twice is clear, and then the triangle is refined.
  pub unlocked_again : map line_of (drop 1 (made_each (loads 1 tetrahedron ∷ sets_lock true 0 ∷ sets_lock true 0
      ∷ refines 0 ∷ sets_lock false 0 ∷ sets_lock false 0 ∷ refines 0 ∷ []) store)) ≡
      (0 ∷ 0 ∷ 0 ∷ 4 ∷ 4 ∷ []) ∷ (0 ∷ 0 ∷ 0 ∷ 4 ∷ 4 ∷ []) ∷ (19 ∷ 0 ∷ 0 ∷ 4 ∷ 4 ∷ [])
      ∷ (0 ∷ 0 ∷ 0 ∷ 4 ∷ 4 ∷ []) ∷ (0 ∷ 0 ∷ 0 ∷ 4 ∷ 4 ∷ []) ∷ (0 ∷ 1 ∷ 0 ∷ 5 ∷ 6 ∷ []) ∷ []
  -- A note leaves the rest of what is lent for it. Taken back, the refine answers no splits and no flips, the links are
  -- the old ones, and the slots given up keep their content. The note is refused then, until the refine is made again,
  -- which takes these slots. (Request l)
  pub note_written : noted_by (loads 1 tetrahedron ∷ []) 0 33 ≡ first_note ++ (7 ∷ 7 ∷ [])
  pub notes_written : map (λ cs. noted_by (loads 1 tetrahedron ∷ cs) 0 67)
      ((refines 0 ∷ []) ∷ (refines 0 ∷ refines 0 ∷ refines 0 ∷ []) ∷ []) ≡ (second_note ++ replicate 27 7) ∷ fourth_note ∷ []
  pub last_written : noted_by (loads 1 tetrahedron ∷ refines 0 ∷ refines 1 ∷ refines 2 ∷ []) 3 67 ≡ last_note
  pub taken_back_lines : map line_of (drop 1 (made_each (loads 1 tetrahedron ∷ refines_noted 0 (replicate 31 7)
      ∷ takes_back first_note ∷ takes_back first_note ∷ refines 0 ∷ takes_back first_note ∷ []) store)) ≡
      (0 ∷ 1 ∷ 0 ∷ 5 ∷ 6 ∷ []) ∷ (0 ∷ 0 ∷ 0 ∷ 4 ∷ 4 ∷ []) ∷ (21 ∷ 0 ∷ 0 ∷ 4 ∷ 4 ∷ [])
      ∷ (0 ∷ 1 ∷ 0 ∷ 5 ∷ 6 ∷ []) ∷ (0 ∷ 0 ∷ 0 ∷ 4 ∷ 4 ∷ []) ∷ []
  pub taken_back_sides : sides_of (made (loads 1 tetrahedron ∷ refines 0 ∷ takes_back first_note ∷ []) store)
      ≡ 0 ∷ 1 ∷ 2 ∷ 0 ∷ 3 ∷ 1 ∷ 1 ∷ 3 ∷ 2 ∷ 2 ∷ 3 ∷ 0
      ∷ 5 ∷ 8 ∷ 11 ∷ 10 ∷ 6 ∷ 0 ∷ 4 ∷ 9 ∷ 1 ∷ 7 ∷ 3 ∷ 2 ∷ []
  pub given_up : map (triangle_of (made (loads 1 tetrahedron ∷ refines 0 ∷ takes_back first_note ∷ []) store)) (4 ∷ 5 ∷ [])
      ≡ (1 ∷ 2 ∷ 4 ∷ 1 ∷ []) ∷ (2 ∷ 0 ∷ 4 ∷ 1 ∷ []) ∷ []
  -- Two refines taken back in turn, and a rim split.
  pub taken_back_in_turn : map line_of (drop 1 (made_each (loads 1 tetrahedron ∷ refines 0 ∷ refines 0
      ∷ takes_back second_note ∷ takes_back first_note ∷ []) store)) ≡
      (0 ∷ 1 ∷ 0 ∷ 5 ∷ 6 ∷ []) ∷ (0 ∷ 1 ∷ 1 ∷ 6 ∷ 8 ∷ []) ∷ (0 ∷ 0 ∷ 0 ∷ 5 ∷ 6 ∷ []) ∷ (0 ∷ 0 ∷ 0 ∷ 4 ∷ 4 ∷ []) ∷ []
  pub rim_taken_back : map line_of (drop 2 (made_each (loads 1 triangle ∷ refines 0 ∷ refines 0
      ∷ takes_back (noted_by (loads 1 triangle ∷ refines 0 ∷ []) 0 31) ∷ []) store)) ≡
      (0 ∷ 1 ∷ 0 ∷ 6 ∷ 5 ∷ []) ∷ (0 ∷ 0 ∷ 0 ∷ 4 ∷ 3 ∷ []) ∷ []
  -- The link of a locked triangle goes back with its side.
  pub link_goes_back : links_after (loads 1 tetrahedron ∷ sets_lock true 2 ∷ refines 0 ∷ [])
      (takes_back (set first_note 21 1)) (8 ∷ []) ≡ 12 ∷ 1 ∷ []
  -- Positions are compared too: four refines and a whole step give the same corners and links, and the note of the last
  -- refine is refused after the step.
  pub same_sides : map (λ cs. sides_of (made cs store)) (four_refined ∷ (loads 1 tetrahedron ∷ steps ∷ []) ∷ [])
      ≡ twelve ∷ twelve ∷ []
  pub stale_note : map (λ cs. refusal_after cs (changes (takes_back last_note)) store)
      (four_refined ∷ (loads 1 tetrahedron ∷ steps ∷ []) ∷ []) ≡ 0 ∷ 21 ∷ []
  -- A note with another triangle is accepted where its refine makes the same mesh: slot 1, across the base of slot 0.
  pub other_triangle : map (λ t. refusal_after (loads 1 tetrahedron ∷ refines 0 ∷ refines 0 ∷ [])
      (changes (takes_back (set second_note 0 t))) store) (0 ∷ 1 ∷ 2 ∷ []) ≡ 0 ∷ 0 ∷ 21 ∷ []
  -- What is compared are meshes, not clicks: where two refines make what the noted one made, its note takes back both.
  pub two_taken_back : map line_of (drop 4 (made_each (loads 1 tetrahedron ∷ refines 0 ∷ refines 0 ∷ refines 0
      ∷ refines 3 ∷ refines 1 ∷ takes_back fourth_note ∷ []) store)) ≡
      (0 ∷ 1 ∷ 2 ∷ 8 ∷ 12 ∷ []) ∷ (0 ∷ 1 ∷ 1 ∷ 9 ∷ 14 ∷ []) ∷ (0 ∷ 0 ∷ 0 ∷ 7 ∷ 10 ∷ []) ∷ []
  -- What the refines of the outline's run report: a split its own slot and the new ones, a flip s and then u. Later
  -- entries of the buffer stay. (Request m)
  pub run_reported : map (λ o. o.room.report) (drop 1 (made_each (loads 1 tetrahedron
      ∷ reports (one 0) (replicate 5 77) ∷ reports (one 0) (replicate 5 77) ∷ reports (one 0) (replicate 5 77)
      ∷ reports (one 0) (replicate 12 77) ∷ []) store)) ≡
      (0 ∷ 4 ∷ 5 ∷ 77 ∷ 77 ∷ []) ∷ (1 ∷ 6 ∷ 7 ∷ 7 ∷ 0 ∷ []) ∷ (0 ∷ 8 ∷ 9 ∷ 77 ∷ 77 ∷ [])
      ∷ (3 ∷ 10 ∷ 11 ∷ 10 ∷ 1 ∷ 11 ∷ 5 ∷ 1 ∷ 12 ∷ 13 ∷ 13 ∷ 0 ∷ []) ∷ []
  -- A face split and the three rim splits of Figure 8.
  pub rim_reported : map (λ o. o.room.report) (drop 1 (made_each (loads 1 triangle
      ∷ reports (one 0) (replicate 3 77) ∷ reports (one 0) (replicate 3 77) ∷ reports (one 1) (replicate 5 77)
      ∷ reports (one 2) (replicate 8 77) ∷ []) store)) ≡
      (0 ∷ 1 ∷ 2 ∷ []) ∷ (0 ∷ 3 ∷ 4 ∷ []) ∷ (1 ∷ 5 ∷ 6 ∷ 1 ∷ 4 ∷ []) ∷ (2 ∷ 7 ∷ 8 ∷ 2 ∷ 6 ∷ 8 ∷ 0 ∷ 77 ∷ []) ∷ []
  -- A list, its preview, and a box of four turns, with what is answered of the length.
  pub list_reported : map (λ o. o.answer.reported ∷ o.room.report)
      (outcome (changes (reports (each (0 ∷ 0 ∷ 1 ∷ []) (sevens 12 20)) (replicate 9 77))) solid
      ∷ outcome (asks (preview_reported (0 ∷ 0 ∷ 1 ∷ []) (sevens 12 20) (replicate 9 77))) solid ∷ []) ≡
      replicate 2 (8 ∷ 0 ∷ 4 ∷ 5 ∷ 1 ∷ 6 ∷ 7 ∷ 7 ∷ 0 ∷ 77 ∷ [])
  pub box_reported :
      (outcome (changes (reports (in_box (everywhere 1) (sevens 12 20)) (replicate 24 77))) solid).room.report ≡
      0 ∷ 4 ∷ 5 ∷ 1 ∷ 6 ∷ 7 ∷ 7 ∷ 0 ∷ 2 ∷ 8 ∷ 9 ∷ 2 ∷ 6 ∷ 9 ∷ 4 ∷ 3 ∷ 10 ∷ 11 ∷ 3 ∷ 8 ∷ 10 ∷ 1 ∷ 11 ∷ 5 ∷ []
  -- The rim runs as the sides of its triangles do, and of the three points of a vertex the first is towards the vertex
  -- before. From another vertex on it is the same curve, begun there; later entries of the table stay. (Request n)
  pub curve_alone : curve_in 29 0 pane ≡ pane_curve ++ (pos 77 ∷ pos 77 ∷ [])
  pub curve_begun_at : map (λ v. curve_in 27 v pane) (1 ∷ 2 ∷ [])
      ≡ (drop 9 pane_curve ++ take 9 pane_curve) ∷ (drop 18 pane_curve ++ take 18 pane_curve) ∷ []
  -- It has no halves, so that its mirror image is the curve of the mirror image by rule 1 too.
  pub curve_mirrored : curve_in 27 0 (mirror 2 pane) ≡ mirror_table 2 pane_curve
  -- In a rim of two vertices each is before and after the other; 2 is answered, and 0 on a refusal.
  pub pocket_sound : is_sound pocket ≡ true
  pub curve_of_two : curve_in 19 0 pocket ≡
      pos 11 ∷ pos 32 ∷ pos 0 ∷ pos 8 ∷ pos 38 ∷ negsuc 0 ∷ pos 11 ∷ pos 32 ∷ pos 0
      ∷ pos 16 ∷ pos 22 ∷ pos 1 ∷ pos 19 ∷ pos 16 ∷ pos 2 ∷ pos 16 ∷ pos 22 ∷ pos 1
      ∷ pos 77 ∷ []
  pub rim_lengths : map (λ v. (asked (curve_of v (replicate 18 (pos 77))) pocket).answer.ring_length) (0 ∷ 1 ∷ 2 ∷ [])
      ≡ 2 ∷ 2 ∷ 0 ∷ []
  -- Of two triangles that do not meet each has its own rim; that of two that share a side goes round both; a rim split
  -- puts two vertices into it.
  pub rims : rim (made (loads 1 (cage_at_origin 6 2 (0 ∷ 1 ∷ 2 ∷ 3 ∷ 4 ∷ 5 ∷ [])) ∷ []) store).topology 4
      ∷ rim (made (loads 1 hinge ∷ []) store).topology 0 ∷ rim cut_at_boundary.topology 0 ∷ []
      ≡ (4 ∷ 5 ∷ 3 ∷ []) ∷ (0 ∷ 3 ∷ 1 ∷ 2 ∷ []) ∷ (0 ∷ 4 ∷ 5 ∷ 1 ∷ 2 ∷ []) ∷ []

pub readings : Table
unfolding computing rename_two unflipped lent_sevens mirror_table fresh sevens listed held_by tetrahedron triangle store solid smoothed side_one through_one
    octahedron pulled spike long_chain hinge with_first signed_bytes foil at_eighteen tight alone boxed box_line at_point
    everywhere short_boxes links_after
    first_note second_note fourth_note four_refined last_note twelve noted_by sides_of
    pane pane_curve pocket curve_in cage_at_origin cut_at_boundary
readings = record {
  through_side_one = refl;
  through_side_one₉ = refl;
  through_side_one₆ = refl;
  through_side_one₁ = refl;
  chain_of_three = refl;
  chain_of_three₈ = refl;
  own_slot_flipped = refl;
  foil_edges = refl;
  foil_sound = refl;
  foil_refined = refl;
  foil_stepped = refl;
  foil_moved = refl;
  foil_limits = refl;
  foil_ring = refl;
  to_twenty = refl;
  enough_room = refl;
  few_triangle_slots = refl;
  few_vertex_slots = refl;
  closed_ring = refl;
  hinge_ring = refl;
  open_ring = refl;
  moved_two = refl;
  moved_three = refl;
  placed_four = refl;
  limits = refl;
  limit_half = refl;
  limit_half_away = refl;
  limit_half_below = refl;
  load_mirrored = refl;
  step_half = refl;
  step_half_away = refl;
  rule_set = refl;
  rule_kept = refl;
  unlinked = refl;
  signed_point = refl;
  greatest = refl;
  least = refl;
  below_least = refl;
  last_accepted = refl;
  thirds = refl;
  halves = refl;
  halves_away = refl;
  listed_twice = refl;
  two_lists = refl;
  raised_by_other = refl;
  made_by_earlier = refl;
  held_in_spares = refl;
  empty_list = refl;
  held_by_none = refl;
  foreseen = refl;
  foreseen_refused = refl;
  boxed_open = refl;
  boxed_closed = refl;
  boxed_all = refl;
  lowest_first = refl;
  short_by_one = refl;
  short_leaves = refl;
  runs_out = refl;
  runs_out_stands = refl;
  runs_out_spares = refl;
  load_leaves_past = refl;
  load_unlocks = refl;
  load_unlocks_locked = refl;
  split_unlocks = refl;
  past_is_no_lock = refl;
  spares_locked = refl;
  link_follows = refl;
  link_follows_flip = refl;
  link_follows_rim = refl;
  flipped_meet = refl;
  flipped_sides = refl;
  unlocked_again = refl;
  note_written = refl;
  notes_written = refl;
  last_written = refl;
  taken_back_lines = refl;
  taken_back_sides = refl;
  given_up = refl;
  taken_back_in_turn = refl;
  rim_taken_back = refl;
  link_goes_back = refl;
  same_sides = refl;
  stale_note = refl;
  other_triangle = refl;
  two_taken_back = refl;
  run_reported = refl;
  rim_reported = refl;
  list_reported = refl;
  box_reported = refl;
  curve_alone = refl;
  curve_begun_at = refl;
  curve_mirrored = refl;
  pocket_sound = refl;
  curve_of_two = refl;
  rim_lengths = refl;
  rims = refl;
}
