-- One example of each refusal, computed from the rules. (Refused inputs, the column of examples)
use Prim.Native.Nat.{ℕ, zero, suc, ◌+◌, ◌*◌, ◌%◌}
use mathlib.Core.Bool.{true, false}
use mathlib.Core.List.{List, [], ◌∷◌, ◌++◌, map}
use mathlib.Core.Path.{◌≡◌, refl}
use lib.IntN.{pos}
use lib.ListN.{replicate, take, drop, set}
use Rattle.rules.proofs.Computing.{computing, made, fresh, sevens, box_of, bytes, tetrahedron, refusal_after}
use Rattle.rules.proofs.Computing.{cage_at_origin, hinge}
use Rattle.rules.specs.Boxes.{Box}
use Rattle.rules.specs.Calls.{zero_point}
use Rattle.rules.specs.History.{Change, loads, refines, steps, refines_each, refines_in_box, sets_lock, ring_of}
use Rattle.rules.specs.History.{position_of, limits_of, preview_of, point_seen, triangles_seen, changes, asks}
use Rattle.rules.specs.History.{refines_noted, takes_back, reports, curve_of}
use Rattle.rules.specs.Spares.{Spares}
use Rattle.rules.specs.Reports.{one, with_note}
use Rattle.rules.specs.Tables.{Mesh, topology_of, mesh_of, with_locks, with_rule, boundary}

unfoldable pub small : Mesh
unfolding fresh
small = fresh 6 9

-- The tetrahedron in it.
unfoldable pub solid : Mesh
unfolding computing small tetrahedron
solid = made (loads 1 tetrahedron ∷ []) small

-- Tables that disagree: corners and links for 9 triangle slots, generations and locks for 8.
unfoldable pub uneven : Mesh
uneven =
    mesh_of (topology_of 0 0 (replicate 27 0) (replicate 27 0) (replicate 8 0)) (replicate 18 (pos 0)) (replicate 8 0) 1

unfoldable pub triangle : List ℕ
unfolding cage_at_origin
triangle = cage_at_origin 3 1 (0 ∷ 1 ∷ 2 ∷ [])

-- Two triangles that share all three sides: a foil leaf. The same after a tetrahedron, and before one.
unfoldable pub foil_cage : List ℕ
unfolding cage_at_origin
foil_cage = cage_at_origin 3 2 (0 ∷ 1 ∷ 2 ∷ 0 ∷ 2 ∷ 1 ∷ [])

unfoldable pub foil_last : List ℕ
unfolding cage_at_origin
foil_last = cage_at_origin 7 6 (0 ∷ 1 ∷ 2 ∷ 0 ∷ 3 ∷ 1 ∷ 1 ∷ 3 ∷ 2 ∷ 2 ∷ 3 ∷ 0 ∷ 4 ∷ 5 ∷ 6 ∷ 4 ∷ 6 ∷ 5 ∷ [])

unfoldable pub foil_first : List ℕ
unfolding cage_at_origin
foil_first = cage_at_origin 7 6 (0 ∷ 1 ∷ 2 ∷ 0 ∷ 2 ∷ 1 ∷ 3 ∷ 4 ∷ 5 ∷ 3 ∷ 6 ∷ 4 ∷ 4 ∷ 6 ∷ 5 ∷ 5 ∷ 6 ∷ 3 ∷ [])

-- One triangle with a first coordinate of 16,777,217.
unfoldable pub too_far : List ℕ
unfolding bytes
too_far = bytes (3 ∷ 1 ∷ []) ++ (1 ∷ 0 ∷ 0 ∷ 1 ∷ []) ++ replicate 32 0 ++ bytes (0 ∷ 1 ∷ 2 ∷ [])

-- Two triangles back to back, of generation 20.
unfoldable pub grown : Mesh
grown =
    mesh_of (topology_of 3 2 (0 ∷ 1 ∷ 2 ∷ 0 ∷ 2 ∷ 1 ∷ []) (5 ∷ 4 ∷ 3 ∷ 2 ∷ 1 ∷ 0 ∷ []) (20 ∷ 20 ∷ []))
    (replicate 9 (pos 0)) (0 ∷ 0 ∷ []) 1

-- One triangle of generation g with its three sides on the boundary, and room for a rim split.
unfoldable pub shell : ℕ → Mesh
shell g =
    let links = boundary ∷ boundary ∷ boundary ∷ replicate 6 0 in
    mesh_of (topology_of 3 1 (0 ∷ 1 ∷ 2 ∷ replicate 6 0) links (g ∷ 0 ∷ 0 ∷ [])) (replicate 15 (pos 0)) (replicate 3 0) 1

-- A box that is refused: its generation is 21.
unfoldable pub too_fine : Box
too_fine = box_of zero_point zero_point 21

-- The refusals of these boxes, on the tetrahedron.
unfoldable pub boxes_refused : List Box → List ℕ
unfolding sevens solid
boxes_refused = map (λ b. refusal_after [] (changes (refines_in_box b (sevens 6 9))) solid)

-- The first k pairs of triangles of a double pyramid on n sides: its apexes are n and n + 1.
unfoldable pub pyramids : ℕ → ℕ → List ℕ
pyramids n zero = []
pyramids n (suc k) = k ∷ (suc k % n) ∷ n ∷ (suc k % n) ∷ k ∷ (n + 1) ∷ pyramids n k

unfoldable pub double_pyramid : ℕ → List ℕ
unfolding cage_at_origin pyramids
double_pyramid n = cage_at_origin (n + 2) (2 * n) (pyramids n n)

-- The one on 13 sides, whose apexes have rings of 13.
unfoldable pub pyramid : Mesh
unfolding computing fresh double_pyramid
pyramid = made (loads 1 (double_pyramid 13) ∷ []) (fresh 15 26)

-- The refusals of a refine of t, after the lock of each of these triangles in turn.
unfoldable pub locked_in_turn : Mesh → ℕ → List ℕ → List ℕ
locked_in_turn m t = map (λ x. refusal_after (sets_lock true x ∷ []) (changes (refines t)) m)

-- Meshes with odd triangles: three of the tetrahedron's refined, and a triangle refined twice.
unfoldable pub chained : Mesh
unfolding computing fresh tetrahedron
chained = made (loads 1 tetrahedron ∷ refines 0 ∷ refines 3 ∷ refines 7 ∷ []) (fresh 12 20)

unfoldable pub cut_at_boundary : Mesh
unfolding computing fresh triangle
cut_at_boundary = made (loads 1 triangle ∷ refines 0 ∷ refines 0 ∷ []) (fresh 12 20)

-- Spare tables as long as those of `small`, but for the locks.
unfoldable pub short_locks : Spares
unfolding sevens
short_locks =
    let s = sevens 6 9 in
    record {
      positions = s.positions;
      corners = s.corners;
      links = s.links;
      generations = s.generations;
      locks = replicate 8 7;
    }

-- What a refine of triangle 0 of the tetrahedron notes: slots 0, 2 and 3, the latter two for one link each. (Request l)
unfoldable pub first_note : List ℕ
first_note =
    0 ∷ 4 ∷ 4 ∷ 3
    ∷ 0 ∷ 0 ∷ 1 ∷ 2 ∷ 5 ∷ 8 ∷ 11 ∷ 0 ∷ 0
    ∷ 2 ∷ 1 ∷ 3 ∷ 2 ∷ 4 ∷ 9 ∷ 1 ∷ 0 ∷ 0
    ∷ 3 ∷ 2 ∷ 3 ∷ 0 ∷ 7 ∷ 3 ∷ 2 ∷ 0 ∷ 0
    ∷ []

-- The refusal of a take-back by a note, after that refine and these changes.
unfoldable pub taken_back : List Change → List ℕ → ℕ
unfolding small tetrahedron
taken_back later note =
    refusal_after (loads 1 tetrahedron ∷ refines 0 ∷ later) (changes (takes_back note)) small

pub record Table : Type 0 where
  pub n1 : refusal_after [] (changes (loads 1 tetrahedron)) uneven ≡ 1
  pub n2 : refusal_after [] (changes (loads 1 (take 7 tetrahedron))) small ≡ 2
  pub n3 : refusal_after [] (changes (loads 1 (cage_at_origin 3 1 (0 ∷ 0 ∷ 1 ∷ [])))) small ≡ 3
  pub n4 : refusal_after [] (changes (loads 1 too_far)) small ≡ 4
  pub n5 : refusal_after [] (changes (loads 1 (cage_at_origin 4 2 (0 ∷ 1 ∷ 2 ∷ 0 ∷ 1 ∷ 3 ∷ [])))) small ≡ 5
  pub n6 : refusal_after [] (changes (loads 1 (cage_at_origin 4 1 (0 ∷ 1 ∷ 2 ∷ [])))) small ≡ 6
  -- A foil leaf, alone and beside a good component. Vertices of two triangles on the boundary are allowed, and so is
  -- one triangle alone. (Request g)
  pub n6_by_foil : refusal_after [] (changes (loads 1 foil_cage)) small ≡ 6
  pub n6_by_last : refusal_after [] (changes (loads 1 foil_last)) (fresh 7 6) ≡ 6
  pub n6_by_first : refusal_after [] (changes (loads 1 foil_first)) (fresh 7 6) ≡ 6
  pub hinge_is_allowed : refusal_after [] (changes (loads 1 hinge)) small ≡ 0
  pub triangle_is_allowed : refusal_after [] (changes (loads 1 triangle)) small ≡ 0
  pub n7 : refusal_after [] (changes (refines 0)) small ≡ 7
  -- A rule that is neither 1 nor 2, stored with the counts.
  pub n7_by_rule : refusal_after [] (changes (refines 0)) (with_rule 3 solid) ≡ 7
  pub n8 : refusal_after [] (changes (refines 4)) solid ≡ 8
  pub n9 : refusal_after [] (changes (refines 0)) grown ≡ 9
  -- Generation 19 with its base on the boundary, and 17.
  pub n9_at_boundary : refusal_after [] (changes (refines 0)) (shell 19) ≡ 9
  pub seventeen_is_allowed : refusal_after [] (changes (refines 0)) (shell 17) ≡ 0
  -- The outline's example of 10 is refined.
  pub not10 : refusal_after (loads 1 triangle ∷ refines 0 ∷ []) (changes (refines 0)) small ≡ 0
  pub n11 : refusal_after (loads 1 tetrahedron ∷ []) (changes (refines 0)) (fresh 6 5) ≡ 11
  pub n12 : refusal_after (refines 0 ∷ []) (changes steps) solid ≡ 12
  pub n13 : refusal_after [] (changes steps) pyramid ≡ 13
  pub twelve_is_allowed : refusal_after (loads 1 (double_pyramid 12) ∷ []) (changes steps) (fresh 38 72) ≡ 0
  pub n14 : refusal_after [] (asks (ring_of 0 (7 ∷ 7 ∷ []))) solid ≡ 14
  pub n15 : refusal_after [] (asks (limits_of (replicate 11 (pos 7)))) solid ≡ 15
  pub longer_is_refused : refusal_after [] (asks (limits_of (replicate 13 (pos 7)))) solid ≡ 15
  pub ring_before_table : refusal_after [] (asks (limits_of [])) pyramid ≡ 13
  pub twenty_is_answered : refusal_after [] (asks (limits_of (replicate 9 (pos 7)))) grown ≡ 0
  -- A load with another rule, after 1 and before 2.
  pub n16 : refusal_after [] (changes (loads 0 tetrahedron)) small ≡ 16
  pub tables_before_rule : refusal_after [] (changes (loads 3 tetrahedron)) uneven ≡ 1
  pub rule_before_sizes : refusal_after [] (changes (loads 3 (take 7 tetrahedron))) small ≡ 16
  -- Spare tables of another size, after 1 and before 7.
  pub n17 : refusal_after [] (changes (refines_each [] (sevens 6 8))) solid ≡ 17
  pub tables_before_spares : refusal_after [] (changes (refines_each [] (sevens 6 8))) uneven ≡ 1
  pub spares_before_sound : refusal_after [] (changes (refines_each [] (sevens 5 9))) small ≡ 17
  -- A generation above 20, and a low coordinate above the high one, after 17 and before 7. A generation of 20 is
  -- allowed, and so is a box of one point. (Request h)
  pub n18 : boxes_refused (too_fine ∷ box_of (pos 1, pos 0, pos 0) zero_point 1 ∷ box_of (pos 0, pos 1, pos 0) zero_point 1
      ∷ box_of (pos 0, pos 0, pos 1) zero_point 1 ∷ []) ≡ 18 ∷ 18 ∷ 18 ∷ 18 ∷ []
  pub point_is_allowed : boxes_refused (box_of (pos 1, pos 1, pos 1) (pos 1, pos 1, pos 1) 20 ∷ []) ≡ 0 ∷ []
  pub spares_before_box : refusal_after [] (changes (refines_in_box too_fine (sevens 6 8))) small ≡ 17
  pub box_before_sound : refusal_after [] (changes (refines_in_box too_fine (sevens 6 9))) small ≡ 18
  pub sound_after_box : refusal_after [] (changes (refines_in_box (box_of zero_point zero_point 20) (sevens 6 9))) small ≡ 7
  -- Generation 19 at the boundary, below 20 and not below 19.
  pub n9_in_box : refusal_after [] (changes (refines_in_box (box_of zero_point zero_point 20) (sevens 5 3))) (shell 19) ≡ 9
  pub nineteen_is_left : refusal_after [] (changes (refines_in_box (box_of zero_point zero_point 19) (sevens 5 3))) (shell 19)
      ≡ 0
  -- The lock of each triangle in turn, before an even triangle is refined: it counts alone. Before slot 9, whose base
  -- chain goes on over slot 6 and ends at slot 1, which the base of slot 0 meets too. Before an odd triangle whose base
  -- meets slot 2, which is odd and has its base on the boundary. One whose link only follows does not count: slots 2
  -- and 3 of the first. (Request i)
  pub n19 : locked_in_turn solid 0 (0 ∷ 1 ∷ 2 ∷ 3 ∷ []) ≡ 19 ∷ 0 ∷ 0 ∷ 0 ∷ []
  pub n19_in_chain : locked_in_turn chained 9 (0 ∷ 1 ∷ 2 ∷ 3 ∷ 4 ∷ 5 ∷ 6 ∷ 7 ∷ 8 ∷ 9 ∷ [])
      ≡ 19 ∷ 19 ∷ 0 ∷ 0 ∷ 0 ∷ 0 ∷ 19 ∷ 0 ∷ 0 ∷ 19 ∷ []
  pub n19_at_boundary : locked_in_turn cut_at_boundary 0 (0 ∷ 1 ∷ 2 ∷ 3 ∷ 4 ∷ []) ≡ 19 ∷ 0 ∷ 19 ∷ 0 ∷ 0 ∷ []
  -- After 9, and before 11; in a whole step after 13, and before 11; in a list, its preview and a box.
  pub age_before_lock : refusal_after (sets_lock true 0 ∷ []) (changes (refines 0)) grown ≡ 9
  pub lock_before_room : refusal_after (loads 1 tetrahedron ∷ sets_lock true 0 ∷ []) (changes (refines 0)) (fresh 6 5) ≡ 19
  pub n19_in_step : refusal_after (sets_lock true 3 ∷ []) (changes steps) solid ≡ 19
  pub ring_before_lock : refusal_after (sets_lock true 0 ∷ []) (changes steps) pyramid ≡ 13
  pub n19_in_list : map (λ c. refusal_after (sets_lock true 1 ∷ []) c solid)
      (changes (refines_each (0 ∷ 1 ∷ []) (sevens 6 9)) ∷ asks (preview_of (0 ∷ 1 ∷ []) (sevens 6 9)) ∷ [])
      ≡ 19 ∷ 19 ∷ []
  pub n19_in_box : refusal_after (loads 1 tetrahedron ∷ sets_lock true 3 ∷ [])
      (changes (refines_in_box (box_of zero_point zero_point 1) (sevens 12 20))) (fresh 12 20) ≡ 19
  -- Limits, rings and positions are read as before.
  pub locked_is_read : map (λ q. refusal_after (sets_lock true 0 ∷ []) (asks q) solid)
      (limits_of (replicate 12 (pos 7)) ∷ ring_of 0 (7 ∷ 7 ∷ 7 ∷ []) ∷ position_of 0 ∷ []) ≡ 0 ∷ 0 ∷ 0 ∷ []
  -- The length of the locks alone, in the mesh and in spare tables; a lock of 2 in use.
  pub n1_by_locks : refusal_after [] (changes (loads 1 tetrahedron)) (with_locks (replicate 8 0) small) ≡ 1
  pub n17_by_locks : refusal_after [] (changes (refines_each [] short_locks)) solid ≡ 17
  pub n7_by_lock : refusal_after [] (changes (refines 0)) (with_locks (0 ∷ 0 ∷ 0 ∷ 2 ∷ replicate 5 0) solid) ≡ 7
  -- A lock is set and cleared under 1, 7 and 8.
  pub lock_refused : map (λ c. refusal_after [] (changes c) uneven) (sets_lock true 0 ∷ sets_lock false 0 ∷ []) ≡ 1 ∷ 1 ∷ []
  pub lock_unsound : map (λ c. refusal_after [] (changes c) small) (sets_lock true 0 ∷ sets_lock false 0 ∷ []) ≡ 7 ∷ 7 ∷ []
  pub lock_unused : map (λ c. refusal_after [] (changes c) solid)
      (sets_lock true 4 ∷ sets_lock false 4 ∷ sets_lock true 3 ∷ sets_lock false 3 ∷ []) ≡ 8 ∷ 8 ∷ 0 ∷ 0 ∷ []
  -- All triangles into tables of 0, 35, 36 and 37 numbers, after 1 and 7; one vertex under 1, 7 and 8. (Request j)
  pub n20 : map (λ n. refusal_after [] (asks (triangles_seen n)) solid) (0 ∷ 35 ∷ 36 ∷ 37 ∷ []) ≡ 20 ∷ 20 ∷ 0 ∷ 0 ∷ []
  pub tables_before_short : map (λ q. refusal_after [] (asks q) (with_locks [] solid))
      (triangles_seen 0 ∷ point_seen 4 ∷ []) ≡ 1 ∷ 1 ∷ []
  pub sound_before_short : map (λ q. refusal_after [] (asks q) (with_rule 3 solid))
      (triangles_seen 0 ∷ point_seen 4 ∷ []) ≡ 7 ∷ 7 ∷ []
  pub unused_unseen : map (λ v. refusal_after [] (asks (point_seen v)) solid) (3 ∷ 4 ∷ []) ≡ 0 ∷ 8 ∷ []
  -- The note of a refine, at once; after the lock of slot 1, which it does not list; after that of slot 2, which it
  -- lists for a link, and of slot 4, which the refine made; and after another refine. (Request l)
  pub n21 : map (λ later. taken_back later first_note)
      ([] ∷ (sets_lock true 1 ∷ []) ∷ (sets_lock true 2 ∷ []) ∷ (sets_lock true 4 ∷ []) ∷ (refines 1 ∷ []) ∷ [])
      ≡ 0 ∷ 0 ∷ 21 ∷ 21 ∷ 21 ∷ []
  -- A note of nothing, with a triangle whose refine is refused: the mesh stands, but is not made.
  pub n21_refused : taken_back [] (99 ∷ 5 ∷ 6 ∷ 0 ∷ []) ≡ 21
  -- No note; one entry short; for one slot more, and for so many that 4 + 9 k is 5 in 32 bits.
  pub n21_by_length : map (taken_back [])
      ([] ∷ take 30 first_note ∷ set first_note 3 4 ∷ set first_note 3 954437177 ∷ []) ≡ 21 ∷ 21 ∷ 21 ∷ 21 ∷ []
  -- With one slot more: slot 1 as it stands, in its place; the last one again; and one that was not in use.
  pub n21_by_slots : map (taken_back [])
      ((set (take 13 first_note) 3 4 ++ (1 ∷ 0 ∷ 3 ∷ 1 ∷ 10 ∷ 6 ∷ 0 ∷ 0 ∷ 0 ∷ []) ++ drop 13 first_note)
      ∷ (set first_note 3 4 ++ drop 22 first_note)
      ∷ (set first_note 3 4 ++ (4 ∷ replicate 8 0)) ∷ []) ≡ 0 ∷ 21 ∷ 21 ∷ []
  -- Another triangle, old V and old F; a slot twice, and one not below the old F; another link and generation.
  pub n21_by_entry : map (λ (i, x). taken_back [] (set first_note i x))
      ((0, 1) ∷ (1, 5) ∷ (2, 6) ∷ (13, 0) ∷ (22, 4) ∷ (8, 7) ∷ (11, 2) ∷ [])
      ≡ 21 ∷ 21 ∷ 21 ∷ 21 ∷ 21 ∷ 21 ∷ 21 ∷ []
  -- The lock of slot 0, with which the refine is refused, and of slot 2, with which another mesh comes of it.
  pub n21_by_lock : map (λ i. taken_back [] (set first_note i 1)) (12 ∷ 21 ∷ []) ≡ 21 ∷ 21 ∷ []
  -- Entries past the note do not count.
  pub longer_is_accepted : taken_back [] (first_note ++ (7 ∷ [])) ≡ 0
  pub sound_before_note : map (refusal_after [] (changes (takes_back []))) (uneven ∷ small ∷ []) ≡ 1 ∷ 7 ∷ []
  -- A refine that changes three slots, with 0, 30, 31 and 32 entries for its note; after 8, 9, 19 and 11.
  pub n22 : map (λ n. refusal_after [] (changes (refines_noted 0 (replicate n 7))) solid)
      (0 ∷ 30 ∷ 31 ∷ 32 ∷ []) ≡ 22 ∷ 22 ∷ 0 ∷ 0 ∷ []
  -- A refine that reports three slots, with 0, 2, 3 and 4 entries for them; after 22, 11 and 8. (Request m)
  pub n23 : map (λ n. refusal_after [] (changes (reports (one 0) (replicate n 7))) solid)
      (0 ∷ 2 ∷ 3 ∷ 4 ∷ []) ≡ 23 ∷ 23 ∷ 0 ∷ 0 ∷ []
  pub note_before_report : map (λ n. refusal_after [] (changes (reports (with_note 0 (replicate n 7)) [])) solid)
      (30 ∷ 31 ∷ []) ≡ 22 ∷ 23 ∷ []
  pub room_before_report : refusal_after (loads 1 tetrahedron ∷ []) (changes (reports (one 0) [])) (fresh 6 5) ≡ 11
  pub unused_before_report : refusal_after [] (changes (reports (one 4) [])) solid ≡ 8
  pub room_before_note : refusal_after (loads 1 tetrahedron ∷ []) (changes (refines_noted 0 [])) (fresh 6 5) ≡ 11
  pub lock_before_note : refusal_after (sets_lock true 0 ∷ []) (changes (refines_noted 0 [])) solid ≡ 19
  pub unused_before_note : refusal_after [] (changes (refines_noted 4 [])) solid ≡ 8
  pub age_before_note : refusal_after [] (changes (refines_noted 0 [])) grown ≡ 9
  -- A vertex off the boundary, with a table of no or enough numbers; after 1, 7 and 8. (Request n)
  pub n24 : map (λ n. refusal_after [] (asks (curve_of 0 (replicate n (pos 7)))) solid) (0 ∷ 36 ∷ []) ≡ 24 ∷ 24 ∷ []
  pub unused_before_rim : map (refusal_after [] (asks (curve_of 4 []))) (uneven ∷ small ∷ solid ∷ []) ≡ 1 ∷ 7 ∷ 8 ∷ []
  -- Of a triangle with its centre: a vertex of the triangle, the centre, and the next slot.
  pub n24_at_centre : map (λ v. refusal_after (loads 1 triangle ∷ refines 0 ∷ [])
      (asks (curve_of v (replicate 27 (pos 7)))) small) (2 ∷ 3 ∷ 4 ∷ []) ≡ 0 ∷ 24 ∷ 8 ∷ []
  -- A rim of three vertices, into tables of 0, 26, 27 and 28 numbers.
  pub n25 : map (λ n. refusal_after (loads 1 triangle ∷ []) (asks (curve_of 2 (replicate n (pos 7)))) small)
      (0 ∷ 26 ∷ 27 ∷ 28 ∷ []) ≡ 25 ∷ 25 ∷ 0 ∷ 0 ∷ []

pub refusals : Table
unfolding computing fresh sevens small solid uneven tetrahedron cage_at_origin triangle hinge foil_cage foil_last foil_first
    too_far grown shell too_fine boxes_refused double_pyramid pyramid locked_in_turn chained cut_at_boundary short_locks
    first_note taken_back
refusals = record {
  n1 = refl;
  n2 = refl;
  n3 = refl;
  n4 = refl;
  n5 = refl;
  n6 = refl;
  n6_by_foil = refl;
  n6_by_last = refl;
  n6_by_first = refl;
  hinge_is_allowed = refl;
  triangle_is_allowed = refl;
  n7 = refl;
  n7_by_rule = refl;
  n8 = refl;
  n9 = refl;
  n9_at_boundary = refl;
  seventeen_is_allowed = refl;
  not10 = refl;
  n11 = refl;
  n12 = refl;
  n13 = refl;
  twelve_is_allowed = refl;
  n14 = refl;
  n15 = refl;
  longer_is_refused = refl;
  ring_before_table = refl;
  twenty_is_answered = refl;
  n16 = refl;
  tables_before_rule = refl;
  rule_before_sizes = refl;
  n17 = refl;
  tables_before_spares = refl;
  spares_before_sound = refl;
  n18 = refl;
  point_is_allowed = refl;
  spares_before_box = refl;
  box_before_sound = refl;
  sound_after_box = refl;
  n9_in_box = refl;
  nineteen_is_left = refl;
  n19 = refl;
  n19_in_chain = refl;
  n19_at_boundary = refl;
  age_before_lock = refl;
  lock_before_room = refl;
  n19_in_step = refl;
  ring_before_lock = refl;
  n19_in_list = refl;
  n19_in_box = refl;
  locked_is_read = refl;
  n1_by_locks = refl;
  n17_by_locks = refl;
  n7_by_lock = refl;
  lock_refused = refl;
  lock_unsound = refl;
  lock_unused = refl;
  n20 = refl;
  tables_before_short = refl;
  sound_before_short = refl;
  unused_unseen = refl;
  n21 = refl;
  n21_refused = refl;
  n21_by_length = refl;
  n21_by_slots = refl;
  n21_by_entry = refl;
  n21_by_lock = refl;
  longer_is_accepted = refl;
  sound_before_note = refl;
  n22 = refl;
  n23 = refl;
  note_before_report = refl;
  room_before_report = refl;
  unused_before_report = refl;
  room_before_note = refl;
  lock_before_note = refl;
  unused_before_note = refl;
  age_before_note = refl;
  n24 = refl;
  unused_before_rim = refl;
  n24_at_centre = refl;
  n25 = refl;
}
