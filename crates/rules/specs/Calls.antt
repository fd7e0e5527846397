-- The calls: what each refuses, answers and writes. (Refused inputs)
use Rattle.std.specs.Prelude.{ℕ, zero, suc, ◌+◌, ◌-◌, ◌*◌, ◌/◌, ◌%◌, max, Bool, true, false, not, ◌&&◌, ◌||◌, List, [], ◌∷◌, eqb, ltb, leb, ℤ, pos, length, get_or, set}
use Rattle.rules.specs.Below.{all, any, fill}
use Rattle.rules.specs.Cage.{cage_of, loaded, sizes_fit, corners_fit, coordinates_fit, sides_differ, fans_fit}
use Rattle.rules.specs.Cage.{some_inner_of_two}
use Rattle.rules.specs.Numbers.{known_rule}
use Rattle.rules.specs.Ring.{ring}
use Rattle.rules.specs.Sound.{is_sound}
use Rattle.rules.specs.Spares.{Spares, no_spares}
use Rattle.rules.specs.Split.{Work, at_first, chain_end, chain_odd, chain_at, refine}
use Rattle.rules.specs.Step.{whole_step, limit_positions}
use Rattle.rules.specs.Tables.{Topology, Mesh, tables_agree, vertex_slots, triangle_slots, sides, link, boundary}
use Rattle.rules.specs.Tables.{generation, odd, is_base, coordinate, locked, with_locks, with_rule}

-- What a call answers: the number of its refusal, 0 for none, the splits and flips that it made, the length of a ring
-- or a rim, a position, and the counts: V, F and the rule; and of work in spare tables (requests e, h) how many entries
-- of a list, or turns of a box, succeeded, and the counts of the mesh in them; and the length of a report (request m).
-- A preview (request f) answers what its list would. The calls build it by `answer_of` and `spares_answer`, and where a
-- buffer for a report is lent by `with_report`, alone.
pub record Answer : Type 0 where
  pub refusal : ℕ
  pub splits : ℕ
  pub flips : ℕ
  pub ring_length : ℕ
  pub point : ℤ × ℤ × ℤ
  pub vertices : ℕ
  pub triangles : ℕ
  pub rule : ℕ
  pub handled : ℕ
  pub spare_vertices : ℕ
  pub spare_triangles : ℕ
  pub spare_rule : ℕ
  pub reported : ℕ

-- What a call is lent beside the mesh: a buffer for a ring or a note, a table of points, spare tables, a buffer for a
-- report. What it is not lent is empty. Of a viewer's f32 the crate `viewer` tells.
pub record Room : Type 0 where
  pub buffer : List ℕ
  pub table : List ℤ
  pub spares : Spares
  pub report : List ℕ

-- A call's answer, the mesh that it leaves and what it leaves in its room.
pub record Outcome : Type 0 where
  pub answer : Answer
  pub mesh : Mesh
  pub room : Room

-- An answer from its parts: the counts of the mesh and of the mesh in the spare tables are V, F and the rule.
abbrev pub answer_from : ℕ → ℕ → ℕ → ℕ → ℤ × ℤ × ℤ → ℕ × ℕ × ℕ → ℕ → ℕ × ℕ × ℕ → ℕ → Answer
answer_from refusal splits flips n point counts handled spareCounts reported = record {
  refusal = refusal;
  splits = splits;
  flips = flips;
  ring_length = n;
  point = point;
  vertices = counts.0;
  triangles = counts.1;
  rule = counts.2;
  handled = handled;
  spare_vertices = spareCounts.0;
  spare_triangles = spareCounts.1;
  spare_rule = spareCounts.2;
  reported = reported;
}

-- V, F and the rule of a mesh.
abbrev pub counts_of : Mesh → ℕ × ℕ × ℕ
counts_of m = (m.topology.vertices, m.topology.triangles, m.rule)

-- An answer where no spare tables are worked in.
abbrev pub answer_of : ℕ → ℕ → ℕ → ℕ → ℤ × ℤ × ℤ → Mesh → Answer
answer_of refusal splits flips n point m = answer_from refusal splits flips n point (counts_of m) 0 (0, 0, 0) 0

-- No room; a buffer, a table, spare tables alone.
abbrev pub no_room : Room
no_room = record { buffer = []; table = []; spares = no_spares; report = [] }

abbrev pub buffer_room : List ℕ → Room
buffer_room buffer = record { buffer = buffer; table = []; spares = no_spares; report = [] }

abbrev pub table_room : List ℤ → Room
table_room table = record { buffer = []; table = table; spares = no_spares; report = [] }

abbrev pub spare_room : Spares → Room
spare_room spares = record { buffer = []; table = []; spares = spares; report = [] }

-- An outcome from its parts.
abbrev pub outcome_of : Answer → Mesh → Room → Outcome
outcome_of answer m room = record { answer = answer; mesh = m; room = room }

-- An outcome with the buffer for a report as the call leaves it, and the length n of the report, 0 on a refusal.
-- (Request m)
abbrev pub with_report : List ℕ → ℕ → Outcome → Outcome
with_report report n o =
    let a = o.answer in
    let r = o.room in
    outcome_of (answer_from a.refusal a.splits a.flips a.ring_length a.point
    (a.vertices, a.triangles, a.rule) a.handled (a.spare_vertices, a.spare_triangles, a.spare_rule) n) o.mesh
    (record { buffer = r.buffer; table = r.table; spares = r.spares; report = report })

-- What is answered where no position is asked for.
abbrev pub zero_point : ℤ × ℤ × ℤ
zero_point = (pos 0, pos 0, pos 0)

-- A refusal answers its number with zeros and the counts as they stand; the mesh is left, and this room. (Refused
-- inputs, below the table)
abbrev pub refused_with : ℕ → Mesh → Room → Outcome
refused_with n m room = outcome_of (answer_of n 0 0 0 zero_point m) m room

-- A call that made splits and flips.
abbrev pub worked : Work → Outcome
worked w = outcome_of (answer_of 0 w.splits w.flips 0 zero_point w.mesh) w.mesh no_room

-- ---- refusals in their order, which is that of the conditions (theory/proofs/Results, the theorems ..-returns)

-- A refusal's number with its test.
infix 68 ◌if◌
pub data Test : Type 0 where
  ◌if◌ : ℕ → Bool → Test

-- The first number whose condition holds; 0 where none does.
abbrev pub first_of : List Test → ℕ
first_of [] = 0
first_of (n if holds ∷ rest) = elim holds [ true ↦ n | false ↦ first_of rest ]

-- 1 and 7, which every call on a stored mesh begins with, and then these. (Refused inputs, below the table)
abbrev pub on_sound : Mesh → List Test → ℕ
on_sound m rest = first_of (1 if not (tables_agree m) ∷ 7 if not (is_sound m) ∷ rest)

-- Slots for v vertices and f triangles more. (Refused inputs, 11)
abbrev pub room_for : ℕ → ℕ → Mesh → Bool
room_for v f m = leb (m.topology.vertices + v) (vertex_slots m) && leb (m.topology.triangles + f) (triangle_slots m)

-- The rim splits that refining t takes: one where its base chain ends at the boundary, at an odd triangle. (Request
-- b)
abbrev pub rim_splits_of : Topology → ℕ → ℕ
rim_splits_of m t = generation m (chain_end m t) % 2

-- The splits, face and rim, that refining t takes: one for each odd triangle of its base chain, but one less at the
-- boundary, where a rim split flips the triangle before too; and one at least. (Refine one triangle; request b)
abbrev pub splits_of : Topology → ℕ → ℕ
splits_of m t = max 1 (chain_odd m t - rim_splits_of m t)

-- The vertices and the triangles that refining t makes: a rim split makes a vertex more than a face split.
abbrev pub vertices_of : Topology → ℕ → ℕ
vertices_of m t = splits_of m t + rim_splits_of m t

abbrev pub triangles_of : Topology → ℕ → ℕ
triangles_of m t = 2 * splits_of m t

-- Refining t would make a triangle above generation 20: t is of generation 20, or of 19 with its base on the boundary,
-- where a rim split raises it by two. (Refused inputs, 9; request b)
abbrev pub too_old : Topology → ℕ → Bool
too_old m t = eqb (generation m t) 20 || (eqb (generation m t) 19 && eqb (link m (3 * t)) boundary)

-- Refining t would split or flip a locked triangle: an odd one of its base chain; the last of the chain, which is split
-- first; or one whose base meets this, which is flipped with it. (Request i, 19)
unfoldable pub alters_locked : ℕ → Mesh → Bool
alters_locked t m =
    let tri = m.topology in
    let e = chain_end tri t in
    any (chain_odd tri t) (λ i. locked m (chain_at i tri t))
    || locked m e
    || any 3 (λ i. let h = link tri (3 * e + i) in is_base tri h && locked m (h / 3))

-- Some triangle is locked. (Request i, 19)
unfoldable pub some_locked : Mesh → Bool
some_locked m = any m.topology.triangles (locked m)

-- No side is on the boundary, and all triangles are of one even generation. (Whole step)
unfoldable pub closed_even : Topology → Bool
closed_even m =
    all (sides m) (λ h. not (eqb (link m h) boundary))
    && all m.triangles (λ t. eqb (generation m t) (generation m 0))
    && not (odd (generation m 0))

-- Some ring has more than 12 entries. (Refused inputs, 13)
abbrev pub long_ring : Topology → Bool
long_ring m = any m.vertices (λ v. ltb 12 (length (ring m v)))

-- The number that a load is refused with; below, those of the other calls. (Refused inputs, below the table)
unfoldable pub load_refusal : ℕ → List ℕ → Mesh → ℕ
load_refusal rule bytes m =
    let c = cage_of bytes in
    first_of (
    1 if not (tables_agree m)
    ∷ 16 if not (known_rule rule)
    ∷ 2 if not (sizes_fit bytes m)
    ∷ 3 if not (corners_fit c)
    ∷ 4 if not (coordinates_fit c)
    ∷ 5 if not (sides_differ c)
    ∷ 6 if (not (fans_fit c m) || some_inner_of_two c m) ∷ [])

unfoldable pub refine_refusal : ℕ → Mesh → ℕ
refine_refusal t m =
    let tri = m.topology in
    on_sound m (
    8 if leb tri.triangles t
    ∷ 9 if too_old tri t
    ∷ 19 if alters_locked t m
    ∷ 11 if not (room_for (vertices_of tri t) (triangles_of tri t) m) ∷ [])

unfoldable pub whole_step_refusal : Mesh → ℕ
whole_step_refusal m =
    let tri = m.topology in
    on_sound m (
    12 if not (closed_even tri)
    ∷ 9 if eqb (generation tri 0) 20
    ∷ 13 if long_ring tri
    ∷ 19 if some_locked m
    ∷ 11 if not (room_for tri.triangles (2 * tri.triangles) m) ∷ [])

unfoldable pub lock_refusal : ℕ → Mesh → ℕ
lock_refusal t m = on_sound m (8 if leb m.topology.triangles t ∷ [])

unfoldable pub limit_refusal : List ℤ → Mesh → ℕ
limit_refusal table m =
    let tri = m.topology in
    on_sound m (
    12 if not (closed_even tri)
    ∷ 13 if long_ring tri
    ∷ 15 if not (eqb (length table) (3 * tri.vertices)) ∷ [])

unfoldable pub ring_refusal : ℕ → List ℕ → Mesh → ℕ
ring_refusal v buffer m =
    on_sound m (
    8 if leb m.topology.vertices v
    ∷ 14 if ltb (length buffer) (length (ring m.topology v)) ∷ [])

unfoldable pub position_refusal : ℕ → Mesh → ℕ
position_refusal v m = on_sound m (8 if leb m.topology.vertices v ∷ [])

unfoldable pub view_refusal : ℕ → Mesh → ℕ
view_refusal n m = on_sound m (20 if ltb n (9 * m.topology.triangles) ∷ [])

-- ---- the calls

-- The outcome where nothing is refused, and else the refusal, with what it leaves of the room.
abbrev pub unless : ℕ → Mesh → Room → Outcome → Outcome
unless zero m room done = done
unless (suc n) m room done = refused_with (suc n) m room

-- The rule that a load takes goes with the counts from then on. (Load; request c)
unfoldable pub load_call : ℕ → List ℕ → Mesh → Outcome
load_call rule bytes m =
    unless (load_refusal rule bytes m) m no_room (worked (at_first (with_rule rule (loaded (cage_of bytes) m))))

-- (Refine one triangle)
unfoldable pub refine_call : ℕ → Mesh → Outcome
refine_call t m = unless (refine_refusal t m) m no_room (worked (refine t (at_first m)))

-- (Whole step)
unfoldable pub whole_step_call : Mesh → Outcome
whole_step_call m = unless (whole_step_refusal m) m no_room (worked (whole_step m))

-- The mesh with the lock of t set, or clear. (Request i)
abbrev pub with_lock : Bool → ℕ → Mesh → Mesh
with_lock on t m = with_locks (set m.locks t (elim on [ true ↦ 1 | false ↦ 0 ])) m

-- (Request i)
unfoldable pub lock_call : Bool → ℕ → Mesh → Outcome
lock_call on t m = unless (lock_refusal t m) m no_room (worked (at_first (with_lock on t m)))

-- The limit positions fill the table, and the mesh is only read. (Request a)
abbrev pub limit_read : List ℤ → Mesh → Outcome
limit_read table m = outcome_of (answer_of 0 0 0 0 zero_point m) m (table_room (limit_positions m table))

-- (Request a)
unfoldable pub limit_call : List ℤ → Mesh → Outcome
limit_call table m = unless (limit_refusal table m) m (table_room table) (limit_read table m)

-- The ring goes into the first entries of the buffer, and later ones keep their content. (Rings and positions)
abbrev pub ring_read : ℕ → List ℕ → Mesh → Outcome
ring_read v buffer m =
    let r = ring m.topology v in
    outcome_of (answer_of 0 0 0 (length r) zero_point m) m (buffer_room (fill (length r) (λ i. get_or r i 0) buffer))

-- (Rings and positions)
unfoldable pub ring_call : ℕ → List ℕ → Mesh → Outcome
ring_call v buffer m = unless (ring_refusal v buffer m) m (buffer_room buffer) (ring_read v buffer m)

-- The position of v. (Rings and positions)
abbrev pub position_read : ℕ → Mesh → Outcome
position_read v m = outcome_of (answer_of 0 0 0 0 (coordinate m v 0, coordinate m v 1, coordinate m v 2) m) m no_room

-- (Rings and positions)
unfoldable pub position_call : ℕ → Mesh → Outcome
position_call v m = unless (position_refusal v m) m no_room (position_read v m)

-- All triangles for a viewer, nine numbers each, into a table of n. The crate `viewer`, which knows f32, says
-- what the table then holds; here the mesh is read. (Request j)
abbrev pub view_read : Mesh → Outcome
view_read m = outcome_of (answer_of 0 0 0 0 zero_point m) m no_room

-- (Request j)
unfoldable pub view_call : ℕ → Mesh → Outcome
view_call n m = unless (view_refusal n m) m no_room (view_read m)
