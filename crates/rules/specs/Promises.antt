-- What holds of each call, carried out or refused, as statements; theory/proofs/Results proves every one of them.
use Rattle.std.specs.Prelude.{ℕ, zero, suc, ◌+◌, ◌-◌, ◌*◌, ◌/◌, ◌%◌, ◌≤◌, ◌<◌, Bool, true, false, List, [], ◌∷◌, ◌++◌, ◌≢◌, ◌⊎◌, ◌↔◌, ◌≡◌, eqb, ltb, ℤ, pos, nat_abs, ◌+ℤ◌, ◌-ℤ◌, ◌*ℤ◌, length, get_or, drop, ◌≤ℤ◌, ◌<ℤ◌}
use Rattle.rules.specs.Actions.{LeadsTo, new_place}
use Rattle.rules.specs.Below.{total}
use Rattle.rules.specs.Boxes.{Box, refine_in_box, box_refusal}
use Rattle.rules.specs.Calls.{Outcome, outcome_of, with_report, no_room, buffer_room, table_room, spare_room}
use Rattle.rules.specs.Calls.{refused_with, worked}
use Rattle.rules.specs.Calls.{splits_of, rim_splits_of, refine_call}
use Rattle.rules.specs.Cage.{Cage}
use Rattle.rules.specs.Conditions.{InnerOfTwo, Risen, Handled, Between, Wanted, BoxTurns}
use Rattle.rules.specs.History.{Call, changes, asks, loads, refines, steps, refines_each, refines_in_box, sets_lock}
use Rattle.rules.specs.History.{refines_noted, takes_back, reports, ring_of, position_of, limits_of, preview_of}
use Rattle.rules.specs.History.{preview_reported, point_seen}
use Rattle.rules.specs.History.{triangles_seen, curve_of, outcome, ReportsSplits, edges, cage_edges}
use Rattle.rules.specs.Lists.{Progress, refine_each, spares_refusal, spares_answer}
use Rattle.rules.specs.Notes.{note_of}
use Rattle.rules.specs.Numbers.{InRange, weight}
use Rattle.rules.specs.Reports.{Refining, one, with_note, each, in_box}
use Rattle.rules.specs.Rim.{rim, smoothed_numerator}
use Rattle.rules.specs.Ring.{OnBoundary, triangle_count, first_side, fan, ring}
use Rattle.rules.specs.Sound.{Sound}
use Rattle.rules.specs.Spares.{Spares, copied}
use Rattle.rules.specs.Split.{Work, at_first, centre, face_split, rim_split}
use Rattle.rules.specs.Step.{sum_over, moved_coordinate}
use Rattle.rules.specs.Tables.{Topology, Mesh, sides, next, previous, origin, target, boundary, link, rotate}
use Rattle.rules.specs.Tables.{generation, odd, coordinate, lock}

-- ---- numbers (Whole step)

-- q is n / d to the nearest by this rule: q - 1/2 ≤ n / d ≤ q + 1/2, all times 2 d. A half goes up (`up`); below zero
-- by rule 2 it goes down (`away`). (Whole step; request c)
pub record Nearest (rule : ℕ) (n : ℤ) (d : ℕ) (q : ℤ) : Type 0 where
  pub low : (pos (2 * d) *ℤ q) ≤ℤ (pos 2 *ℤ n +ℤ pos d)
  pub high : (pos 2 *ℤ n) ≤ℤ (pos (2 * d) *ℤ q +ℤ pos d)
  pub up : (rule ≢ 2) ⊎ (pos 0 ≤ℤ n) → (pos 2 *ℤ n) <ℤ (pos (2 * d) *ℤ q +ℤ pos d)
  pub away : rule ≡ 2 → n <ℤ pos 0 → (pos (2 * d) *ℤ q) <ℤ (pos 2 *ℤ n +ℤ pos d)

-- ---- slots (The cage and the lent tables)

-- The tables of n are as long as those of m, and past the counts of n they have the same entries.
pub record SamePast (m n : Mesh) : Type 0 where
  pub corner_slots : length n.topology.corners ≡ length m.topology.corners
  pub link_slots : length n.topology.links ≡ length m.topology.links
  pub generation_slots : length n.topology.generations ≡ length m.topology.generations
  pub lock_slots : length n.locks ≡ length m.locks
  pub position_slots : length n.positions ≡ length m.positions
  pub corners : drop (sides n.topology) n.topology.corners ≡ drop (sides n.topology) m.topology.corners
  pub links : drop (sides n.topology) n.topology.links ≡ drop (sides n.topology) m.topology.links
  pub generations :
      drop n.topology.triangles n.topology.generations
      ≡ drop n.topology.triangles m.topology.generations
  pub locks : drop n.topology.triangles n.locks ≡ drop n.topology.triangles m.locks
  pub positions : drop (3 * n.topology.vertices) n.positions ≡ drop (3 * n.topology.vertices) m.positions

-- The triangles of m have the same locks in n, and new ones are clear. (Request i)
pub record SameLocks (m n : Mesh) : Type 0 where
  pub old : (t : ℕ) → t < m.topology.triangles → lock n t ≡ lock m t
  pub new : (t : ℕ) → m.topology.triangles ≤ t → t < n.topology.triangles → lock n t ≡ 0

-- ---- refusals (Refused inputs, below the table)

-- A call that works in spare tables, refused with n. Where `first`, which is what refuses it before the work, is not 0,
-- all that is lent is left. Where it is 0, the work p failed half way, or it was done and its report did not fit: the
-- spare tables hold what was made until then, and the answer tells of them. (Requests e, h, m)
abbrev pub refused_work : ℕ → Progress → Spares → ℕ → Mesh → Outcome
refused_work first p spares n m = elim first [
  | zero ↦
      let made = p.work.mesh in
      outcome_of (spares_answer n 0 0 m p.handled made) m (spare_room (copied made spares))
  | suc k ↦ refused_with n m (spare_room spares)
]

abbrev pub refused_list : List ℕ → Spares → ℕ → Mesh → Outcome
refused_list list spares n m = refused_work (spares_refusal spares m) (refine_each list m) spares n m

abbrev pub refused_box : Box → Spares → ℕ → Mesh → Outcome
refused_box b spares n m = refused_work (box_refusal b spares m) (refine_in_box b m) spares n m

abbrev pub refused_report : Refining → ℕ → Mesh → Outcome
refused_report (one t) n m = refused_with n m no_room
refused_report (with_note t note) n m = refused_with n m (buffer_room note)
refused_report (each list spares) n m = refused_list list spares n m
refused_report (in_box b spares) n m = refused_box b spares n m

-- A call refused with n: it answers zeros and the counts as they stand, and leaves the mesh and what it is lent, but
-- spare tables that it has worked in.
abbrev pub refused_as : Call → ℕ → Mesh → Outcome
refused_as (changes (loads rule bytes)) n m = refused_with n m no_room
refused_as (changes (refines t)) n m = refused_with n m no_room
refused_as (changes steps) n m = refused_with n m no_room
refused_as (changes (refines_each list spares)) n m = refused_list list spares n m
refused_as (changes (refines_in_box b spares)) n m = refused_box b spares n m
refused_as (changes (sets_lock on t)) n m = refused_with n m no_room
refused_as (changes (refines_noted t note)) n m = refused_with n m (buffer_room note)
refused_as (changes (takes_back note)) n m = refused_with n m no_room
refused_as (changes (reports r buffer)) n m = with_report buffer 0 (refused_report r n m)
refused_as (asks (ring_of v buffer)) n m = refused_with n m (buffer_room buffer)
refused_as (asks (position_of v)) n m = refused_with n m no_room
refused_as (asks (limits_of table)) n m = refused_with n m (table_room table)
refused_as (asks (preview_of list spares)) n m = refused_list list spares n m
refused_as (asks (preview_reported list spares buffer)) n m = with_report buffer 0 (refused_list list spares n m)
refused_as (asks (point_seen v)) n m = refused_with n m no_room
refused_as (asks (triangles_seen k)) n m = refused_with n m no_room
refused_as (asks (curve_of v table)) n m = refused_with n m (table_room table)

-- ---- load (Load)

-- Side k of the cage runs between the vertices of side h the other way.
pub record Opposite (c : Cage) (h k : ℕ) : Type 0 where
  pub in_use : k < 3 * c.triangles
  pub from : c.corner k ≡ c.corner (next h)
  pub onto : c.corner (next k) ≡ c.corner h

-- What side h has to be linked to: the one opposite side, or the boundary where there is none.
pub data Matches (c : Cage) (h : ℕ) : ℕ → Type 0 where
  only : {k : ℕ} → Opposite c h k → ((j : ℕ) → Opposite c h j → j ≡ k) → Matches c h k
  alone : ((j : ℕ) → ¬ Opposite c h j) → Matches c h boundary

-- n is the mesh that a cage is loaded as with rule r, over m.
pub record Loaded (r : ℕ) (c : Cage) (m n : Mesh) : Type 0 where
  pub sound : Sound n
  pub rule : n.rule ≡ r
  pub vertices : n.topology.vertices ≡ c.vertices
  pub triangles : n.topology.triangles ≡ c.triangles
  pub corners : (h : ℕ) → h < sides n.topology → origin n.topology h ≡ c.corner h
  pub positions : (i : ℕ) → i < 3 * n.topology.vertices → get_or n.positions i (pos 0) ≡ c.coordinate i
  pub generations : (t : ℕ) → t < n.topology.triangles → generation n.topology t ≡ 0
  pub unlocked : (t : ℕ) → t < n.topology.triangles → lock n t ≡ 0
  pub links : (h : ℕ) → h < sides n.topology → Matches c h (link n.topology h)
  pub edges : edges n.topology ≡ cage_edges c
  -- No vertex off the boundary has exactly two triangles. (Request g)
  pub none_of_two : (v : ℕ) → v < n.topology.vertices → ¬ InnerOfTwo n.topology v
  pub past : SamePast m n

-- Triangles t and u have v for a corner and lie back to back: each side of the one is linked to a side of the other, so
-- that they are a component of their own. (Request g)
pub record BackToBack (m : Topology) (v t u : ℕ) : Type 0 where
  pub in_use : (t < m.triangles) × (u < m.triangles)
  pub apart : t ≢ u
  pub corner : ((h : ℕ) × (h / 3 ≡ t) × (origin m h ≡ v)) × ((h : ℕ) × (h / 3 ≡ u) × (origin m h ≡ v))
  pub there : (h : ℕ) → h / 3 ≡ t → link m h / 3 ≡ u
  pub back : (h : ℕ) → h / 3 ≡ u → link m h / 3 ≡ t

-- ---- refine (Refine one triangle)

-- Along the base chain the generation falls by two, and by one where it ends at an even triangle.
pub record ChainFalls (m : Topology) (t : ℕ) : Type 0 where
  pub in_use : link m (3 * t) / 3 < m.triangles
  pub to_odd : generation m (link m (3 * t) / 3) % 2 ≡ 1 → generation m (link m (3 * t) / 3) + 2 ≡ generation m t
  pub to_even : generation m (link m (3 * t) / 3) % 2 ≡ 0 → generation m (link m (3 * t) / 3) + 1 ≡ generation m t

-- A slot is written anew, by a split or a flip, if it is new or its generation rose.
abbrev pub Written : Topology → Topology → ℕ → Type 0
Written m n y = (m.triangles ≤ y) ⊎ (generation n y ≢ generation m y)

-- Cuts and flips lead from m to n, and a triangle not written anew is linked to the sides that it was linked to, in
-- their new places. (Request i)
pub record Follows (m n : Topology) : Type 0 where
  pub leads : LeadsTo m n
  pub links : (h : ℕ) → h < sides m → generation n (h / 3) ≡ generation m (h / 3)
      → link n h ≡ new_place leads (link m h)

-- What splits and flips that lead from m to n leave alone. A triangle not written anew keeps its corners; its links
-- stay where they lead to the boundary or to triangles not written anew, and else lead to ones that are; `follows` says
-- where.
pub record Still (m n : Topology) : Type 0 where
  pub grows : m.triangles ≤ n.triangles
  pub mono : (x : ℕ) → x < m.triangles → generation m x ≤ generation n x
  pub corners : (h : ℕ) → h < sides m → generation n (h / 3) ≡ generation m (h / 3) → origin n h ≡ origin m h
  pub links : (h : ℕ) → h < sides m → generation n (h / 3) ≡ generation m (h / 3)
      → (link m h ≡ boundary) ⊎ ((link m h < sides m) × (generation n (link m h / 3) ≡ generation m (link m h / 3)))
      → link n h ≡ link m h
  pub shift : (h : ℕ) → h < sides m → generation n (h / 3) ≡ generation m (h / 3)
      → (link n h ≡ link m h) ⊎ Written m n (link n h / 3)
  pub follows : Follows m n

-- The number of odd triangles.
unfoldable pub odds : Topology → ℕ
odds m = total m.triangles (λ t. generation m t % 2)

-- By how much t rises from m to n: an even triangle by one with its split, and one more where this flips it; an odd one
-- by one with its flip; with its base on the boundary by two with its rim split, and one more where this flips it.
pub record RisesBy (t : ℕ) (m n : Topology) : Type 0 where
  pub even : generation m t % 2 ≡ 0 → (generation n t ≡ generation m t + 1) ⊎ (generation n t ≡ generation m t + 2)
  pub odd : generation m t % 2 ≡ 1 → link m (3 * t) ≢ boundary → generation n t ≡ generation m t + 1
  pub at_boundary : generation m t % 2 ≡ 1 → link m (3 * t) ≡ boundary
      → (generation n t ≡ generation m t + 2) ⊎ (generation n t ≡ generation m t + 3)

-- What a refine of triangle t makes of a mesh; `reports` says how many splits, and that F grows by twice as many.
pub record RefineMakes (t : ℕ) (m : Mesh) (w : Work) : Type 0 where
  pub sound : Sound w.mesh
  pub reports : ReportsSplits m t (worked w)
  pub needed : w.splits ≡ splits_of m.topology t
  -- A face split makes three odd triangles, a rim split makes two of one, and a flip takes two away.
  pub flips :
      2 * w.flips + odds w.mesh.topology + 2 * rim_splits_of m.topology t
      ≡ odds m.topology + 3 * w.splits
  pub vertices : w.mesh.topology.vertices ≡ m.topology.vertices + w.splits + rim_splits_of m.topology t
  pub edges : edges w.mesh.topology ≡ edges m.topology + 3 * w.splits + rim_splits_of m.topology t
  pub locks : SameLocks m w.mesh
  pub rises : generation m.topology t < generation w.mesh.topology t
  pub rises_by : RisesBy t m.topology w.mesh.topology
  pub still : Still m.topology w.mesh.topology
  pub old_vertices : (i : ℕ) → i < 3 * m.topology.vertices
      → get_or w.mesh.positions i (pos 0) ≡ get_or m.positions i (pos 0)
  pub rule : w.mesh.rule ≡ m.rule
  pub past : SamePast m w.mesh

-- A list that begins with the note of the refine of t that made n of m. (Request l)
pub record HasNote (t : ℕ) (m n : Mesh) (note : List ℕ) : Type 0 where
  pub long : length (note_of t m n) ≤ length note
  pub same : (i : ℕ) → i < length (note_of t m n) → get_or note i 0 ≡ get_or (note_of t m n) i 0

-- What a refine of t with a note, carried out with outcome o, leaves there: the note first, and later entries as they
-- were.
pub record NotedMakes (t : ℕ) (note : List ℕ) (m : Mesh) (o : Outcome) : Type 0 where
  pub has : HasNote t m o.mesh o.room.buffer
  pub size : length o.room.buffer ≡ length note
  pub later : drop (length (note_of t m o.mesh)) o.room.buffer ≡ drop (length (note_of t m o.mesh)) note

-- A refine of t taken back from m leaves n, which is sound; refining t there is carried out and makes m again, in every
-- slot. Slots given up keep their content. (Request l)
pub record TakeBackMakes (t : ℕ) (m n : Mesh) : Type 0 where
  pub sound : Sound n
  pub again : ((refine_call t n).answer.refusal ≡ 0) × ((refine_call t n).mesh ≡ m)
  pub past : SamePast m n

-- The triangle across the base of t (Kobbelt's mate[1]).
abbrev pub mate : ℕ → Work → ℕ
mate t w = link w.mesh.topology (3 * t) / 3

-- The procedure split(T) of Kobbelt's paper, section 4, to a depth of at most n, with the splits and their flips as the
-- outline fixes them. An even triangle is split, and so is an odd one whose base is on the boundary. For another odd
-- one its mate is split, which flips the two; a mate two generations below is first raised by the same procedure, and
-- the mate read again, unless a rim split of it flipped the triangle already.
unfoldable pub kobbelt : ℕ → ℕ → Work → Work
kobbelt zero t w = w
kobbelt (suc n) t w = elim (odd (generation w.mesh.topology t)) [
  | false ↦ face_split t w
  | true ↦ elim (eqb (link w.mesh.topology (3 * t)) boundary) [
    | true ↦ rim_split t w
    | false ↦
        let g = generation w.mesh.topology t in
        let far = eqb (generation w.mesh.topology (mate t w) + 2) g in
        let w' : Work = elim far [ true ↦ kobbelt n (mate t w) w | false ↦ w ] in
        elim (ltb g (generation w'.mesh.topology t)) [ true ↦ w' | false ↦ kobbelt n (mate t w') w' ]
  ]
]

-- ---- reports (Request m)

-- x stands in a list.
abbrev pub Listed : List ℕ → ℕ → Type 0
Listed [] x = ⊥
Listed (y ∷ l) x = (x ≡ y) ⊎ Listed l x

-- Slot x of m stands in n: its corners, its generation, and each of its links, unless this names a reported slot both
-- in m and in n.
pub record Unreported (report : List ℕ) (m n : Topology) (x : ℕ) : Type 0 where
  pub corners : (i : ℕ) → i < 3 → origin n (3 * x + i) ≡ origin m (3 * x + i)
  pub generation : generation n x ≡ generation m x
  pub links : (i : ℕ) → i < 3 →
      let a = link m (3 * x + i) in
      let b = link n (3 * x + i) in
      (b ≡ a) ⊎ (Listed report (a / 3) × Listed report (b / 3))

-- ---- a list of triangles (Request e)

-- The mesh of r, with what both counted and reported.
abbrev pub added : Work → Work → Work
added w r = record {
  mesh = r.mesh;
  splits = w.splits + r.splits;
  flips = w.flips + r.flips;
  report = w.report ++ r.report;
}

-- What a list that is carried out makes of a mesh.
pub record ListMakes (list : List ℕ) (m : Mesh) (w : Work) : Type 0 where
  pub sound : Sound w.mesh
  pub handled : Handled m list (at_first m) w
  -- Each triangle listed has risen.
  pub risen : (i : ℕ) → i < length list → Risen m (get_or list i 0) w.mesh
  pub triangles : w.mesh.topology.triangles ≡ m.topology.triangles + 2 * w.splits
  pub locks : SameLocks m w.mesh
  pub still : Still m.topology w.mesh.topology
  pub old_vertices : (i : ℕ) → i < 3 * m.topology.vertices
      → get_or w.mesh.positions i (pos 0) ≡ get_or m.positions i (pos 0)
  pub rule : w.mesh.rule ≡ m.rule
  pub past : SamePast m w.mesh

-- ---- a box (Request h)

-- What a box that is carried out makes of a mesh.
pub record BoxMakes (b : Box) (m : Mesh) (p : Progress) : Type 0 where
  pub sound : Sound p.work.mesh
  pub turns : BoxTurns b p.handled (at_first m) p.work
  -- What the engraver relies on: no triangle below the generation has a corner in the box.
  pub none_left : (t : ℕ) → t < p.work.mesh.topology.triangles → ¬ Wanted b p.work.mesh t
  pub triangles : p.work.mesh.topology.triangles ≡ m.topology.triangles + 2 * p.work.splits
  pub locks : SameLocks m p.work.mesh
  -- Each turn makes a split at least.
  pub splits : p.handled ≤ p.work.splits
  pub still : Still m.topology p.work.mesh.topology
  pub old_vertices : (i : ℕ) → i < 3 * m.topology.vertices
      → get_or p.work.mesh.positions i (pos 0) ≡ get_or m.positions i (pos 0)
  pub rule : p.work.mesh.rule ≡ m.rule
  pub past : SamePast m p.work.mesh

-- ---- a list foreseen, and calls compared

-- The tables have what m has in every entry in use. (Request f)
pub record AgreeInUse (s : Spares) (m : Mesh) : Type 0 where
  pub positions : (i : ℕ) → i < 3 * m.topology.vertices
      → get_or s.positions i (pos 0) ≡ get_or m.positions i (pos 0)
  pub corners : (h : ℕ) → h < sides m.topology → get_or s.corners h 0 ≡ origin m.topology h
  pub links : (h : ℕ) → h < sides m.topology → get_or s.links h 0 ≡ link m.topology h
  pub generations : (t : ℕ) → t < m.topology.triangles → get_or s.generations t 0 ≡ generation m.topology t
  pub locks : (t : ℕ) → t < m.topology.triangles → get_or s.locks t 0 ≡ lock m t

-- One call does to the mesh, and answers of it, what the other does.
pub record SameWork (o o' : Outcome) : Type 0 where
  pub refusal : o.answer.refusal ≡ o'.answer.refusal
  pub splits : o.answer.splits ≡ o'.answer.splits
  pub flips : o.answer.flips ≡ o'.answer.flips
  pub vertices : o.answer.vertices ≡ o'.answer.vertices
  pub triangles : o.answer.triangles ≡ o'.answer.triangles
  pub rule : o.answer.rule ≡ o'.answer.rule
  pub mesh : o.mesh ≡ o'.mesh

-- ---- whole step (Whole step)

-- What the whole step makes of a mesh whose triangles are all of generation g.
pub record StepMakes (g : ℕ) (m : Mesh) (w : Work) : Type 0 where
  pub sound : Sound w.mesh
  pub splits : w.splits ≡ m.topology.triangles
  pub flips : 2 * w.flips ≡ 3 * m.topology.triangles
  pub vertices : w.mesh.topology.vertices ≡ m.topology.vertices + m.topology.triangles
  pub triangles : w.mesh.topology.triangles ≡ 3 * m.topology.triangles
  pub edges : edges w.mesh.topology ≡ edges m.topology + 3 * m.topology.triangles
  pub generations : (t : ℕ) → t < w.mesh.topology.triangles → generation w.mesh.topology t ≡ g + 2
  pub locks : SameLocks m w.mesh
  -- Old vertices are moved, and new ones placed, by the old mesh.
  pub moved : (v k : ℕ) → v < m.topology.vertices → k < 3 → coordinate w.mesh v k ≡ moved_coordinate m v k
  pub placed : (t k : ℕ) → t < m.topology.triangles → k < 3
      → coordinate w.mesh (m.topology.vertices + t) k ≡ centre m t k
  pub rule : w.mesh.rule ≡ m.rule
  pub past : SamePast m w.mesh

-- ---- locks (Request i)

-- What setting, or clearing, the lock of t makes of a mesh.
pub record LockMakes (on : Bool) (t : ℕ) (m n : Mesh) : Type 0 where
  pub sound : Sound n
  pub this : lock n t ≡ elim on [ true ↦ 1 | false ↦ 0 ]
  pub others : (x : ℕ) → x ≢ t → lock n x ≡ lock m x
  pub size : length n.locks ≡ length m.locks
  pub topology : n.topology ≡ m.topology
  pub positions : n.positions ≡ m.positions
  pub rule : n.rule ≡ m.rule

-- Cuts and flips that do not write triangle x lead from m to n, and its links name the sides that they named, in their
-- new places.
pub record LinksFollow (x : ℕ) (m n : Topology) : Type 0 where
  pub leads : LeadsTo m n
  pub unwritten : generation n x ≡ generation m x
  pub links : (i : ℕ) → i < 3 → link n (3 * x + i) ≡ new_place leads (link m (3 * x + i))

-- The links of triangle x name in n the sides that they named in m: they followed these from m to n; or from n to m,
-- and have gone back with them; or they went one such way and then another, through a sound mesh, in which no two links
-- name one side. (Requests i, l)
pub data LinksKept (x : ℕ) : Topology → Topology → Type 0 where
  onward : {m n : Topology} → LinksFollow x m n → LinksKept x m n
  back : {m n : Topology} → LinksFollow x n m → LinksKept x m n
  through : {m n : Topology} {k : Mesh} → Sound k → LinksKept x m k.topology → LinksKept x k.topology n
      → LinksKept x m n

-- Triangle x of m is in n as it was: its generation, its corners, where they lie, and its links, which name the sides
-- that they named, in their new places or back in their old ones.
pub record Stands (x : ℕ) (m n : Mesh) : Type 0 where
  pub in_use : x < n.topology.triangles
  pub generation : generation n.topology x ≡ generation m.topology x
  pub corners : (i : ℕ) → i < 3 → origin n.topology (3 * x + i) ≡ origin m.topology (3 * x + i)
  pub positions : (i k : ℕ) → i < 3 → k < 3 →
      let v = origin m.topology (3 * x + i) in
      coordinate n v k ≡ coordinate m v k
  pub links : LinksKept x m.topology n.topology

-- The call is no load that is carried out; it is none that is carried out and clears the lock of x; it takes nothing
-- back.
abbrev pub NoLoad : Call → Mesh → Type 0
NoLoad c m = (rule : ℕ) (bytes : List ℕ) → c ≡ changes (loads rule bytes) → (outcome c m).answer.refusal ≢ 0

abbrev pub NoClearing : ℕ → Call → Mesh → Type 0
NoClearing x c m = c ≡ changes (sets_lock false x) → (outcome c m).answer.refusal ≢ 0

abbrev pub NoTakeBack : Call → Mesh → Type 0
NoTakeBack c m = (note : List ℕ) → c ≡ changes (takes_back note) → (outcome c m).answer.refusal ≢ 0

-- No call of the list, made one after the other from m on, loads a cage or clears the lock of x.
abbrev pub LeaveLocked : ℕ → List Call → Mesh → Type 0
LeaveLocked x [] m = Unit {0}
LeaveLocked x (c ∷ cs) m = NoLoad c m × NoClearing x c m × LeaveLocked x cs (outcome c m).mesh

-- None of them takes anything back.
abbrev pub NoneTakenBack : List Call → Mesh → Type 0
NoneTakenBack [] m = Unit {0}
NoneTakenBack (c ∷ cs) m = NoTakeBack c m × NoneTakenBack cs (outcome c m).mesh

-- ---- limit positions (Request a)

-- The corners of these triangles, each named by a side of it, added up in coordinate k: three times their centres.
unfoldable pub corners_over : Mesh → ℕ → List ℕ → ℤ
corners_over m k [] = pos 0
corners_over m k (h ∷ hs) =
    let at : ℕ → ℤ = λ j. coordinate m (origin m.topology j) k in
    at h +ℤ at (next h) +ℤ at (previous h) +ℤ corners_over m k hs

-- What a whole step and the limit divide by 65536 n and by n (65536 + 3 w).
abbrev pub move_numerator : ℕ → ℤ → ℤ → ℤ
move_numerator n p s = pos n *ℤ (pos 65536 -ℤ pos (weight n)) *ℤ p +ℤ pos (weight n) *ℤ s

abbrev pub limit_numerator : ℕ → ℤ → ℤ → ℤ
limit_numerator n p s = pos (65536 * n) *ℤ p +ℤ pos (3 * weight n) *ℤ s

-- In one coordinate q is the limit of a vertex at p, with n ring entries that add up to s, and with the sum c of the
-- corners of its triangles, whose centres add up to c / 3. They are its ring after a whole step, which without rounding
-- moves it to p' = move_numerator / (65536 n); that its ring is then these centres is not proved here.
pub record IsLimit (rule n : ℕ) (p s c q : ℤ) : Type 0 where
  pub nearest : Nearest rule (limit_numerator n p s) (n * (65536 + 3 * weight n)) q
  pub range : InRange q
  -- The triangles have the vertex once and each ring entry twice for a corner.
  pub corners : c ≡ pos n *ℤ p +ℤ pos 2 *ℤ s
  -- At p', with these centres for ring, the fraction is the same: 65536 n p' + 3 w c / 3 is limit_numerator.
  pub stays : move_numerator n p s +ℤ pos (weight n) *ℤ c ≡ limit_numerator n p s
  -- And p' is nearer to their mean than p to s / n: p' - c / (3 n) is 2/3 - w/65536 times p - s / n (here both times
  -- 196608 n), and this factor is below 0.42 either way. So ever more such steps lead to the fraction, a mean of both.
  pub nearer : pos 3 *ℤ move_numerator n p s -ℤ pos 65536 *ℤ c
      ≡ (pos 131072 -ℤ pos (3 * weight n)) *ℤ (pos n *ℤ p -ℤ s)
  pub factor : 100 * nat_abs (pos 131072 -ℤ pos (3 * weight n)) < 42 * 196608

-- The table that a limit query leaves has the limit of every vertex.
pub record LimitMakes (m : Mesh) (table : List ℤ) : Type 0 where
  pub size : length table ≡ 3 * m.topology.vertices
  pub each : (v k : ℕ) → v < m.topology.vertices → k < 3 →
      let r = ring m.topology v in
      IsLimit m.rule (length r) (coordinate m v k) (sum_over m k r) (corners_over m k (fan m.topology v))
      (get_or table (3 * v + k) (pos 0))

-- ---- rings (Rings and positions)

-- Side number i of the walk round v.
abbrev pub walk_at : Topology → ℕ → ℕ → ℕ
walk_at m v i = get_or (fan m v) i 0

-- The walk round v, and its ring.
pub record RingMakes (m : Topology) (v : ℕ) : Type 0 where
  pub some : 0 < length (fan m v)
  pub first : walk_at m v 0 ≡ first_side m v
  pub starts_out : origin m (first_side m v) ≡ v
  -- At the boundary it starts there; elsewhere it starts in the lowest slot that holds v.
  pub start : (OnBoundary m v → link m (first_side m v) ≡ boundary)
      × (¬ OnBoundary m v → (h : ℕ) → h < sides m → origin m h ≡ v → first_side m v ≤ h)
  pub in_use : (i : ℕ) → i < length (fan m v) → walk_at m v i < sides m
  -- Each side is a turn from the one before.
  pub turns : (i : ℕ) → suc i < length (fan m v) → walk_at m v (suc i) ≡ rotate m (walk_at m v i)
  -- It ends back at its start or at the boundary, at the boundary exactly if v is on it, and so is never cut short.
  pub ends : (i : ℕ) → suc i ≡ length (fan m v)
      → (rotate m (walk_at m v i) ≡ first_side m v) ⊎ (rotate m (walk_at m v i) ≡ boundary)
  pub ends_at_boundary : (i : ℕ) → suc i ≡ length (fan m v) → (rotate m (walk_at m v i) ≡ boundary) ↔ OnBoundary m v
  -- It meets each triangle of v, and none twice.
  pub meets : (h : ℕ) → h < sides m → origin m h ≡ v → (i : ℕ) × (i < length (fan m v)) × (walk_at m v i ≡ h)
  pub once : (i j : ℕ) → i < length (fan m v) → j < length (fan m v) → walk_at m v i / 3 ≡ walk_at m v j / 3 → i ≡ j
  -- The ring lists the targets of its sides, and at the boundary the last triangle's other neighbour too.
  pub entries : (i : ℕ) → i < length (fan m v) → get_or (ring m v) i 0 ≡ target m (walk_at m v i)
  pub inner : ¬ OnBoundary m v → length (ring m v) ≡ triangle_count m v
  pub outer : OnBoundary m v → length (ring m v) ≡ triangle_count m v + 1
  pub last_entry : OnBoundary m v → (i : ℕ) → suc i ≡ length (fan m v)
      → get_or (ring m v) (suc i) 0 ≡ origin m (previous (walk_at m v i))

-- ---- the rim as a curve (Request n)

-- The vertices of l are the closed rim of v: from each a side on the boundary runs to the next, and from the last to
-- v, and none runs elsewhere; none comes twice, and there are at least two.
pub record RimMakes (m : Topology) (v : ℕ) (l : List ℕ) : Type 0 where
  pub at_least_two : 2 ≤ length l
  pub few : length l ≤ m.vertices
  pub first : get_or l 0 0 ≡ v
  pub in_use : (i : ℕ) → i < length l → get_or l i 0 < m.vertices
  pub goes_on : (i : ℕ) → i < length l
      → (h : ℕ) × (h < sides m) × (link m h ≡ boundary) × (origin m h ≡ get_or l i 0)
      × (target m h ≡ get_or l ((i + 1) % length l) 0)
  pub only : (h : ℕ) → h < sides m → link m h ≡ boundary → (i : ℕ) → i < length l → origin m h ≡ get_or l i 0
      → target m h ≡ get_or l ((i + 1) % length l) 0
  pub once : (i j : ℕ) → i < length l → j < length l → get_or l i 0 ≡ get_or l j 0 → i ≡ j

-- In one coordinate q is point p of a vertex at b, where the vertex before is at a and the vertex after at c: less than
-- a half from the fraction (here all times 54), and within any bounds that all three are in.
pub record IsSmoothed (p : ℕ) (a b c q : ℤ) : Type 0 where
  pub low : (pos 54 *ℤ q) <ℤ (pos 2 *ℤ smoothed_numerator p a b c +ℤ pos 27)
  pub high : (pos 2 *ℤ smoothed_numerator p a b c) <ℤ (pos 54 *ℤ q +ℤ pos 27)
  pub within : (x y : ℤ) → Between x y a → Between x y b → Between x y c → Between x y q

-- What is left of a lent table: the curve of the rim of v in its first entries, with the vertex before the first taken
-- from the end and the one after the last from the front; later entries are as they were.
pub record CurveMakes (v : ℕ) (m : Mesh) (lent left : List ℤ) : Type 0 where
  pub closed : RimMakes m.topology v (rim m.topology v)
  pub size : length left ≡ length lent
  pub points : (j p k : ℕ) → p < 3 → k < 3 →
      let l = rim m.topology v in
      let n = length l in
      let at : ℕ → ℤ = λ i. coordinate m (get_or l i 0) k in
      j < n → IsSmoothed p (at ((j + n - 1) % n)) (at j) (at ((j + 1) % n)) (get_or left (9 * j + 3 * p + k) (pos 0))
  pub later : drop (9 * length (rim m.topology v)) left ≡ drop (9 * length (rim m.topology v)) lent

-- Two rims are of one length, and have equal points in this order.
pub record SameRims (m n : Mesh) (l k : List ℕ) : Type 0 where
  pub size : length k ≡ length l
  pub points : (i j : ℕ) → i < length l → j < 3 → coordinate n (get_or k i 0) j ≡ coordinate m (get_or l i 0) j
