-- The conditions of the refusals as statements, which the tests that the calls compute decide. (Refused inputs)
use Rattle.std.specs.Prelude.{ℕ, suc, ◌+◌, ◌-◌, ◌*◌, ◌/◌, ◌%◌, ◌≤◌, ◌<◌, max, List, [], ◌∷◌, ◌++◌, ◌≢◌, ◌⊎◌, ◌≡◌, ℤ, length, ◌≤ℤ◌}
use Rattle.rules.specs.Boxes.{Box}
use Rattle.rules.specs.Cage.{Cage, cage_of, loaded}
use Rattle.rules.specs.Notes.{changed_slots, Accepted}
use Rattle.rules.specs.Numbers.{InRange, KnownRule}
use Rattle.rules.specs.Ring.{OnBoundary, triangle_count, ring}
use Rattle.rules.specs.Reports.{Refining, one, with_note, each, in_box, work_of}
use Rattle.rules.specs.Rim.{rim}
use Rattle.rules.specs.Sound.{OneFan, Sound}
use Rattle.rules.specs.Spares.{Spares, SameSizes}
use Rattle.rules.specs.Split.{Work, at_first, refine}
use Rattle.rules.specs.Tables.{Topology, Mesh, TablesAgree, vertex_slots, triangle_slots, sides, next, link}
use Rattle.rules.specs.Tables.{boundary, generation, origin, coordinate, lock}

-- ---- a cage

-- Not 2: the bytes are as long as their sizes say, and the sizes are at least 1 and within the slots.
pub record SizesFit (bytes : List ℕ) (m : Mesh) : Type 0 where
  pub header : 8 ≤ length bytes
  pub some_vertex : 1 ≤ (cage_of bytes).vertices
  pub some_triangle : 1 ≤ (cage_of bytes).triangles
  pub vertex_room : (cage_of bytes).vertices ≤ vertex_slots m
  pub triangle_room : (cage_of bytes).triangles ≤ triangle_slots m
  pub size : length bytes ≡ 8 + 12 * ((cage_of bytes).vertices + (cage_of bytes).triangles)

-- Not 3: corners are below V, and no triangle repeats one.
pub record CornersFit (c : Cage) : Type 0 where
  pub corner : (h : ℕ) → h < 3 * c.triangles → c.corner h < c.vertices
  pub distinct : (h : ℕ) → h < 3 * c.triangles → c.corner h ≢ c.corner (next h)

-- Not 4: coordinates are in range.
abbrev pub CoordinatesFit : Cage → Type 0
CoordinatesFit c = (i : ℕ) → i < 3 * c.vertices → InRange (c.coordinate i)

-- Not 5: no directed side occurs twice.
abbrev pub SidesDiffer : Cage → Type 0
SidesDiffer c =
    (h k : ℕ) → h < 3 * c.triangles → k < 3 * c.triangles
    → c.corner h ≡ c.corner k → c.corner (next h) ≡ c.corner (next k) → h ≡ k

-- Not the first part of 6: in the tables that the cage would be loaded as, the triangles of each vertex form one fan,
-- and it has at least one.
abbrev pub FansFit : Cage → Mesh → Type 0
FansFit c m = (v : ℕ) → v < c.vertices → OneFan (loaded c m).topology v

-- v is off the boundary and has exactly two triangles: a closed fan of two, the customer's foil leaf. (Request g)
abbrev pub InnerOfTwo : Topology → ℕ → Type 0
InnerOfTwo m v = (¬ OnBoundary m v) × (triangle_count m v ≡ 2)

-- The second part of 6: some vertex is such, in the same tables. (Request g)
abbrev pub SomeInnerOfTwo : Cage → Mesh → Type 0
SomeInnerOfTwo c m = (v : ℕ) × (v < c.vertices) × InnerOfTwo (loaded c m).topology v

-- ---- a mesh

-- 9, of a refine: t is of generation 20, or of generation 19 with its base on the boundary. (Request b)
abbrev pub TooOld : Topology → ℕ → Type 0
TooOld m t = (generation m t ≡ 20) ⊎ ((generation m t ≡ 19) × (link m (3 * t) ≡ boundary))

-- The base chain of t ends at the boundary. It is split there, so that no call returns 10. (Request b)
pub data EndsAtBoundary (m : Topology) : ℕ → Type 0 where
  stops : {t : ℕ} → generation m t % 2 ≡ 1 → link m (3 * t) ≡ boundary → EndsAtBoundary m t
  goes_on : {t : ℕ} → generation m t % 2 ≡ 1 → link m (3 * t) ≢ boundary → EndsAtBoundary m (link m (3 * t) / 3)
      → EndsAtBoundary m t

-- The base chain of t has k odd triangles.
pub data OddInChain (m : Topology) : ℕ → ℕ → Type 0 where
  at_even : {t : ℕ} → generation m t % 2 ≡ 0 → OddInChain m t 0
  at_boundary : {t : ℕ} → generation m t % 2 ≡ 1 → link m (3 * t) ≡ boundary → OddInChain m t 1
  onward : {t k : ℕ} → generation m t % 2 ≡ 1 → link m (3 * t) ≢ boundary → OddInChain m (link m (3 * t) / 3) k
      → OddInChain m t (suc k)

-- Refining t takes s splits, q of them rim splits: a split for each odd triangle of its base chain, one less where this
-- ends at the boundary, and one at least. (Refine one triangle; request b)
pub data Takes (m : Topology) (t : ℕ) : ℕ → ℕ → Type 0 where
  even_end : {k : ℕ} → OddInChain m t k → ¬ EndsAtBoundary m t → Takes m t (max 1 k) 0
  boundary_end : {k : ℕ} → OddInChain m t k → EndsAtBoundary m t → Takes m t (max 1 (k - 1)) 1

-- There are slots for v vertices and f triangles more.
pub record RoomFor (v f : ℕ) (m : Mesh) : Type 0 where
  pub vertices : m.topology.vertices + v ≤ vertex_slots m
  pub triangles : m.topology.triangles + f ≤ triangle_slots m

-- 11, of a refine: there are too few slots for the splits that it takes. Each makes two triangles, a face split one
-- vertex and a rim split two.
abbrev pub TooFewSlots : ℕ → Mesh → Type 0
TooFewSlots t m = (s : ℕ) × (q : ℕ) × Takes m.topology t s q × (¬ RoomFor (s + q) (2 * s) m)

-- t may be split: it is even, or odd with its base on the boundary.
pub data Splittable (m : Topology) (t : ℕ) : Type 0 where
  is_even : generation m t % 2 ≡ 0 → Splittable m t
  on_boundary : generation m t % 2 ≡ 1 → link m (3 * t) ≡ boundary → Splittable m t

-- Refining t splits or flips triangle x: the one that is split first, at the end of the base chain of t; an odd one
-- whose base meets that; or an odd one of the chain before it. (Request i)
pub data Alters (m : Topology) : ℕ → ℕ → Type 0 where
  split_first : {t x : ℕ} → Splittable m t → x ≡ t → Alters m t x
  meets_first : {t x : ℕ} → Splittable m t → generation m x % 2 ≡ 1 → link m (3 * x) ≢ boundary
      → link m (3 * x) / 3 ≡ t → Alters m t x
  in_chain : {t x : ℕ} → generation m t % 2 ≡ 1 → link m (3 * t) ≢ boundary → x ≡ t → Alters m t x
  further : {t x : ℕ} → generation m t % 2 ≡ 1 → link m (3 * t) ≢ boundary → Alters m (link m (3 * t) / 3) x
      → Alters m t x

-- Triangle x is in use and locked.
abbrev pub Locked : Mesh → ℕ → Type 0
Locked m x = (x < m.topology.triangles) × (lock m x ≡ 1)

-- 19, of a refine: it would split or flip a locked triangle. (Request i)
abbrev pub AltersLocked : ℕ → Mesh → Type 0
AltersLocked t m = (x : ℕ) × Locked m x × Alters m.topology t x

-- 19, of the whole step: some triangle is locked. (Request i)
abbrev pub SomeLocked : Mesh → Type 0
SomeLocked m = (x : ℕ) × Locked m x

-- What a refine of a triangle in use of a sound mesh fails with.
pub data RefineFails (t : ℕ) (m : Mesh) : ℕ → Type 0 where
  old : TooOld m.topology t → RefineFails t m 9
  guarded : ¬ TooOld m.topology t → AltersLocked t m → RefineFails t m 19
  crowded : ¬ TooOld m.topology t → ¬ AltersLocked t m → TooFewSlots t m → RefineFails t m 11

-- It fails with nothing.
pub record MayRefine (t : ℕ) (m : Mesh) : Type 0 where
  pub young : ¬ TooOld m.topology t
  pub unlocked : ¬ AltersLocked t m
  pub room : ¬ TooFewSlots t m

-- Not 12: no side is on the boundary, and all triangles are of one even generation.
pub record ClosedEven (m : Topology) : Type 0 where
  pub closed : (h : ℕ) → h < sides m → link m h ≢ boundary
  pub common : ℕ
  pub even : common % 2 ≡ 0
  pub all : (t : ℕ) → t < m.triangles → generation m t ≡ common

-- 13: some ring has more than 12 entries.
abbrev pub LongRing : Topology → Type 0
LongRing m = (v : ℕ) × (v < m.vertices) × (12 < length (ring m v))

-- ---- a list of triangles (Request e)

-- The generation of t in m is above what it was at the call's start.
abbrev pub Risen : Mesh → ℕ → Mesh → Type 0
Risen start t m = generation start.topology t < generation m.topology t

-- What entry t fails with at its turn, on m: it was not in use at the call's start; or it was, has not risen since, and
-- its refine fails.
pub data EntryFails (start : Mesh) (t : ℕ) (m : Mesh) : ℕ → Type 0 where
  not_in_use : ¬ (t < start.topology.triangles) → EntryFails start t m 8
  not_refined : {n : ℕ} → t < start.topology.triangles → ¬ Risen start t m → RefineFails t m n
      → EntryFails start t m n

-- Work w with these entries handled in order, none of which fails, is x.
pub data Handled (start : Mesh) : List ℕ → Work → Work → Type 0 where
  all_done : {w : Work} → Handled start [] w w
  passed_over : {t : ℕ} {rest : List ℕ} {w x : Work} → t < start.topology.triangles → Risen start t w.mesh
      → Handled start rest w x → Handled start (t ∷ rest) w x
  refined : {t : ℕ} {rest : List ℕ} {w x : Work} → t < start.topology.triangles → ¬ Risen start t w.mesh
      → MayRefine t w.mesh → Handled start rest (refine t w) x → Handled start (t ∷ rest) w x

-- After k entries of the list, which are handled as w, the next fails with n.
pub record FailsAfter (list : List ℕ) (m : Mesh) (k : ℕ) (w : Work) (n : ℕ) : Type 0 where
  pub before : List ℕ
  pub entry : ℕ
  pub rest : List ℕ
  pub parts : list ≡ before ++ (entry ∷ rest)
  pub place : length before ≡ k
  pub handled : Handled m before (at_first m) w
  pub fails : EntryFails m entry w.mesh n

-- The first entry that fails does so with n.
abbrev pub FailsWith : ℕ → List ℕ → Mesh → Type 0
FailsWith n list m = (k : ℕ) × (w : Work) × FailsAfter list m k w n

-- ---- a box (Request h)

-- x lies between the two, or is one of them.
abbrev pub Between : ℤ → ℤ → ℤ → Type 0
Between low high x = (low ≤ℤ x) × (x ≤ℤ high)

-- Not 18: the generation is at most 20, and no low coordinate is above the high one.
pub record BoxFits (b : Box) : Type 0 where
  pub below : b.below ≤ 20
  pub x : b.low.0 ≤ℤ b.high.0
  pub y : b.low.1 ≤ℤ b.high.1
  pub z : b.low.2 ≤ℤ b.high.2

-- Vertex v lies in the box, its faces included.
pub record InBox (b : Box) (m : Mesh) (v : ℕ) : Type 0 where
  pub x : Between b.low.0 b.high.0 (coordinate m v 0)
  pub y : Between b.low.1 b.high.1 (coordinate m v 1)
  pub z : Between b.low.2 b.high.2 (coordinate m v 2)

-- Triangle t is below the generation, and has a corner in the box.
pub record Wanted (b : Box) (m : Mesh) (t : ℕ) : Type 0 where
  pub below : generation m.topology t < b.below
  pub corner : (i : ℕ) × (i < 3) × InBox b m (origin m.topology (3 * t + i))

-- t is the lowest such slot in use.
pub record LowestWanted (b : Box) (m : Mesh) (t : ℕ) : Type 0 where
  pub in_use : t < m.topology.triangles
  pub wanted : Wanted b m t
  pub lowest : (s : ℕ) → s < t → ¬ Wanted b m s

-- Work w with k turns of the box, none of which fails, is x: in each the lowest such triangle is refined.
pub data BoxTurns (b : Box) : ℕ → Work → Work → Type 0 where
  no_turn : {w : Work} → BoxTurns b 0 w w
  one_turn : {t k : ℕ} {w x : Work} → LowestWanted b w.mesh t → MayRefine t w.mesh
      → BoxTurns b k (refine t w) x → BoxTurns b (suc k) w x

-- After k turns, which make w, the lowest such triangle fails with n. It is not skipped.
pub record TurnFails (b : Box) (m : Mesh) (k : ℕ) (w : Work) (n : ℕ) : Type 0 where
  pub turns : BoxTurns b k (at_first m) w
  pub triangle : ℕ
  pub next : LowestWanted b w.mesh triangle
  pub fails : RefineFails triangle w.mesh n

-- Some turn fails with n.
abbrev pub SomeTurnFails : ℕ → Box → Mesh → Type 0
SomeTurnFails n b m = (k : ℕ) × (w : Work) × TurnFails b m k w n

-- ---- the first that holds

-- A refusal's number with its condition.
infix 68 ◌when◌
pub data Condition : Type 1 where
  ◌when◌ : ℕ → Type 0 → Condition

-- n is the number of the first condition of the list that holds, or 0 where none does.
pub data First : List Condition → ℕ → Type 1 where
  none : First [] 0
  this : {n : ℕ} {P : Type 0} {rest : List Condition} → P → First (n when P ∷ rest) n
  later : {n k : ℕ} {P : Type 0} {rest : List Condition} → ¬ P → First rest k → First (n when P ∷ rest) k

-- ---- the conditions of each call, in its order (Refused inputs, below the table)

abbrev pub load_conditions : ℕ → List ℕ → Mesh → List Condition
load_conditions rule bytes m =
    let c = cage_of bytes in
    1 when (¬ TablesAgree m)
    ∷ 16 when (¬ KnownRule rule)
    ∷ 2 when (¬ SizesFit bytes m)
    ∷ 3 when (¬ CornersFit c)
    ∷ 4 when (¬ CoordinatesFit c)
    ∷ 5 when (¬ SidesDiffer c)
    ∷ 6 when ((¬ FansFit c m) ⊎ SomeInnerOfTwo c m)
    ∷ []

abbrev pub refine_conditions : ℕ → Mesh → List Condition
refine_conditions t m =
    1 when (¬ TablesAgree m)
    ∷ 7 when (¬ Sound m)
    ∷ 8 when (¬ (t < m.topology.triangles))
    ∷ 9 when TooOld m.topology t
    ∷ 19 when AltersLocked t m
    ∷ 11 when TooFewSlots t m
    ∷ []

-- Those of the refine, and then 22: the note has under 4 + 9 k entries, where k slots change. (Request l)
abbrev pub noted_conditions : ℕ → List ℕ → Mesh → List Condition
noted_conditions t note m =
    let k = length (changed_slots m (refine t (at_first m)).mesh) in
    refine_conditions t m ++ (22 when (length note < 4 + 9 * k) ∷ [])

abbrev pub take_back_conditions : List ℕ → Mesh → List Condition
take_back_conditions note m = 1 when (¬ TablesAgree m) ∷ 7 when (¬ Sound m) ∷ 21 when (¬ Accepted note m) ∷ []

abbrev pub whole_step_conditions : Mesh → List Condition
whole_step_conditions m =
    1 when (¬ TablesAgree m)
    ∷ 7 when (¬ Sound m)
    ∷ 12 when (¬ ClosedEven m.topology)
    ∷ 9 when (generation m.topology 0 ≡ 20)
    ∷ 13 when LongRing m.topology
    ∷ 19 when SomeLocked m
    ∷ 11 when (¬ RoomFor m.topology.triangles (2 * m.topology.triangles) m)
    ∷ []

abbrev pub lock_conditions : ℕ → Mesh → List Condition
lock_conditions t m = 1 when (¬ TablesAgree m) ∷ 7 when (¬ Sound m) ∷ 8 when (¬ (t < m.topology.triangles)) ∷ []

abbrev pub limit_conditions : List ℤ → Mesh → List Condition
limit_conditions table m =
    1 when (¬ TablesAgree m)
    ∷ 7 when (¬ Sound m)
    ∷ 12 when (¬ ClosedEven m.topology)
    ∷ 13 when LongRing m.topology
    ∷ 15 when (length table ≢ 3 * m.topology.vertices)
    ∷ []

abbrev pub ring_conditions : ℕ → List ℕ → Mesh → List Condition
ring_conditions v buffer m =
    1 when (¬ TablesAgree m)
    ∷ 7 when (¬ Sound m)
    ∷ 8 when (¬ (v < m.topology.vertices))
    ∷ 14 when (length buffer < length (ring m.topology v))
    ∷ []

abbrev pub position_conditions : ℕ → Mesh → List Condition
position_conditions v m = 1 when (¬ TablesAgree m) ∷ 7 when (¬ Sound m) ∷ 8 when (¬ (v < m.topology.vertices)) ∷ []

abbrev pub view_conditions : ℕ → Mesh → List Condition
view_conditions n m = 1 when (¬ TablesAgree m) ∷ 7 when (¬ Sound m) ∷ 20 when (n < 9 * m.topology.triangles) ∷ []

-- 24: v is in use, but not on the rim; 25: the table has under 9 n entries, where its rim has n vertices. (Request n)
abbrev pub curve_conditions : ℕ → List ℤ → Mesh → List Condition
curve_conditions v table m =
    1 when (¬ TablesAgree m)
    ∷ 7 when (¬ Sound m)
    ∷ 8 when (¬ (v < m.topology.vertices))
    ∷ 24 when (¬ OnBoundary m.topology v)
    ∷ 25 when (length table < 9 * length (rim m.topology v))
    ∷ []

-- One entry alone is the first that fails. The four exclude each other, so their order decides nothing.
abbrev pub entry_conditions : List ℕ → Mesh → List Condition
entry_conditions list m =
    8 when FailsWith 8 list m
    ∷ 9 when FailsWith 9 list m
    ∷ 19 when FailsWith 19 list m
    ∷ 11 when FailsWith 11 list m
    ∷ []

abbrev pub list_conditions : List ℕ → Spares → Mesh → List Condition
list_conditions list spares m =
    1 when (¬ TablesAgree m)
    ∷ 17 when (¬ SameSizes spares m)
    ∷ 7 when (¬ Sound m)
    ∷ entry_conditions list m

-- One turn at most fails, and with one number, so the order of 9, 19 and 11 decides nothing.
abbrev pub box_conditions : Box → Spares → Mesh → List Condition
box_conditions b spares m =
    1 when (¬ TablesAgree m)
    ∷ 17 when (¬ SameSizes spares m)
    ∷ 18 when (¬ BoxFits b)
    ∷ 7 when (¬ Sound m)
    ∷ 9 when SomeTurnFails 9 b m
    ∷ 19 when SomeTurnFails 19 b m
    ∷ 11 when SomeTurnFails 11 b m
    ∷ []

-- Those of a call that refines, and then 23: the buffer is shorter than the report. (Request m)
abbrev pub plain_conditions : Refining → Mesh → List Condition
plain_conditions (one t) m = refine_conditions t m
plain_conditions (with_note t note) m = noted_conditions t note m
plain_conditions (each list spares) m = list_conditions list spares m
plain_conditions (in_box b spares) m = box_conditions b spares m

abbrev pub reported_conditions : Refining → List ℕ → Mesh → List Condition
reported_conditions r buffer m =
    plain_conditions r m ++ (23 when (length buffer < length (work_of r m).report) ∷ [])
