-- The triangles that a box wants, marked, and refined in turn.
use Rattle.std.specs.Prelude.{ℕ, ◌+◌, ◌*◌, ◌/◌, ◌≤◌, ◌<◌, Bool, false, ◌&&◌, List, [], ◌∷◌, ◌≡◌, ltb, ℤ, length, get_or}
use Rattle.marks.specs.Marks.{marked, Levels}
use Rattle.points.specs.Axes as Axes
use Rattle.points.specs.declared.Point.{Point}
use Rattle.theory.proofs.Calls.Carried.{RefineFound}
use Rattle.rules.specs.Boxes.{Box, in_box, wanted, refine_in_box}
use Rattle.rules.specs.Sound.{Sound}
use Rattle.rules.specs.Spares.{Spares}
use Rattle.rules.specs.Split.{at_first, refine, chain_end, chain_odd, chain_at}
use Rattle.rules.specs.Tables.{Topology, Mesh, vertex_slots, link}
use Rattle.tables.specs.Lent.{point_in}
use Rattle.refining.specs.Batches.{Holds}
use Rattle.refining.specs.declared.spares.Batch.{Batch}

-- The vertices of m that lie in the box are marked, and no others; there is a mark for each slot.
pub record Seen (b : Box) (m : Mesh) (inside : List ℕ) : Type 0 where
  pub room : vertex_slots m ≤ 64 * length inside
  pub right : (v : ℕ) → v < m.topology.vertices → marked inside v ≡ in_box b m v
  pub off : (v : ℕ) → m.topology.vertices ≤ v → marked inside v ≡ false

-- What is read to tell which triangles of m are wanted: corners, generations and the marks of vertices, with k for the
-- generation.
pub record Looks (b : Box) (m : Mesh) (c g inside : List ℕ) (k : ℕ) : Type 0 where
  pub sound : Sound m
  pub corners : c ≡ m.topology.corners
  pub generations : g ≡ m.topology.generations
  pub below : k ≡ b.below
  pub seen : Seen b m inside

-- The marks of the vertices from f up to n are right for these positions, those before f stay, and later ones are off.
pub record SeenFrom (f n : ℕ) (low high : Point) (p : List ℤ) (before after : List ℕ) : Type 0 where
  pub size : length after ≡ length before
  pub stay : (v : ℕ) → v < f → marked after v ≡ marked before v
  pub right : (v : ℕ) → f ≤ v → v < n → marked after v ≡ Axes.in_box low high (point_in p v)
  pub off : (v : ℕ) → n ≤ v → f ≤ v → marked after v ≡ false

-- Slot j is in use and wanted.
abbrev pub is_wanted : Box → Mesh → ℕ → Bool
is_wanted b m j = ltb j m.topology.triangles && wanted b m j

-- It is marked exactly if it is.
abbrev pub Right : Box → Mesh → List ℕ → ℕ → Type 0
Right b m bits j = marked bits j ≡ is_wanted b m j

-- There is a mark for each slot.
pub record MarksFit (m : Mesh) (bits words : List ℕ) : Type 0 where
  pub levels : Levels bits words
  pub room : length m.topology.generations ≤ 64 * length bits
  pub few : length bits ≤ 1024

-- The wanted slots are marked, and no others.
pub record Marking (b : Box) (m : Mesh) (bits words : List ℕ) : Type 0 where
  pub fit : MarksFit m bits words
  pub right : (j : ℕ) → Right b m bits j

-- So are the vertices in the box.
pub record Marked (b : Box) (m : Mesh) (inside bits words : List ℕ) : Type 0 where
  pub seen : Seen b m inside
  pub marks : Marking b m bits words

-- There is a mark for each of so many slots, and none is put.
pub record Unseen (n : ℕ) (inside : List ℕ) : Type 0 where
  pub room : n ≤ 64 * length inside
  pub none : (v : ℕ) → marked inside v ≡ false

pub record Unmarked (n : ℕ) (bits words : List ℕ) : Type 0 where
  pub levels : Levels bits words
  pub room : n ≤ 64 * length bits
  pub few : length bits ≤ 1024
  pub none : (j : ℕ) → marked bits j ≡ false

-- Triangle t of x may be refined, and that makes y.
pub record Refines (t : ℕ) (x y : Mesh) : Type 0 where
  pub found : RefineFound t x
  pub makes : y ≡ (refine t (at_first x)).mesh

-- Triangle v and those beside it.
abbrev pub nearby : Topology → ℕ → List ℕ
nearby m v = v ∷ (link m (3 * v) / 3) ∷ (link m (3 * v + 1) / 3) ∷ (link m (3 * v + 2) / 3) ∷ []

-- A refine of t made y of x. The marks are still those of x; the odd triangles of the base chain of t, and its end with
-- the triangles beside it, were read before.
pub record Stale (b : Box) (t : ℕ) (x y : Mesh) (odd near bits words : List ℕ) : Type 0 where
  pub refines : Refines t x y
  pub odd_is : length odd ≡ chain_odd x.topology t
  pub slots_are : (i : ℕ) → i < length odd → get_or odd i 0 ≡ chain_at i x.topology t
  pub near_is : near ≡ nearby x.topology (chain_end x.topology t)
  pub marks : Marking b x bits words

-- The slots from f on are marked where they are wanted; the marks before them stay.
pub record MarkedFrom (f : ℕ) (b : Box) (m : Mesh) (before after words : List ℕ) : Type 0 where
  pub fit : MarksFit m after words
  pub stay : (j : ℕ) → j < f → marked after j ≡ marked before j
  pub right : (j : ℕ) → f ≤ j → Right b m after j

-- The marks of the first n slots of a list are right, and what was right stays right.
pub record Mended (n : ℕ) (slots : List ℕ) (b : Box) (m : Mesh) (before after words : List ℕ) : Type 0 where
  pub fit : MarksFit m after words
  pub stay : (j : ℕ) → Right b m before j → Right b m after j
  pub right : (i : ℕ) → i < n → get_or slots i 0 < m.topology.triangles → Right b m after (get_or slots i 0)

-- The answer, and the mesh x in what were the tables s, are what the box makes of m.
abbrev pub Boxes : Box → Mesh → Spares → Batch → Mesh → Type 0
Boxes b m s r x = Holds (refine_in_box b m) s r x
