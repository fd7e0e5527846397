-- What is needed to put the slots of a note into tables.
use Rattle.std.specs.Prelude.{ℕ, ◌+◌, ◌*◌, ◌≤◌, List, [], ◌∷◌, ◌≡◌, length}
use Rattle.rules.specs.Notes.{note_nine}
use Rattle.rules.specs.Spares.{Spares}
use Rattle.tables.specs.declared.Triangle.{Triangle}
use Rattle.tables.specs.Lent.{TrianglesAgree}

-- The note has slot i, and with a generation and a lock that a byte holds.
pub record SlotHeld (note : List ℕ) (i : ℕ) : Type 0 where
  pub long : 13 + 9 * i ≤ length note
  pub generation : note_nine note i 7 ≤ 20
  pub lock : note_nine note i 8 ≤ 1

-- Tables of triangles and locks agree in their slots, and there are at least f.
pub record SlotRoom (f : ℕ) (s : Spares) : Type 0 where
  pub triangles : TrianglesAgree s
  pub locks : length s.locks ≡ length s.generations
  pub room : f ≤ length s.generations

-- Slot i of a note as a triangle.
abbrev pub slot_as_triangle : List ℕ → ℕ → Triangle
slot_as_triangle note i = record {
  corners = note_nine note i 1 ∷ note_nine note i 2 ∷ note_nine note i 3 ∷ [];
  links = note_nine note i 4 ∷ note_nine note i 5 ∷ note_nine note i 6 ∷ [];
  generation = note_nine note i 7;
}
