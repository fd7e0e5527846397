-- What is tested of a note before the mesh is looked at.
use Rattle.std.specs.Prelude.{ℕ, suc, ◌+◌, ◌-◌, ◌*◌, ◌≤◌, ◌<◌, Bool, ◌&&◌, ◌||◌, List, eqb, leb, ltb, length}
use Rattle.rules.specs.Below.{all}
use Rattle.rules.specs.Notes.{old_f, note_slots, note_nine}

-- Slot i of a note comes after the one before it.
abbrev pub slot_rises : List ℕ → ℕ → Bool
slot_rises note i = eqb i 0 || ltb (note_nine note (i - 1) 0) (note_nine note i 0)

-- It also lies below the old F, and its generation and its lock are such that a mesh with them can be sound.
unfoldable pub slot_fits : List ℕ → ℕ → Bool
slot_fits note i =
    slot_rises note i
    && ltb (note_nine note i 0) (old_f note)
    && leb (note_nine note i 7) 20
    && leb (note_nine note i 8) 1

-- The note has all its slots, and each of them fits.
unfoldable pub note_fits : List ℕ → Bool
note_fits note = leb (4 + 9 * note_slots note) (length note) && all (note_slots note) (slot_fits note)

-- The same as a statement.
pub record NoteFits (note : List ℕ) : Type 0 where
  pub long : 4 + 9 * note_slots note ≤ length note
  pub rising : (i : ℕ) → suc i < note_slots note → note_nine note i 0 < note_nine note (suc i) 0
  pub in_use : (i : ℕ) → i < note_slots note → note_nine note i 0 < old_f note
  pub generations : (i : ℕ) → i < note_slots note → note_nine note i 7 ≤ 20
  pub locks : (i : ℕ) → i < note_slots note → note_nine note i 8 ≤ 1
