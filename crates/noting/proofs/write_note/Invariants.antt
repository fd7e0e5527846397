use Prim.Native.Nat.{◌*◌}
use mathlib.Core.List.{List}
use mathlib.Core.Path.{◌≡◌}
use lib.ListN.{length, get_or}
use Prim.Native.Nat.{ℕ}
use Rattle.rules.specs.Notes.{nines_of}
use Rattle.tables.specs.Lent.{seen, mesh_with}
use Rattle.tables.specs.declared.Counts.{Counts}
use Rattle.noting.specs.Changed.{FrontIs}
use Rattle.noting.specs.Noting.{write_from}
use Rattle.noting.proofs.write_note.Given as goal

abbrev pub invariant-loop-i : goal.invariant-loop-i
invariant-loop-i l =
    (length l.note ≡ length l.initial.note)
    × ((n : Counts) (list : List ℕ) → FrontIs list l.slots (length l.slots)
    → l.note
    ≡ write_from 4 (9 * l.i) (λ h. get_or (nines_of (mesh_with n (seen l.view)) list) h 0) l.initial.note)
