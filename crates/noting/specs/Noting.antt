-- The note of a refine, and the outcome with it.
use Rattle.std.specs.Prelude.{ℕ, zero, suc, ◌+◌, Bool, not, List, [], ◌∷◌, ◌≡◌, Result, OnOk, OnErr, ltb, length, get_or, set}
use Rattle.rules.specs.Below.{fill}
use Rattle.rules.specs.Calls.{Outcome, answer_of, buffer_room, first_of, ◌if◌, outcome_of, zero_point}
use Rattle.rules.specs.Notes.{note_of, refined}
use Rattle.rules.specs.Spares.{Spares}
use Rattle.rules.specs.Tables.{Mesh}
use Rattle.tables.specs.Lent.{mesh_with}
use Rattle.tables.specs.Refusals.{refused}
use Rattle.tables.specs.declared.Worked.{Worked}
use Rattle.tables.specs.declared.refusals.Refusal.{Refusal}

-- The list with n entries written from x, from place a on.
unfoldable pub write_from : ℕ → ℕ → (ℕ → ℕ) → List ℕ → List ℕ
write_from a zero x l = l
write_from a (suc n) x l = set (write_from a n x l) (a + n) (x n)

-- What a note has before its k slots: the triangle, the old counts and k.
abbrev pub head_of : ℕ → ℕ → ℕ → ℕ → List ℕ
head_of t v f k = t ∷ v ∷ f ∷ k ∷ []

-- What comes of the note of a refine of t: 22 where what is lent is too short for it, then 23 where a report of the
-- refine does not fit; what is lent is then left, and else the note is written.
pub record Notes (t : ℕ) (m : Mesh) (lent : List ℕ) (fits : Bool) (r : Result (Unit {0}) Refusal) (left : List ℕ) : Type 0 where
  pub refusal :
      refused r ≡ first_of (22 if ltb (length lent) (length (note_of t m (refined t m))) ∷ 23 if not fits ∷ [])
  pub short : OnErr r (left ≡ lent)
  pub written : OnOk r
      (left ≡ fill (length (note_of t m (refined t m))) (λ i. get_or (note_of t m (refined t m)) i 0) lent)

-- The outcome of a refine with a note.
abbrev pub noted_outcome : Worked → Spares → List ℕ → Outcome
noted_outcome a s note =
    let m = mesh_with a.counts s in
    outcome_of (answer_of a.refusal a.splits a.flips 0 zero_point m) m (buffer_room note)
