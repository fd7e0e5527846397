-- Answers of calls, with what the lent tables hold afterwards, as outcomes of the rules.
use Rattle.std.specs.Prelude.{ℕ, List, ℤ}
use Rattle.rules.specs.Calls.{Outcome, answer_of, no_room, table_room, outcome_of, zero_point}
use Rattle.rules.specs.Spares.{Spares}
use Rattle.rules.specs.Tables.{Mesh}
use Rattle.tables.specs.Lent.{mesh_with}
use Rattle.tables.specs.declared.Worked.{Worked}

-- Of a call that may change the mesh.
abbrev pub worked_outcome : Worked → Spares → Outcome
worked_outcome a s =
    let m = mesh_with a.counts s in
    outcome_of (answer_of a.refusal a.splits a.flips 0 zero_point m) m no_room

-- Of a call that reads m, refuses with n or with 0, and leaves this table.
abbrev pub table_outcome : ℕ → Mesh → List ℤ → Outcome
table_outcome n m table = outcome_of (answer_of n 0 0 0 zero_point m) m (table_room table)
