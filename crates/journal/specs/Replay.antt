-- What a replay does: the changes of a journal's records made again, one after the other.
use Rattle.std.specs.Prelude.{ℕ, zero, suc, ◌+◌, max, true, false, List, eqb, ltb, length, drop}
use Rattle.rules.specs.History.{Change, loads, refines, steps, refines_each, refines_in_box, sets_lock, takes_back, changed}
use Rattle.rules.specs.Spares.{Spares}
use Rattle.rules.specs.Tables.{Mesh, vertex_slots, triangle_slots}
use Rattle.journal.specs.Journal.{Entry, loaded, refined, stepped, refined_each, refined_in_box, lock_set, taken_back}
use Rattle.journal.specs.Journal.{stop_at, header_stop, entry_at, record_length}

-- The call of a recorded change, with spare tables to work in.
abbrev pub call_of : Spares → Entry → Change
call_of spares (loaded rule cage) = loads rule cage
call_of spares (refined t) = refines t
call_of spares stepped = steps
call_of spares (refined_each list) = refines_each list spares
call_of spares (refined_in_box box) = refines_in_box box spares
call_of spares (lock_set on t) = sets_lock on t
call_of spares (taken_back note) = takes_back note

-- The numbers that a change has to be read into a table for.
abbrev pub numbers_of : Entry → ℕ
numbers_of (loaded rule cage) = 0
numbers_of (refined t) = 0
numbers_of stepped = 0
numbers_of (refined_each list) = length list
numbers_of (refined_in_box box) = 0
numbers_of (lock_set on t) = 0
numbers_of (taken_back note) = length note

-- What is lent to a replay beside the mesh: spare tables, and a table of so many numbers.
pub record Lent : Type 0 where
  pub spares : Spares
  pub numbers : ℕ

-- Where a replay stopped and why, after so many records; the refusal of the next one's call where it has one; and the
-- mesh.
pub record Replay : Type 0 where
  pub records : ℕ
  pub end : ℕ
  pub stop : ℕ
  pub refusal : ℕ
  pub mesh : Mesh

abbrev pub stopped : ℕ → ℕ → Mesh → Replay
stopped stop refusal m = record { records = 0; end = 0; stop = stop; refusal = refusal; mesh = m }

-- A record of this length replayed before.
abbrev pub one_more : ℕ → Replay → Replay
one_more n r =
    record { records = suc r.records; end = n + r.end; stop = r.stop; refusal = r.refusal; mesh = r.mesh }

-- Records replayed from the front of some bytes on, at most n of them. Beside what `stop_at` tells a replay stops with 7
-- where the table is too short for a change's numbers, and with 5 where its call is refused.
unfoldable pub replay_first : ℕ → Lent → List ℕ → Mesh → Replay
replay_first zero lent bytes m = stopped (stop_at bytes) 0 m
replay_first (suc n) lent bytes m =
    let e = entry_at bytes in
    let o = changed (call_of lent.spares e) m in
    elim (eqb (stop_at bytes) 0) [
      | false ↦ stopped (stop_at bytes) 0 m
      | true ↦ elim (ltb lent.numbers (numbers_of e)) [
        | true ↦ stopped 7 0 m
        | false ↦ elim (eqb o.answer.refusal 0) [
          | false ↦ stopped 5 o.answer.refusal m
          | true ↦ one_more (record_length bytes) (replay_first n lent (drop (record_length bytes) bytes) o.mesh)
        ]
      ]
    ]

-- The end counted from the front of a journal.
abbrev pub started_at : ℕ → Replay → Replay
started_at at r =
    record { records = r.records; end = at + r.end; stop = r.stop; refusal = r.refusal; mesh = r.mesh }

-- A journal replayed from a place on, or from its first record where the place is before it.
abbrev pub replay_if : ℕ → Lent → List ℕ → ℕ → Mesh → Replay
replay_if zero lent bytes at m = started_at at (replay_first (length bytes) lent (drop at bytes) m)
replay_if (suc n) lent bytes at m = stopped (suc n) 0 m

unfoldable pub replay : Lent → List ℕ → ℕ → Mesh → Replay
replay lent bytes at m =
    replay_if (header_stop (vertex_slots m) (triangle_slots m) bytes) lent bytes (max 20 at) m
