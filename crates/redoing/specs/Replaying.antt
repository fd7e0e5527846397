-- What a replay makes of one record, and what it answers.
use Rattle.std.specs.Prelude.{Result, Ok, Err, List, ◌≡◌, ℕ, ◌+◌, ◌≤◌, length, drop}
use Rattle.rules.specs.History.{changed}
use Rattle.rules.specs.Tables.{Mesh}
use Rattle.journal.specs.Journal.{stop_at, entry_at, record_length}
use Rattle.journal.specs.Replay.{call_of, numbers_of, Lent, Replay}
use Rattle.journal.specs.Recording.{StopsWith}
use Rattle.journal.specs.Kinds.{stop_number, stop_refusal}
use Rattle.journal.specs.declared.stops.Record.{Record}
use Rattle.journal.specs.declared.stops.Stop.{Stop}
use Rattle.redoing.specs.declared.Progress.{Progress}
use Rattle.redoing.specs.declared.Replayed.{Replayed}

-- The answer of a replay with the mesh that it leaves.
abbrev pub replay_told : Replayed → Mesh → Replay
replay_told r n = record { records = r.records; end = r.end; stop = r.stop; refusal = r.refusal; mesh = n }

-- The numbers that C is told of the next record: 0 while it is whole.
abbrev pub stop_of : Result Record Stop → ℕ
stop_of (Ok r) = 0
stop_of (Err s) = stop_number s

abbrev pub refusal_of : Result Record Stop → ℕ
refusal_of (Ok r) = 0
refusal_of (Err s) = stop_refusal s

-- What C is told of a replay on its way.
abbrev pub told : Progress → Replayed
told g = record {
  counts = g.counts;
  stop = stop_of g.next;
  refusal = refusal_of g.next;
  records = g.records;
  end = g.end;
}

-- A place to replay from, with a whole record.
pub record Ready (bytes : List ℕ) (r : Replayed) : Type 0 where
  pub within : r.end ≤ length bytes
  pub records : r.records ≤ r.end
  pub whole : stop_at (drop r.end bytes) ≡ 0

-- What a replay that has come to r and m makes of the next record: it stops before it; or its call is carried out.
pub data MakesNext (lent : Lent) (bytes : List ℕ) (r : Replayed) (m : Mesh) (s : Replayed) (n : Mesh) : Type 0 where
  stays : s.records ≡ r.records → s.end ≡ r.end
      → StopsWith lent (drop r.end bytes) m s.stop s.refusal → n ≡ m → MakesNext lent bytes r m s n
  goes : s.records ≡ r.records + 1 → s.end ≡ r.end + record_length (drop r.end bytes)
      → s.stop ≡ stop_at (drop s.end bytes) → s.refusal ≡ 0
      → numbers_of (entry_at (drop r.end bytes)) ≤ lent.numbers
      → (changed (call_of lent.spares (entry_at (drop r.end bytes))) m).answer.refusal ≡ 0
      → n ≡ (changed (call_of lent.spares (entry_at (drop r.end bytes))) m).mesh
      → MakesNext lent bytes r m s n
