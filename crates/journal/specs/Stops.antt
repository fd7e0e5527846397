-- What the tests of a journal's bytes tell, by the definitions of `Journal`.
use Rattle.std.specs.Prelude.{ℕ, ◌+◌, ◌≤◌, ◌<◌, ◌≡◌, true, false, List, length, Result, MatchResult, ⊤}
use Rattle.journal.specs.Journal.{holds, kind_at, size_at, stop_at, header_stop}
use Rattle.journal.specs.Kinds.{number_of, stop_number, stop_refusal}
use Rattle.journal.specs.declared.stops.Record.{Record}
use Rattle.journal.specs.declared.stops.Stop.{Stop}
use Rattle.journal.specs.declared.stops.Stop.TheVariants.{Torn, Checksum}

-- The n bytes from place i on are there with their checksum; or they are torn, or have another.
pub record Here (bytes : List ℕ) (i n : ℕ) : Type 0 where
  pub long : i + n + 4 ≤ length bytes
  pub holds : holds bytes i n ≡ true

pub data Missing (bytes : List ℕ) (i n : ℕ) : Stop → Type 0 where
  torn : length bytes < i + n + 4 → Missing bytes i n Torn
  other : i + n + 4 ≤ length bytes → holds bytes i n ≡ false → Missing bytes i n Checksum

abbrev pub SealedAt : List ℕ → ℕ → ℕ → Result ⊤ Stop → Type 0
SealedAt bytes i n r = MatchResult r (λ x. Here bytes i n) (Missing bytes i n)

-- A whole record is at the front: its kind and its body's size.
pub record IsRecord (bytes : List ℕ) (r : Record) : Type 0 where
  pub whole : stop_at bytes ≡ 0
  pub kind : number_of r.kind ≡ kind_at bytes
  pub size : r.size ≡ size_at bytes

-- Why there is none: no call was refused.
pub record StopsAt (n : ℕ) (s : Stop) : Type 0 where
  pub number : stop_number s ≡ n
  pub refusal : stop_refusal s ≡ 0

abbrev pub ReadsRecord : List ℕ → Result Record Stop → Type 0
ReadsRecord bytes r = MatchResult r (IsRecord bytes) (StopsAt (stop_at bytes))

-- The header is that of tables with these slots, or why it is not.
abbrev pub ReadsHeader : ℕ → ℕ → List ℕ → Result ⊤ Stop → Type 0
ReadsHeader vertex_slots triangle_slots bytes r =
    MatchResult r (λ x. header_stop vertex_slots triangle_slots bytes ≡ 0) (StopsAt (header_stop vertex_slots triangle_slots bytes))
