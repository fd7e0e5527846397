-- What a history leaves in a journal, and what a record can hold.
use Rattle.std.specs.Prelude.{ℕ, ◌+◌, ◌≤◌, ◌<◌, max, true, false, List, [], ◌∷◌, ◌++◌, ◌≢◌, ◌⊎◌, ◌≡◌, eqb, ℤ, pos, negsuc, length, get_or, take, drop}
use Rattle.crc.specs.Bytes.{AreBytes}
use Rattle.rules.specs.Boxes.{Box}
use Rattle.rules.specs.History.{Change, loads, refines, steps, refines_each, refines_in_box, sets_lock, refines_noted}
use Rattle.rules.specs.History.{takes_back, reports, changed, Call, changes, asks, asked, outcome, after}
use Rattle.rules.specs.Reports.{Refining, one, with_note, each, in_box}
use Rattle.rules.specs.Spares.{Spares}
use Rattle.rules.specs.Tables.{Mesh, vertex_slots, triangle_slots}
use Rattle.journal.specs.Journal.{Entry, loaded, refined, stepped, refined_each, refined_in_box, lock_set, taken_back}
use Rattle.journal.specs.Journal.{body_of, encode, header_of, stop_at, entry_at}
use Rattle.journal.specs.Records.{records_of, Records, decode}
use Rattle.journal.specs.Replay.{call_of, numbers_of, Lent, Replay, replay}

-- ---- what a record can hold

-- Every entry is a number of four bytes; past the end 0 is meant.
abbrev pub AreNumbers : List ℕ → Type 0
AreNumbers l = (i : ℕ) → get_or l i 0 < 4294967296

-- A coordinate of four bytes in two's complement; `negsuc a` is -1 - a.
abbrev pub IsCoordinate : ℤ → Type 0
IsCoordinate (pos a) = a < 2147483648
IsCoordinate (negsuc a) = a < 2147483648

pub record IsBox (b : Box) : Type 0 where
  pub low : IsCoordinate b.low.0 × IsCoordinate b.low.1 × IsCoordinate b.low.2
  pub high : IsCoordinate b.high.0 × IsCoordinate b.high.1 × IsCoordinate b.high.2
  pub below : b.below < 4294967296

-- The numbers of a change have four bytes, and a cage is bytes; u32, i32 and u8 arguments always are so.
abbrev pub InRange : Entry → Type 0
InRange (loaded rule cage) = (rule < 4294967296) × AreBytes cage
InRange (refined t) = t < 4294967296
InRange stepped = Unit {0}
InRange (refined_each list) = AreNumbers list
InRange (refined_in_box box) = IsBox box
InRange (lock_set on t) = t < 4294967296
InRange (taken_back note) = AreNumbers note

-- A change that a record can hold: the size of its body has four bytes too.
abbrev pub Recordable : Entry → Type 0
Recordable e = InRange e × (length (body_of e) < 4294967296)

abbrev pub AllRecordable : List Entry → Type 0
AllRecordable [] = Unit {0}
AllRecordable (e ∷ entries) = Recordable e × AllRecordable entries

-- ---- what a history leaves

-- The record of a change that is carried out. A note and a report are left out: what is recorded is the plain change.
abbrev pub entry_for_refining : Refining → Entry
entry_for_refining (one t) = refined t
entry_for_refining (with_note t note) = refined t
entry_for_refining (each list spares) = refined_each list
entry_for_refining (in_box b spares) = refined_in_box b

abbrev pub entry_for : Change → Entry
entry_for (loads rule cage) = loaded rule cage
entry_for (refines t) = refined t
entry_for steps = stepped
entry_for (refines_each list spares) = refined_each list
entry_for (refines_in_box b spares) = refined_in_box b
entry_for (sets_lock on t) = lock_set on t
entry_for (refines_noted t note) = refined t
entry_for (takes_back note) = taken_back note
entry_for (reports r buffer) = entry_for_refining r

-- The records of a history, begun on a mesh: those of its changes that are carried out. Questions leave none.
unfoldable pub recorded : List Call → Mesh → List Entry
recorded [] m = []
recorded (changes c ∷ calls) m = elim (eqb (changed c m).answer.refusal 0) [
  | true ↦ entry_for c ∷ recorded calls (changed c m).mesh
  | false ↦ recorded calls (changed c m).mesh
]
recorded (asks q ∷ calls) m = recorded calls (asked q m).mesh

-- The journal of some changes, for the tables of a mesh.
unfoldable pub journal_of : Mesh → List Entry → List ℕ
journal_of m entries = header_of (vertex_slots m) (triangle_slots m) ++ records_of entries

-- The numbers of their slots have four bytes.
pub record SlotsFit (m : Mesh) : Type 0 where
  pub vertices : vertex_slots m < 4294967296
  pub triangles : triangle_slots m < 4294967296

-- ---- what is left of records

-- What r tells of the records of these changes, cut off at byte k: the first of them, and where the next one starts;
-- this one is cut.
pub record CutAt (entries : List Entry) (k : ℕ) (r : Records) : Type 0 where
  pub later : List Entry
  pub first : entries ≡ r.entries ++ later
  pub end : r.end ≡ length (records_of r.entries)
  pub before : r.end ≤ k
  pub cut : (e : Entry) (rest : List Entry) → later ≡ e ∷ rest → k < r.end + length (encode e)

-- ---- what is replayed

-- The calls of recorded changes, with spare tables to work in.
unfoldable pub calls_of : Spares → List Entry → List Call
calls_of spares [] = []
calls_of spares (e ∷ entries) = changes (call_of spares e) ∷ calls_of spares entries

-- What is done to a mesh: a call, or the replay of a journal from a place on, with what is lent for it.
pub data Deed : Type 0 where
  makes : Call → Deed
  replays : Lent → List ℕ → ℕ → Deed

-- The mesh that it leaves.
abbrev pub deed_done : Deed → Mesh → Mesh
deed_done (makes c) m = (outcome c m).mesh
deed_done (replays lent bytes at) m = (replay lent bytes at m).mesh

-- The calls that it makes; those of a replay are the calls of the records that it replays.
abbrev pub calls_in : Deed → Mesh → List Call
calls_in (makes c) m = c ∷ []
calls_in (replays lent bytes at) m =
    calls_of lent.spares (take (replay lent bytes at m).records (decode (drop (max 20 at) bytes)).entries)

-- The mesh after a list of deeds, and all their calls.
unfoldable pub after_deeds : List Deed → Mesh → Mesh
after_deeds [] m = m
after_deeds (d ∷ ds) m = after_deeds ds (deed_done d m)

unfoldable pub calls_in_all : List Deed → Mesh → List Call
calls_in_all [] m = []
calls_in_all (d ∷ ds) m = calls_in d m ++ calls_in_all ds (deed_done d m)

-- Each of these changes, made from m on, is carried out.
abbrev pub EachCarried : Spares → List Entry → Mesh → Type 0
EachCarried spares [] m = Unit {0}
EachCarried spares (e ∷ entries) m =
    ((changed (call_of spares e) m).answer.refusal ≡ 0)
    × EachCarried spares entries (changed (call_of spares e) m).mesh

-- A table of n numbers does for each of them.
abbrev pub RoomForEach : ℕ → List Entry → Type 0
RoomForEach n [] = Unit {0}
RoomForEach n (e ∷ entries) = (numbers_of e ≤ n) × RoomForEach n entries

-- Why a replay stops before these bytes, with these numbers for the stop and the refusal: no record is at the front;
-- the table is too short for its numbers; its call is refused.
pub data StopsWith (lent : Lent) (bytes : List ℕ) (m : Mesh) : ℕ → ℕ → Type 0 where
  no_record : stop_at bytes ≢ 0 → StopsWith lent bytes m (stop_at bytes) 0
  too_many : stop_at bytes ≡ 0 → lent.numbers < numbers_of (entry_at bytes) → StopsWith lent bytes m 7 0
  refuses : stop_at bytes ≡ 0 → numbers_of (entry_at bytes) ≤ lent.numbers
      → (changed (call_of lent.spares (entry_at bytes)) m).answer.refusal ≢ 0
      → StopsWith lent bytes m 5 (changed (call_of lent.spares (entry_at bytes)) m).answer.refusal

-- What r tells of a replay of these bytes, from their front on.
pub record ReplayOf (lent : Lent) (bytes : List ℕ) (m : Mesh) (r : Replay) : Type 0 where
  -- The records before its end are replayed, the first of those that are read.
  pub entries : (decode (take r.end bytes)).entries ≡ take r.records (decode bytes).entries
  pub records : r.records ≡ length (decode (take r.end bytes)).entries
  pub end : r.end ≡ (decode (take r.end bytes)).end
  pub carried : EachCarried lent.spares (take r.records (decode bytes).entries) m
  pub mesh : r.mesh ≡ after (calls_of lent.spares (take r.records (decode bytes).entries)) m
  pub stop : StopsWith lent (drop r.end bytes) r.mesh r.stop r.refusal

-- What r tells of a replay, on m, of a history's journal that is as it was written up to byte k: the mesh is that after
-- its first calls, byte k would be in the next record, and the stop is such a number.
pub record ReplayUpTo (calls : List Call) (m : Mesh) (k : ℕ) (Stop : ℕ → Type 0) (r : Replay) : Type 0 where
  pub done : List Call
  pub left : List Call
  pub first : calls ≡ done ++ left
  pub mesh : r.mesh ≡ after done m
  pub records : r.records ≡ length (recorded done m)
  pub end : r.end ≡ length (journal_of m (recorded done m))
  pub before : r.end ≤ k
  pub here : (e : Entry) (rest : List Entry) → recorded calls m ≡ recorded done m ++ (e ∷ rest)
      → k < r.end + length (encode e)
  pub stop : Stop r.stop

-- The journal is cut off at byte k: the replay stops with 1, as nothing is left, or with 2, before a torn record.
abbrev pub CutReplay : List Call → Mesh → ℕ → Replay → Type 0
CutReplay calls m k r = ReplayUpTo calls m k (λ n. (n ≡ 1) ⊎ (n ≡ 2)) r

-- Byte k is another: the replay stops with 3 before the record that has it.
abbrev pub ChangedReplay : List Call → Mesh → ℕ → Replay → Type 0
ChangedReplay calls m k r = ReplayUpTo calls m k (λ n. n ≡ 3) r

-- Spare tables of the same lengths.
pub record SameLengths (s t : Spares) : Type 0 where
  pub positions : length s.positions ≡ length t.positions
  pub corners : length s.corners ≡ length t.corners
  pub links : length s.links ≡ length t.links
  pub generations : length s.generations ≡ length t.generations
  pub locks : length s.locks ≡ length t.locks

-- The same lent, but for what the spare tables hold.
pub record LentAlike (lent later : Lent) : Type 0 where
  pub spares : SameLengths lent.spares later.spares
  pub numbers : lent.numbers ≡ later.numbers

-- A replay, and another from where it stopped on.
abbrev pub and_then : Replay → Replay → Replay
and_then r s = record {
  records = r.records + s.records;
  end = s.end;
  stop = s.stop;
  refusal = s.refusal;
  mesh = s.mesh;
}
