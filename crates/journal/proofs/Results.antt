-- What is proved of journals, readable with the specs alone: what was recorded is rebuilt exactly.
use Prim.Native.Nat.{ℕ, ◌+◌, ◌*◌, ◌≤◌, ◌<◌, max}
use mathlib.Core.List.{List, [], ◌++◌}
use mathlib.Core.Logic.{◌≢◌}
use mathlib.Core.Path.{◌≡◌, ap, sym, subst, ◌∙◌}
use lib.ListN.{length, get_or, take, drop, set}
use lib.Seq.{drop-length}
use Rattle.crc.specs.Bytes.{AreBytes}
use Rattle.theory.proofs.Results.Histories.{third_demand, sound_after, sound_kept}
use Rattle.rules.specs.Boxes.{Box, box_call}
use Rattle.rules.specs.History.{Change, changed, Call, after, last_load, nothing, cage, Kept}
use Rattle.rules.specs.Lists.{list_call}
use Rattle.rules.specs.Notes.{note_slots, take_back_call}
use Rattle.rules.specs.Sound.{Sound}
use Rattle.rules.specs.Spares.{Spares, SameSizes, same_sizes}
use Rattle.rules.specs.Tables.{Mesh, vertex_slots, triangle_slots}
use Rattle.journal.specs.Journal.{Entry, encode, header_of, stop_at, header_stop, entry_at, record_length}
use Rattle.journal.specs.Journal.{wrote}
use Rattle.journal.specs.Records.{records_of, no_records, following, decode}
use Rattle.journal.specs.Recording.{InRange, Recordable, AllRecordable, entry_for, recorded, journal_of}
use Rattle.journal.specs.Recording.{SlotsFit, CutAt, calls_of, EachCarried, RoomForEach, ReplayOf, CutReplay}
use Rattle.journal.specs.Recording.{ChangedReplay, LentAlike, and_then, Deed, after_deeds, calls_in_all}
use Rattle.journal.specs.Replay.{call_of, Lent, Replay, stopped, replay_first, started_at, replay}
use Rattle.journal.proofs.Appending.{written_recordable}
use Rattle.journal.proofs.Changed.{record_changed, header_changed, written_changed, damaged_stops}
use Rattle.journal.proofs.Changes.{list_alike, box_alike, carried_again, sizes_on}
use Rattle.journal.proofs.Cuts.{torn_is_two, cut_read, cut_replayed}
use Rattle.journal.proofs.Cutting.{rest_lost, torn_lost, part_read, read_written, read_recordable, end_within}
use Rattle.journal.proofs.Cutting.{trimmed_read}
use Rattle.journal.proofs.Damaged.{records_bytes, changed_replayed}
use Rattle.journal.proofs.Headers.{header_torn, header_read, header_written}
use Rattle.journal.proofs.Histories.{history_again, history_replayed, history_alone, after_both, recorded_both}
use Rattle.journal.proofs.Histories.{deeds_are_calls}
use Rattle.journal.proofs.Journals.{after_slots, replay_bad, replay_of, replay_mesh, replay_all, in_parts}
use Rattle.journal.proofs.Journals.{same_front, replay_stops}
use Rattle.journal.proofs.Lending.{lent_alike}
use Rattle.journal.proofs.Notes.{cut_note}
use Rattle.journal.proofs.Reading.{stop_whole, stop_numbers, decode_goes, decode_stops}
use Rattle.journal.proofs.Replaying.{first_bound}
use Rattle.journal.proofs.Writing.{entry_read, records_read, joined}

-- ---- records

-- What is read of any bytes, record by record: the bound of `decode_first` is never met.
pub whole_goes : (bytes : List ℕ) → stop_at bytes ≡ 0
    → decode bytes ≡ following (entry_at bytes) (record_length bytes) (decode (drop (record_length bytes) bytes))
whole_goes bytes z = decode_goes bytes (stop_whole bytes z)

pub other_stops : (bytes : List ℕ) → stop_at bytes ≢ 0 → decode bytes ≡ no_records
other_stops = decode_stops

-- Of a record 0 to 4 is told.
pub stops_are_known : (bytes : List ℕ) → stop_at bytes ≤ 4
stops_are_known = stop_numbers

-- A record is one change: it is read back, and then the rest.
pub record_is_read : (e : Entry) (rest : List ℕ) → Recordable e
    → decode (encode e ++ rest) ≡ following e (length (encode e)) (decode rest)
record_is_read = entry_read

-- So are the records of some changes, with anything after them.
pub written_is_read : (entries : List Entry) (rest : List ℕ) → AllRecordable entries
    → decode (records_of entries ++ rest)
    ≡ record { entries = entries ++ (decode rest).entries; end = length (records_of entries) + (decode rest).end }
written_is_read = records_read

-- What is written are bytes.
pub written_are_bytes : (entries : List Entry) → AllRecordable entries → AreBytes (records_of entries)
written_are_bytes = records_bytes

-- Where the record of a change is answered with other than 0, it can be read back.
pub written_can_be_read : (e : Entry) (buffer : List ℕ) → InRange e → (wrote (encode e) buffer).0 ≢ 0 → Recordable e
written_can_be_read = written_recordable

-- Of any bytes the part that is read is the records of the changes read, and a record can hold each of these.
pub read_is_written : (bytes : List ℕ) → AreBytes bytes
    → records_of (decode bytes).entries ≡ take (decode bytes).end bytes
read_is_written = read_written

pub read_can_be_written : (bytes : List ℕ) → AreBytes bytes → AllRecordable (decode bytes).entries
read_can_be_written = read_recordable

-- A header is read back, with anything after it; one that is read is the one that would be written.
pub header_is_read : (v t : ℕ) (rest : List ℕ) → v < 4294967296 → t < 4294967296
    → header_stop v t (header_of v t ++ rest) ≡ 0
header_is_read = header_read

pub header_is_written : (v t : ℕ) (bytes : List ℕ) → AreBytes bytes → header_stop v t bytes ≡ 0
    → header_of v t ≡ take 20 bytes
header_is_written = header_written

-- ---- cuts

-- The changes of the first part of any bytes are the first changes of all of them; the others are those of what was
-- left of the first part, with the second.
pub part_is_prefix : (a b : List ℕ) →
    let later = decode (drop (decode a).end a ++ b) in
    decode (a ++ b)
    ≡ record { entries = (decode a).entries ++ later.entries; end = (decode a).end + later.end }
part_is_prefix = part_read

-- Records cut off at any byte: the cut loses the record that it cuts, and those after it, and its start is found.
pub cut_anywhere : (entries : List Entry) (k : ℕ) → AllRecordable entries
    → CutAt entries k (decode (take k (records_of entries)))
cut_anywhere = cut_read

-- A cut of the last record loses this one alone.
pub cut_loses_one : (entries : List Entry) (e : Entry) (k : ℕ) → AllRecordable entries → Recordable e
    → k < length (encode e)
    → decode (records_of entries ++ take k (encode e))
    ≡ record { entries = entries; end = length (records_of entries) }
cut_loses_one = torn_lost

-- It is told as torn.
pub cut_is_torn : (e : Entry) (k : ℕ) → Recordable e → 0 < k → k < length (encode e)
    → stop_at (take k (encode e)) ≡ 2
cut_is_torn = torn_is_two

-- So is a header.
pub cut_header_is_torn : (v t : ℕ) (bytes : List ℕ) → 0 < length bytes → length bytes < 20
    → header_stop v t bytes ≡ 2
cut_header_is_torn = header_torn

-- The end of what is read lies in the bytes, and cut off there they hold the same.
pub ends_within : (bytes : List ℕ) → (decode bytes).end ≤ length bytes
ends_within = end_within

pub cut_at_end : (bytes : List ℕ) → decode (take (decode bytes).end bytes) ≡ decode bytes
cut_at_end = trimmed_read

-- After whole records alone, what is appended is read as it would be alone.
pub appended : (a b : List ℕ) → (decode a).end ≡ length a
    → decode (a ++ b) ≡ record { entries = (decode a).entries ++ (decode b).entries; end = (decode a).end + (decode b).end }
appended a b e =
    let q : drop (decode a).end a ≡ [] = ap (λ (n : ℕ). drop n a) e ∙ drop-length a in
    part_read a b ∙ ap (λ (l : List ℕ). joined (decode a) (decode (l ++ b))) q

-- ---- changed bytes

-- A record with another byte at any one place, its size and its checksums included, is told as damaged.
pub change_is_found : (bytes : List ℕ) (i v : ℕ) → stop_at bytes ≡ 0 → AreBytes bytes → v < 256
    → i < record_length bytes → v ≢ get_or bytes i 0 → stop_at (set bytes i v) ≡ 3
change_is_found bytes i v z x k l d = record_changed bytes i v (stop_whole bytes z) x k d l

-- So is a header.
pub header_change_is_found : (v t : ℕ) (bytes : List ℕ) (i n : ℕ) → header_stop v t bytes ≡ 0 → AreBytes bytes
    → n < 256 → i < 20 → n ≢ get_or bytes i 0 → header_stop v t (set bytes i n) ≡ 3
header_change_is_found = header_changed

-- Reading ends before such a record, whatever follows it.
pub change_ends : (entries : List Entry) (e : Entry) (rest : List ℕ) (i v : ℕ) → AllRecordable entries → Recordable e
    → AreBytes rest → v < 256 → i < length (encode e) → v ≢ get_or (encode e) i 0
    → decode (records_of entries ++ (set (encode e) i v ++ rest))
    ≡ record { entries = entries; end = length (records_of entries) }
change_ends entries e rest i v hs h x k l d =
    rest_lost entries (set (encode e) i v ++ rest) hs (damaged_stops (written_changed e rest i v h x k l d))

-- ---- replays

-- The bound of `replay_first` is never met.
pub replay_bound : (n : ℕ) (lent : Lent) (bytes : List ℕ) (m : Mesh) → length bytes ≤ n
    → replay_first n lent bytes m ≡ replay_first (length bytes) lent bytes m
replay_bound = first_bound

-- With a header that is torn, damaged or of other tables nothing is replayed.
pub replay_needs_header : (lent : Lent) (bytes : List ℕ) (at : ℕ) (m : Mesh) →
    let stop = header_stop (vertex_slots m) (triangle_slots m) bytes in
    stop ≢ 0 → replay lent bytes at m ≡ stopped stop 0 m
replay_needs_header = replay_bad

-- A place before the first record is that of the first record.
pub replay_from_front : (lent : Lent) (bytes : List ℕ) (at : ℕ) (m : Mesh) → at ≤ 20
    → replay lent bytes at m ≡ replay lent bytes 0 m
replay_from_front = same_front

-- With its header a journal is replayed up to the first record that is none, has too many numbers or is refused.
pub replay_tells : (lent : Lent) (bytes : List ℕ) (at : ℕ) (m : Mesh)
    → header_stop (vertex_slots m) (triangle_slots m) bytes ≡ 0
    → (r : Replay) × (replay lent bytes at m ≡ started_at (max 20 at) r) × ReplayOf lent (drop (max 20 at) bytes) m r
replay_tells = replay_of

-- It always stops, and its number says why: `stop_at` tells 1 to 4, and so does a header, or 6; 5 and 7 are its own.
pub replay_has_a_reason : (lent : Lent) (bytes : List ℕ) (at : ℕ) (m : Mesh) →
    let r = replay lent bytes at m in
    (1 ≤ r.stop) × (r.stop ≤ 7)
replay_has_a_reason = replay_stops

-- The mesh is that after the calls of the records replayed, the first of those that are read, on any bytes.
pub replay_leaves : (lent : Lent) (bytes : List ℕ) (at : ℕ) (m : Mesh) →
    let r = replay lent bytes at m in
    r.mesh ≡ after (calls_of lent.spares (take r.records (decode (drop (max 20 at) bytes)).entries)) m
replay_leaves = replay_mesh

-- These are all that are read, unless it stops with 5 or 7.
pub replay_is_whole : (lent : Lent) (bytes : List ℕ) (at : ℕ) (m : Mesh)
    → header_stop (vertex_slots m) (triangle_slots m) bytes ≡ 0 →
    let r = replay lent bytes at m in
    let read = decode (drop (max 20 at) bytes) in
    r.stop ≢ 5 → r.stop ≢ 7
    → (r.records ≡ length read.entries) × (r.end ≡ max 20 at + read.end)
    × (r.stop ≡ stop_at (drop r.end bytes)) × (r.refusal ≡ 0)
replay_is_whole = replay_all

-- What the spare tables hold does not matter.
pub replay_alike : (lent later : Lent) (bytes : List ℕ) (at : ℕ) (m : Mesh) → LentAlike lent later
    → replay lent bytes at m ≡ replay later bytes at m
replay_alike = lent_alike

-- A replay of a part, and then from where it stopped, for whatever reason, of the whole, is a replay of the whole; the
-- spare tables may hold other things then.
pub replay_in_parts : (lent later : Lent) (a b : List ℕ) (at : ℕ) (m : Mesh) → LentAlike lent later → at ≤ length a →
    let r = replay lent a at m in
    replay lent (a ++ b) at m ≡ and_then r (replay later (a ++ b) r.end r.mesh)
replay_in_parts lent later a b at m L h =
    let r = replay lent a at m in
    in_parts lent a b at m h ∙ ap (and_then r) (lent_alike lent later (a ++ b) r.end r.mesh L)

-- ---- what a record does

-- What a list, or a box, does to the mesh does not depend on the spare tables lent, if both or none have its lengths.
pub room_for_list : (list : List ℕ) (s t : Spares) (m : Mesh) → same_sizes s m ≡ same_sizes t m
    → ((list_call list s m).answer.refusal ≡ (list_call list t m).answer.refusal)
    × ((list_call list s m).mesh ≡ (list_call list t m).mesh)
room_for_list list s t m e = let a = list_alike s t m e list in (a.refusal, a.mesh)

pub room_for_box : (b : Box) (s t : Spares) (m : Mesh) → same_sizes s m ≡ same_sizes t m
    → ((box_call b s m).answer.refusal ≡ (box_call b t m).answer.refusal)
    × ((box_call b s m).mesh ≡ (box_call b t m).mesh)
room_for_box b s t m e = let a = box_alike s t m e b in (a.refusal, a.mesh)

-- A change that is carried out, with a note or a report or without, and its record leave the same mesh.
pub record_does_the_same : (spares : Spares) (m : Mesh) → SameSizes spares m → (c : Change)
    → (changed c m).answer.refusal ≡ 0 →
    let again = changed (call_of spares (entry_for c)) m in
    (again.answer.refusal ≡ 0) × (again.mesh ≡ (changed c m).mesh)
record_does_the_same spares m L c z = let a = carried_again spares m L c z in (a.refusal, a.mesh)

-- Of a note the entries that it says it has are enough: four, and nine for each slot.
pub note_cut : (note : List ℕ) (m : Mesh) → take_back_call (take (4 + 9 * note_slots note) note) m ≡ take_back_call note m
note_cut = cut_note

-- Spare tables that fit a mesh fit it after every history.
pub spares_fit_after : (spares : Spares) (calls : List Call) (m : Mesh) → SameSizes spares m
    → SameSizes spares (after calls m)
spares_fit_after spares calls m = sizes_on (after_slots calls m)

-- ---- histories

-- The journal of a history, one after the other.
pub journal_goes_on : (calls later : List Call) (m : Mesh)
    → (recorded (calls ++ later) m ≡ recorded calls m ++ recorded later (after calls m))
    × (after (calls ++ later) m ≡ after later (after calls m))
journal_goes_on calls later m = (recorded_both calls later m, after_both calls later m)

-- The records of a history, made again with any spare tables of the right lengths, are each carried out, and leave its
-- mesh, in every slot.
pub history_is_made_again : (spares : Spares) (calls : List Call) (m : Mesh) → SameSizes spares m
    → EachCarried spares (recorded calls m) m × (after (calls_of spares (recorded calls m)) m ≡ after calls m)
history_is_made_again = history_again

-- The journal of a history rebuilds its mesh, in every slot, and nothing in it is refused.
pub history_is_rebuilt : (lent : Lent) (calls : List Call) (m : Mesh) → SlotsFit m → SameSizes lent.spares m
    → AllRecordable (recorded calls m) → RoomForEach lent.numbers (recorded calls m) →
    let journal = journal_of m (recorded calls m) in
    replay lent journal 0 m ≡ record {
      records = length (recorded calls m);
      end = length journal;
      stop = 1;
      refusal = 0;
      mesh = after calls m;
    }
history_is_rebuilt = history_alone

-- So it does with anything behind it that is no record: a torn one, a damaged one, other bytes.
pub history_is_rebuilt_before : (lent : Lent) (calls : List Call) (m : Mesh) → SlotsFit m → SameSizes lent.spares m
    → AllRecordable (recorded calls m) → RoomForEach lent.numbers (recorded calls m)
    → (rest : List ℕ) → stop_at rest ≢ 0 →
    let journal = journal_of m (recorded calls m) in
    replay lent (journal ++ rest) 0 m ≡ record {
      records = length (recorded calls m);
      end = length journal;
      stop = stop_at rest;
      refusal = 0;
      mesh = after calls m;
    }
history_is_rebuilt_before = history_replayed

-- Cut off at any byte behind its header, it rebuilds the mesh after the first calls, all but those from the one on
-- whose record is cut.
pub cut_history : (lent : Lent) (calls : List Call) (m : Mesh) (k : ℕ) → SlotsFit m → SameSizes lent.spares m
    → AllRecordable (recorded calls m) → RoomForEach lent.numbers (recorded calls m) → 20 ≤ k
    → CutReplay calls m k (replay lent (take k (journal_of m (recorded calls m))) 0 m)
cut_history = cut_replayed

-- With another byte at any place behind its header, it rebuilds the mesh after the first calls, all but those from the
-- one on whose record has this byte.
pub changed_history : (lent : Lent) (calls : List Call) (m : Mesh) (i v : ℕ) → SlotsFit m
    → SameSizes lent.spares m → AllRecordable (recorded calls m) → RoomForEach lent.numbers (recorded calls m)
    → 20 ≤ i → v < 256 →
    let journal = journal_of m (recorded calls m) in
    i < length journal → v ≢ get_or journal i 0 → ChangedReplay calls m i (replay lent (set journal i v) 0 m)
changed_history = changed_replayed

-- ---- any bytes, at any time

-- Replays of any bytes may stand anywhere among the calls: what is left is what all their calls leave. So every theorem
-- about lists of calls speaks of replays too.
pub replays_are_calls : (deeds : List Deed) (m : Mesh) → after_deeds deeds m ≡ after (calls_in_all deeds m) m
replays_are_calls = deeds_are_calls

-- The customer's third demand: once a load among them all was accepted, the claim holds.
pub third_demand_with_replays : (deeds : List Deed) (m : Mesh) (bytes : List ℕ)
    → last_load (calls_in_all deeds m) m nothing ≡ cage bytes
    → Kept bytes (after_deeds deeds m) × Sound (after_deeds deeds m)
third_demand_with_replays deeds m bytes e =
    let q = sym (deeds_are_calls deeds m) in
    (subst (Kept bytes) q (third_demand _ m bytes e), subst Sound q (sound_after _ m bytes e))

-- Sound tables stay sound.
pub sound_kept_with_replays : (deeds : List Deed) (m : Mesh) → Sound m → Sound (after_deeds deeds m)
sound_kept_with_replays deeds m S = subst Sound (sym (deeds_are_calls deeds m)) (sound_kept _ m S)
