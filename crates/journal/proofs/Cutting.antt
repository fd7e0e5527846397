-- Parts of journals: a torn record is not read, what is read of a part is read of the whole, and what is read is what
-- was written.
use Prim.Native.Nat.{ℕ, ◌+◌, ◌≤◌, ◌<◌}
use native.Mathlib.Nat.{zero-add}
use native.Mathlib.Omega.{arith}
use mathlib.Core.List.{List, [], ◌∷◌, ◌++◌, append_assoc, append-nil}
use mathlib.Core.Logic.{◌≢◌}
use mathlib.Core.Path.{◌≡◌, refl, ap, sym, ◌∙◌}
use lib.ListN.{length, take, drop, length-append, length-take, length-drop}
use lib.Seq.{take-append-le, drop-append-le, drop-drop, take-add, get_or-drop, length-take-le, take-take, get_or-take}
use lib.Seq.{ext_get_or}
use Rattle.crc.proofs.Bytes.{take_bytes, drop_bytes}
use Rattle.crc.specs.Bytes.{AreBytes}
use Rattle.crc.specs.Crc.{crc32}
use Rattle.rules.specs.Numbers.{number_at}
use Rattle.journal.specs.Journal.{Entry, four_bytes, body_of, record_of, encode, size_at}
use Rattle.journal.specs.Journal.{kind_at, body_at, record_length, stop_at, entry_at}
use Rattle.journal.specs.Records.{records_of, Records, no_records, following, decode}
use Rattle.journal.specs.Recording.{Recordable, AllRecordable}
use Rattle.journal.proofs.Entries.{entry_made}
use Rattle.journal.proofs.Numbers.{number_earlier, number_take, number_fits, four_at}
use Rattle.journal.proofs.Reading.{Whole, stop_whole, Reads, stops, goes, reads, decodes}
use Rattle.journal.proofs.Reading.{decode_stops, goes_within, reads_within}
use Rattle.journal.proofs.Writing.{length_encode, entry_size, records_read, joined, all_of}

-- ---- a torn record

torn_stops : (e : Entry) (k : ℕ) → Recordable e → k < length (encode e) → stop_at (take k (encode e)) ≢ 0
torn_stops e k h l z =
    let r = encode e in
    let w = (stop_whole (take k r) z).long in
    let n : length (take k r) ≡ k = length-take-le k r (omega arith) in
    let s : size_at (take k r) ≡ length (body_of e) =
    number_take k r 0 (omega arith) ∙ rw (append-nil r) at (entry_size e [] h) in
    omega (arith, length_encode e)

nothing_more : (r : Records) → joined r no_records ≡ r
nothing_more r = let e : r.end + 0 ≡ r.end = omega arith in rw (append-nil r.entries, e) refl

-- After whole records, bytes that no record starts with are lost, and their start is found.
pub rest_lost : (entries : List Entry) (rest : List ℕ) → AllRecordable entries → stop_at rest ≢ 0
    → decode (records_of entries ++ rest) ≡ all_of entries
rest_lost entries rest hs x =
    records_read entries rest hs
    ∙ ap (joined (all_of entries)) (decode_stops rest x)
    ∙ nothing_more (all_of entries)

pub torn_lost : (entries : List Entry) (e : Entry) (k : ℕ) → AllRecordable entries → Recordable e
    → k < length (encode e) → decode (records_of entries ++ take k (encode e)) ≡ all_of entries
torn_lost entries e k hs h l = rest_lost entries (take k (encode e)) hs (torn_stops e k h l)

-- ---- a part of any bytes

pub record Longer (a b : List ℕ) : Type 0 where
  pub whole : Whole (a ++ b)
  pub size : size_at (a ++ b) ≡ size_at a
  pub entry : entry_at (a ++ b) ≡ entry_at a
  pub rest : drop (record_length a) (a ++ b) ≡ drop (record_length a) a ++ b

pub longer : (a b : List ℕ) → Whole a → Longer a b
longer a b w =
    let n = size_at a in
    let l = w.long in
    let size : size_at (a ++ b) ≡ n = number_earlier a b 0 (omega arith) in
    let kind : kind_at (a ++ b) ≡ kind_at a = number_earlier a b 4 (omega arith) in
    let behind : drop 12 (a ++ b) ≡ drop 12 a ++ b = drop-append-le 12 a b (omega arith) in
    let body : body_at (a ++ b) ≡ body_at a =
    rw (size, behind) (take-append-le n (drop 12 a) b (simp length-drop (omega arith))) in
    let front : take 8 (a ++ b) ≡ take 8 a = take-append-le 8 a b (omega arith) in
    record {
      whole = record {
        head = number_earlier a b 8 (omega arith) ∙ w.head ∙ ap crc32 (sym front);
        long = rw (size, length-append) (omega arith);
        body = ap (λ (k : ℕ). number_at (a ++ b) (12 + k)) size ∙ number_earlier a b (12 + n) (omega arith)
            ∙ w.body ∙ ap crc32 (sym body);
        kind = rw (size, kind) w.kind;
      };
      size = size;
      entry = rw (kind, body) refl;
      rest = drop-append-le (record_length a) a b l;
    }

goes_longer : (a b : List ℕ) (r s : Records) → Whole a → Reads (drop (record_length a) a ++ b) (joined r s)
    → Reads (a ++ b) (joined (following (entry_at a) (record_length a) r) s)
goes_longer a b r s w x =
    let n = longer a b w in
    let y : Reads (drop (record_length (a ++ b)) (a ++ b)) (joined r s) = rw (n.size, n.rest) x in
    let q : record_length a + (r.end + s.end) ≡ record_length a + r.end + s.end = omega arith in
    let e : following (entry_at (a ++ b)) (record_length (a ++ b)) (joined r s)
    ≡ joined (following (entry_at a) (record_length a) r) s = rw (n.entry, n.size, q) refl in
    rw e at (goes n.whole y)

stops_longer : (a b : List ℕ) → Reads (a ++ b) (joined no_records (decode (a ++ b)))
stops_longer a b = rw zero-add (reads (a ++ b))

later_left : (a b : List ℕ) (n m : ℕ) → drop m (drop n a) ++ b ≡ drop (n + m) a ++ b
later_left a b n m = ap (λ (l : List ℕ). l ++ b) (drop-drop m n a)

reads_longer : (b : List ℕ) {a : List ℕ} {r : Records} → Reads a r
    → Reads (a ++ b) (joined r (decode (drop r.end a ++ b)))
reads_longer b (stops {bytes = a} x) = stops_longer a b
reads_longer b (goes {bytes = a} {r} w s) =
    let e = later_left a b (record_length a) r.end in
    goes_longer a b r _ w (rw e at (reads_longer b s))

pub part_read : (a b : List ℕ) → decode (a ++ b) ≡ joined (decode a) (decode (drop (decode a).end a ++ b))
part_read a b = decodes (reads_longer b (reads a))

-- ---- what is read is what was written

-- A whole record is that of its kind and its body.
length_body : (a : List ℕ) → Whole a → length (body_at a) ≡ size_at a
length_body a w =
    let l = w.long in
    length-take-le (size_at a) (drop 12 a) (simp length-drop (omega arith))

pub body_bytes_at : (a : List ℕ) → AreBytes a → AreBytes (body_at a)
body_bytes_at a h = take_bytes (size_at a) (drop 12 a) (drop_bytes 12 a h)

head_made : (a : List ℕ) → AreBytes a → Whole a → four_bytes (size_at a) ++ four_bytes (kind_at a) ≡ take 8 a
head_made a h w =
    let l = w.long in
    rw (four_at a 0 h (omega arith), four_at a 4 h (omega arith), take-add 4 4 a) refl

record_made : (a : List ℕ) → AreBytes a → Whole a → record_of (kind_at a) (body_at a) ≡ take (record_length a) a
unfolding record_of
record_made a h w =
    let n = size_at a in
    let l = w.long in
    let c : four_bytes (crc32 (take 8 a)) ≡ take 4 (drop 8 a) =
    ap four_bytes (sym w.head) ∙ four_at a 8 h (omega arith) in
    let d : four_bytes (crc32 (body_at a)) ≡ take 4 (drop (12 + n) a) =
    ap four_bytes (sym w.body) ∙ four_at a (12 + n) h (omega arith) in
    let e : record_length a ≡ 12 + n + 4 = omega arith in
    rw (length_body a w, head_made a h w, c, d, e, take-add (12 + n) 4 a, take-add 12 n a, take-add 8 4 a)
    (simp append_assoc)

entry_encoded : (a : List ℕ) → AreBytes a → Whole a → encode (entry_at a) ≡ take (record_length a) a
entry_encoded a h w =
    let m = entry_made (body_at a) (body_bytes_at a h) (kind_at a) (rw (length_body a w) w.kind) in
    rw (m.kinds, m.bodies) (record_made a h w)

-- What is read can be recorded.
entry_recordable : (a : List ℕ) → AreBytes a → Whole a → Recordable (entry_at a)
entry_recordable a h w =
    let m = entry_made (body_at a) (body_bytes_at a h) (kind_at a) (rw (length_body a w) w.kind) in
    (m.fits, rw (m.bodies, length_body a w) (number_fits a 0 h))

cons_made : (e : Entry) (entries : List Entry) (a : List ℕ) (n m : ℕ) → encode e ≡ take n a
    → records_of entries ≡ take m (drop n a) → records_of (e ∷ entries) ≡ take (n + m) a
unfolding records_of
cons_made e entries a n m p q = rw (p, q) (sym (take-add n m a))

none_made : (a : List ℕ) → records_of [] ≡ take 0 a
unfolding records_of
none_made a = refl

reads_made : {a : List ℕ} {r : Records} → AreBytes a → Reads a r → records_of r.entries ≡ take r.end a
reads_made {a} h (stops x) = none_made a
reads_made {a} h (goes {r = r} w s) =
    cons_made (entry_at a) r.entries a (record_length a) r.end (entry_encoded a h w)
    (reads_made (drop_bytes (record_length a) a h) s)

reads_recordable : {a : List ℕ} {r : Records} → AreBytes a → Reads a r → AllRecordable r.entries
reads_recordable h (stops x) = tt
reads_recordable {a} h (goes w s) =
    (entry_recordable a h w, reads_recordable (drop_bytes (record_length a) a h) s)

pub read_written : (a : List ℕ) → AreBytes a → records_of (decode a).entries ≡ take (decode a).end a
read_written a h = reads_made h (reads a)

pub read_recordable : (a : List ℕ) → AreBytes a → AllRecordable (decode a).entries
read_recordable a h = reads_recordable h (reads a)

-- ---- the bytes up to the end

pub end_within : (a : List ℕ) → (decode a).end ≤ length a
end_within a = reads_within (reads a)

drop_take : (n m : ℕ) (l : List ℕ) → drop n (take (n + m) l) ≡ take m (drop n l)
drop_take n m l =
    ext_get_or 0 (drop n (take (n + m) l)) (take m (drop n l)) (simp (length-drop, length-take) (omega arith)) (λ i h.
    let q : i < m = omega (arith, simp (length-drop, length-take) at h) in
    let q' : n + i < n + m = omega arith in
    rw (
      get_or-drop n (take (n + m) l) i 0,
      get_or-take (n + m) l (n + i) 0 q',
      get_or-take m (drop n l) i 0 q,
      get_or-drop n l i 0,
    ) refl)

record Shorter (k : ℕ) (a : List ℕ) : Type 0 where
  whole : Whole (take k a)
  size : size_at (take k a) ≡ size_at a
  entry : entry_at (take k a) ≡ entry_at a

shorter : (m : ℕ) (a : List ℕ) → Whole a → record_length a + m ≤ length a → Shorter (record_length a + m) a
shorter m a w h =
    let n = size_at a in
    let k = record_length a + m in
    let size : size_at (take k a) ≡ n = number_take k a 0 (omega arith) in
    let kind : kind_at (take k a) ≡ kind_at a = number_take k a 4 (omega arith) in
    let e : 12 + (4 + n + m) ≡ k = omega arith in
    let behind : drop 12 (take k a) ≡ take (4 + n + m) (drop 12 a) = rw e at (drop_take 12 (4 + n + m) a) in
    let body : body_at (take k a) ≡ body_at a = rw (size, behind) (take-take n (4 + n + m) (drop 12 a) (omega arith)) in
    record {
      whole = record {
        head = number_take k a 8 (omega arith) ∙ w.head ∙ ap crc32 (sym (take-take 8 k a (omega arith)));
        long = rw (size, length-take-le k a h) (omega arith);
        body = ap (λ (i : ℕ). number_at (take k a) (12 + i)) size ∙ number_take k a (12 + n) (omega arith)
            ∙ w.body ∙ ap crc32 (sym body);
        kind = rw (size, kind) w.kind;
      };
      size = size;
      entry = rw (kind, body) refl;
    }

pub goes_shorter : (a : List ℕ) (r : Records) → Whole a → r.end ≤ length (drop (record_length a) a)
    → Reads (take r.end (drop (record_length a) a)) r
    → Reads (take (record_length a + r.end) a) (following (entry_at a) (record_length a) r)
goes_shorter a r w h x =
    let s = shorter r.end a w (goes_within a r.end w h) in
    let b = take (record_length a + r.end) a in
    let t : Reads (drop (record_length b) b) r = rw (s.size, drop_take (record_length a) r.end a) x in
    let e : following (entry_at b) (record_length b) r ≡ following (entry_at a) (record_length a) r =
    rw (s.entry, s.size) refl in
    rw e at (goes s.whole t)

pub none_shorter : (a : List ℕ) → Reads (take 0 a) no_records
none_shorter a = stops (λ e. let w = (stop_whole (take 0 a) e).long in omega arith)

reads_shorter : {a : List ℕ} {r : Records} → Reads a r → Reads (take r.end a) r
reads_shorter (stops {bytes = a} x) = none_shorter a
reads_shorter (goes {bytes = a} {r} w s) = goes_shorter a r w (reads_within s) (reads_shorter s)

pub trimmed_read : (a : List ℕ) → decode (take (decode a).end a) ≡ decode a
trimmed_read a = decodes (reads_shorter (reads a))
