-- What is written is read.
use Prim.Native.Nat.{ℕ, ◌+◌, ◌≤◌, ◌<◌}
use native.Mathlib.Nat.{add_assoc, zero-add}
use native.Mathlib.Omega.{arith}
use mathlib.Core.Bool.{true}
use mathlib.Core.List.{List, [], ◌∷◌, ◌++◌, append_assoc}
use mathlib.Core.Path.{◌≡◌, refl, ap, sym, ◌∙◌}
use lib.ListN.{length, take, drop, length-append}
use lib.Seq.{take_at, drop_at}
use Rattle.crc.proofs.Changed.{crc_fits}
use Rattle.crc.specs.Bytes.{AreBytes}
use Rattle.crc.specs.Crc.{crc32}
use Rattle.rules.specs.Numbers.{number_at}
use Rattle.journal.specs.Journal.{Entry, four_bytes, kind_of, body_of, sealed, record_of, encode}
use Rattle.journal.specs.Journal.{size_at, kind_at, body_at, record_length, is_kind, entry_of, entry_at}
use Rattle.journal.specs.Records.{records_of, Records, following, decode}
use Rattle.journal.specs.Recording.{Recordable, AllRecordable}
use Rattle.journal.proofs.Bytes.{both_bytes, four_are_bytes, sealed_bytes}
use Rattle.journal.proofs.Entries.{entry_back, body_bytes, kind_fits, kind_takes_body}
use Rattle.journal.proofs.Numbers.{number_written, number_after, length_four}
use Rattle.journal.proofs.Reading.{Whole, decode_goes}

-- ---- a record and what follows it

-- The size and the kind.
abbrev pub head_of : ℕ → List ℕ → List ℕ
head_of kind body = four_bytes (length body) ++ four_bytes kind

length_head : (kind : ℕ) (body : List ℕ) → length (head_of kind body) ≡ 8
length_head kind body = simp (length-append, length_four)

head_bytes : (kind : ℕ) (body : List ℕ) → AreBytes (head_of kind body)
head_bytes kind body =
    both_bytes (four_bytes (length body)) (four_bytes kind) (four_are_bytes (length body)) (four_are_bytes kind)

pub record_bytes : (kind : ℕ) (body : List ℕ) → AreBytes body → AreBytes (record_of kind body)
unfolding record_of
record_bytes kind body a =
    both_bytes (sealed (head_of kind body)) (sealed body) (sealed_bytes (head_of kind body) (head_bytes kind body))
    (sealed_bytes body a)

pub length_record : (kind : ℕ) (body : List ℕ) → length (record_of kind body) ≡ 16 + length body
unfolding record_of
length_record kind body = simp (length-append, length_four) (omega arith)

-- The parts of a record, in front of anything.
record Parts (kind : ℕ) (body rest r : List ℕ) : Type 0 where
  size : size_at r ≡ length body
  kinds : kind_at r ≡ kind
  head : number_at r 8 ≡ crc32 (head_of kind body)
  front : take 8 r ≡ head_of kind body
  bodies : body_at r ≡ body
  seal : number_at r (12 + length body) ≡ crc32 body
  after : drop (16 + length body) r ≡ rest
  long : 16 + length body ≤ length r

module _ (kind : ℕ) (body rest : List ℕ) where
  -- What stands behind the body, behind the first checksum, behind the head.
  abbrev third : List ℕ
  third = four_bytes (crc32 body) ++ rest

  abbrev second : List ℕ
  second = body ++ third

  abbrev first : List ℕ
  first = four_bytes (crc32 (head_of kind body)) ++ second

  by_head : record_of kind body ++ rest ≡ head_of kind body ++ first
  unfolding record_of
  by_head = simp append_assoc

  by_size : record_of kind body ++ rest ≡ four_bytes (length body) ++ (four_bytes kind ++ first)
  by_size = by_head ∙ append_assoc (four_bytes (length body)) (four_bytes kind) first

  by_body : record_of kind body ++ rest ≡ sealed (head_of kind body) ++ second
  by_body = by_head ∙ sym (append_assoc (head_of kind body) (four_bytes (crc32 (head_of kind body))) second)

  by_seal : record_of kind body ++ rest ≡ (sealed (head_of kind body) ++ body) ++ third
  by_seal = by_body ∙ sym (append_assoc (sealed (head_of kind body)) body third)

length_sealed : (kind : ℕ) (body : List ℕ) → length (sealed (head_of kind body)) ≡ 12
length_sealed kind body = simp (length-append, length_four)

length_two : (kind : ℕ) (body : List ℕ) → length (sealed (head_of kind body) ++ body) ≡ 12 + length body
length_two kind body = simp (length-append, length_four) (omega arith)

parts : (kind : ℕ) (body rest : List ℕ) → kind < 4294967296 → length body < 4294967296 → AreBytes body
    → Parts kind body rest (record_of kind body ++ rest)
parts kind body rest k l a =
    let h = head_of kind body in
    let n = length body in
    let size : size_at (record_of kind body ++ rest) ≡ n =
    ap (λ (r : List ℕ). number_at r 0) (by_size kind body rest) ∙ number_written n _ l in
    record {
      size = size;
      kinds = ap (λ (r : List ℕ). number_at r 4) (by_size kind body rest)
          ∙ number_after (four_bytes n) kind 4 (first kind body rest) (length_four n) k;
      head = ap (λ (r : List ℕ). number_at r 8) (by_head kind body rest)
          ∙ number_after h (crc32 h) 8 (second kind body rest) (length_head kind body)
          (crc_fits h (head_bytes kind body));
      front = ap (take 8) (by_head kind body rest) ∙ take_at h (first kind body rest) 8 (length_head kind body);
      bodies = rw size (ap (λ (r : List ℕ). take n (drop 12 r)) (by_body kind body rest)
          ∙ ap (take n) (drop_at (sealed h) (second kind body rest) 12 (length_sealed kind body))
          ∙ take_at body (third kind body rest) n refl);
      seal = ap (λ (r : List ℕ). number_at r (12 + n)) (by_seal kind body rest)
          ∙ number_after (sealed h ++ body) (crc32 body) (12 + n) rest (length_two kind body) (crc_fits body a);
      after = drop_at (record_of kind body) rest (16 + n) (length_record kind body);
      long = simp (length-append, length_record) (omega arith);
    }

-- A written record is whole, and read as what it is of.
record_whole : {kind : ℕ} {body rest r : List ℕ} → Parts kind body rest r → is_kind kind (length body) ≡ true → Whole r
record_whole {body = body} {r = r} p c =
    record {
      head = p.head ∙ ap crc32 (sym p.front);
      long = rw p.size p.long;
      body = ap (λ (n : ℕ). number_at r (12 + n)) p.size ∙ p.seal ∙ ap crc32 (sym p.bodies);
      kind = rw (p.size, p.kinds) c;
    }

record_read : (kind : ℕ) (body rest r : List ℕ) (e : Entry) → Parts kind body rest r → is_kind kind (length body) ≡ true
    → entry_of kind body ≡ e → decode r ≡ following e (16 + length body) (decode rest)
record_read kind body rest r e p k q =
    let f : entry_at r ≡ e = rw (p.kinds, p.bodies) q in
    decode_goes r (record_whole p k) ∙ rw (f, p.size, p.after) refl

-- ---- the records of changes

pub length_encode : (e : Entry) → length (encode e) ≡ 16 + length (body_of e)
length_encode e = length_record (kind_of e) (body_of e)

pub encode_bytes : (e : Entry) → Recordable e → AreBytes (encode e)
encode_bytes e h = record_bytes (kind_of e) (body_of e) (body_bytes e h.0)

entry_parts : (e : Entry) (rest : List ℕ) → Recordable e → Parts (kind_of e) (body_of e) rest (encode e ++ rest)
entry_parts e rest h = parts (kind_of e) (body_of e) rest (kind_fits e) h.1 (body_bytes e h.0)

pub entry_read : (e : Entry) (rest : List ℕ) → Recordable e
    → decode (encode e ++ rest) ≡ following e (length (encode e)) (decode rest)
entry_read e rest h =
    rw (length_encode e) (record_read (kind_of e) (body_of e) rest (encode e ++ rest) e (entry_parts e rest h) (kind_takes_body e)
    (entry_back e h.0))

pub entry_whole : (e : Entry) (rest : List ℕ) → Recordable e → Whole (encode e ++ rest)
entry_whole e rest h = record_whole (entry_parts e rest h) (kind_takes_body e)

pub entry_size : (e : Entry) (rest : List ℕ) → Recordable e → size_at (encode e ++ rest) ≡ length (body_of e)
entry_size e rest h = (entry_parts e rest h).size

pub entry_at_encoded : (e : Entry) (rest : List ℕ) → Recordable e → entry_at (encode e ++ rest) ≡ e
entry_at_encoded e rest h =
    let p = entry_parts e rest h in
    rw (p.kinds, p.bodies) (entry_back e h.0)

pub entry_length : (e : Entry) (rest : List ℕ) → Recordable e → record_length (encode e ++ rest) ≡ length (encode e)
entry_length e rest h = rw (entry_size e rest h) (sym (length_encode e))

-- Some records before others.
abbrev pub joined : Records → Records → Records
joined r s = record { entries = r.entries ++ s.entries; end = r.end + s.end }

abbrev pub all_of : List Entry → Records
all_of entries = record { entries = entries; end = length (records_of entries) }

none_read : (rest : List ℕ) → decode (records_of [] ++ rest) ≡ joined (all_of []) (decode rest)
unfolding records_of
none_read rest = rw zero-add refl

more_read : (e : Entry) (entries : List Entry) (r : Records)
    → following e (length (encode e)) (joined (all_of entries) r) ≡ joined (all_of (e ∷ entries)) r
unfolding records_of
more_read e entries r = rw (length-append, add_assoc) refl

cons_read : (e : Entry) (entries : List Entry) (rest : List ℕ) → Recordable e
    → decode (records_of entries ++ rest) ≡ joined (all_of entries) (decode rest)
    → decode (records_of (e ∷ entries) ++ rest) ≡ joined (all_of (e ∷ entries)) (decode rest)
unfolding records_of
cons_read e entries rest h q =
    ap decode (append_assoc (encode e) (records_of entries) rest)
    ∙ entry_read e (records_of entries ++ rest) h
    ∙ ap (following e (length (encode e))) q
    ∙ more_read e entries (decode rest)

pub records_read : (entries : List Entry) (rest : List ℕ) → AllRecordable entries
    → decode (records_of entries ++ rest) ≡ joined (all_of entries) (decode rest)
records_read [] rest h = none_read rest
records_read (e ∷ entries) rest h = cons_read e entries rest h.0 (records_read entries rest h.1)
