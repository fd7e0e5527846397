-- The journal of a history with one byte changed, in whichever record.
use Prim.Native.Nat.{ℕ, suc, ◌+◌, ◌-◌, ◌≤◌, ◌<◌}
use native.Mathlib.Nat.{zero-add}
use native.Mathlib.Omega.{arith}
use borrow.Author.Tests.{ltb-true, ltb-false}
use mathlib.Core.Bool.{Bool, true, false}
use mathlib.Core.List.{List, [], ◌∷◌, ◌++◌, append_assoc}
use mathlib.Core.Logic.{◌≢◌}
use mathlib.Core.Path.{◌≡◌, refl, ap, sym, subst, ◌∙◌}
use lib.Dec.{ltb}
use lib.ListN.{length, get_or, set, length-append, get_or-append}
use lib.Seq.{set-append_left, get_or-append-add}
use Rattle.crc.specs.Bytes.{AreBytes}
use Rattle.rules.specs.History.{Call, after}
use Rattle.rules.specs.Spares.{SameSizes}
use Rattle.rules.specs.Tables.{Mesh, vertex_slots, triangle_slots}
use Rattle.journal.specs.Journal.{Entry, encode, header_of, stop_at}
use Rattle.journal.specs.Records.{records_of}
use Rattle.journal.specs.Recording.{AllRecordable, recorded, RoomForEach, journal_of}
use Rattle.journal.specs.Recording.{SlotsFit, ChangedReplay}
use Rattle.journal.specs.Replay.{Lent, started_at, replay}
use Rattle.journal.proofs.Bytes.{no_bytes, both_bytes}
use Rattle.journal.proofs.Changed.{written_changed}
use Rattle.journal.proofs.Headers.{length_header}
use Rattle.journal.proofs.Histories.{recorded_leads, length_journal, journal_replayed, replayed}
use Rattle.journal.proofs.Histories.{some_recordable, some_room, first_calls, same_later}
use Rattle.journal.proofs.Writing.{encode_bytes}

pub records_bytes : (entries : List Entry) → AllRecordable entries → AreBytes (records_of entries)
unfolding records_of
records_bytes [] h = no_bytes
records_bytes (e ∷ entries) h =
    both_bytes (encode e) (records_of entries) (encode_bytes e h.0) (records_bytes entries h.1)

-- A change in the later part of a list.
set_later : (xs ys : List ℕ) (j v : ℕ) → set (xs ++ ys) (length xs + j) v ≡ xs ++ set ys j v
set_later [] ys j v = rw (zero-add j) refl
set_later (x ∷ xs) ys j v =
    let e : suc (length xs) + j ≡ suc (length xs + j) = omega arith in
    rw e (ap (λ (l : List ℕ). x ∷ l) (set_later xs ys j v))

-- The bytes are the first records, a changed one, and the later ones.
record Damage (entries : List Entry) (i v : ℕ) : Type 0 where
  done : List Entry
  here : Entry
  later : List Entry
  place : ℕ
  first : entries ≡ done ++ (here ∷ later)
  made : set (records_of entries) i v ≡ records_of done ++ (set (encode here) place v ++ records_of later)
  inside : place < length (encode here)
  at : i ≡ length (records_of done) + place
  was : get_or (records_of entries) i 0 ≡ get_or (encode here) place 0

first_damaged : (e : Entry) (entries : List Entry) (i v : ℕ) → i < length (encode e) → Damage (e ∷ entries) i v
unfolding records_of
first_damaged e entries i v l = record {
  done = [];
  here = e;
  later = entries;
  place = i;
  first = refl;
  made = set-append_left (encode e) (records_of entries) i v l;
  inside = l;
  at = omega arith;
  was = get_or-append (encode e) (records_of entries) 0 i l;
}

later_damaged : (e : Entry) (entries : List Entry) (j v : ℕ) → Damage entries j v
    → Damage (e ∷ entries) (length (encode e) + j) v
unfolding records_of
later_damaged e entries j v D = record {
  done = e ∷ D.done;
  here = D.here;
  later = D.later;
  place = D.place;
  first = ap (λ (l : List Entry). e ∷ l) D.first;
  made = set_later (encode e) (records_of entries) j v
      ∙ ap (λ (l : List ℕ). encode e ++ l) D.made
      ∙ sym (append_assoc (encode e) (records_of D.done)
      (set (encode D.here) D.place v ++ records_of D.later));
  inside = D.inside;
  at = let a = D.at in rw length-append (omega arith);
  was = get_or-append-add (encode e) (records_of entries) j 0 ∙ D.was;
}

damage_if : (e : Entry) (entries : List Entry) (i v : ℕ) (t : Bool) → ltb i (length (encode e)) ≡ t
    → i < length (records_of (e ∷ entries))
    → ((j : ℕ) → j < length (records_of entries) → Damage entries j v) → Damage (e ∷ entries) i v
unfolding records_of
damage_if e entries i v true q l D = first_damaged e entries i v (ltb-true i (length (encode e)) q)
damage_if e entries i v false q l D =
    let n = length (encode e) in
    let k = ltb-false i n q in
    let b : i < n + length (records_of entries) = rw length-append at l in
    let j : n + (i - n) ≡ i = omega arith in
    subst (λ (x : ℕ). Damage (e ∷ entries) x v) j (later_damaged e entries (i - n) v (D (i - n) (omega arith)))

damages : (entries : List Entry) (v i : ℕ) → i < length (records_of entries) → Damage entries i v
unfolding records_of
damages [] v i l = absurd (omega arith)
damages (e ∷ entries) v i l = damage_if e entries i v _ refl l (λ j k. damages entries v j k)

later_recordable : (done later : List Entry) → AllRecordable (done ++ later) → AllRecordable later
later_recordable [] later h = h
later_recordable (e ∷ done) later h = later_recordable done later h.1

module _ (lent : Lent) (calls : List Call) (m : Mesh) (i v : ℕ) (S : SlotsFit m) (L : SameSizes lent.spares m)
    (h : AllRecordable (recorded calls m)) (n : RoomForEach lent.numbers (recorded calls m)) (l : 20 ≤ i)
    (b : v < 256) where
  abbrev all : List Entry
  all = recorded calls m

  damage_law : (done left : List Call) (e : Entry) (later : List Entry) (j : ℕ) → calls ≡ done ++ left
      → all ≡ recorded done m ++ (e ∷ later)
      → set (records_of all) (i - 20) v ≡ records_of (recorded done m) ++ (set (encode e) j v ++ records_of later)
      → j < length (encode e) → i - 20 ≡ length (records_of (recorded done m)) + j → v ≢ get_or (encode e) j 0
      → ChangedReplay calls m i (replay lent (set (journal_of m all) i v) 0 m)
  unfolding journal_of
  damage_law done left e later j first q made inside at d =
      let H = header_of (vertex_slots m) (triangle_slots m) in
      let es = recorded done m in
      let rest = set (encode e) j v ++ records_of later in
      let g : AllRecordable (es ++ (e ∷ later)) = rw q at h in
      let a = later_recordable es (e ∷ later) g in
      let z : stop_at rest ≡ 3 =
      written_changed e (records_of later) j v a.0 (records_bytes later a.1) b inside d in
      let k : length H + (i - 20) ≡ i = omega (arith, length_header (vertex_slots m) (triangle_slots m)) in
      let c : set (H ++ records_of all) i v ≡ (H ++ records_of es) ++ rest =
      ap (λ (x : ℕ). set (H ++ records_of all) x v) (sym k)
      ∙ set_later H (records_of all) (i - 20) v
      ∙ ap (λ (x : List ℕ). H ++ x) made
      ∙ sym (append_assoc H (records_of es) rest) in
      let r : replay lent (set (journal_of m all) i v) 0 m ≡ started_at 20 (replayed es rest (after done m)) =
      ap (λ (x : List ℕ). replay lent x 0 m) c
      ∙ journal_replayed lent es rest m (after done m) S (some_recordable es (e ∷ later) g)
      (some_room lent.numbers es (e ∷ later) (rw q at n)) (λ x. let y = z in omega arith)
      (recorded_leads lent.spares done m L) in
      rw r (record {
        done = done;
        left = left;
        first = first;
        mesh = refl;
        records = refl;
        end = sym (length_journal m es);
        before = omega arith;
        here = λ f others x.
            let s : e ∷ later ≡ f ∷ others = same_later es (e ∷ later) (f ∷ others) (sym q ∙ x) in
            let t : e ≡ f = cc in
            subst (λ (y : Entry). i < 20 + length (records_of es) + length (encode y)) t (omega arith);
        stop = z;
      })

  damage_found : Damage all (i - 20) v → v ≢ get_or (records_of all) (i - 20) 0
      → ChangedReplay calls m i (replay lent (set (journal_of m all) i v) 0 m)
  damage_found D d =
      let F = first_calls calls m D.done (D.here ∷ D.later) D.first in
      let f : D.done ≡ recorded F.done m = sym F.records in
      let rest = set (encode D.here) D.place v ++ records_of D.later in
      damage_law F.done F.left D.here D.later D.place F.first
      (D.first ∙ ap (λ (x : List Entry). x ++ (D.here ∷ D.later)) f)
      (D.made ∙ ap (λ (x : List Entry). records_of x ++ rest) f)
      D.inside (rw f at D.at) (λ q. d (q ∙ sym D.was))

  at_record : get_or (journal_of m all) i 0 ≡ get_or (records_of all) (i - 20) 0
  unfolding journal_of
  at_record =
      let H = header_of (vertex_slots m) (triangle_slots m) in
      let k : i ≡ length H + (i - 20) = omega (arith, length_header (vertex_slots m) (triangle_slots m)) in
      ap (λ (x : ℕ). get_or (H ++ records_of all) x 0) k ∙ get_or-append-add H (records_of all) (i - 20) 0

  pub changed_replayed : i < length (journal_of m all) → v ≢ get_or (journal_of m all) i 0
      → ChangedReplay calls m i (replay lent (set (journal_of m all) i v) 0 m)
  changed_replayed u d =
      damage_found (damages all v (i - 20) (omega (arith, length_journal m all))) (λ q. d (q ∙ sym at_record))
