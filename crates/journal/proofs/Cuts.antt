-- Records, and the journal of a history, cut off at any byte.
use Prim.Native.Nat.{ℕ, zero, suc, ◌+◌, ◌-◌, ◌≤◌, ◌<◌}
use native.Mathlib.Omega.{arith}
use borrow.Author.Tests.{ltb-true, ltb-false, lt-ltb, eq-eqb, ne_eqb}
use mathlib.Core.Bool.{Bool, true, false}
use mathlib.Core.List.{List, [], ◌∷◌, ◌++◌, append_assoc, append-nil}
use mathlib.Core.Logic.{◌≢◌, ◌⊎◌, inl, inr}
use mathlib.Core.Path.{◌≡◌, refl, ap, sym, subst, ◌∙◌}
use lib.Dec.{eqb, ltb}
use lib.ListN.{length, take, length-append}
use lib.Seq.{take-nil, take-append-le, take-append-add, length-take-le, take-take}
use Rattle.crc.specs.Crc.{crc32}
use Rattle.rules.specs.History.{Call, after}
use Rattle.rules.specs.Spares.{SameSizes}
use Rattle.rules.specs.Tables.{Mesh, vertex_slots, triangle_slots}
use Rattle.journal.specs.Journal.{Entry, body_of, encode, header_of, stop_at, size_at, record_length, holds}
use Rattle.journal.specs.Records.{records_of, decode}
use Rattle.journal.specs.Recording.{Recordable, AllRecordable, recorded, RoomForEach, CutAt, CutReplay}
use Rattle.journal.specs.Recording.{journal_of, SlotsFit}
use Rattle.journal.specs.Replay.{Lent, started_at, replay}
use Rattle.journal.proofs.Cutting.{rest_lost}
use Rattle.journal.proofs.Headers.{length_header}
use Rattle.journal.proofs.Histories.{nothing_left, recorded_leads, length_journal, journal_replayed, replayed}
use Rattle.journal.proofs.Histories.{some_recordable, some_room, first_calls, same_later}
use Rattle.journal.proofs.Numbers.{number_take}
use Rattle.journal.proofs.Writing.{length_encode, entry_size, entry_whole, all_of}

-- ---- why a cut record is not read

-- One that is cut after its first byte is torn, at whatever byte.
pub torn_is_two : (e : Entry) (k : ℕ) → Recordable e → 0 < k → k < length (encode e)
    → stop_at (take k (encode e)) ≡ 2
unfolding stop_at
torn_is_two e k h p l = go (ltb k 12) refl
  where
    r : List ℕ
    r = encode e

    size : length (take k r) ≡ k
    size = length-take-le k r (omega arith)

    some : eqb (length (take k r)) 0 ≡ false
    some = ne_eqb _ _ (λ (z : length (take k r) ≡ 0). let s = size in omega arith)

    go : (t : Bool) → ltb k 12 ≡ t → stop_at (take k r) ≡ 2
    go true q =
        let s : ltb (length (take k r)) 12 ≡ true = ap (λ (n : ℕ). ltb n 12) size ∙ q in
        rw (some, s) refl
    go false q =
        let n : 12 ≤ k = ltb-false k 12 q in
        let s : ltb (length (take k r)) 12 ≡ false = ap (λ (i : ℕ). ltb i 12) size ∙ q in
        let w = rw (append-nil r) at (entry_whole e [] h).head in
        let c : holds (take k r) 0 8 ≡ true =
        eq-eqb _ _ (number_take k r 8 (omega arith) ∙ w ∙ ap crc32 (sym (take-take 8 k r (omega arith)))) in
        let b : size_at (take k r) ≡ length (body_of e) =
        number_take k r 0 (omega arith) ∙ rw (append-nil r) at (entry_size e [] h) in
        let d : ltb (length (take k r)) (record_length (take k r)) ≡ true =
        lt-ltb (length (take k r)) (record_length (take k r)) (let x = size in let y = length_encode e in omega arith) in
        rw (some, s, c, d) refl

-- ---- records cut off at any byte

-- The bytes are the first records, and then bytes that no record starts with.
record Cut (entries : List Entry) (k : ℕ) (bytes : List ℕ) : Type 0 where
  done : List Entry
  later : List Entry
  rest : List ℕ
  first : entries ≡ done ++ later
  made : bytes ≡ records_of done ++ rest
  stop : (stop_at rest ≡ 1) ⊎ (stop_at rest ≡ 2)
  before : length (records_of done) ≤ k
  cut : (e : Entry) (others : List Entry) → later ≡ e ∷ others → k < length (records_of done) + length (encode e)

none_cut : (k : ℕ) → Cut [] k (take k (records_of []))
unfolding records_of
none_cut k = record {
  done = [];
  later = [];
  rest = [];
  first = refl;
  made = take-nil k;
  stop = inl nothing_left;
  before = omega arith;
  cut = λ e others q. let z : ◌≡◌ {A = ℕ} 0 1 = cc in absurd (omega arith);
}

first_cut : (e : Entry) (entries : List Entry) (k : ℕ) → Recordable e → k < length (encode e)
    → Cut (e ∷ entries) k (take k (records_of (e ∷ entries)))
unfolding records_of
first_cut e entries k h l = record {
  done = [];
  later = e ∷ entries;
  rest = take k (encode e);
  first = refl;
  made = take-append-le k (encode e) (records_of entries) (omega arith);
  stop = go k l;
  before = omega arith;
  cut = λ f others q. let z : e ≡ f = cc in subst (λ (x : Entry). k < 0 + length (encode x)) z (omega arith);
}
  where
    go : (n : ℕ) → n < length (encode e) → (stop_at (take n (encode e)) ≡ 1) ⊎ (stop_at (take n (encode e)) ≡ 2)
    go zero b = inl nothing_left
    go (suc n) b = inr (torn_is_two e (suc n) h (omega arith) b)

later_cut : (e : Entry) (entries : List Entry) (j : ℕ) → Cut entries j (take j (records_of entries))
    → Cut (e ∷ entries) (length (encode e) + j) (take (length (encode e) + j) (records_of (e ∷ entries)))
unfolding records_of
later_cut e entries j C = record {
  done = e ∷ C.done;
  later = C.later;
  rest = C.rest;
  first = ap (λ (l : List Entry). e ∷ l) C.first;
  made = take-append-add (encode e) (records_of entries) j
      ∙ ap (λ (l : List ℕ). encode e ++ l) C.made
      ∙ sym (append_assoc (encode e) (records_of C.done) C.rest);
  stop = C.stop;
  before = let b = C.before in rw length-append (omega arith);
  cut = λ f others q. let b = C.cut f others q in rw length-append (omega arith);
}

cut_if : (e : Entry) (entries : List Entry) (k : ℕ) (t : Bool) → ltb k (length (encode e)) ≡ t → Recordable e
    → ((j : ℕ) → Cut entries j (take j (records_of entries))) → Cut (e ∷ entries) k (take k (records_of (e ∷ entries)))
cut_if e entries k true q h C = first_cut e entries k h (ltb-true k (length (encode e)) q)
cut_if e entries k false q h C =
    let n = length (encode e) in
    let l = ltb-false k n q in
    let j : n + (k - n) ≡ k = omega arith in
    subst (λ (i : ℕ). Cut (e ∷ entries) i (take i (records_of (e ∷ entries)))) j
    (later_cut e entries (k - n) (C (k - n)))

cuts : (entries : List Entry) → AllRecordable entries → (k : ℕ) → Cut entries k (take k (records_of entries))
cuts [] h k = none_cut k
cuts (e ∷ entries) h k = cut_if e entries k _ refl h.0 (cuts entries h.1)

stop_some : {n : ℕ} → (n ≡ 1) ⊎ (n ≡ 2) → n ≢ 0
stop_some (inl e) z = omega arith
stop_some (inr e) z = omega arith

cut_told : (entries : List Entry) (k : ℕ) (bytes : List ℕ) → AllRecordable entries → Cut entries k bytes
    → CutAt entries k (decode bytes)
cut_told entries k bytes h C =
    let a : AllRecordable C.done = some_recordable C.done C.later (rw C.first at h) in
    let d : decode bytes ≡ all_of C.done =
    ap decode C.made ∙ rest_lost C.done C.rest a (stop_some C.stop) in
    rw d (record { later = C.later; first = C.first; end = refl; before = C.before; cut = C.cut })

pub cut_read : (entries : List Entry) (k : ℕ) → AllRecordable entries
    → CutAt entries k (decode (take k (records_of entries)))
cut_read entries k h = cut_told entries k (take k (records_of entries)) h (cuts entries h k)

-- ---- the journal of a history cut off at any byte

take_journal : (m : Mesh) (entries : List Entry) (k : ℕ) → 20 ≤ k
    → take k (journal_of m entries)
    ≡ header_of (vertex_slots m) (triangle_slots m) ++ take (k - 20) (records_of entries)
unfolding journal_of
take_journal m entries k l =
    let h = header_of (vertex_slots m) (triangle_slots m) in
    let n : length h ≡ 20 = length_header (vertex_slots m) (triangle_slots m) in
    let e : k ≡ length h + (k - 20) = omega arith in
    ap (λ (i : ℕ). take i (h ++ records_of entries)) e ∙ take-append-add h (records_of entries) (k - 20)

module _ (lent : Lent) (calls : List Call) (m : Mesh) (k : ℕ) (S : SlotsFit m) (L : SameSizes lent.spares m)
    (h : AllRecordable (recorded calls m)) (n : RoomForEach lent.numbers (recorded calls m)) (l : 20 ≤ k) where
  abbrev all : List Entry
  all = recorded calls m

  cut_law : (done left : List Call) (later : List Entry) (rest : List ℕ) → calls ≡ done ++ left
      → all ≡ recorded done m ++ later → take (k - 20) (records_of all) ≡ records_of (recorded done m) ++ rest
      → (stop_at rest ≡ 1) ⊎ (stop_at rest ≡ 2) → length (records_of (recorded done m)) ≤ k - 20
      → ((e : Entry) (others : List Entry) → later ≡ e ∷ others
      → k - 20 < length (records_of (recorded done m)) + length (encode e))
      → CutReplay calls m k (replay lent (take k (journal_of m all)) 0 m)
  unfolding journal_of
  cut_law done left later rest first q made stop before cut =
      let H = header_of (vertex_slots m) (triangle_slots m) in
      let es = recorded done m in
      let c : take k (journal_of m all) ≡ journal_of m es ++ rest =
      take_journal m all k l ∙ ap (λ (x : List ℕ). H ++ x) made ∙ sym (append_assoc H (records_of es) rest) in
      let r : replay lent (take k (journal_of m all)) 0 m ≡ started_at 20 (replayed es rest (after done m)) =
      ap (λ (x : List ℕ). replay lent x 0 m) c
      ∙ journal_replayed lent es rest m (after done m) S (some_recordable es later (rw q at h))
      (some_room lent.numbers es later (rw q at n)) (stop_some stop) (recorded_leads lent.spares done m L) in
      rw r (record {
        done = done;
        left = left;
        first = first;
        mesh = refl;
        records = refl;
        end = sym (length_journal m es);
        before = omega arith;
        here = λ e others x. let b = cut e others (same_later es later (e ∷ others) (sym q ∙ x)) in omega arith;
        stop = stop;
      })

  cut_found : Cut all (k - 20) (take (k - 20) (records_of all))
      → CutReplay calls m k (replay lent (take k (journal_of m all)) 0 m)
  cut_found C =
      let F = first_calls calls m C.done C.later C.first in
      let d : C.done ≡ recorded F.done m = sym F.records in
      cut_law F.done F.left C.later C.rest F.first
      (C.first ∙ ap (λ (x : List Entry). x ++ C.later) d)
      (C.made ∙ ap (λ (x : List Entry). records_of x ++ C.rest) d)
      C.stop (rw d at C.before)
      (λ e others x. rw d at (C.cut e others x))

  pub cut_replayed : CutReplay calls m k (replay lent (take k (journal_of m all)) 0 m)
  cut_replayed = cut_found (cuts all h (k - 20))
