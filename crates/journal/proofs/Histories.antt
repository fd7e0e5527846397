-- What a history leaves in a journal rebuilds its mesh.
use Prim.Native.Nat.{ℕ, ◌+◌, ◌≤◌}
use native.Mathlib.Omega.{arith}
use borrow.Author.Tests.{eqb-true, eqb-false}
use mathlib.Core.Bool.{Bool, true, false}
use mathlib.Core.List.{List, [], ◌∷◌, ◌++◌, append_assoc, append-nil}
use mathlib.Core.Logic.{◌≢◌}
use mathlib.Core.Path.{◌≡◌, refl, ap, sym, subst, ◌∙◌}
use lib.Dec.{eqb}
use lib.ListN.{length, drop, length-append}
use lib.Seq.{drop_at, drop-append_seam}
use Rattle.theory.proofs.Calls.EveryCall.{question_stands}
use Rattle.rules.specs.History.{Change, changed, Question, Call, changes, asks, asked, outcome, after}
use Rattle.rules.specs.Spares.{Spares, SameSizes}
use Rattle.rules.specs.Tables.{Mesh, vertex_slots, triangle_slots}
use Rattle.journal.specs.Journal.{Entry, encode, header_of, stop_at, record_length}
use Rattle.journal.specs.Records.{records_of}
use Rattle.journal.specs.Recording.{Recordable, AllRecordable, entry_for, recorded, calls_of, EachCarried}
use Rattle.journal.specs.Recording.{RoomForEach, no_record, journal_of, SlotsFit, Deed, makes, replays, deed_done}
use Rattle.journal.specs.Recording.{calls_in, after_deeds, calls_in_all}
use Rattle.journal.specs.Replay.{call_of, numbers_of, Lent, Replay, replay_first, started_at, replay}
use Rattle.journal.proofs.Changes.{refused_mesh, change_slots, sizes_on, carried_again}
use Rattle.journal.proofs.Headers.{length_header, header_read}
use Rattle.journal.proofs.Journals.{call_slots, replay_good, replay_mesh}
use Rattle.journal.proofs.Replaying.{next_call, Advances, Replays, halts, advances, replays_is}
use Rattle.journal.proofs.Writing.{entry_whole, entry_at_encoded, entry_length}

-- ---- what is recorded is carried out again

-- These changes, made from m on, are each carried out, and leave n.
abbrev pub Leads : Spares → List Entry → Mesh → Mesh → Type 0
Leads spares [] m n = m ≡ n
Leads spares (e ∷ entries) m n =
    ((changed (call_of spares e) m).answer.refusal ≡ 0) × Leads spares entries (changed (call_of spares e) m).mesh n

carried_leads : (spares : Spares) (c : Change) (entries : List Entry) (m n : Mesh) → SameSizes spares m
    → (changed c m).answer.refusal ≡ 0 → Leads spares entries (changed c m).mesh n
    → Leads spares (entry_for c ∷ entries) m n
carried_leads spares c entries m n L z x =
    let a = carried_again spares m L c z in
    (a.refusal, subst (λ (k : Mesh). Leads spares entries k n) (sym a.mesh) x)

leads_if : (spares : Spares) (c : Change) (calls : List Call) (m : Mesh) (b : Bool) → SameSizes spares m
    → eqb (changed c m).answer.refusal 0 ≡ b
    → Leads spares (recorded calls (changed c m).mesh) (changed c m).mesh (after calls (changed c m).mesh)
    → Leads spares (elim b [
      | true ↦ entry_for c ∷ recorded calls (changed c m).mesh
      | false ↦ recorded calls (changed c m).mesh
    ]) m (after calls (changed c m).mesh)
leads_if spares c calls m true L e x =
    carried_leads spares c (recorded calls (changed c m).mesh) m _ L (eqb-true _ _ e) x
leads_if spares c calls m false L e x =
    let q = refused_mesh c m (eqb-false _ _ e) in
    subst (λ (k : Mesh). Leads spares (recorded calls (changed c m).mesh) k (after calls (changed c m).mesh)) q x

pub recorded_leads : (spares : Spares) (calls : List Call) (m : Mesh) → SameSizes spares m
    → Leads spares (recorded calls m) m (after calls m)
unfolding recorded after
recorded_leads spares [] m L = refl
recorded_leads spares (changes c ∷ calls) m L =
    leads_if spares c calls m _ L refl
    (recorded_leads spares calls (changed c m).mesh (sizes_on (change_slots c m) L))
recorded_leads spares (asks q ∷ calls) m L =
    let e = question_stands q m in
    subst (λ (k : Mesh). Leads spares (recorded calls (asked q m).mesh) k (after calls (asked q m).mesh)) e
    (recorded_leads spares calls (asked q m).mesh (sizes_on (call_slots (asks q) m) L))

pub leads_carried : (spares : Spares) (entries : List Entry) (m n : Mesh) → Leads spares entries m n
    → EachCarried spares entries m × (after (calls_of spares entries) m ≡ n)
unfolding after calls_of
leads_carried spares [] m n e = (tt, e)
leads_carried spares (e ∷ entries) m n x =
    let r = leads_carried spares entries (changed (call_of spares e) m).mesh n x.1 in
    ((x.0, r.0), r.1)

pub history_again : (spares : Spares) (calls : List Call) (m : Mesh) → SameSizes spares m
    → EachCarried spares (recorded calls m) m × (after (calls_of spares (recorded calls m)) m ≡ after calls m)
history_again spares calls m L =
    leads_carried spares (recorded calls m) m (after calls m) (recorded_leads spares calls m L)

-- ---- their records replayed

-- What the replay of the records of these changes tells, with bytes after them that no record starts with.
abbrev pub replayed : List Entry → List ℕ → Mesh → Replay
replayed entries rest n = record {
  records = length entries;
  end = length (records_of entries);
  stop = stop_at rest;
  refusal = 0;
  mesh = n;
}

none_replays : (lent : Lent) (rest : List ℕ) (m n : Mesh) → stop_at rest ≢ 0 → m ≡ n
    → Replays lent (records_of [] ++ rest) m [] (replayed [] rest n)
unfolding records_of
none_replays lent rest m n x e =
    subst (λ (k : Mesh). Replays lent rest m [] (replayed [] rest k)) e (halts (no_record x))

more_replays : (lent : Lent) (e : Entry) (entries : List Entry) (rest : List ℕ) (m n : Mesh) → Recordable e
    → numbers_of e ≤ lent.numbers → (changed (call_of lent.spares e) m).answer.refusal ≡ 0
    → Replays lent (records_of entries ++ rest) (changed (call_of lent.spares e) m).mesh entries
    (replayed entries rest n)
    → Replays lent (records_of (e ∷ entries) ++ rest) m (e ∷ entries) (replayed (e ∷ entries) rest n)
unfolding records_of
more_replays lent e entries rest m n h k z x =
    let later = records_of entries ++ rest in
    let bytes = encode e ++ later in
    let q = entry_at_encoded e later h in
    let l = entry_length e later h in
    let a : Advances lent bytes m =
    record { whole = entry_whole e later h; room = rw q k; carried = rw q z } in
    let d : drop (record_length bytes) bytes ≡ later = rw l (drop_at (encode e) later (length (encode e)) refl) in
    let y : Replays lent (drop (record_length bytes) bytes) (changed (next_call lent bytes) m).mesh entries
    (replayed entries rest n) = rw (d, q) x in
    let b : (encode e ++ records_of entries) ++ rest ≡ bytes = append_assoc (encode e) (records_of entries) rest in
    rw (b, length-append (encode e) (records_of entries)) (rw (q, l) at (advances a y))

pub leads_replays : (lent : Lent) (entries : List Entry) (rest : List ℕ) (m n : Mesh) → AllRecordable entries
    → RoomForEach lent.numbers entries → stop_at rest ≢ 0 → Leads lent.spares entries m n
    → Replays lent (records_of entries ++ rest) m entries (replayed entries rest n)
leads_replays lent [] rest m n h k x z = none_replays lent rest m n x z
leads_replays lent (e ∷ entries) rest m n h k x z =
    more_replays lent e entries rest m n h.0 k.0 z.0
    (leads_replays lent entries rest _ n h.1 k.1 x z.1)

-- ---- with the header

pub nothing_left : stop_at [] ≡ 1
unfolding stop_at
nothing_left = refl

empty_stops : stop_at [] ≢ 0
empty_stops z = let e = nothing_left in omega arith

pub length_journal : (m : Mesh) (entries : List Entry)
    → length (journal_of m entries) ≡ 20 + length (records_of entries)
unfolding journal_of
length_journal m entries = simp (length-append, length_header)

pub journal_replayed : (lent : Lent) (entries : List Entry) (rest : List ℕ) (m n : Mesh) → SlotsFit m
    → AllRecordable entries → RoomForEach lent.numbers entries → stop_at rest ≢ 0
    → Leads lent.spares entries m n
    → replay lent (journal_of m entries ++ rest) 0 m ≡ started_at 20 (replayed entries rest n)
unfolding journal_of
journal_replayed lent entries rest m n S h k x z =
    let v = vertex_slots m in
    let t = triangle_slots m in
    let later = records_of entries ++ rest in
    let e : (header_of v t ++ records_of entries) ++ rest ≡ header_of v t ++ later =
    append_assoc (header_of v t) (records_of entries) rest in
    let d : drop 20 (header_of v t ++ later) ≡ later = drop_at (header_of v t) later 20 (length_header v t) in
    let f : replay_first (length (header_of v t ++ later)) lent later m ≡ replayed entries rest n =
    replays_is (leads_replays lent entries rest m n h k x z) (simp length-append (omega arith)) in
    rw e (replay_good lent (header_of v t ++ later) 0 m (header_read v t later S.vertices S.triangles)
    ∙ ap (started_at 20) (rw d f))

-- The whole history, with bytes after its journal that no record starts with, and with none.
module _ (lent : Lent) (calls : List Call) (m : Mesh) (S : SlotsFit m) (L : SameSizes lent.spares m)
    (h : AllRecordable (recorded calls m)) (n : RoomForEach lent.numbers (recorded calls m)) where
  pub history_replayed : (rest : List ℕ) → stop_at rest ≢ 0 →
      let journal = journal_of m (recorded calls m) in
      replay lent (journal ++ rest) 0 m ≡ record {
        records = length (recorded calls m);
        end = length journal;
        stop = stop_at rest;
        refusal = 0;
        mesh = after calls m;
      }
  history_replayed rest x =
      journal_replayed lent (recorded calls m) rest m (after calls m) S h n x (recorded_leads lent.spares calls m L)
      ∙ rw (length_journal m (recorded calls m)) refl

  pub history_alone : let journal = journal_of m (recorded calls m) in
      replay lent journal 0 m ≡ record {
        records = length (recorded calls m);
        end = length journal;
        stop = 1;
        refusal = 0;
        mesh = after calls m;
      }
  history_alone = rw (append-nil (journal_of m (recorded calls m)), nothing_left) at (history_replayed [] empty_stops)

-- ---- one history after the other

pub after_both : (calls later : List Call) (m : Mesh) → after (calls ++ later) m ≡ after later (after calls m)
unfolding after
after_both [] later m = refl
after_both (c ∷ calls) later m = after_both calls later (outcome c m).mesh

both_if : (c : Change) (calls later : List Call) (m : Mesh) (b : Bool)
    → recorded (calls ++ later) (changed c m).mesh
    ≡ recorded calls (changed c m).mesh ++ recorded later (after calls (changed c m).mesh)
    → elim b [
      | true ↦ entry_for c ∷ recorded (calls ++ later) (changed c m).mesh
      | false ↦ recorded (calls ++ later) (changed c m).mesh
    ] ≡ elim b [
      | true ↦ entry_for c ∷ recorded calls (changed c m).mesh
      | false ↦ recorded calls (changed c m).mesh
    ] ++ recorded later (after calls (changed c m).mesh)
both_if c calls later m true e = ap (λ (l : List Entry). entry_for c ∷ l) e
both_if c calls later m false e = e

pub recorded_both : (calls later : List Call) (m : Mesh)
    → recorded (calls ++ later) m ≡ recorded calls m ++ recorded later (after calls m)
unfolding recorded after
recorded_both [] later m = refl
recorded_both (changes c ∷ calls) later m =
    both_if c calls later m (eqb (changed c m).answer.refusal 0) (recorded_both calls later (changed c m).mesh)
recorded_both (asks q ∷ calls) later m = recorded_both calls later (asked q m).mesh

-- ---- the first of its records

pub some_recordable : (done later : List Entry) → AllRecordable (done ++ later) → AllRecordable done
some_recordable [] later h = tt
some_recordable (e ∷ done) later h = (h.0, some_recordable done later h.1)

pub some_room : (n : ℕ) (done later : List Entry) → RoomForEach n (done ++ later) → RoomForEach n done
some_room n [] later h = tt
some_room n (e ∷ done) later h = (h.0, some_room n done later h.1)

-- The first records of a history are those of its first calls.
pub record FirstCalls (calls : List Call) (m : Mesh) (entries : List Entry) : Type 0 where
  pub done : List Call
  pub left : List Call
  pub first : calls ≡ done ++ left
  pub records : recorded done m ≡ entries

no_calls : (calls : List Call) (m : Mesh) → FirstCalls calls m []
unfolding recorded
no_calls calls m = record { done = []; left = calls; first = refl; records = refl }

carried_first : (c : Change) (calls : List Call) (m : Mesh) (entries : List Entry)
    → eqb (changed c m).answer.refusal 0 ≡ true → FirstCalls calls (changed c m).mesh entries
    → FirstCalls (changes c ∷ calls) m (entry_for c ∷ entries)
unfolding recorded
carried_first c calls m entries q F = record {
  done = changes c ∷ F.done;
  left = F.left;
  first = ap (λ (l : List Call). changes c ∷ l) F.first;
  records = ap (λ (t : Bool). elim t [
    | true ↦ entry_for c ∷ recorded F.done (changed c m).mesh
    | false ↦ recorded F.done (changed c m).mesh
  ]) q ∙ ap (λ (l : List Entry). entry_for c ∷ l) F.records;
}

refused_first : (c : Change) (calls : List Call) (m : Mesh) (entries : List Entry)
    → eqb (changed c m).answer.refusal 0 ≡ false → FirstCalls calls (changed c m).mesh entries
    → FirstCalls (changes c ∷ calls) m entries
unfolding recorded
refused_first c calls m entries q F = record {
  done = changes c ∷ F.done;
  left = F.left;
  first = ap (λ (l : List Call). changes c ∷ l) F.first;
  records = ap (λ (t : Bool). elim t [
    | true ↦ entry_for c ∷ recorded F.done (changed c m).mesh
    | false ↦ recorded F.done (changed c m).mesh
  ]) q ∙ F.records;
}

asked_first : (q : Question) (calls : List Call) (m : Mesh) (entries : List Entry)
    → FirstCalls calls (asked q m).mesh entries → FirstCalls (asks q ∷ calls) m entries
unfolding recorded
asked_first q calls m entries F = record {
  done = asks q ∷ F.done;
  left = F.left;
  first = ap (λ (l : List Call). asks q ∷ l) F.first;
  records = F.records;
}

change_first : (c : Change) (calls : List Call) (m : Mesh) (b : Bool) → eqb (changed c m).answer.refusal 0 ≡ b
    → ((done later : List Entry) → recorded calls (changed c m).mesh ≡ done ++ later
    → FirstCalls calls (changed c m).mesh done)
    → (done later : List Entry)
    → elim b [
      | true ↦ entry_for c ∷ recorded calls (changed c m).mesh
      | false ↦ recorded calls (changed c m).mesh
    ] ≡ done ++ later
    → FirstCalls (changes c ∷ calls) m done
change_first c calls m b q F [] later x = no_calls (changes c ∷ calls) m
change_first c calls m true q F (e ∷ done) later x =
    let f : entry_for c ≡ e = cc in
    let g : recorded calls (changed c m).mesh ≡ done ++ later = cc in
    subst (λ (i : Entry). FirstCalls (changes c ∷ calls) m (i ∷ done)) f
    (carried_first c calls m done q (F done later g))
change_first c calls m false q F (e ∷ done) later x = refused_first c calls m (e ∷ done) q (F (e ∷ done) later x)

none_first : (m : Mesh) (done later : List Entry) → [] ≡ done ++ later → FirstCalls [] m done
none_first m [] later x = no_calls [] m
none_first m (e ∷ done) later x = let z : ◌≡◌ {A = ℕ} 0 1 = cc in absurd (omega arith)

pub first_calls : (calls : List Call) (m : Mesh) (done later : List Entry) → recorded calls m ≡ done ++ later
    → FirstCalls calls m done
unfolding recorded
first_calls [] m done later x = none_first m done later x
first_calls (changes c ∷ calls) m done later x =
    change_first c calls m _ refl (λ d l y. first_calls calls (changed c m).mesh d l y) done later x
first_calls (asks q ∷ calls) m done later x =
    asked_first q calls m done (first_calls calls (asked q m).mesh done later x)

pub same_later : (xs ys zs : List Entry) → xs ++ ys ≡ xs ++ zs → ys ≡ zs
same_later xs ys zs e =
    sym (drop-append_seam xs ys) ∙ ap (drop (length xs)) e ∙ drop-append_seam xs zs

-- ---- replays among the calls

one_deed : (d : Deed) (m : Mesh) → deed_done d m ≡ after (calls_in d m) m
unfolding after
one_deed (makes c) m = refl
one_deed (replays lent bytes at) m = replay_mesh lent bytes at m

pub deeds_are_calls : (ds : List Deed) (m : Mesh) → after_deeds ds m ≡ after (calls_in_all ds m) m
unfolding after after_deeds calls_in_all
deeds_are_calls [] m = refl
deeds_are_calls (d ∷ ds) m =
    deeds_are_calls ds (deed_done d m)
    ∙ ap (after (calls_in_all ds (deed_done d m))) (one_deed d m)
    ∙ sym (after_both (calls_in d m) (calls_in_all ds (deed_done d m)) m)
