-- Journals replayed from a place on: what a replay tells, and in parts.
use Prim.Native.Nat.{ℕ, zero, suc, ◌+◌, ◌≤◌, max}
use native.Mathlib.Nat.{zero-add}
use native.Mathlib.Omega.{arith}
use native.Mathlib.Decide.{ℕ_discrete}
use borrow.Author.Tests.{ltb-true, ltb-false}
use mathlib.Core.Bool.{Bool, true, false}
use mathlib.Core.List.{List, [], ◌∷◌, ◌++◌, append-nil}
use mathlib.Core.Logic.{◌≢◌}
use mathlib.Core.Path.{◌≡◌, refl, ap, sym, subst, ◌∙◌}
use lib.Dec.{ltb}
use lib.ListN.{length, take, drop, length-drop, length-append}
use lib.Seq.{drop-drop, drop-append-le}
use Rattle.theory.proofs.Calls.EveryCall.{question_stands}
use Rattle.theory.proofs.Notes.Restoring.{slots_same, slots_on}
use Rattle.theory.proofs.Soundness.Relaxed.{SameSlots}
use Rattle.rules.specs.History.{Call, changes, asks, outcome, after}
use Rattle.rules.specs.Spares.{Spares}
use Rattle.rules.specs.Tables.{Mesh, vertex_slots, triangle_slots}
use Rattle.journal.specs.Journal.{Entry, stop_at, header_stop}
use Rattle.journal.specs.Records.{Records, no_records, decode}
use Rattle.journal.specs.Recording.{calls_of, StopsWith, no_record, too_many, refuses, ReplayOf, and_then}
use Rattle.journal.specs.Replay.{Lent, Replay, stopped, replay_first, started_at, replay_if, replay}
use Rattle.journal.proofs.Changes.{change_slots, vertex_slots_stay, triangle_slots_stay}
use Rattle.journal.proofs.Headers.{header_numbers, header_short, header_longer}
use Rattle.journal.proofs.Reading.{stop_numbers, decode_stops}
use Rattle.journal.proofs.Replaying.{Replays, Tells, replays_first, replays_is, replays_tells, tells_of}
use Rattle.journal.proofs.Replaying.{rest_read, seq, replays_longer}

-- ---- every history keeps the lengths of the tables

pub call_slots : (c : Call) (m : Mesh) → SameSlots m (outcome c m).mesh
call_slots (changes c) m = change_slots c m
call_slots (asks q) m = subst (SameSlots m) (sym (question_stands q m)) (slots_same m)

pub after_slots : (calls : List Call) (m : Mesh) → SameSlots m (after calls m)
unfolding after
after_slots [] m = slots_same m
after_slots (c ∷ calls) m = slots_on (call_slots c m) (after_slots calls (outcome c m).mesh)

-- ---- all records

ended : {lent : Lent} {bytes : List ℕ} {m : Mesh} {n k : ℕ} → StopsWith lent bytes m n k → n ≢ 5 → n ≢ 7
    → (stop_at bytes ≢ 0) × (n ≡ stop_at bytes) × (k ≡ 0)
ended (no_record x) five seven = (x, refl, refl)
ended (too_many z l) five seven = absurd (seven refl)
ended (refuses z l r) five seven = absurd (five refl)

stop_between : {lent : Lent} {bytes : List ℕ} {m : Mesh} {n k : ℕ} → StopsWith lent bytes m n k → (1 ≤ n) × (n ≤ 7)
stop_between {bytes = bytes} (no_record x) = let n = stop_numbers bytes in (omega arith, omega arith)
stop_between (too_many z l) = (omega arith, omega arith)
stop_between (refuses z l r) = (omega arith, omega arith)

-- What a replay tells where it replays all records.
pub record AllTold (bytes : List ℕ) (r : Replay) : Type 0 where
  pub records : r.records ≡ length (decode bytes).entries
  pub end : r.end ≡ (decode bytes).end
  pub stop : r.stop ≡ stop_at (drop r.end bytes)
  pub refusal : r.refusal ≡ 0

all_told : {lent : Lent} {bytes : List ℕ} {m : Mesh} {entries : List Entry} {r : Replay}
    → Tells lent bytes m entries r → r.stop ≢ 5 → r.stop ≢ 7 → AllTold bytes r
all_told {bytes = bytes} {entries = entries} {r = r} T five seven =
    let x = ended T.stop five seven in
    let d = rest_read bytes r.end entries T.within T.part in
    let e : decode (drop r.end bytes) ≡ no_records = decode_stops (drop r.end bytes) x.0 in
    record {
      records = T.records
          ∙ sym (ap (λ (l : List Entry). length l) (append-nil entries))
          ∙ sym (ap (λ (s : Records). length s.entries) (rw e at d));
      end = sym (ap (λ (s : Records). s.end) (rw e at d) ∙ omega arith);
      stop = x.1;
      refusal = x.2;
    }

-- ---- from the header on

abbrev pub stop_for : Mesh → List ℕ → ℕ
stop_for m bytes = header_stop (vertex_slots m) (triangle_slots m) bytes

bad_if : (n : ℕ) (lent : Lent) (bytes : List ℕ) (at : ℕ) (m : Mesh) → n ≢ 0
    → replay_if n lent bytes at m ≡ stopped n 0 m
bad_if zero lent bytes at m x = absurd (x refl)
bad_if (suc n) lent bytes at m x = refl

none_after : (spares : Spares) (m : Mesh) → m ≡ after (calls_of spares []) m
unfolding after calls_of
none_after spares m = refl

module _ (lent : Lent) (bytes : List ℕ) (at : ℕ) (m : Mesh) where
  pub replay_bad : stop_for m bytes ≢ 0 → replay lent bytes at m ≡ stopped (stop_for m bytes) 0 m
  unfolding replay
  replay_bad x = bad_if (stop_for m bytes) lent bytes (max 20 at) m x

  abbrev pub first : Replay
  first = replay_first (length bytes) lent (drop (max 20 at) bytes) m

  pub replay_good : stop_for m bytes ≡ 0 → replay lent bytes at m ≡ started_at (max 20 at) first
  unfolding replay
  replay_good z = rw z refl

  pub replay_tells : (entries : List Entry) × Tells lent (drop (max 20 at) bytes) m entries first
  replay_tells =
      let x = replays_first (length bytes) lent (drop (max 20 at) bytes) m (simp length-drop (omega arith)) in
      (x.0, replays_tells x.1)

  pub replay_of : stop_for m bytes ≡ 0
      → (r : Replay) × (replay lent bytes at m ≡ started_at (max 20 at) r) × ReplayOf lent (drop (max 20 at) bytes) m r
  replay_of z = (first, replay_good z, (tells_of replay_tells.1).1)

  abbrev found : Records
  found = decode (drop (max 20 at) bytes)

  -- The mesh is that after the calls of the first records, as many as were replayed.
  pub replay_mesh : let r = replay lent bytes at m in
      r.mesh ≡ after (calls_of lent.spares (take r.records found.entries)) m
  replay_mesh = go (ℕ_discrete (stop_for m bytes) 0)
    where
      go : Dec (stop_for m bytes ≡ 0) → let r = replay lent bytes at m in
          r.mesh ≡ after (calls_of lent.spares (take r.records found.entries)) m
      go (yes z) = rw (replay_good z) (tells_of replay_tells.1).1.mesh
      go (no x) = rw (replay_bad x) (none_after lent.spares m)

  pub replay_all : stop_for m bytes ≡ 0 → let r = replay lent bytes at m in
      r.stop ≢ 5 → r.stop ≢ 7
      → (r.records ≡ length found.entries) × (r.end ≡ max 20 at + found.end)
      × (r.stop ≡ stop_at (drop r.end bytes)) × (r.refusal ≡ 0)
  replay_all z five seven =
      let e = replay_good z in
      let t = all_told replay_tells.1 (rw e at five) (rw e at seven) in
      let d : drop first.end (drop (max 20 at) bytes) ≡ drop (max 20 at + first.end) bytes =
      drop-drop first.end (max 20 at) bytes in
      rw e (t.records, ap (λ (n : ℕ). max 20 at + n) t.end, t.stop ∙ ap stop_at d, t.refusal)

  pub same_front : at ≤ 20 → replay lent bytes at m ≡ replay lent bytes 0 m
  unfolding replay
  same_front l = let e : max 20 at ≡ 20 = omega arith in rw e refl

  -- A replay always stops, with a number up to 7.
  pub replay_stops : let r = replay lent bytes at m in
      (1 ≤ r.stop) × (r.stop ≤ 7)
  replay_stops = go (ℕ_discrete (stop_for m bytes) 0)
    where
      go : Dec (stop_for m bytes ≡ 0) → let r = replay lent bytes at m in
          (1 ≤ r.stop) × (r.stop ≤ 7)
      go (yes z) = rw (replay_good z) (stop_between replay_tells.1.stop)
      go (no x) =
          let n = header_numbers (vertex_slots m) (triangle_slots m) bytes in
          rw (replay_bad x) (omega arith, omega arith)

-- ---- a part and then the rest

-- A replay that its header stops tells of nothing.
then_none : (n k : ℕ) (m : Mesh) (s : Replay) → and_then (stopped n k m) s ≡ s
then_none n k m s = rw (zero-add s.records) refl

started_seq : (n : ℕ) (r s : Replay) → started_at n (seq r s) ≡ and_then (started_at n r) (started_at (n + r.end) s)
started_seq n r s = let e : n + (r.end + s.end) ≡ n + r.end + s.end = omega arith in rw e refl

module _ (lent : Lent) (a b : List ℕ) (at : ℕ) (m : Mesh) (h : at ≤ length a) where
  abbrev start : ℕ
  start = max 20 at

  -- The header is of other tables, or torn.
  bad_parts : 20 ≤ length a → stop_for m a ≢ 0
      → replay lent (a ++ b) at m ≡ and_then (stopped (stop_for m a) 0 m) (replay lent (a ++ b) 0 m)
  bad_parts l x =
      let e = header_longer (vertex_slots m) (triangle_slots m) a b l in
      let y : stop_for m (a ++ b) ≢ 0 = λ z. x (sym e ∙ z) in
      replay_bad lent (a ++ b) at m y
      ∙ sym (replay_bad lent (a ++ b) 0 m y)
      ∙ sym (then_none (stop_for m a) 0 m (replay lent (a ++ b) 0 m))

  -- The header is of these tables, and r is the replay of the part.
  module _ (l : 20 ≤ length a) (z : stop_for m a ≡ 0) {es : List Entry} {r : Replay}
      (x : Replays lent (drop start a) m es r) where
    abbrev left : List ℕ
    left = drop r.end (drop start a) ++ b

    abbrev next : Replay
    next = replay_first (length (a ++ b)) lent left r.mesh

    within : start + r.end ≤ length a
    within = let w = (replays_tells x).within in omega (arith, simp length-drop at w)

    left_is : drop (start + r.end) (a ++ b) ≡ left
    left_is =
        drop-append-le (start + r.end) a b within
        ∙ ap (λ (k : List ℕ). k ++ b) (sym (drop-drop r.end start a))

    whole_with : {fs : List Entry} → Replays lent left r.mesh fs next
        → replay_first (length (a ++ b)) lent (drop start (a ++ b)) m ≡ seq r next
    whole_with c =
        let e : drop start (a ++ b) ≡ drop start a ++ b = drop-append-le start a b (omega arith) in
        rw e (replays_is (replays_longer b x c) (simp (length-append, length-drop) (omega arith)))

    whole_is : replay_first (length (a ++ b)) lent (drop start (a ++ b)) m ≡ seq r next
    whole_is =
        whole_with (replays_first (length (a ++ b)) lent left r.mesh
        (simp (length-append, length-drop) (omega arith))).1

    header_stays : stop_for r.mesh (a ++ b) ≡ 0
    header_stays =
        let S : SameSlots m r.mesh =
        subst (SameSlots m) (sym (replays_tells x).mesh) (after_slots (calls_of lent.spares es) m) in
        rw (vertex_slots_stay S, triangle_slots_stay S)
        (header_longer (vertex_slots m) (triangle_slots m) a b l ∙ z)

    next_is : replay lent (a ++ b) (start + r.end) r.mesh ≡ started_at (start + r.end) next
    next_is =
        let e : max 20 (start + r.end) ≡ start + r.end = omega arith in
        replay_good lent (a ++ b) (start + r.end) r.mesh header_stays
        ∙ rw (e, left_is) refl

    good_parts : replay lent (a ++ b) at m
        ≡ and_then (started_at start r) (replay lent (a ++ b) (start + r.end) r.mesh)
    good_parts =
        replay_good lent (a ++ b) at m (header_longer (vertex_slots m) (triangle_slots m) a b l ∙ z)
        ∙ ap (started_at start) whole_is
        ∙ started_seq start r next
        ∙ ap (and_then (started_at start r)) (sym next_is)

  pub in_parts : let r = replay lent a at m in
      replay lent (a ++ b) at m ≡ and_then r (replay lent (a ++ b) r.end r.mesh)
  in_parts = go (ltb (length a) 20) refl (ℕ_discrete (stop_for m a) 0)
    where
      go : (t : Bool) → ltb (length a) 20 ≡ t → Dec (stop_for m a ≡ 0) → let r = replay lent a at m in
          replay lent (a ++ b) at m ≡ and_then r (replay lent (a ++ b) r.end r.mesh)
      go true e d =
          let k = ltb-true (length a) 20 e in
          rw (replay_bad lent a at m (header_short (vertex_slots m) (triangle_slots m) a k))
          (same_front lent (a ++ b) at m (omega arith) ∙ sym (then_none (stop_for m a) 0 m (replay lent (a ++ b) 0 m)))
      go false e (no x) = rw (replay_bad lent a at m x) (bad_parts (ltb-false (length a) 20 e) x)
      go false e (yes z) =
          rw (replay_good lent a at m z)
          (good_parts (ltb-false (length a) 20 e) z
          (replays_first (length a) lent (drop start a) m (simp length-drop (omega arith))).1)
