-- A replay of some bytes from their front on, record by record.
use Prim.Native.Nat.{ℕ, zero, suc, ◌+◌, ◌≤◌}
use native.Mathlib.Nat.{zero-add}
use native.Mathlib.Omega.{arith}
use borrow.Author.Tests.{ltb-true, ltb-false, eqb-true, eqb-false}
use mathlib.Core.Bool.{Bool, true, false}
use mathlib.Core.List.{List, [], ◌∷◌, ◌++◌}
use mathlib.Core.Path.{◌≡◌, refl, ap, sym, subst, ◌∙◌}
use lib.Dec.{eqb, ltb}
use lib.ListN.{length, take, drop, length-drop, take-append-drop, drop_of_length-le}
use lib.Seq.{drop-drop, take_at, length-take-le}
use Rattle.rules.specs.History.{Change, changed, after}
use Rattle.rules.specs.Tables.{Mesh}
use Rattle.journal.specs.Journal.{Entry, stop_at, entry_at, record_length}
use Rattle.journal.specs.Records.{Records, decode}
use Rattle.journal.specs.Recording.{calls_of, EachCarried, StopsWith, no_record, too_many, refuses, ReplayOf}
use Rattle.journal.specs.Replay.{call_of, numbers_of, Lent, Replay, stopped, one_more, replay_first}
use Rattle.journal.proofs.Cutting.{longer, goes_shorter, none_shorter, part_read}
use Rattle.journal.proofs.Reading.{Whole, stop_whole, whole_stop, empty_stops, Reads, decodes, goes_within}
use Rattle.journal.proofs.Writing.{joined}

-- What the record at the front does.
abbrev pub next_call : Lent → List ℕ → Change
next_call lent bytes = call_of lent.spares (entry_at bytes)

-- The record at the front is carried out.
pub record Advances (lent : Lent) (bytes : List ℕ) (m : Mesh) : Type 0 where
  pub whole : Whole bytes
  pub room : numbers_of (entry_at bytes) ≤ lent.numbers
  pub carried : (changed (next_call lent bytes) m).answer.refusal ≡ 0

-- The replay r of some bytes, of these changes.
pub data Replays (lent : Lent) : List ℕ → Mesh → List Entry → Replay → Type 0 where
  halts : {bytes : List ℕ} {m : Mesh} {n k : ℕ} → StopsWith lent bytes m n k → Replays lent bytes m [] (stopped n k m)
  advances : {bytes : List ℕ} {m : Mesh} {entries : List Entry} {r : Replay} → Advances lent bytes m
      → Replays lent (drop (record_length bytes) bytes) (changed (next_call lent bytes) m).mesh entries r
      → Replays lent bytes m (entry_at bytes ∷ entries) (one_more (record_length bytes) r)

-- ---- the bound of `replay_first` is never met

module _ (lent : Lent) (bytes : List ℕ) (m : Mesh) where
  abbrev next_replay : ℕ → Replay
  next_replay n = replay_first n lent (drop (record_length bytes) bytes) (changed (next_call lent bytes) m).mesh

  one_step : (n : ℕ) (a b c : Bool) → eqb (stop_at bytes) 0 ≡ a → ltb lent.numbers (numbers_of (entry_at bytes)) ≡ b
      → eqb (changed (next_call lent bytes) m).answer.refusal 0 ≡ c
      → (entries : List Entry)
      × Replays lent (drop (record_length bytes) bytes) (changed (next_call lent bytes) m).mesh entries (next_replay n)
      → (entries : List Entry) × Replays lent bytes m entries (elim a [
        | false ↦ stopped (stop_at bytes) 0 m
        | true ↦ elim b [
          | true ↦ stopped 7 0 m
          | false ↦ elim c [
            | false ↦ stopped 5 (changed (next_call lent bytes) m).answer.refusal m
            | true ↦ one_more (record_length bytes) (next_replay n)
          ]
        ]
      ])
  one_step n false b c x y z r = ([], halts (no_record (eqb-false _ _ x)))
  one_step n true true c x y z r = ([], halts (too_many (eqb-true _ _ x) (ltb-true _ _ y)))
  one_step n true false false x y z r =
      ([], halts (refuses (eqb-true _ _ x) (ltb-false _ _ y) (eqb-false _ _ z)))
  one_step n true false true x y z r = (
    entry_at bytes ∷ r.0,
    advances (record {
      whole = stop_whole bytes (eqb-true _ _ x);
      room = ltb-false _ _ y;
      carried = eqb-true _ _ z;
    }) r.1,
  )

pub replays_first : (n : ℕ) (lent : Lent) (bytes : List ℕ) (m : Mesh) → length bytes ≤ n
    → (entries : List Entry) × Replays lent bytes m entries (replay_first n lent bytes m)
unfolding replay_first
replays_first zero lent bytes m l = ([], halts (no_record (empty_stops bytes l)))
replays_first (suc n) lent bytes m l =
    one_step lent bytes m n _ _ _ refl refl refl
    (replays_first n lent (drop (record_length bytes) bytes) (changed (next_call lent bytes) m).mesh
    (simp length-drop (omega arith)))

-- ---- there is one replay

stops_once : {lent : Lent} {bytes : List ℕ} {m : Mesh} {n k n' k' : ℕ} → StopsWith lent bytes m n k
    → StopsWith lent bytes m n' k' → stopped n k m ≡ stopped n' k' m
stops_once (no_record x) (no_record y) = refl
stops_once (no_record x) (too_many z l) = absurd (x z)
stops_once (no_record x) (refuses z l r) = absurd (x z)
stops_once (too_many z l) (no_record x) = absurd (x z)
stops_once (too_many z l) (too_many z' l') = refl
stops_once (too_many z l) (refuses z' l' r) = absurd (omega arith)
stops_once (refuses z l r) (no_record x) = absurd (x z)
stops_once (refuses z l r) (too_many z' l') = absurd (omega arith)
stops_once (refuses z l r) (refuses z' l' r') = refl

halts_not : {lent : Lent} {bytes : List ℕ} {m : Mesh} {n k : ℕ} → StopsWith lent bytes m n k → Advances lent bytes m → ⊥
halts_not {bytes = bytes} (no_record x) a = x (whole_stop bytes a.whole)
halts_not (too_many z l) a = let r = a.room in omega arith
halts_not (refuses z l r) a = r a.carried

pub replays_one : {lent : Lent} {bytes : List ℕ} {m : Mesh} {es fs : List Entry} {r s : Replay}
    → Replays lent bytes m es r → Replays lent bytes m fs s → r ≡ s
replays_one (halts x) (halts y) = stops_once x y
replays_one (halts x) (advances a s) = absurd (halts_not x a)
replays_one (advances a r) (halts y) = absurd (halts_not y a)
replays_one (advances {bytes} a r) (advances b s) = ap (one_more (record_length bytes)) (replays_one r s)

pub replays_is : {n : ℕ} {lent : Lent} {bytes : List ℕ} {m : Mesh} {es : List Entry} {r : Replay}
    → Replays lent bytes m es r → length bytes ≤ n → replay_first n lent bytes m ≡ r
replays_is {n} {lent} {bytes} {m} x l = replays_one (replays_first n lent bytes m l).1 x

pub first_bound : (n : ℕ) (lent : Lent) (bytes : List ℕ) (m : Mesh) → length bytes ≤ n
    → replay_first n lent bytes m ≡ replay_first (length bytes) lent bytes m
first_bound n lent bytes m l = replays_is (replays_first (length bytes) lent bytes m (omega arith)).1 l

-- ---- what a replay tells

pub record Tells (lent : Lent) (bytes : List ℕ) (m : Mesh) (entries : List Entry) (r : Replay) : Type 0 where
  pub records : r.records ≡ length entries
  pub carried : EachCarried lent.spares entries m
  pub mesh : r.mesh ≡ after (calls_of lent.spares entries) m
  pub within : r.end ≤ length bytes
  pub part : Reads (take r.end bytes) (record { entries = entries; end = r.end })
  pub stop : StopsWith lent (drop r.end bytes) r.mesh r.stop r.refusal

halts_tells : (lent : Lent) (bytes : List ℕ) (m : Mesh) (n k : ℕ) → StopsWith lent bytes m n k
    → Tells lent bytes m [] (stopped n k m)
unfolding calls_of after
halts_tells lent bytes m n k x = record {
  records = refl;
  carried = tt;
  mesh = refl;
  within = omega arith;
  part = none_shorter bytes;
  stop = x;
}

advances_tells : (lent : Lent) (bytes : List ℕ) (m : Mesh) (entries : List Entry) (r : Replay) → Advances lent bytes m
    → Tells lent (drop (record_length bytes) bytes) (changed (next_call lent bytes) m).mesh entries r
    → Tells lent bytes m (entry_at bytes ∷ entries) (one_more (record_length bytes) r)
unfolding calls_of after
advances_tells lent bytes m entries r a T = record {
  records = ap suc T.records;
  carried = (a.carried, T.carried);
  mesh = T.mesh;
  within = goes_within bytes r.end a.whole T.within;
  part = goes_shorter bytes (record { entries = entries; end = r.end }) a.whole T.within T.part;
  stop = rw (drop-drop r.end (record_length bytes) bytes) at T.stop;
}

pub replays_tells : {lent : Lent} {bytes : List ℕ} {m : Mesh} {entries : List Entry} {r : Replay}
    → Replays lent bytes m entries r → Tells lent bytes m entries r
replays_tells {lent} (halts {bytes} {m} {n} {k} x) = halts_tells lent bytes m n k x
replays_tells {lent} (advances {bytes} {m} {entries} {r} a s) =
    advances_tells lent bytes m entries r a (replays_tells s)

-- Where bytes are cut at the end of their first records, the others follow.
pub rest_read : (bytes : List ℕ) (n : ℕ) (entries : List Entry) → n ≤ length bytes
    → Reads (take n bytes) (record { entries = entries; end = n })
    → decode bytes ≡ joined (record { entries = entries; end = n }) (decode (drop n bytes))
rest_read bytes n entries l x =
    let d = decodes x in
    let k : length (take n bytes) ≡ n = length-take-le n bytes l in
    let f : drop n (take n bytes) ≡ [] = drop_of_length-le (take n bytes) {i = n} (omega arith) in
    ap decode (sym (take-append-drop n bytes))
    ∙ part_read (take n bytes) (drop n bytes)
    ∙ rw (d, f) refl

pub tells_of : {lent : Lent} {bytes : List ℕ} {m : Mesh} {entries : List Entry} {r : Replay}
    → Tells lent bytes m entries r
    → (take r.records (decode bytes).entries ≡ entries) × ReplayOf lent bytes m r
tells_of {lent} {bytes} {m} {entries} {r} T =
    let d = decodes T.part in
    let e : take r.records (decode bytes).entries ≡ entries =
    ap (λ (x : Records). take r.records x.entries) (rest_read bytes r.end entries T.within T.part)
    ∙ take_at entries (decode (drop r.end bytes)).entries r.records (sym T.records) in (
      e,
      record {
        entries = ap (λ (x : Records). x.entries) d ∙ sym e;
        records = T.records ∙ sym (ap (λ (x : Records). length x.entries) d);
        end = sym (ap (λ (x : Records). x.end) d);
        carried = subst (λ (l : List Entry). EachCarried lent.spares l m) (sym e) T.carried;
        mesh = T.mesh ∙ ap (λ (l : List Entry). after (calls_of lent.spares l) m) (sym e);
        stop = T.stop;
      },
    )

-- ---- a part and then the rest

-- A replay of a part, and one of what is left with the rest, counted from the front of the part.
abbrev pub seq : Replay → Replay → Replay
seq r s = record {
  records = r.records + s.records;
  end = r.end + s.end;
  stop = s.stop;
  refusal = s.refusal;
  mesh = s.mesh;
}

halts_longer : (lent : Lent) (a b : List ℕ) (m : Mesh) (n k : ℕ) (fs : List Entry) (s : Replay)
    → Replays lent (a ++ b) m fs s → Replays lent (a ++ b) m fs (seq (stopped n k m) s)
halts_longer lent a b m n k fs s x = rw (zero-add s.records, zero-add s.end) x

advances_longer : (lent : Lent) (a b : List ℕ) (m : Mesh) (es fs : List Entry) (r s : Replay) → Advances lent a m
    → Replays lent (drop (record_length a) a ++ b) (changed (next_call lent a) m).mesh (es ++ fs) (seq r s)
    → Replays lent (a ++ b) m (entry_at a ∷ (es ++ fs)) (seq (one_more (record_length a) r) s)
advances_longer lent a b m es fs r s A x =
    let n = longer a b A.whole in
    let e = n.entry in
    let y : Advances lent (a ++ b) m = record {
      whole = n.whole;
      room = rw e A.room;
      carried = rw e A.carried;
    } in
    let z : Replays lent (drop (record_length (a ++ b)) (a ++ b)) (changed (next_call lent (a ++ b)) m).mesh
    (es ++ fs) (seq r s) = rw (e, n.size, n.rest) x in
    let q : record_length a + (r.end + s.end) ≡ record_length a + r.end + s.end = omega arith in
    let p : suc (r.records + s.records) ≡ suc r.records + s.records = omega arith in
    let w : one_more (record_length (a ++ b)) (seq r s) ≡ seq (one_more (record_length a) r) s =
    rw (n.size, q, p) refl in
    rw (e, w) at (advances y z)

later_on : (lent : Lent) (a b : List ℕ) (n k : ℕ) (m : Mesh) (fs : List Entry) (s : Replay)
    → Replays lent (drop (n + k) a ++ b) m fs s → Replays lent (drop k (drop n a) ++ b) m fs s
later_on lent a b n k m fs s x = rw (drop-drop k n a) x

pub replays_longer : {lent : Lent} (b : List ℕ) {a : List ℕ} {m : Mesh} {es fs : List Entry} {r s : Replay}
    → Replays lent a m es r → Replays lent (drop r.end a ++ b) r.mesh fs s
    → Replays lent (a ++ b) m (es ++ fs) (seq r s)
replays_longer {lent} b {fs = fs} {s = s} (halts {bytes = a} {m} {n} {k} x) y = halts_longer lent a b m n k fs s y
replays_longer {lent} b {fs = fs} {s = s} (advances {bytes = a} {m} {entries = es} {r} A x) y =
    advances_longer lent a b m es fs r s A
    (replays_longer b x (later_on lent a b (record_length a) r.end r.mesh fs s y))
