-- A replay that goes on record by record, in spare tables that change on the way.
use Prim.Native.Nat.{ℕ, zero, suc, ◌+◌, ◌-◌, ◌≤◌, ◌<◌, max}
use native.Mathlib.Nat.{zero-add}
use native.Mathlib.Omega.{arith}
use mathlib.Core.Bool.{true, false, true≢false}
use mathlib.Core.List.{List, []}
use mathlib.Core.Logic.{◌≢◌, ◌⊎◌, inl, inr}
use mathlib.Core.Path.{◌≡◌, refl, ap, sym, subst, ◌∙◌}
use lib.ListN.{length, take, drop, length-drop, drop_of_length-le}
use lib.Seq.{take_all, drop-drop, length-take-le}
use Rattle.tables.proofs.Standing.{sound_standing}
use Rattle.tables.specs.Standing.{standing}
use Rattle.theory.proofs.Results.Load.{load_carried}
use Rattle.theory.proofs.Results.Refine.{refine_carried}
use Rattle.theory.proofs.Results.WholeStep.{whole_step_carried}
use Rattle.theory.proofs.Results.Locks.{lock_carried}
use Rattle.theory.proofs.Results.Notes.{take_back_carried}
use Rattle.theory.proofs.Results.Lists.{list_carried}
use Rattle.theory.proofs.Results.Boxes.{box_carried}
use Rattle.rules.specs.Calls.{Outcome}
use Rattle.rules.specs.History.{changed}
use Rattle.rules.specs.Numbers.{number_at}
use Rattle.rules.specs.Sound.{Sound}
use Rattle.rules.specs.Spares.{Spares}
use Rattle.rules.specs.Tables.{Mesh}
use Rattle.journal.specs.Journal.{Entry, loaded, refined, stepped, refined_each, refined_in_box, lock_set, taken_back}
use Rattle.journal.specs.Journal.{stop_at, size_at, kind_at, body_at, record_length, is_kind, entry_of, entry_at}
use Rattle.making.specs.Making.{refusal_in, Makes}
use Rattle.std.proofs.Common.{Result, Ok, Err, IfOk, IsOk, is_ok}
use Rattle.journal.specs.Stops.{IsRecord, ReadsRecord, StopsAt}
use Rattle.journal.specs.declared.stops.Record.{Record}
use Rattle.journal.specs.Kinds.{stop_number, stop_refusal, IsKindOf}
use Rattle.journal.specs.declared.kinds.Kind.{Kind}
use Rattle.journal.specs.declared.stops.Stop.{Stop}
use Rattle.journal.specs.declared.stops.Stop.TheVariants.{End, Torn, Checksum, NoKind, Refused, Slots, Numbers}
use Rattle.redoing.specs.Replaying.{stop_of, refusal_of, replay_told, Ready, MakesNext, stays, goes}
use Rattle.journal.specs.Recording.{StopsWith, no_record, too_many, refuses, LentAlike}
use Rattle.journal.specs.Replay.{call_of, numbers_of, Lent, Replay, stopped, one_more, replay_first, started_at}
use Rattle.journal.specs.Replay.{replay}
use Rattle.tables.specs.declared.Counts.{Counts}
use Rattle.redoing.specs.declared.Replayed.{Replayed}
use Rattle.journal.proofs.Changes.{refused_mesh}
use Rattle.journal.proofs.Histories.{nothing_left}
use Rattle.journal.proofs.Journals.{stop_for, replay_bad, replay_good}
use Rattle.journal.proofs.Lending.{entry_alike, stops_alike}
use Rattle.journal.proofs.Numbers.{number_drop}
use Rattle.journal.proofs.Reading.{Whole, stop_whole}
use Rattle.journal.proofs.Replaying.{Advances, halts, advances, replays_first, replays_is, first_bound}
use Rattle.journal.proofs.Replaying.{replays_tells, seq}
use Rattle.journal.proofs.Stopping.{no_kind}

nonzero : (n : ℕ) → n ≢ 0 → 1 ≤ n
nonzero zero x = absurd (x refl)
nonzero (suc n) x = omega arith

stops_some : {lent : Lent} {bytes : List ℕ} {m : Mesh} {n k : ℕ} → StopsWith lent bytes m n k → n ≢ 0
stops_some (no_record x) e = x e
stops_some (too_many z l) e = omega arith
stops_some (refuses z l x) e = omega arith

stop_nonzero : (s : Stop) → stop_number s ≢ 0
stop_nonzero End e = omega arith
stop_nonzero Torn e = omega arith
stop_nonzero Checksum e = omega arith
stop_nonzero NoKind e = omega arith
stop_nonzero (Refused n) e = omega arith
stop_nonzero Slots e = omega arith
stop_nonzero Numbers e = omega arith

-- A replay that has a reason to stop is told with its number.
pub stop_told : (x : Result Record Stop) → is_ok x ≡ false → stop_of x ≢ 0
stop_told (Ok r) e = absurd (true≢false e)
stop_told (Err s) e = stop_nonzero s

pub none_told : (x : Result Record Stop) → is_ok x ≡ true → stop_of x ≡ 0
none_told (Ok r) e = refl
none_told (Err s) e = absurd (true≢false (sym e))

-- ---- what is carried out leaves a sound mesh

sound_made : {n : Mesh} {o q : Outcome} → o ≡ q → q.mesh ≡ n → Sound n → Sound o.mesh
sound_made e f S = subst Sound (sym (ap (λ (x : Outcome). x.mesh) e ∙ f)) S

entry_sound : (s : Spares) (e : Entry) (m : Mesh) → (changed (call_of s e) m).answer.refusal ≡ 0
    → Sound (changed (call_of s e) m).mesh
entry_sound s (loaded rule cage) m z = let x = load_carried rule cage m z in sound_made x.0 refl x.1.sound
entry_sound s (refined t) m z = let x = refine_carried t m z in sound_made x.0 refl x.1.sound
entry_sound s stepped m z = let x = whole_step_carried m z in sound_made x.0 refl x.1.sound
entry_sound s (refined_each list) m z = let x = list_carried list s m z in sound_made x.0 refl x.2.sound
entry_sound s (refined_in_box box) m z = let x = box_carried box s m z in sound_made x.0 refl x.1.sound
entry_sound s (lock_set on t) m z = let x = lock_carried on t m z in sound_made x.0 refl x.1.sound
entry_sound s (taken_back note) m z = let x = take_back_carried note m z in sound_made x.0 refl x.2.sound

-- ---- the next record

-- What is told of a record that is read.
pub read_told : (bytes : List ℕ) (x : Result Record Stop) → ReadsRecord bytes x
    → (stop_of x ≡ stop_at bytes) × (refusal_of x ≡ 0)
read_told bytes (Ok r) h = (sym h.whole, refl)
read_told bytes (Err s) h = (h.number, h.refusal)

pub read_next : (bytes : List ℕ) (x : Result Record Stop) → ReadsRecord bytes x → IfOk x (IsRecord bytes)
read_next bytes (Ok r) h = h
read_next bytes (Err s) h = tt

-- The bytes from a place on, as they are lent.
pub lent_tail : (n : ℕ) (l : List ℕ) → take (length l - n) (drop n l) ≡ drop n l
lent_tail n l = take_all (length l - n) (drop n l) (simp length-drop (omega arith))

-- The numbers of a record that is whole.
module _ (at : ℕ) (bytes : List ℕ) (z : stop_at (drop at bytes) ≡ 0) where
  whole_at : Whole (drop at bytes)
  whole_at = stop_whole (drop at bytes) z

  pub long_at : at + 16 ≤ length bytes
  long_at = let h = whole_at.long in omega (arith, length-drop at bytes)

  pub kind_read : (n : ℕ) (x : Result Kind Stop) → n ≡ number_at bytes (at + 4) → IsKindOf n x → IsOk x
  kind_read n (Ok k) e h = refl
  kind_read n (Err s) e h =
      let q = e ∙ sym (number_drop at bytes 4) in
      absurd (true≢false (sym whole_at.kind ∙ no_kind _ (size_at (drop at bytes)) (rw q at h.1)))

  pub record_read : (n size : ℕ) (x : Result Kind Stop) (k : Kind) → n ≡ number_at bytes (at + 4) → IsKindOf n x
      → x ≡ Ok k → size ≡ number_at bytes at → IsRecord (drop at bytes) (record { kind = k; size = size })
  record_read n size x k e h o s =
      let i = rw o at h in
      let q : at + 0 ≡ at = omega arith in
      record {
        whole = z;
        kind = i ∙ e ∙ sym (number_drop at bytes 4);
        size = s ∙ sym (rw q at (number_drop at bytes 0));
      }

module _ {bytes : List ℕ} {r : Replayed} (R : Ready bytes r) where
  whole_here : Whole (drop r.end bytes)
  whole_here = whole_at r.end bytes R.whole

  pub room : r.end + (16 + size_at (drop r.end bytes)) ≤ length bytes
  room =
      let l = R.within in
      let h = whole_here.long in
      omega (arith, length-drop r.end bytes)

module _ {bytes : List ℕ} {r : Replayed} (R : Ready bytes r) (size kind k : ℕ)
    (es : size ≡ size_at (drop r.end bytes)) (ek : kind ≡ kind_at (drop r.end bytes))
    (en : (body : List ℕ) → length body ≡ size → k ≡ numbers_of (entry_of kind body)) where
  abbrev rest : List ℕ
  rest = drop r.end bytes

  body_length : length (body_at rest) ≡ size
  body_length =
      let l = (whole_here R).long in
      let p = length-drop r.end bytes in
      length-take-le (size_at rest) (drop 12 rest) (simp length-drop (omega arith)) ∙ sym es

  -- The body, as it is lent.
  body_here : take (r.end + 12 + size - (r.end + 12)) (drop (r.end + 12) bytes) ≡ body_at rest
  body_here =
      let q : r.end + 12 + size - (r.end + 12) ≡ size = omega arith in
      rw (q, es, ← drop-drop 12 r.end bytes) refl

  entry_here : entry_of kind (body_at rest) ≡ entry_at rest
  entry_here = ap (λ (i : ℕ). entry_of i (body_at rest)) ek

  numbers_here : k ≡ numbers_of (entry_at rest)
  numbers_here = en (body_at rest) body_length ∙ ap numbers_of entry_here

  lent_here : entry_of kind (take (r.end + 12 + size - (r.end + 12)) (drop (r.end + 12) bytes)) ≡ entry_at rest
  lent_here = ap (entry_of kind) body_here ∙ entry_here

  pub lent_kind : is_kind kind (length (take (r.end + 12 + size - (r.end + 12)) (drop (r.end + 12) bytes))) ≡ true
  lent_kind = rw (body_here, body_length, es, ek) (whole_here R).kind

  pub lent_room : (n : ℕ) → k ≤ n
      → numbers_of (entry_of kind (take (r.end + 12 + size - (r.end + 12)) (drop (r.end + 12) bytes))) ≤ n
  lent_room n l = let e = numbers_here in rw lent_here (omega arith)

  module _ (lent : Lent) (m : Mesh) where
    pub numbers_exceed : (s : Replayed) (n : Mesh) → lent.numbers < k → s.records ≡ r.records → s.end ≡ r.end
        → s.stop ≡ 7 → s.refusal ≡ 0 → n ≡ m → MakesNext lent bytes r m s n
    numbers_exceed s n l a b e f g =
        let q = numbers_here in
        let x : StopsWith lent rest m 7 0 = too_many R.whole (omega arith) in
        stays a b (rw (e, f) x) g

    module _ (s : Replayed) (n : Mesh) (l : k ≤ lent.numbers) {w : Result Counts ℕ}
        (W : Makes (changed (call_of lent.spares
        (entry_of kind (take (r.end + 12 + size - (r.end + 12)) (drop (r.end + 12) bytes)))) m) w n) where
      makes_here : Makes (changed (call_of lent.spares (entry_at rest)) m) w n
      makes_here = subst (λ (e : Entry). Makes (changed (call_of lent.spares e) m) w n) lent_here W

      room_here : numbers_of (entry_at rest) ≤ lent.numbers
      room_here = let q = numbers_here in omega arith

      refused_here : refusal_in w ≢ 0 → s.records ≡ r.records → s.end ≡ r.end → s.stop ≡ 5
          → s.refusal ≡ refusal_in w → MakesNext lent bytes r m s n
      refused_here x a b e f =
          let c = call_of lent.spares (entry_at rest) in
          let q = makes_here.refusal in
          let y : (changed c m).answer.refusal ≢ 0 = λ z. x (q ∙ z) in
          let h : StopsWith lent rest m 5 (changed c m).answer.refusal = refuses R.whole room_here y in
          stays a b (rw (e, f, q) h) (makes_here.mesh ∙ refused_mesh c m y)

      carried_here : refusal_in w ≡ 0 → s.records ≡ r.records + 1 → s.end ≡ r.end + 12 + size + 4
          → s.stop ≡ stop_at (take (length bytes - s.end) (drop s.end bytes)) → s.refusal ≡ 0
          → MakesNext lent bytes r m s n
      carried_here z a b e f =
          goes a (omega arith) (rw (lent_tail s.end bytes) at e) f room_here
          (sym makes_here.refusal ∙ z) makes_here.mesh

    module _ (s : Replayed) (n : Mesh) (l : k ≤ lent.numbers) where
      pub refused_next : {w : ℕ} → Makes (changed (call_of lent.spares
          (entry_of kind (take (r.end + 12 + size - (r.end + 12)) (drop (r.end + 12) bytes)))) m) (Err w) n
          → s.records ≡ r.records → s.end ≡ r.end → s.stop ≡ 5 → s.refusal ≡ w → MakesNext lent bytes r m s n
      refused_next W a b e f = refused_here s n l W W.some a b e f

      pub carried_next : {counts : Counts} → Makes (changed (call_of lent.spares
          (entry_of kind (take (r.end + 12 + size - (r.end + 12)) (drop (r.end + 12) bytes)))) m) (Ok counts) n
          → s.records ≡ r.records + 1 → s.end ≡ r.end + 12 + size + 4
          → s.stop ≡ stop_at (take (length bytes - s.end) (drop s.end bytes)) → s.refusal ≡ 0
          → MakesNext lent bytes r m s n
      carried_next W a b e f = carried_here s n l W refl a b e f

-- ---- all records

-- Two parts of a replay.
abbrev gone_on : Replayed → Replay → Replay
gone_on r s = seq (replay_told r s.mesh) s

-- A replay of these bytes from m on that has come to r and n: what is left leads to what all of them do. Where the next
-- record is whole, the first refusal of n is known.
pub record Reached (lent : Lent) (bytes : List ℕ) (m : Mesh) (r : Replayed) (n : Mesh) (bad : ℕ) : Type 0 where
  pub within : r.end ≤ length bytes
  pub records : r.records ≤ r.end
  pub rest : replay_first (length bytes) lent bytes m
      ≡ gone_on r (replay_first (length bytes) lent (drop r.end bytes) n)
  pub next : ((r.stop ≡ stop_at (drop r.end bytes)) × (r.refusal ≡ 0))
      ⊎ StopsWith lent (drop r.end bytes) n r.stop r.refusal
  pub known : r.stop ≡ 0 → bad ≡ standing n

gone_first : (s : Replay) → seq (stopped 0 0 s.mesh) s ≡ s
gone_first s = rw (zero-add s.records, zero-add s.end) refl

pub begins : (lent : Lent) (bytes : List ℕ) (m : Mesh) (r : Replayed) (bad : ℕ) → r.records ≡ 0 → r.end ≡ 0
    → r.stop ≡ stop_at bytes → r.refusal ≡ 0 → bad ≡ standing m → Reached lent bytes m r m bad
begins lent bytes m r bad a b e f g = record {
  within = omega arith;
  records = omega arith;
  rest = rw (a, b) (sym (gone_first _));
  next = inl (rw b e, f);
  known = λ z. g;
}

next_whole : {lent : Lent} {bytes : List ℕ} {n : Mesh} {stop refusal : ℕ}
    → ((stop ≡ stop_at bytes) × (refusal ≡ 0)) ⊎ StopsWith lent bytes n stop refusal → stop ≡ 0 → stop_at bytes ≡ 0
next_whole (inl x) z = sym x.0 ∙ z
next_whole (inr x) z = absurd (stops_some x z)

next_stops : {lent : Lent} {bytes : List ℕ} {n : Mesh} {stop refusal : ℕ}
    → ((stop ≡ stop_at bytes) × (refusal ≡ 0)) ⊎ StopsWith lent bytes n stop refusal → stop ≢ 0
    → StopsWith lent bytes n stop refusal
next_stops (inl x) q = rw (x.0, x.1) (no_record (λ z. q (x.0 ∙ z)))
next_stops (inr x) q = x

pub ready : {lent : Lent} {bytes : List ℕ} {m : Mesh} {r : Replayed} {n : Mesh} {bad : ℕ}
    → Reached lent bytes m r n bad → r.stop ≡ 0 → Ready bytes r
ready R z = record { within = R.within; records = R.records; whole = next_whole R.next z }

gone_none : (r : Replayed) (n : Mesh) → gone_on r (stopped r.stop r.refusal n) ≡ replay_told r n
gone_none r n =
    let p : r.records + 0 ≡ r.records = omega arith in
    let q : r.end + 0 ≡ r.end = omega arith in
    rw (p, q) refl

gone_one : (r s : Replayed) (l : ℕ) (x : Replay) → s.records ≡ r.records + 1 → s.end ≡ r.end + l
    → gone_on r (one_more l x) ≡ gone_on s x
gone_one r s l x a b =
    let p : r.records + suc x.records ≡ s.records + x.records = omega arith in
    let q : r.end + (l + x.end) ≡ s.end + x.end = omega arith in
    rw (p, q) refl

-- One record more.
module _ {lent later : Lent} {bytes : List ℕ} {m₀ : Mesh} {r : Replayed} {m : Mesh} {bad : ℕ} (L : LentAlike lent later)
    (R : Reached lent bytes m₀ r m bad) (s : Replayed) (n : Mesh) where
  stays_on : s.records ≡ r.records → s.end ≡ r.end
      → StopsWith later (drop r.end bytes) m s.stop s.refusal → n ≡ m → Reached lent bytes m₀ s n 0
  stays_on a b x e =
      let y : StopsWith lent (drop r.end bytes) m s.stop s.refusal = stops_alike L x in
      let l = R.within in
      let k = R.records in
      record {
        within = omega arith;
        records = omega arith;
        rest = rw (a, b, e) R.rest;
        next = inr (rw (b, e) y);
        known = λ z. absurd (stops_some y z);
      }

  goes_further : r.stop ≡ 0 → s.records ≡ r.records + 1
      → s.end ≡ r.end + record_length (drop r.end bytes) → s.stop ≡ stop_at (drop s.end bytes)
      → s.refusal ≡ 0 → numbers_of (entry_at (drop r.end bytes)) ≤ later.numbers
      → (changed (call_of later.spares (entry_at (drop r.end bytes))) m).answer.refusal ≡ 0
      → n ≡ (changed (call_of later.spares (entry_at (drop r.end bytes))) m).mesh → Reached lent bytes m₀ s n 0
  goes_further z a b e f l c g =
      let left = drop r.end bytes in
      let size = record_length left in
      let A = entry_alike lent.spares later.spares m L.spares (entry_at left) in
      let W = whole_here (ready R z) in
      let q = L.numbers in
      let x : Advances lent left m = record { whole = W; room = omega arith; carried = A.refusal ∙ c } in
      let i : length left ≤ length bytes = simp length-drop (omega arith) in
      let j : length (drop size left) ≤ length bytes = simp length-drop (omega arith) in
      let d : drop size left ≡ drop s.end bytes =
      drop-drop size r.end bytes ∙ ap (λ (h : ℕ). drop h bytes) (sym b) in
      let o : (changed (call_of lent.spares (entry_at left)) m).mesh ≡ n = A.mesh ∙ sym g in
      let y : replay_first (length bytes) lent left m
      ≡ one_more size (replay_first (length bytes) lent (drop s.end bytes) n) =
      rw (d, o) at
      (replays_is (advances x (replays_first (length bytes) lent (drop size left) _ j).1) i) in
      let v = R.within in
      let u = R.records in
      let w = W.long in
      let p = length-drop r.end bytes in
      record {
        within = omega arith;
        records = omega arith;
        rest = R.rest ∙ ap (gone_on r) y ∙ gone_one r s size _ a b;
        next = inl (e, f);
        known = λ h. sound_standing (subst Sound (sym g) (entry_sound later.spares (entry_at left) m c));
      }

pub reached_on : {lent later : Lent} {bytes : List ℕ} {m₀ : Mesh} {r : Replayed} {m : Mesh} {bad : ℕ}
    → LentAlike lent later → Reached lent bytes m₀ r m bad → r.stop ≡ 0 → (s : Replayed) (n : Mesh)
    → MakesNext later bytes r m s n → Reached lent bytes m₀ s n 0
reached_on L R z s n (stays a b x e) = stays_on L R s n a b x e
reached_on L R z s n (goes a b e f l c g) = goes_further L R s n z a b e f l c g

-- It comes nearer to the end, or stops.
pub comes_nearer : {lent : Lent} {bytes : List ℕ} {r : Replayed} {m : Mesh} {s : Replayed} {n : Mesh}
    → Ready bytes r → r.stop ≡ 0 → MakesNext lent bytes r m s n
    → length bytes - s.end + (1 - s.stop) < length bytes - r.end + (1 - r.stop)
comes_nearer {s = s} R z (stays a b x e) =
    let y : s.stop ≢ 0 = stops_some x in
    let i = nonzero s.stop y in
    omega arith
comes_nearer R z (goes a b e f k c g) = let l = room R in omega arith

pub ends : {lent : Lent} {bytes : List ℕ} {m : Mesh} {r : Replayed} {n : Mesh} {bad : ℕ}
    → Reached lent bytes m r n bad → r.stop ≢ 0 → replay_told r n ≡ replay_first (length bytes) lent bytes m
ends {lent} {bytes} {m} {r} {n} R x =
    let i : length (drop r.end bytes) ≤ length bytes = simp length-drop (omega arith) in
    let y : replay_first (length bytes) lent (drop r.end bytes) n ≡ stopped r.stop r.refusal n =
    replays_is (halts (next_stops R.next x)) i in
    sym (R.rest ∙ ap (gone_on r) y ∙ gone_none r n)

-- ---- from the header on

pub ends_below : (lent : Lent) (bytes : List ℕ) (start limit : ℕ) (m : Mesh) (r : Replayed) (n : Mesh)
    → length bytes < limit → start < length bytes → let tail = take (length bytes - start) (drop start bytes) in
    replay_told r n ≡ replay_first (length tail) lent tail m → start + r.end < limit
ends_below lent bytes start limit m r n b l f =
    let tail = drop start bytes in
    let g : replay_told r n ≡ replay_first (length tail) lent tail m = rw (lent_tail start bytes) at f in
    let i : length tail ≤ length tail = omega arith in
    let w = (replays_tells (replays_first (length tail) lent tail m i).1).within in
    let e = ap (λ (x : Replay). x.end) g in
    omega (arith, length-drop start bytes)

pub header_stops : (lent : Lent) (bytes : List ℕ) (at : ℕ) (m : Mesh) (s : Stop) → StopsAt (stop_for m bytes) s
    → stopped (stop_number s) (stop_refusal s) m ≡ replay lent bytes at m
header_stops lent bytes at m s h =
    let x : stop_for m bytes ≢ 0 = λ z. stop_nonzero s (h.number ∙ z) in
    rw (h.number, h.refusal) (sym (replay_bad lent bytes at m x))

module _ (lent : Lent) (bytes : List ℕ) (at : ℕ) (m : Mesh) (start : ℕ) (z : stop_for m bytes ≡ 0)
    (s : start ≡ max 20 at) where
  replay_from : replay lent bytes at m ≡ started_at start (replay_first (length bytes) lent (drop start bytes) m)
  replay_from = rw s (replay_good lent bytes at m z)

  pub nothing_from : length bytes ≤ start
      → record { records = 0; end = start; stop = 1; refusal = 0; mesh = m } ≡ replay lent bytes at m
  nothing_from l =
      let d : drop start bytes ≡ [] = drop_of_length-le bytes {i = start} l in
      let q = nothing_left in
      let x : stop_at [] ≢ 0 = λ h. omega arith in
      let i : length {A = ℕ} [] ≤ length bytes = omega arith in
      let f : replay_first (length bytes) lent [] m ≡ stopped (stop_at []) 0 m = replays_is (halts (no_record x)) i in
      let g : replay_first (length bytes) lent (drop start bytes) m ≡ stopped 1 0 m =
      rw d (f ∙ ap (λ (k : ℕ). stopped k 0 m) q) in
      let w : start + 0 ≡ start = omega arith in
      sym (replay_from ∙ ap (started_at start) g ∙ rw w refl)

  pub records_from : (r : Replayed) (n : Mesh) → let tail = take (length bytes - start) (drop start bytes) in
      replay_told r n ≡ replay_first (length tail) lent tail m → started_at start (replay_told r n) ≡ replay lent bytes at m
  records_from r n f =
      let g : replay_told r n ≡ replay_first (length (drop start bytes)) lent (drop start bytes) m =
      rw (lent_tail start bytes) at f in
      let i : length (drop start bytes) ≤ length bytes = simp length-drop (omega arith) in
      ap (started_at start) (g ∙ sym (first_bound (length bytes) lent (drop start bytes) m i)) ∙ sym replay_from
