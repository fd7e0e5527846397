-- A locked triangle stands after every call but a load, and so after every list of calls without one.
use mathlib.Core.Path.{◌≡◌, refl, sym, ap, ◌∙◌, subst}
use mathlib.Core.Bool.{Bool, true, false}
use mathlib.Core.List.{List, [], ◌∷◌}
use mathlib.Core.Logic.{◌≢◌, ◌⊎◌, inl, inr}
use Prim.Native.Nat.{ℕ, zero, suc, ◌*◌, ◌<◌}
use native.Mathlib.Decide.{ℕ_discrete, dec_lt}
use native.Mathlib.Omega.{arith}
use lib.IntN.{pos}
use lib.ListN.{get_or}
use Rattle.theory.proofs.Boxes.BoxCall.{box_refusal_lem, box_makes}
use Rattle.theory.proofs.Calls.CallRefusals.{refine_judged, noted_judged, take_back_judged, whole_step_refusal_lem}
use Rattle.theory.proofs.Calls.Carried.{RefineFound, refine_found, refine_unlocked, found_refined, noted_found}
use Rattle.theory.proofs.Calls.Carried.{take_back_found}
use Rattle.theory.proofs.Calls.Reporting.{Reported, refused_plain, too_short, written, reported_as_lem, short_number}
use Rattle.theory.proofs.Calls.EveryCall.{refused_is, question_stands}
use Rattle.theory.proofs.Calls.FirstThatHolds.{judged_carried, none_hold}
use Rattle.theory.proofs.Calls.Outcomes.{lock_makes}
use Rattle.theory.proofs.Chains.Going.{going_begins}
use Rattle.theory.proofs.Lists.ListCall.{list_refusal, list_makes}
use Rattle.theory.proofs.Locks.LeftAlone.{refine_leaves, handled_leaves, turns_leave}
use Rattle.theory.proofs.Locks.Standing.{follow_none, follow_on, still_follows, stands_same, stands_on}
use Rattle.theory.proofs.Locks.Standing.{stands_back, still_stands}
use Rattle.theory.proofs.Notes.TakenBack.{makes_present}
use Rattle.theory.proofs.Numbers.Decide.{stable}
use Rattle.theory.proofs.Soundness.SoundTest.{sound_is}
use Rattle.rules.specs.Boxes.{refine_in_box, box_refusal}
use Rattle.rules.specs.Calls.{Outcome, refine_refusal, whole_step_call, lock_call, with_lock}
use Rattle.rules.specs.Conditions.{Locked, SomeLocked}
use Rattle.rules.specs.History.{loads, refines, steps, refines_each, refines_in_box, sets_lock, Call, changes, asks}
use Rattle.rules.specs.History.{refines_noted, takes_back, ring_of, position_of, limits_of, preview_of, point_seen}
use Rattle.rules.specs.History.{triangles_seen, reports, preview_reported, curve_of, outcome, after}
use Rattle.rules.specs.Lists.{Progress, refine_each, spares_refusal}
use Rattle.rules.specs.Notes.{refined, noted_triangle, restored, Accepted, take_back_call}
use Rattle.rules.specs.Promises.{refused_work, refused_as, SameLocks, Still, LockMakes, Stands, NoLoad, NoClearing}
use Rattle.rules.specs.Promises.{NoTakeBack, LeaveLocked, NoneTakenBack, LinksFollow}
use Rattle.rules.specs.Reports.{Refining, one, with_note, each, in_box, plain_call}
use Rattle.rules.specs.Sound.{Sound}
use Rattle.rules.specs.Spares.{Spares}
use Rattle.rules.specs.Split.{at_first}
use Rattle.rules.specs.Tables.{Mesh, lock, generation}

-- ---- refused

refused_work_lem : (first : ℕ) (p : Progress) (spares : Spares) (n : ℕ) (m : Mesh)
    → (refused_work first p spares n m).mesh ≡ m
refused_work_lem zero p spares n m = refl
refused_work_lem (suc k) p spares n m = refl

refused_mesh : (c : Call) (n : ℕ) (m : Mesh) → (refused_as c n m).mesh ≡ m
refused_mesh (changes (loads rule bytes)) n m = refl
refused_mesh (changes (refines t)) n m = refl
refused_mesh (changes steps) n m = refl
refused_mesh (changes (refines_each list spares)) n m =
    refused_work_lem (spares_refusal spares m) (refine_each list m) spares n m
refused_mesh (changes (refines_in_box b spares)) n m = refused_work_lem (box_refusal b spares m) (refine_in_box b m) spares n m
refused_mesh (changes (sets_lock on t)) n m = refl
refused_mesh (changes (refines_noted t note)) n m = refl
refused_mesh (changes (takes_back note)) n m = refl
refused_mesh (changes (reports (one t) buffer)) n m = refl
refused_mesh (changes (reports (with_note t note) buffer)) n m = refl
refused_mesh (changes (reports (each list spares) buffer)) n m =
    refused_work_lem (spares_refusal spares m) (refine_each list m) spares n m
refused_mesh (changes (reports (in_box b spares) buffer)) n m =
    refused_work_lem (box_refusal b spares m) (refine_in_box b m) spares n m
refused_mesh (asks (ring_of v buffer)) n m = refl
refused_mesh (asks (position_of v)) n m = refl
refused_mesh (asks (limits_of table)) n m = refl
refused_mesh (asks (point_seen v)) n m = refl
refused_mesh (asks (triangles_seen k)) n m = refl
refused_mesh (asks (curve_of v table)) n m = refl
refused_mesh (asks (preview_reported list spares buffer)) n m =
    refused_work_lem (spares_refusal spares m) (refine_each list m) spares n m
refused_mesh (asks (preview_of list spares)) n m = refused_work_lem (spares_refusal spares m) (refine_each list m) spares n m

-- A refused call leaves the mesh.
pub refused_stands : (c : Call) (m : Mesh) → (outcome c m).answer.refusal ≢ 0 → (outcome c m).mesh ≡ m
refused_stands c m n = ap (λ (o : Outcome). o.mesh) (refused_is c m n) ∙ refused_mesh c _ m

-- ---- carried out

-- What a call leaves of a locked triangle.
record Left (x : ℕ) (c : Call) (m n : Mesh) : Type 0 where
  stands : Stands x m n
  locked : NoClearing x c m → Locked n x
  follows : NoTakeBack c m → LinksFollow x m.topology n.topology
  sound : (n.topology ≡ m.topology) ⊎ Sound n

left_same : {x : ℕ} {c : Call} {m n : Mesh} → Locked m x → n ≡ m → Left x c m n
left_same {x} {c} {m} L e = subst (Left x c m) (sym e) (record {
  stands = stands_same L.0 refl refl;
  locked = λ _. L;
  follows = λ _. follow_none refl;
  sound = inl refl;
})

-- Splits and flips that leave its generation.
left_still : {x : ℕ} {c : Call} {m n k : Mesh} → Locked m x → k ≡ n → Sound m → Sound n
    → Still m.topology n.topology
    → ((i : ℕ) → i < 3 * m.topology.vertices → get_or n.positions i (pos 0) ≡ get_or m.positions i (pos 0))
    → SameLocks m n → generation n.topology x ≡ generation m.topology x → Left x c m k
left_still {x} {c} {m} (l, d) e S R T old K g = subst (Left x c m) (sym e) (record {
  stands = still_stands S T old l g;
  locked = λ _. (omega (arith, T.grows), K.old x l ∙ d);
  follows = λ _. still_follows T l g;
  sound = inr R;
})

left_refined : {x : ℕ} {c : Call} {m k : Mesh} (t : ℕ) → Locked m x → k ≡ refined t m → refine_refusal t m ≡ 0
    → Left x c m k
left_refined {m = m} t L e r =
    let F = refine_found t m r in
    let R = found_refined F in
    left_still L e F.sound R.sound R.still R.places.old R.places.locks.same
    (refine_leaves (at_first m) F (refine_unlocked t m r) L).0

-- The refine that is taken back cleared the locks of new slots, so that a locked one is old, and left it alone.
module _ {x : ℕ} {note : List ℕ} {m : Mesh} (A : Accepted note m) (L : Locked m x) where
  found : RefineFound (noted_triangle note) (restored note m)
  found = refine_found (noted_triangle note) (restored note m) A.carried_out

  back_locked : Locked (restored note m) x
  back_locked =
      go (subst (λ (n : Mesh). Locked n x) (sym (makes_present A)) L)
      (dec_lt x (restored note m).topology.triangles)
    where
      go : Locked (refined (noted_triangle note) (restored note m)) x
          → Dec (x < (restored note m).topology.triangles) → Locked (restored note m) x
      go (u, d) (yes l) = (l, sym ((found_refined found).places.locks.same.old x l) ∙ d)
      go (u, d) (no l) = absurd (omega (arith, (found_refined found).places.locks.same.new x (omega arith) u))

  left_alone : generation (refined (noted_triangle note) (restored note m)).topology x
      ≡ generation (restored note m).topology x
  left_alone =
      (refine_leaves (at_first (restored note m)) found
      (refine_unlocked (noted_triangle note) (restored note m) A.carried_out) back_locked).0

  back_stands : Stands x m (restored note m)
  back_stands =
      let n = restored note m in
      let R = found_refined found in
      let l = back_locked.0 in
      stands_back l
      (subst (Stands x n) (makes_present A) (still_stands A.sound R.still R.places.old l left_alone))

  back_follows : LinksFollow x (restored note m).topology m.topology
  back_follows =
      subst (λ (n : Mesh). LinksFollow x (restored note m).topology n.topology) (makes_present A)
      (still_follows (found_refined found).still back_locked.0 left_alone)

pub goes_back : (x : ℕ) (note : List ℕ) (m : Mesh) → Locked m x → (take_back_call note m).answer.refusal ≡ 0
    → LinksFollow x (take_back_call note m).mesh.topology m.topology
goes_back x note m L z =
    let (r, e) = judged_carried (take_back_judged note m) z in
    subst (λ (n : Mesh). LinksFollow x n.topology m.topology) (sym (ap (λ (o : Outcome). o.mesh) e))
    (back_follows (take_back_found note m r) L)

-- A whole step is refused while a triangle is locked.
pub step_locked : (m : Mesh) → SomeLocked m → (whole_step_call m).answer.refusal ≢ 0
step_locked m L z = let (_, (_, (_, (_, (_, (l, _)))))) = none_hold (whole_step_refusal_lem m) z tt in l L

-- A call that refines, with a report or without.
plain_left : (x : ℕ) (c : Call) (r : Refining) (m : Mesh) → Locked m x → (plain_call r m).answer.refusal ≡ 0
    → Left x c m (plain_call r m).mesh
plain_left x c (one t) m L z =
    let (r, e) = judged_carried (refine_judged t m) z in
    left_refined t L (ap (λ (o : Outcome). o.mesh) e) r
plain_left x c (with_note t note) m L z =
    let (r, e) = judged_carried (noted_judged t note m) z in
    left_refined t L (ap (λ (o : Outcome). o.mesh) e) (noted_found t note m r).refines
plain_left x c (each list spares) m L z =
    let (e, _, M) = list_makes list spares m z in
    let (_, (_, (s, _))) = none_hold (list_refusal list spares m) z tt in
    let S = stable (sound_is m) s in
    left_still L (ap (λ (o : Outcome). o.mesh) e) S M.sound M.still M.old_vertices M.locks
    (handled_leaves (going_begins S) L M.handled)
plain_left x c (in_box b spares) m L z =
    let (e, M) = box_makes b spares m z in
    let (_, (_, (_, (s, _)))) = none_hold (box_refusal_lem b spares m) z tt in
    let S = stable (sound_is m) s in
    left_still L (ap (λ (o : Outcome). o.mesh) e) S M.sound M.still M.old_vertices M.locks
    (turns_leave (going_begins S) L M.turns)

reported_left : (x : ℕ) (c : Call) (r : Refining) (m : Mesh) {buffer : List ℕ} {o : Outcome} → Locked m x
    → Reported r buffer m o → o.answer.refusal ≡ 0 → Left x c m o.mesh
reported_left x c r m L (refused_plain n) z = absurd (n z)
reported_left x c r m L (too_short y l) z = absurd (omega (arith, short_number r m, z))
reported_left x c r m L (written y l) z = plain_left x c r m L y

carried_stands : (x : ℕ) (c : Call) (m : Mesh) → Locked m x → NoLoad c m → (outcome c m).answer.refusal ≡ 0
    → Left x c m (outcome c m).mesh
carried_stands x (changes (loads rule bytes)) m L n z = absurd (n rule bytes refl z)
carried_stands x (changes (refines t)) m L n z = plain_left x _ (one t) m L z
carried_stands x (changes (refines_noted t note)) m L n z = plain_left x _ (with_note t note) m L z
carried_stands x (changes (refines_each list spares)) m L n z = plain_left x _ (each list spares) m L z
carried_stands x (changes (refines_in_box b spares)) m L n z = plain_left x _ (in_box b spares) m L z
carried_stands x (changes (reports r buffer)) m L n z = reported_left x _ r m L (reported_as_lem r buffer m) z
carried_stands x (changes (takes_back note)) m L n z =
    let (r, e) = judged_carried (take_back_judged note m) z in
    let A = take_back_found note m r in
    subst (Left x (changes (takes_back note)) m) (sym (ap (λ (o : Outcome). o.mesh) e)) (record {
      stands = back_stands A L;
      locked = λ _. back_locked A L;
      follows = λ k. absurd (k note refl z);
      sound = inr A.sound;
    })
carried_stands x (changes steps) m L n z = absurd (step_locked m (x, L) z)
carried_stands x (changes (sets_lock on t)) m (l, d) n z =
    let (e, M) = lock_makes on t m z in
    subst (Left x (changes (sets_lock on t)) m) (sym (ap (λ (o : Outcome). o.mesh) e)) (record {
      stands = stands_same l refl refl;
      locked = λ c. (l, keeps on M c z (ℕ_discrete x t));
      follows = λ _. follow_none refl;
      sound = inl refl;
    })
  where
    keeps : (on : Bool) → LockMakes on t m (with_lock on t m) → NoClearing x (changes (sets_lock on t)) m
        → (lock_call on t m).answer.refusal ≡ 0 → Dec (x ≡ t) → lock (with_lock on t m) x ≡ 1
    keeps on M c z (no q) = M.others x q ∙ d
    keeps true M c z (yes q) = rw q M.this
    keeps false M c z (yes q) = absurd (c (ap (λ (t : ℕ). changes (sets_lock false t)) (sym q)) z)
carried_stands x (asks q) m L n z = left_same L (question_stands q m)

-- ---- every call, and every list of calls

call_left : (x : ℕ) (c : Call) (m : Mesh) → Locked m x → NoLoad c m → Left x c m (outcome c m).mesh
call_left x c m L n = go (ℕ_discrete (outcome c m).answer.refusal 0)
  where
    go : Dec ((outcome c m).answer.refusal ≡ 0) → Left x c m (outcome c m).mesh
    go (yes z) = carried_stands x c m L n z
    go (no z) = left_same L (refused_stands c m z)

pub call_stands : (x : ℕ) (c : Call) (m : Mesh) → Locked m x → NoLoad c m
    → Stands x m (outcome c m).mesh × (NoClearing x c m → Locked (outcome c m).mesh x)
call_stands x c m L n = let a = call_left x c m L n in (a.stands, a.locked)

pub call_follows : (x : ℕ) (c : Call) (m : Mesh) → Locked m x → NoLoad c m → NoTakeBack c m
    → LinksFollow x m.topology (outcome c m).mesh.topology
call_follows x c m L n = (call_left x c m L n).follows

pub history_stands : (x : ℕ) (cs : List Call) (m : Mesh) → Locked m x → LeaveLocked x cs m
    → Stands x m (after cs m) × Locked (after cs m) x
unfolding after
history_stands x [] m L N = (stands_same L.0 refl refl, L)
history_stands x (c ∷ cs) m L (n, k, N) =
    let a = call_left x c m L n in
    let b = history_stands x cs (outcome c m).mesh (a.locked k) N in
    (stands_on a.sound a.stands b.0, b.1)

pub history_follows : (x : ℕ) (cs : List Call) (m : Mesh) → Locked m x → LeaveLocked x cs m → NoneTakenBack cs m
    → LinksFollow x m.topology (after cs m).topology
unfolding after
history_follows x [] m L N T = follow_none refl
history_follows x (c ∷ cs) m L (n, k, N) (t, T) =
    let a = call_left x c m L n in
    follow_on (a.follows t) (history_follows x cs (outcome c m).mesh (a.locked k) N T)
