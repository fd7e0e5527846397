-- Every history: what each call keeps, and so what holds after every list of calls.
use mathlib.Core.Path.{◌≡◌, refl, sym, ap, ◌∙◌, subst}
use mathlib.Core.Logic.{inl, inr}
use mathlib.Core.Bool.{Bool, true, false}
use mathlib.Core.List.{List, [], ◌∷◌}
use Prim.Native.Nat.{ℕ, ◌+◌, ◌*◌, ◌/◌, ◌%◌, ◌≤◌, min, ◌-◌, max}
use native.Mathlib.Omega.{arith}
use lib.Dec.{eqb}
use borrow.Author.Tests.{ne_eqb}
use Rattle.theory.proofs.Splits.Bases.{reached}
use Rattle.theory.proofs.Loads.CageEdges.{load_characteristic}
use Rattle.theory.proofs.Boxes.BoxCall.{box_keeps}
use Rattle.theory.proofs.Calls.CallRefusals.{load_judged, refine_judged, whole_step_judged, lock_judged}
use Rattle.theory.proofs.Calls.CallRefusals.{noted_judged, take_back_judged}
use Rattle.theory.proofs.Calls.EveryCall.{question_stands}
use Rattle.theory.proofs.Chains.Going.{Going, going_begins, going_on, same_characteristic}
use Rattle.theory.proofs.Lists.ListCall.{list_keeps}
use Rattle.theory.proofs.Calls.Carried.{LoadFound, RefineFound, load_found, refine_found, found_refined}
use Rattle.theory.proofs.Calls.Carried.{step_found, found_step, LockFound, lock_found, found_locked, noted_found}
use Rattle.theory.proofs.Calls.Carried.{take_back_found}
use Rattle.theory.proofs.Calls.Reporting.{plain, Reported, refused_plain, too_short, written, reported_as_lem}
use Rattle.theory.proofs.Calls.Reporting.{reported_keeps, short_number}
use Rattle.theory.proofs.Calls.FirstThatHolds.{Judged, carried, refused, judged_carried}
use Rattle.theory.proofs.Loads.InnerOfTwo.{same_two}
use Rattle.theory.proofs.Loads.Load.{load_sound}
use Rattle.theory.proofs.Links.Manifold.{partnered}
use Rattle.theory.proofs.Chains.Refine.{chain_bound, chain_takes}
use Rattle.theory.proofs.Notes.TakenBack.{makes_present}
use Rattle.theory.proofs.Soundness.Relaxed.{sound_manifold}
use Rattle.theory.proofs.Splits.Parts.{mutual_links}
use Rattle.rules.specs.Cage.{cage_of, loaded}
use Rattle.rules.specs.Calls.{Room, no_room, Outcome, worked, load_refusal, refine_call, rim_splits_of, with_lock}
use Rattle.rules.specs.Conditions.{OddInChain, at_even, at_boundary, onward, EndsAtBoundary, Takes, even_end}
use Rattle.rules.specs.Conditions.{boundary_end, SizesFit, SomeInnerOfTwo}
use Rattle.rules.specs.History.{Near, ReportsSplits, Kept, loads, refines, steps, refines_each, refines_in_box}
use Rattle.rules.specs.History.{sets_lock, refines_noted, takes_back, reports, Call, changes, asks}
use Rattle.rules.specs.History.{LastLoad, nothing, cage, outcome, after, opens, last_load, edges, characteristic}
use Rattle.rules.specs.History.{cage_characteristic, EveryHistory}
use Rattle.rules.specs.Notes.{noted_call, noted_triangle, restored, Accepted}
use Rattle.rules.specs.Promises.{StepMakes}
use Rattle.rules.specs.Reports.{Refining, one, with_note, each, in_box, plain_call}
use Rattle.rules.specs.Sound.{Sound}
use Rattle.rules.specs.Split.{Work, at_first, refine}
use Rattle.rules.specs.Tables.{Topology, Mesh, TablesAgree, with_rule, link, generation}

-- In no tables has the cage a vertex off the boundary of exactly two triangles.
abbrev NoneOfTwo : List ℕ → Type 0
NoneOfTwo bytes = (n : Mesh) → TablesAgree n → SizesFit bytes n → ¬ SomeInnerOfTwo (cage_of bytes) n

-- What is kept from an accepted load on: the tables are sound, the characteristic is the cage's, and no vertex of the
-- cage off the boundary has exactly two triangles.
pub record Good (bytes : List ℕ) (m : Mesh) : Type 0 where
  pub sound : Sound m
  pub euler : characteristic m.topology ≡ cage_characteristic (cage_of bytes)
  pub none_of_two : NoneOfTwo bytes

abbrev pub Holds : LastLoad → Mesh → Type 0
Holds nothing m = Unit {0}
Holds (cage bytes) m = Good bytes m

-- What a call has to keep; a call added later adds its case to `keeps` alone.
pub record Keeps (c : Call) (m : Mesh) : Type 0 where
  pub holds : (o : LastLoad) → Holds o m → Holds (opens c m o) (outcome c m).mesh

-- ---- splits keep the characteristic

-- A mesh that a call made of a sound one: sound, and of the same characteristic.
record Stays (m n : Mesh) : Type 0 where
  sound : Sound n
  euler : characteristic n.topology ≡ characteristic m.topology

going_stays : {m : Mesh} {w : Work} → Going m w → Stays m w.mesh
going_stays G = record { sound = G.sound; euler = G.euler }

refine_stays : {t : ℕ} {m : Mesh} → RefineFound t m → Stays m (refine t (at_first m)).mesh
refine_stays F = going_stays (going_on (going_begins F.sound) F)

step_stays : {g : ℕ} {m : Mesh} {w : Work} → StepMakes g m w → Stays m w.mesh
step_stays {m = m} {w = w} P =
    let v : ℕ = m.topology.vertices in
    let e : ℕ = edges m.topology in
    let f : ℕ = m.topology.triangles in
    let a : (reached w).vertices ≡ v + f + 0 = omega (arith, P.vertices) in
    let b : edges (reached w) ≡ e + 3 * f + 0 = omega (arith, P.edges) in
    let c : (reached w).triangles ≡ f + 2 * f = omega (arith, P.triangles) in
    record { sound = P.sound; euler = same_characteristic v e f f 0 a b c }

lock_stays : (on : Bool) (t : ℕ) (m : Mesh) → LockFound t m → Stays m (with_lock on t m)
lock_stays on t m F = record { sound = (found_locked on F).sound; euler = refl }

-- Refining the noted triangle in what is restored gives the present mesh.
back_stays : {note : List ℕ} {m : Mesh} → Accepted note m → Stays m (restored note m)
back_stays {note} {m} A =
    let F = refine_found (noted_triangle note) (restored note m) A.carried_out in
    record {
      sound = A.sound;
      euler =
          sym (going_on (going_begins A.sound) F).euler
          ∙ ap (λ (n : Mesh). characteristic n.topology) (makes_present A);
    }

holds_on : {m n : Mesh} (o : LastLoad) → Stays m n → Holds o m → Holds o n
holds_on nothing S h = tt
holds_on (cage bytes) S h = record { sound = S.sound; euler = S.euler ∙ h.euler; none_of_two = h.none_of_two }

-- A call that is refused leaves the mesh, and one that is carried out makes one that stays.
judged_keeps : {n : ℕ} {m : Mesh} {room : Room} {success o : Outcome} (P : Mesh → Type 0) → Judged n m room success o
    → (n ≡ 0 → P m → P success.mesh) → P m → P o.mesh
judged_keeps P (carried z) f h = f z h
judged_keeps P (refused z) f h = h

-- ---- load

loaded_good : (rule : ℕ) (bytes : List ℕ) (m : Mesh) → LoadFound rule bytes m
    → Good bytes (with_rule rule (loaded (cage_of bytes) m))
loaded_good rule bytes m L = record {
  sound = load_sound rule bytes m L.agree L.known L.sizes L.corners L.coordinates L.differ L.fans;
  euler =
      load_characteristic (cage_of bytes) m L.agree L.sizes.vertex_room L.sizes.triangle_room L.corners
      L.differ;
  none_of_two = λ n A S x.
      L.none_of_two (same_two (cage_of bytes) m n L.agree A L.sizes.vertex_room L.sizes.triangle_room
      S.vertex_room S.triangle_room x);
}

load_holds : (rule : ℕ) (bytes : List ℕ) (m : Mesh) (a : LastLoad) {o : Outcome}
    → Judged (load_refusal rule bytes m) m no_room (worked (at_first (with_rule rule (loaded (cage_of bytes) m)))) o
    → Holds a m → Holds (elim (eqb o.answer.refusal 0) [ true ↦ cage bytes | false ↦ a ]) o.mesh
load_holds rule bytes m a (carried z) h = loaded_good rule bytes m (load_found rule bytes m z)
load_holds rule bytes m a (refused z) h = rw (ne_eqb (load_refusal rule bytes m) 0 z) h

-- ---- the calls

-- Those that can have a report.
plain_holds : (r : Refining) (m : Mesh) (a : LastLoad) → Holds a m → Holds a (outcome (changes (plain r)) m).mesh
plain_holds (one t) m a =
    judged_keeps (Holds a) (refine_judged t m) (λ z. holds_on a (refine_stays (refine_found t m z)))
plain_holds (with_note t note) m a =
    judged_keeps (Holds a) (noted_judged t note m) (λ z.
    holds_on a (refine_stays (refine_found t m (noted_found t note m z).refines)))
plain_holds (each list spares) m a = λ h. list_keeps list spares m (Holds a) h (λ G. holds_on a (going_stays G) h)
plain_holds (in_box b spares) m a = λ h. box_keeps b spares m (Holds a) h (λ G. holds_on a (going_stays G) h)

pub keeps : (c : Call) (m : Mesh) → Keeps c m
keeps (changes (refines t)) m = record { holds = plain_holds (one t) m }
keeps (changes (refines_noted t note)) m = record { holds = plain_holds (with_note t note) m }
keeps (changes (refines_each list spares)) m = record { holds = plain_holds (each list spares) m }
keeps (changes (refines_in_box b spares)) m = record { holds = plain_holds (in_box b spares) m }
keeps (changes (loads rule bytes)) m = record { holds = λ a. load_holds rule bytes m a (load_judged rule bytes m) }
keeps (changes (takes_back note)) m = record {
  holds = λ a.
      judged_keeps (Holds a) (take_back_judged note m) (λ z. holds_on a (back_stays (take_back_found note m z)));
}
keeps (changes steps) m = record {
  holds = λ a.
      judged_keeps (Holds a) (whole_step_judged m) (λ z. holds_on a (step_stays (found_step (step_found m z))));
}
keeps (changes (sets_lock on t)) m = record {
  holds = λ a. judged_keeps (Holds a) (lock_judged on t m) (λ z. holds_on a (lock_stays on t m (lock_found t m z)));
}
keeps (changes (reports r buffer)) m = record {
  holds = λ a h. reported_keeps r buffer m (Holds a) h (plain_holds r m a h);
}
keeps (asks q) m = record { holds = λ a. subst (Holds a) (sym (question_stands q m)) }

history_holds : (calls : List Call) (m : Mesh) (o : LastLoad) → Holds o m → Holds (last_load calls m o) (after calls m)
unfolding last_load after
history_holds [] m o h = h
history_holds (c ∷ cs) m o h = history_holds cs (outcome c m).mesh (opens c m o) ((keeps c m).holds o h)

-- ---- soundness alone

plain_sound : (r : Refining) (m : Mesh) → Sound m → Sound (outcome (changes (plain r)) m).mesh
plain_sound (one t) m =
    judged_keeps Sound (refine_judged t m) (λ z _. (found_refined (refine_found t m z)).sound)
plain_sound (with_note t note) m =
    judged_keeps Sound (noted_judged t note m) (λ z _.
    (found_refined (refine_found t m (noted_found t note m z).refines)).sound)
plain_sound (each list spares) m = λ S. list_keeps list spares m Sound S (λ G. G.sound)
plain_sound (in_box b spares) m = λ S. box_keeps b spares m Sound S (λ G. G.sound)

call_keeps_sound : (c : Call) (m : Mesh) → Sound m → Sound (outcome c m).mesh
call_keeps_sound (changes (refines t)) m = plain_sound (one t) m
call_keeps_sound (changes (refines_noted t note)) m = plain_sound (with_note t note) m
call_keeps_sound (changes (refines_each list spares)) m = plain_sound (each list spares) m
call_keeps_sound (changes (refines_in_box b spares)) m = plain_sound (in_box b spares) m
call_keeps_sound (changes (loads rule bytes)) m =
    judged_keeps Sound (load_judged rule bytes m) (λ z _.
    (loaded_good rule bytes m (load_found rule bytes m z)).sound)
call_keeps_sound (changes (takes_back note)) m =
    judged_keeps Sound (take_back_judged note m) (λ z _. (take_back_found note m z).sound)
call_keeps_sound (changes steps) m =
    judged_keeps Sound (whole_step_judged m) (λ z _. (found_step (step_found m z)).sound)
call_keeps_sound (changes (sets_lock on t)) m =
    judged_keeps Sound (lock_judged on t m) (λ z _. (found_locked on (lock_found t m z)).sound)
call_keeps_sound (changes (reports r buffer)) m =
    λ S. reported_keeps r buffer m Sound S (plain_sound r m S)
call_keeps_sound (asks q) m = subst Sound (sym (question_stands q m))

pub history_keeps_sound : (calls : List Call) (m : Mesh) → Sound m → Sound (after calls m)
unfolding after
history_keeps_sound [] m S = S
history_keeps_sound (c ∷ cs) m S = history_keeps_sound cs (outcome c m).mesh (call_keeps_sound c m S)

-- ---- what the customer asked for

level_near : (g i h j : ℕ) → (g + min 1 i) / 2 ≡ (h + min 1 j) / 2 → Near g h
level_near g i h j e = record {
  up = omega arith;
  down = omega arith;
  even = λ x. elim x [ inl q ↦ (omega arith, omega arith) | inr q ↦ (omega arith, omega arith) ];
}

-- An odd triangle's chain has an odd triangle, itself; an even one's has none.
odd_some : {m : Topology} {t k : ℕ} → OddInChain m t k → generation m t % 2 ≡ 1 → 1 ≤ k
odd_some (at_even e) o = absurd (omega arith)
odd_some (at_boundary q e) o = omega arith
odd_some (onward q e x) o = omega arith

odd_none : {m : Topology} {t k : ℕ} → OddInChain m t k → generation m t % 2 ≡ 0 → k ≡ 0
odd_none (at_even e) o = refl
odd_none (at_boundary q e) o = absurd (omega arith)
odd_none (onward q e x) o = absurd (omega arith)

-- What a refine that is carried out makes and reports.
pub found_refines : (t : ℕ) (m : Mesh) → RefineFound t m → ReportsSplits m t (worked (refine t (at_first m)))
found_refines t m F =
    let R = found_refined F in
    let T : Takes m.topology t (refine t (at_first m)).splits (rim_splits_of m.topology t) =
    subst (λ (s : ℕ). Takes m.topology t s (rim_splits_of m.topology t)) (sym R.splits)
    (chain_takes t m F.sound F.in_use) in
    let b = chain_bound t m F.sound F.in_use in
    record {
      odd = λ o n. reports_odd T o n;
      at_boundary = λ e. reports_rim T e;
      bound = λ o. omega (arith, R.splits);
      even = λ e. reports_even T e;
      made = omega (arith, R.triangles, R.splits);
    }
  where
    reports_odd : {s q : ℕ} → Takes m.topology t s q → generation m.topology t % 2 ≡ 1
        → ¬ EndsAtBoundary m.topology t → OddInChain m.topology t s
    reports_odd (even_end {k = k} c n) o i =
        let some = odd_some c o in
        let e : k ≡ max 1 k = omega arith in
        subst (OddInChain m.topology t) e c
    reports_odd (boundary_end c e) o i = absurd (i e)

    reports_rim : {s q : ℕ} → Takes m.topology t s q → EndsAtBoundary m.topology t
        → (k : ℕ) × OddInChain m.topology t k × (s ≡ max 1 (k - 1))
    reports_rim (even_end c n) e = absurd (n e)
    reports_rim (boundary_end {k = k} c e) _ = (k, c, refl)

    reports_even : {s q : ℕ} → Takes m.topology t s q → generation m.topology t % 2 ≡ 0 → s ≡ 1
    reports_even (even_end c n) e = let z = odd_none c e in omega arith
    reports_even (boundary_end c x) e = let z = odd_none c e in omega arith

pub carried_refines : (t : ℕ) (m : Mesh) → (refine_call t m).answer.refusal ≡ 0 → ReportsSplits m t (refine_call t m)
carried_refines t m z =
    let x = judged_carried (refine_judged t m) z in
    subst (ReportsSplits m t) (sym x.1) (found_refines t m (refine_found t m x.0))

-- The same with a note.
pub carried_notes : (t : ℕ) (note : List ℕ) (m : Mesh) → (noted_call t note m).answer.refusal ≡ 0
    → ReportsSplits m t (noted_call t note m)
carried_notes t note m z =
    let x = judged_carried (noted_judged t note m) z in
    let R = found_refines t m (refine_found t m (noted_found t note m x.0).refines) in
    subst (ReportsSplits m t) (sym x.1)
    (record { odd = R.odd; at_boundary = R.at_boundary; bound = R.bound; even = R.even; made = R.made })

-- The same with a report.
carried_reports : (r : Refining) {t : ℕ} {m : Mesh} {buffer : List ℕ} {o : Outcome}
    → ((plain_call r m).answer.refusal ≡ 0 → ReportsSplits m t (plain_call r m)) → Reported r buffer m o
    → o.answer.refusal ≡ 0 → ReportsSplits m t o
carried_reports r f (refused_plain n) z = absurd (n z)
carried_reports r {m = m} f (too_short y l) z = absurd (omega (arith, short_number r m, z))
carried_reports r f (written y l) z =
    let R = f y in
    record { odd = R.odd; at_boundary = R.at_boundary; bound = R.bound; even = R.even; made = R.made }

good_kept : (bytes : List ℕ) (m : Mesh) → Good bytes m → Kept bytes m
good_kept bytes m G =
    let F = sound_manifold G.sound in
    record {
      links_mutual = mutual_links m.topology F;
      euler = G.euler;
      near = λ h l n. level_near _ (h % 3) _ (link m.topology h % 3) (sym (partnered (F.linked h l) n).level);
      refines = λ t z. carried_refines t m z;
      refines_noted = λ t note z. carried_notes t note m z;
      reports = λ t buffer z. carried_reports (one t) (carried_refines t m) (reported_as_lem (one t) buffer m) z;
      reports_noted = λ t note buffer z.
          carried_reports (with_note t note) (carried_notes t note m) (reported_as_lem (with_note t note) buffer m) z;
    }

module _ (calls : List Call) (m : Mesh) (bytes : List ℕ) (e : last_load calls m nothing ≡ cage bytes) where
  good_after : Good bytes (after calls m)
  good_after = subst (λ (o : LastLoad). Holds o (after calls m)) e (history_holds calls m nothing tt)

  pub history_sound : Sound (after calls m)
  history_sound = good_after.sound

  pub history_none_of_two : (n : Mesh) → TablesAgree n → SizesFit bytes n → ¬ SomeInnerOfTwo (cage_of bytes) n
  history_none_of_two = good_after.none_of_two

pub every_history : EveryHistory
every_history calls m bytes e = good_kept bytes (after calls m) (good_after calls m bytes e)
