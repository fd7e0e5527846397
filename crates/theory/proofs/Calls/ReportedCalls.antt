-- What calls with a report refuse and tell.
use mathlib.Core.Path.{◌≡◌, refl, sym, ap, subst}
use mathlib.Core.Logic.{◌≢◌, ◌↔◌}
use mathlib.Core.List.{List}
use Prim.Native.Nat.{ℕ, zero, suc, ◌+◌, ◌*◌, ◌%◌, ◌≤◌, ◌<◌}
use native.Mathlib.Omega.{arith}
use lib.Dec.{T}
use lib.ListN.{length}
use Rattle.theory.proofs.Boxes.BoxCall.{box_refusal_lem, box_run}
use Rattle.theory.proofs.Calls.CallRefusals.{refine_judged, noted_judged, refine_refusal_lem, noted_refusal_lem}
use Rattle.theory.proofs.Calls.Carried.{refine_found, noted_found, found_refined}
use Rattle.theory.proofs.Calls.FirstThatHolds.{judged_carried, none_hold, positive, first_before, first_after}
use Rattle.theory.proofs.Calls.FirstThatHolds.{first_not}
use Rattle.theory.proofs.Calls.Reporting.{Reported, refused_plain, too_short, written, reported_as_lem, short_number}
use Rattle.theory.proofs.Chains.Flipping.{refine_flips}
use Rattle.theory.proofs.Chains.RefineLoop.{few_splits}
use Rattle.theory.proofs.Chains.Going.{Going, going_begins, going_on}
use Rattle.theory.proofs.Lists.ListCall.{list_refusal, folded}
use Rattle.theory.proofs.Numbers.Decide.{stable}
use Rattle.theory.proofs.Soundness.SoundTest.{sound_is}
use Rattle.rules.specs.Below.{total}
use Rattle.rules.specs.Calls.{Outcome, outcome_of, with_report, refine_call}
use Rattle.rules.specs.Conditions.{First, this, later, none, plain_conditions, reported_conditions}
use Rattle.rules.specs.Promises.{odds, Listed, Unreported}
use Rattle.rules.specs.Reports.{Refining, one, with_note, each, in_box, plain_call, work_of, report_in, reported_call}
use Rattle.rules.specs.Reports.{report_foreseen}
use Rattle.rules.specs.Spares.{Spares}
use Rattle.rules.specs.Split.{Work, at_first, refine}
use Rattle.rules.specs.Tables.{Mesh, generation, triangle_slots}

-- ---- refusals

plain_first : (r : Refining) (m : Mesh) → First (plain_conditions r m) (plain_call r m).answer.refusal
plain_first (one t) m = refine_refusal_lem t m
plain_first (with_note t note) m = noted_refusal_lem t note m
plain_first (each list spares) m = list_refusal list spares m
plain_first (in_box b spares) m = box_refusal_lem b spares m

plain_positive : (r : Refining) (m : Mesh) → T (positive (plain_conditions r m))
plain_positive (one t) m = tt
plain_positive (with_note t note) m = tt
plain_positive (each list spares) m = tt
plain_positive (in_box b spares) m = tt

first_reported : {r : Refining} {buffer : List ℕ} {m : Mesh} {o : Outcome} → Reported r buffer m o
    → First (reported_conditions r buffer m) o.answer.refusal
first_reported {r} {m = m} (refused_plain n) = first_before _ (plain_first r m) n
first_reported {r} {buffer} {m} (too_short z l) =
    subst (First (reported_conditions r buffer m)) (sym (short_number r m))
    (first_after (plain_first r m) z (plain_positive r m) (this l))
first_reported {r} {buffer} {m} (written z l) =
    subst (First (reported_conditions r buffer m)) (sym z)
    (first_after (plain_first r m) z (plain_positive r m) (later (λ x. omega arith) none))

pub reported_refusal : (r : Refining) (buffer : List ℕ) (m : Mesh)
    → First (reported_conditions r buffer m) (reported_call r buffer m).answer.refusal
reported_refusal r buffer m = first_reported (reported_as_lem r buffer m)

-- ---- what is told

-- The work of a call that is carried out goes on from a sound mesh.
plain_going : (r : Refining) (m : Mesh) → (plain_call r m).answer.refusal ≡ 0 → Going m (work_of r m)
plain_going (one t) m z =
    let F = refine_found t m (judged_carried (refine_judged t m) z).0 in
    going_on (going_begins F.sound) F
plain_going (with_note t note) m z =
    let F = refine_found t m (noted_found t note m (judged_carried (noted_judged t note m) z).0).refines in
    going_on (going_begins F.sound) F
plain_going (each list spares) m z =
    let (_, (_, (s, _))) = none_hold (list_refusal list spares m) z tt in
    (folded list spares m (stable (sound_is m) s)).going
plain_going (in_box b spares) m z =
    let (_, (_, (_, (s, _)))) = none_hold (box_refusal_lem b spares m) z tt in
    (box_run b m (stable (sound_is m) s)).going

-- Three slots for each split and two for each flip.
pub going_length : {m : Mesh} {w : Work} → Going m w → length w.report ≡ 3 * w.splits + 2 * w.flips
going_length G = let T = G.telling in omega (arith, ap length T.report, T.size)

-- What is not reported stands, too.
pub report_tells : (r : Refining) (m : Mesh) → (plain_call r m).answer.refusal ≡ 0 →
    let w = work_of r m in
    (length w.report ≡ 3 * w.splits + 2 * w.flips)
    × ((x : ℕ) → x < w.mesh.topology.triangles → ¬ Listed w.report x
    → (x < m.topology.triangles) × Unreported w.report m.topology w.mesh.topology x)
report_tells r m z =
    let G = plain_going r m z in
    let e : (work_of r m).report ≡ G.telling.more = G.telling.report in
    (going_length G, rw e G.telling.tells)

-- At most every triangle is odd.
few_odds : (n : ℕ) (f : ℕ → ℕ) → total n (λ t. f t % 2) ≤ n
unfolding total
few_odds zero f = omega arith
few_odds (suc n) f = omega (arith, few_odds n f)

-- The triangles made take two slots for each split, and each flip takes two odd ones away.
pub report_bound : (r : Refining) (m : Mesh) → (plain_call r m).answer.refusal ≡ 0
    → length (work_of r m).report + 2 * m.topology.triangles ≤ 3 * triangle_slots m
unfolding odds
report_bound r m z =
    let G = plain_going r m z in
    omega (
      arith,
      going_length G,
      G.triangles,
      G.odd,
      G.sound.triangle_room,
      G.room.generations,
      few_odds m.topology.triangles (generation m.topology),
    )

-- A refine splits at most ten times, and flips at most twice more than it splits.
pub refine_report_bound : (t : ℕ) (m : Mesh) → (refine_call t m).answer.refusal ≡ 0
    → length (refine t (at_first m)).report ≤ 54
refine_report_bound t m z =
    let F = refine_found t m (judged_carried (refine_judged t m) z).0 in
    omega (arith, (report_tells (one t) m z).0, (found_refined F).splits, refine_flips F, few_splits F)

-- ---- the calls

reported_carried_out : {r : Refining} {buffer : List ℕ} {m : Mesh} {o : Outcome} → Reported r buffer m o
    → o.answer.refusal ≡ 0
    → ((plain_call r m).answer.refusal ≡ 0) × (length (work_of r m).report ≤ length buffer)
    × (o ≡ with_report (report_in (work_of r m).report buffer) (length (work_of r m).report) (plain_call r m))
reported_carried_out (refused_plain n) z = absurd (n z)
reported_carried_out {r} {m = m} (too_short y l) z = absurd (omega (arith, short_number r m, z))
reported_carried_out (written y l) z = (y, l, refl)

pub reported_makes : (r : Refining) (buffer : List ℕ) (m : Mesh) → (reported_call r buffer m).answer.refusal ≡ 0
    → ((plain_call r m).answer.refusal ≡ 0) × (length (work_of r m).report ≤ length buffer)
    × (reported_call r buffer m
    ≡ with_report (report_in (work_of r m).report buffer) (length (work_of r m).report) (plain_call r m))
reported_makes r buffer m = reported_carried_out (reported_as_lem r buffer m)

-- 23, exactly.
short_exactly : {r : Refining} {buffer : List ℕ} {m : Mesh} {o : Outcome} → (plain_call r m).answer.refusal ≢ 23
    → Reported r buffer m o
    → (o.answer.refusal ≡ 23)
    ↔ (((plain_call r m).answer.refusal ≡ 0) × (length buffer < length (work_of r m).report))
short_exactly d (refused_plain n) = ((λ e. absurd (d e)), (λ (z, _). absurd (n z)))
short_exactly {r} {m = m} d (too_short z l) = ((λ _. (z, l)), (λ _. short_number r m))
short_exactly d (written z l) = ((λ e. absurd (d e)), (λ (_, k). absurd (omega arith)))

plain_not_23 : (r : Refining) (m : Mesh) → (plain_call r m).answer.refusal ≢ 23
plain_not_23 (one t) m = first_not 23 (refine_refusal_lem t m) tt
plain_not_23 (with_note t note) m = first_not 23 (noted_refusal_lem t note m) tt
plain_not_23 (each list spares) m = first_not 23 (list_refusal list spares m) tt
plain_not_23 (in_box b spares) m = first_not 23 (box_refusal_lem b spares m) tt

pub reported_short : (r : Refining) (buffer : List ℕ) (m : Mesh) →
    ((reported_call r buffer m).answer.refusal ≡ 23)
    ↔ (((plain_call r m).answer.refusal ≡ 0) × (length buffer < length (work_of r m).report))
reported_short r buffer m = short_exactly (plain_not_23 r m) (reported_as_lem r buffer m)

-- Else it is the call without a report, but for the buffer and the length that is answered.
as_plain : {r : Refining} {buffer : List ℕ} {m : Mesh} {o : Outcome} → Reported r buffer m o
    → o.answer.refusal ≢ 23 → o ≡ with_report o.room.report o.answer.reported (plain_call r m)
as_plain (refused_plain n) d = refl
as_plain {r} {m = m} (too_short z l) d = absurd (d (short_number r m))
as_plain (written z l) d = refl

pub reported_as_plain : (r : Refining) (buffer : List ℕ) (m : Mesh) →
    let o = reported_call r buffer m in
    o.answer.refusal ≢ 23 → o ≡ with_report o.room.report o.answer.reported (plain_call r m)
reported_as_plain r buffer m = as_plain (reported_as_lem r buffer m)

-- A preview with a report.
pub foreseen_reported : (list : List ℕ) (spares : Spares) (buffer : List ℕ) (m : Mesh) →
    let o = reported_call (each list spares) buffer m in
    report_foreseen list spares buffer m ≡ outcome_of o.answer m o.room
unfolding report_foreseen
foreseen_reported list spares buffer m = refl
