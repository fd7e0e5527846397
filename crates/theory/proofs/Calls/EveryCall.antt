-- What holds of every call, refused or carried out.
use mathlib.Core.List.{List}
use mathlib.Core.Path.{◌≡◌, refl, ap, ◌∙◌}
use mathlib.Core.Logic.{◌≢◌}
use Prim.Native.Nat.{ℕ, zero, suc}
use native.Mathlib.Omega.{arith}
use Rattle.theory.proofs.Boxes.BoxCall.{box_refusal_lem, box_refused_is}
use Rattle.theory.proofs.Calls.CallRefusals.{load_judged, refine_judged, whole_step_judged, ring_judged}
use Rattle.theory.proofs.Calls.CallRefusals.{position_judged, limit_judged, load_refusal_lem, refine_refusal_lem}
use Rattle.theory.proofs.Calls.CallRefusals.{whole_step_refusal_lem, ring_refusal_lem, position_refusal_lem, limit_refusal_lem}
use Rattle.theory.proofs.Calls.CallRefusals.{lock_judged, lock_refusal_lem, view_judged, view_refusal_lem, noted_judged}
use Rattle.theory.proofs.Calls.CallRefusals.{noted_refusal_lem, take_back_judged, take_back_refusal_lem, curve_judged}
use Rattle.theory.proofs.Calls.CallRefusals.{curve_refusal_lem}
use Rattle.theory.proofs.Calls.FirstThatHolds.{Judged, carried, refused, judged_refused, first_not}
use Rattle.theory.proofs.Calls.Reporting.{reported_as_lem, reported_refused, reported_not}
use Rattle.theory.proofs.Lists.ListCall.{list_refusal, list_refused_is}
use Rattle.theory.proofs.Lists.Preview.{preview_refusal, preview_refused_is, preview_stands}
use Rattle.rules.specs.Calls.{Room, Outcome, outcome_of, with_report}
use Rattle.rules.specs.History.{loads, refines, steps, sets_lock, refines_noted, takes_back, refines_each}
use Rattle.rules.specs.History.{refines_in_box, Question, point_seen, triangles_seen, ring_of, position_of, limits_of}
use Rattle.rules.specs.History.{reports, preview_of, preview_reported, curve_of, asked, Call, changes, asks, outcome}
use Rattle.rules.specs.Lists.{Progress, refine_each, spares_refusal}
use Rattle.rules.specs.Promises.{refused_work, refused_list, refused_report, refused_as}
use Rattle.rules.specs.Reports.{Refining, one, with_note, each, in_box, plain_call, report_foreseen}
use Rattle.rules.specs.Spares.{Spares}
use Rattle.rules.specs.Tables.{Mesh}

-- Of a call with a report that the one without refuses.
plain_refused : (r : Refining) (m : Mesh) → (plain_call r m).answer.refusal ≢ 0
    → plain_call r m ≡ refused_report r (plain_call r m).answer.refusal m
plain_refused (one t) m = judged_refused refl (refine_judged t m)
plain_refused (with_note t note) m = judged_refused refl (noted_judged t note m)
plain_refused (each list spares) m = list_refused_is list spares m
plain_refused (in_box b spares) m = box_refused_is b spares m

-- A preview with a report.
foreseen_stands : (list : List ℕ) (spares : Spares) (buffer : List ℕ) (m : Mesh)
    → (report_foreseen list spares buffer m).mesh ≡ m
unfolding report_foreseen
foreseen_stands list spares buffer m = refl

foreseen_refused_lem : (list : List ℕ) (spares : Spares) (buffer : List ℕ) (m : Mesh) →
    let o = report_foreseen list spares buffer m in
    o.answer.refusal ≢ 0 → o ≡ with_report buffer 0 (refused_list list spares o.answer.refusal m)
unfolding report_foreseen
foreseen_refused_lem list spares buffer m n =
    let r = each list spares in
    let e = reported_refused (plain_refused r m) (reported_as_lem r buffer m) n in
    ap (λ (o : Outcome). outcome_of o.answer m o.room) e
    ∙ refused_stands (spares_refusal spares m) (refine_each list m) _
  where
    refused_stands : (first : ℕ) (p : Progress) (n : ℕ) →
        let o = with_report buffer 0 (refused_work first p spares n m) in
        outcome_of o.answer m o.room ≡ o
    refused_stands zero p n = refl
    refused_stands (suc k) p n = refl

pub refused_is : (c : Call) (m : Mesh) → (outcome c m).answer.refusal ≢ 0
    → outcome c m ≡ refused_as c (outcome c m).answer.refusal m
refused_is (changes (loads rule bytes)) m = judged_refused refl (load_judged rule bytes m)
refused_is (changes (refines t)) m = judged_refused refl (refine_judged t m)
refused_is (changes steps) m = judged_refused refl (whole_step_judged m)
refused_is (changes (sets_lock on t)) m = judged_refused refl (lock_judged on t m)
refused_is (changes (refines_noted t note)) m = judged_refused refl (noted_judged t note m)
refused_is (changes (takes_back note)) m = judged_refused refl (take_back_judged note m)
refused_is (changes (reports r buffer)) m = reported_refused (plain_refused r m) (reported_as_lem r buffer m)
refused_is (changes (refines_each list spares)) m = list_refused_is list spares m
refused_is (changes (refines_in_box b spares)) m = box_refused_is b spares m
refused_is (asks (ring_of v buffer)) m = judged_refused refl (ring_judged v buffer m)
refused_is (asks (position_of v)) m = judged_refused refl (position_judged v m)
refused_is (asks (limits_of table)) m = judged_refused refl (limit_judged table m)
refused_is (asks (preview_of list spares)) m = preview_refused_is list spares m
refused_is (asks (preview_reported list spares buffer)) m = foreseen_refused_lem list spares buffer m
refused_is (asks (point_seen v)) m = judged_refused refl (position_judged v m)
refused_is (asks (triangles_seen n)) m = judged_refused refl (view_judged n m)
refused_is (asks (curve_of v table)) m = judged_refused refl (curve_judged v table m)

-- A question leaves the mesh.
judged_stands : {n : ℕ} {m : Mesh} {room : Room} {success o : Outcome} → success.mesh ≡ m
    → Judged n m room success o → o.mesh ≡ m
judged_stands e (carried z) = e
judged_stands e (refused z) = refl

pub question_stands : (q : Question) (m : Mesh) → (asked q m).mesh ≡ m
question_stands (ring_of v buffer) m = judged_stands refl (ring_judged v buffer m)
question_stands (position_of v) m = judged_stands refl (position_judged v m)
question_stands (limits_of table) m = judged_stands refl (limit_judged table m)
question_stands (preview_of list spares) m = preview_stands list spares m
question_stands (preview_reported list spares buffer) m = foreseen_stands list spares buffer m
question_stands (point_seen v) m = judged_stands refl (position_judged v m)
question_stands (triangles_seen n) m = judged_stands refl (view_judged n m)
question_stands (curve_of v table) m = judged_stands refl (curve_judged v table m)

plain_no_ten : (r : Refining) (m : Mesh) → (plain_call r m).answer.refusal ≢ 10
plain_no_ten (one t) m = first_not 10 (refine_refusal_lem t m) tt
plain_no_ten (with_note t note) m = first_not 10 (noted_refusal_lem t note m) tt
plain_no_ten (each list spares) m = first_not 10 (list_refusal list spares m) tt
plain_no_ten (in_box b spares) m = first_not 10 (box_refusal_lem b spares m) tt

foreseen_no_ten : (list : List ℕ) (spares : Spares) (buffer : List ℕ) (m : Mesh)
    → (report_foreseen list spares buffer m).answer.refusal ≢ 10
unfolding report_foreseen
foreseen_no_ten list spares buffer m =
    reported_not 10 (λ e. omega arith) (plain_no_ten (each list spares) m) (reported_as_lem (each list spares) buffer m)

-- No call returns 10, on any mesh.
pub no_ten : (c : Call) (m : Mesh) → (outcome c m).answer.refusal ≢ 10
no_ten (changes (loads rule bytes)) m = first_not 10 (load_refusal_lem rule bytes m) tt
no_ten (changes (refines t)) m = first_not 10 (refine_refusal_lem t m) tt
no_ten (changes steps) m = first_not 10 (whole_step_refusal_lem m) tt
no_ten (changes (sets_lock on t)) m = first_not 10 (lock_refusal_lem on t m) tt
no_ten (changes (refines_noted t note)) m = first_not 10 (noted_refusal_lem t note m) tt
no_ten (changes (takes_back note)) m = first_not 10 (take_back_refusal_lem note m) tt
no_ten (changes (reports r buffer)) m =
    reported_not 10 (λ e. omega arith) (plain_no_ten r m) (reported_as_lem r buffer m)
no_ten (changes (refines_each list spares)) m = first_not 10 (list_refusal list spares m) tt
no_ten (changes (refines_in_box b spares)) m = first_not 10 (box_refusal_lem b spares m) tt
no_ten (asks (ring_of v buffer)) m = first_not 10 (ring_refusal_lem v buffer m) tt
no_ten (asks (position_of v)) m = first_not 10 (position_refusal_lem v m) tt
no_ten (asks (limits_of table)) m = first_not 10 (limit_refusal_lem table m) tt
no_ten (asks (preview_of list spares)) m = first_not 10 (preview_refusal list spares m) tt
no_ten (asks (preview_reported list spares buffer)) m = foreseen_no_ten list spares buffer m
no_ten (asks (point_seen v)) m = first_not 10 (position_refusal_lem v m) tt
no_ten (asks (triangles_seen n)) m = first_not 10 (view_refusal_lem n m) tt
no_ten (asks (curve_of v table)) m = first_not 10 (curve_refusal_lem v table m) tt
