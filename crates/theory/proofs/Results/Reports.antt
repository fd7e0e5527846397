-- What is proved of reports. (Request m)
use mathlib.Core.Path.{◌≡◌}
use mathlib.Core.Logic.{◌≢◌, ◌↔◌}
use mathlib.Core.List.{List}
use Prim.Native.Nat.{ℕ, ◌+◌, ◌*◌, ◌≤◌, ◌<◌}
use lib.ListN.{length}
use Rattle.theory.proofs.Calls.ReportedCalls.{reported_makes, reported_short, reported_as_plain}
use Rattle.theory.proofs.Calls.ReportedCalls.{foreseen_reported, report_tells, report_bound, refine_report_bound}
use Rattle.rules.specs.Calls.{outcome_of, with_report, refine_call}
use Rattle.rules.specs.Promises.{Listed, Unreported}
use Rattle.rules.specs.Reports.{Refining, each, plain_call, work_of, report_in, reported_call, report_foreseen}
use Rattle.rules.specs.Spares.{Spares}
use Rattle.rules.specs.Split.{at_first, refine}
use Rattle.rules.specs.Tables.{Mesh, triangle_slots}

-- A call with a report that is carried out does what it does without one, and writes the report of its work to the
-- first entries of the buffer.
pub reported_carried : (r : Refining) (buffer : List ℕ) (m : Mesh) → (reported_call r buffer m).answer.refusal ≡ 0
    → ((plain_call r m).answer.refusal ≡ 0) × (length (work_of r m).report ≤ length buffer)
    × (reported_call r buffer m
    ≡ with_report (report_in (work_of r m).report buffer) (length (work_of r m).report) (plain_call r m))
reported_carried = reported_makes

-- It is refused with 23 exactly where it is not refused without a report, and the buffer is shorter than its report.
pub reported_too_short : (r : Refining) (buffer : List ℕ) (m : Mesh) →
    ((reported_call r buffer m).answer.refusal ≡ 23)
    ↔ (((plain_call r m).answer.refusal ≡ 0) × (length buffer < length (work_of r m).report))
reported_too_short = reported_short

-- With any other number, or carried out, it is the call without a report, but for the buffer and the length answered.
pub reported_is_plain : (r : Refining) (buffer : List ℕ) (m : Mesh) →
    let o = reported_call r buffer m in
    o.answer.refusal ≢ 23 → o ≡ with_report o.room.report o.answer.reported (plain_call r m)
reported_is_plain = reported_as_plain

-- A preview with a report answers, reports and leaves in the spare tables what the list would, and the mesh stands.
pub preview_reports_list : (list : List ℕ) (spares : Spares) (buffer : List ℕ) (m : Mesh) →
    let o = reported_call (each list spares) buffer m in
    report_foreseen list spares buffer m ≡ outcome_of o.answer m o.room
preview_reports_list = foreseen_reported

-- The report has three slots for each split and two for each flip. A slot in use that it does not name was in use
-- before, and keeps its corners, its generation and its links, save links that point at a reported slot, before and
-- after.
pub report_whole : (r : Refining) (m : Mesh) → (plain_call r m).answer.refusal ≡ 0 →
    let w = work_of r m in
    (length w.report ≡ 3 * w.splits + 2 * w.flips)
    × ((x : ℕ) → x < w.mesh.topology.triangles → ¬ Listed w.report x
    → (x < m.topology.triangles) × Unreported w.report m.topology w.mesh.topology x)
report_whole = report_tells

-- With T triangle slots, 3 T - 2 F entries do for every call.
pub report_in_3_t : (r : Refining) (m : Mesh) → (plain_call r m).answer.refusal ≡ 0
    → length (work_of r m).report + 2 * m.topology.triangles ≤ 3 * triangle_slots m
report_in_3_t = report_bound

-- For one refine 54 do.
pub report_in_54 : (t : ℕ) (m : Mesh) → (refine_call t m).answer.refusal ≡ 0
    → length (refine t (at_first m)).report ≤ 54
report_in_54 = refine_report_bound
