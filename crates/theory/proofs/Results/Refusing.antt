-- What is proved of refusals. (Refused inputs)
use mathlib.Core.Path.{◌≡◌}
use mathlib.Core.Bool.{Bool}
use mathlib.Core.Logic.{◌≢◌}
use mathlib.Core.List.{List}
use Prim.Native.Nat.{ℕ}
use lib.IntN.{ℤ}
use Rattle.theory.proofs.Boxes.BoxCall.{box_refusal_lem}
use Rattle.theory.proofs.Calls.CallRefusals.{load_refusal_lem, refine_refusal_lem, whole_step_refusal_lem, ring_refusal_lem}
use Rattle.theory.proofs.Calls.CallRefusals.{lock_refusal_lem, view_refusal_lem, position_refusal_lem, limit_refusal_lem}
use Rattle.theory.proofs.Calls.CallRefusals.{noted_refusal_lem, take_back_refusal_lem, curve_refusal_lem}
use Rattle.theory.proofs.Calls.EveryCall.{refused_is, no_ten}
use Rattle.theory.proofs.Calls.ReportedCalls.{reported_refusal}
use Rattle.theory.proofs.Lists.ListCall.{list_refusal}
use Rattle.rules.specs.Boxes.{Box, box_call}
use Rattle.rules.specs.Calls.{load_call, refine_call, whole_step_call, ring_call, position_call, limit_call, lock_call}
use Rattle.rules.specs.Calls.{view_call}
use Rattle.rules.specs.Conditions.{First, load_conditions, lock_conditions, view_conditions, noted_conditions}
use Rattle.rules.specs.Conditions.{take_back_conditions, reported_conditions, refine_conditions, whole_step_conditions}
use Rattle.rules.specs.Conditions.{limit_conditions, ring_conditions, position_conditions, list_conditions, box_conditions}
use Rattle.rules.specs.Conditions.{curve_conditions}
use Rattle.rules.specs.History.{Call, outcome}
use Rattle.rules.specs.Lists.{list_call}
use Rattle.rules.specs.Notes.{noted_call, take_back_call}
use Rattle.rules.specs.Promises.{refused_as}
use Rattle.rules.specs.Reports.{Refining, reported_call}
use Rattle.rules.specs.Rim.{curve_call}
use Rattle.rules.specs.Spares.{Spares}
use Rattle.rules.specs.Tables.{Mesh}

-- A load returns the number of the first condition, in its order, that holds, and 0 where none does.
pub load_returns : (rule : ℕ) (bytes : List ℕ) (m : Mesh)
    → First (load_conditions rule bytes m) (load_call rule bytes m).answer.refusal
load_returns = load_refusal_lem

-- So does a refine.
pub refine_returns : (t : ℕ) (m : Mesh) → First (refine_conditions t m) (refine_call t m).answer.refusal
refine_returns = refine_refusal_lem

-- So does a refine with a note: after the refusals of the refine, 22 where the note is too short. (Request l)
pub noted_returns : (t : ℕ) (note : List ℕ) (m : Mesh)
    → First (noted_conditions t note m) (noted_call t note m).answer.refusal
noted_returns = noted_refusal_lem

-- So does a take-back. (Request l)
pub take_back_returns : (note : List ℕ) (m : Mesh)
    → First (take_back_conditions note m) (take_back_call note m).answer.refusal
take_back_returns = take_back_refusal_lem

-- So does a call with a report: after what refuses it without one, 23 where the buffer is too short. (Request m)
pub reported_returns : (r : Refining) (buffer : List ℕ) (m : Mesh)
    → First (reported_conditions r buffer m) (reported_call r buffer m).answer.refusal
reported_returns = reported_refusal

-- So does a whole step.
pub whole_step_returns : (m : Mesh) → First (whole_step_conditions m) (whole_step_call m).answer.refusal
whole_step_returns = whole_step_refusal_lem

-- So does a call that sets or clears a lock.
pub lock_returns : (on : Bool) (t : ℕ) (m : Mesh) → First (lock_conditions t m) (lock_call on t m).answer.refusal
lock_returns = lock_refusal_lem

-- So does a ring query.
pub ring_returns : (v : ℕ) (buffer : List ℕ) (m : Mesh)
    → First (ring_conditions v buffer m) (ring_call v buffer m).answer.refusal
ring_returns = ring_refusal_lem

-- So does a position query.
pub position_returns : (v : ℕ) (m : Mesh) → First (position_conditions v m) (position_call v m).answer.refusal
position_returns = position_refusal_lem

-- So does a call for all triangles for a viewer; for one vertex it is a position query.
pub view_returns : (n : ℕ) (m : Mesh) → First (view_conditions n m) (view_call n m).answer.refusal
view_returns = view_refusal_lem

-- So does a limit query.
pub limit_returns : (table : List ℤ) (m : Mesh) → First (limit_conditions table m) (limit_call table m).answer.refusal
limit_returns = limit_refusal_lem

-- So does a call for the curve of a rim. (Request n)
pub curve_returns : (v : ℕ) (table : List ℤ) (m : Mesh)
    → First (curve_conditions v table m) (curve_call v table m).answer.refusal
curve_returns = curve_refusal_lem

-- So does a list of triangles: after 1, 17 and 7 that is what its first failing entry fails with.
pub list_returns : (list : List ℕ) (spares : Spares) (m : Mesh)
    → First (list_conditions list spares m) (list_call list spares m).answer.refusal
list_returns = list_refusal

-- So does a box: after 1, 17, 18 and 7 that is what its failing turn is refused with.
pub box_returns : (b : Box) (spares : Spares) (m : Mesh)
    → First (box_conditions b spares m) (box_call b spares m).answer.refusal
box_returns = box_refusal_lem

-- No call returns 10, on any content of the tables: a base chain that ends at the boundary is split there. (Request b)
pub never_ten : (c : Call) (m : Mesh) → (outcome c m).answer.refusal ≢ 10
never_ten = no_ten

-- A refused call answers its number with zeros and the counts as they stood, and leaves the mesh and what it is lent;
-- of spare tables that were worked in, the slots in use of the last good mesh hold that, the others keep their content,
-- and the answer tells of them. That a viewer's f32 are left too is shown in the crate `viewer`.
pub refusal_leaves : (c : Call) (m : Mesh) → (outcome c m).answer.refusal ≢ 0
    → outcome c m ≡ refused_as c (outcome c m).answer.refusal m
refusal_leaves = refused_is
