-- What is proved of a refine with a note, and one taken back. (Request l)
use mathlib.Core.Path.{◌≡◌}
use mathlib.Core.Logic.{◌≢◌, ◌↔◌}
use mathlib.Core.List.{List}
use Prim.Native.Nat.{ℕ, suc, ◌+◌, ◌*◌, ◌≤◌, ◌<◌}
use lib.ListN.{length, get_or}
use Rattle.theory.proofs.Calls.Outcomes.{noted_makes, noted_short, noted_as_refine, few_noted, noted_enough}
use Rattle.theory.proofs.Calls.Outcomes.{take_back_makes}
use Rattle.theory.proofs.Notes.Accepting.{kept_taken_back, noted_back}
use Rattle.theory.proofs.Notes.Reading.{changed_are}
use Rattle.rules.specs.Calls.{worked, refine_call}
use Rattle.rules.specs.Notes.{nine_of, changed_slots, refined, noted_work, noted_call, noted_triangle, restored, SameInUse}
use Rattle.rules.specs.Notes.{Accepted, take_back_call}
use Rattle.rules.specs.Promises.{AgreeInUse, HasNote, NotedMakes, TakeBackMakes}
use Rattle.rules.specs.Sound.{Sound}
use Rattle.rules.specs.Spares.{Spares, mesh_in, SameSizes}
use Rattle.rules.specs.Split.{at_first}
use Rattle.rules.specs.Tables.{Mesh}

-- A refine with a note that is carried out answers and makes what the refine does, and writes its note.
pub noted_carried : (t : ℕ) (note : List ℕ) (m : Mesh) → (noted_call t note m).answer.refusal ≡ 0
    → (noted_call t note m ≡ noted_work t note m) × NotedMakes t note m (noted_call t note m)
noted_carried = noted_makes

-- It is refused with 22 exactly where the refine is not refused and the note is shorter than four entries and nine for
-- each slot that changes.
pub noted_too_short : (t : ℕ) (note : List ℕ) (m : Mesh) →
    ((noted_call t note m).answer.refusal ≡ 22)
    ↔ (((refine_call t m).answer.refusal ≡ 0) × (length note < 4 + 9 * length (changed_slots m (refined t m))))
noted_too_short = noted_short

-- With any other number, or carried out, it answers and leaves the mesh as the refine does, on any content.
pub noted_is_refine : (t : ℕ) (note : List ℕ) (m : Mesh) → (noted_call t note m).answer.refusal ≢ 22
    → ((noted_call t note m).answer ≡ (refine_call t m).answer) × ((noted_call t note m).mesh ≡ (refine_call t m).mesh)
noted_is_refine = noted_as_refine

-- 25 slots change at most.
pub noted_slots : (t : ℕ) (m : Mesh) → (refine_call t m).answer.refusal ≡ 0
    → length (changed_slots m (refined t m)) ≤ 25
noted_slots = few_noted

-- So 229 entries always do.
pub noted_in_229 : (t : ℕ) (note : List ℕ) (m : Mesh) → 229 ≤ length note → (noted_call t note m).answer.refusal ≢ 22
noted_in_229 = noted_enough

-- The slots that have changed from m to n rise, and are exactly those in use in m that hold other numbers in n.
pub changed_exactly : (m n : Mesh) →
    let l = changed_slots m n in
    ((i : ℕ) → suc i < length l → get_or l i 0 < get_or l (suc i) 0)
    × ((i : ℕ) → i < length l
    → (get_or l i 0 < m.topology.triangles) × (nine_of m (get_or l i 0) ≢ nine_of n (get_or l i 0)))
    × ((s : ℕ) → s < m.topology.triangles → nine_of m s ≢ nine_of n s → (i : ℕ) × (i < length l) × (get_or l i 0 ≡ s))
changed_exactly = changed_are

-- The note of a refine, kept as it was written or with more after it, is accepted wherever the mesh is again, or still,
-- what the refine made, in every entry in use. What is left is sound and has all that was in use before the refine,
-- counts included; refined again, it gives the refine's answer and the mesh before the take-back, in every slot. The
-- tables s are any of the same lengths; none are lent.
pub noted_taken_back : (t : ℕ) (m : Mesh) → (refine_call t m).answer.refusal ≡ 0
    → let o = refine_call t m in
    (note : List ℕ) (s : Spares) → HasNote t m o.mesh note → SameSizes s o.mesh → AgreeInUse s o.mesh
    → let n = mesh_in s o.mesh in
    let back = take_back_call note n in
    let again = refine_call t back.mesh in
    Accepted note n × (back.answer.refusal ≡ 0) × Sound back.mesh × SameInUse m back.mesh
    × (again.answer ≡ o.answer) × (again.mesh ≡ n)
noted_taken_back = kept_taken_back

-- Above all it is right after the refine that wrote it.
pub noted_then_back : (t : ℕ) (note : List ℕ) (m : Mesh) → (noted_call t note m).answer.refusal ≡ 0
    → let o = noted_call t note m in
    let back = take_back_call o.room.buffer o.mesh in
    (back.answer.refusal ≡ 0) × SameInUse m back.mesh × ((refine_call t back.mesh).mesh ≡ o.mesh)
noted_then_back = noted_back

-- A take-back that is carried out answers no splits and no flips, and leaves the mesh that its note restores; there the
-- refine of the noted triangle makes the mesh before the take-back, in every slot.
pub take_back_carried : (note : List ℕ) (m : Mesh) → (take_back_call note m).answer.refusal ≡ 0
    → let n = restored note m in
    (take_back_call note m ≡ worked (at_first n)) × Accepted note m × TakeBackMakes (noted_triangle note) m n
take_back_carried = take_back_makes
