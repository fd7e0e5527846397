-- What is proved of locked triangles. (Request i)
use mathlib.Core.Path.{◌≡◌}
use mathlib.Core.Bool.{Bool}
use mathlib.Core.Logic.{◌≢◌, ◌⊎◌, ◌↔◌}
use mathlib.Core.List.{List}
use Prim.Native.Nat.{ℕ, ◌+◌, ◌*◌, ◌<◌}
use Rattle.theory.proofs.Calls.Carried.{may_refine}
use Rattle.theory.proofs.Calls.Outcomes.{lock_makes}
use Rattle.theory.proofs.Locks.LeftAlone.{altered_exactly}
use Rattle.theory.proofs.Locks.LockedFaces.{step_locked, call_stands, call_follows, history_stands}
use Rattle.theory.proofs.Locks.LockedFaces.{history_follows, goes_back}
use Rattle.rules.specs.Calls.{worked, whole_step_call, with_lock, lock_call}
use Rattle.rules.specs.Conditions.{TooOld, TooFewSlots, Alters, Locked, SomeLocked}
use Rattle.rules.specs.History.{Call, outcome, after}
use Rattle.rules.specs.Notes.{take_back_call}
use Rattle.rules.specs.Promises.{AgreeInUse, LockMakes, Stands, NoLoad, NoClearing, LeaveLocked, LinksFollow}
use Rattle.rules.specs.Promises.{NoTakeBack, NoneTakenBack}
use Rattle.rules.specs.Sound.{Sound}
use Rattle.rules.specs.Spares.{Spares, mesh_in}
use Rattle.rules.specs.Split.{at_first, refine}
use Rattle.rules.specs.Tables.{Mesh, origin, generation}

-- A call that sets or clears a lock, and is carried out, answers no splits and no flips, and changes this lock alone.
pub lock_carried : (on : Bool) (t : ℕ) (m : Mesh) → (lock_call on t m).answer.refusal ≡ 0
    → let n = with_lock on t m in
    (lock_call on t m ≡ worked (at_first n)) × LockMakes on t m n
lock_carried = lock_makes

-- The triangles that count for 19 are exactly those in use whose generation, or a corner of which, the refine of t
-- changes in any tables that hold the same mesh, where these have slots enough and t is not too old.
pub altered_known : {t : ℕ} {m : Mesh} (s : Spares) → Sound m → AgreeInUse s m → Sound (mesh_in s m)
    → t < m.topology.triangles → ¬ TooOld (mesh_in s m).topology t → ¬ TooFewSlots t (mesh_in s m)
    → (x : ℕ) → x < m.topology.triangles →
    let n = (refine t (at_first (mesh_in s m))).mesh.topology in
    Alters m.topology t x
    ↔ ((generation n x ≢ generation m.topology x)
    ⊎ ((i : ℕ) × (i < 3) × (origin n (3 * x + i) ≢ origin m.topology (3 * x + i))))
altered_known s S A R u y f = altered_exactly s S A (may_refine R u y f)

-- A whole step is refused while a lock is set, on any content.
pub locked_no_step : (m : Mesh) → SomeLocked m → (whole_step_call m).answer.refusal ≢ 0
locked_no_step = step_locked

-- On any content, every call but a load that is carried out leaves a locked triangle as it was; its links follow the
-- sides that they name, or go back with them. It stays locked, unless the call clears its lock.
pub locked_stands : (x : ℕ) (c : Call) (m : Mesh) → Locked m x → NoLoad c m
    → Stands x m (outcome c m).mesh × (NoClearing x c m → Locked (outcome c m).mesh x)
locked_stands = call_stands

-- So does every list of calls that loads no cage and does not clear its lock.
pub locked_stands_after : (x : ℕ) (cs : List Call) (m : Mesh) → Locked m x → LeaveLocked x cs m
    → Stands x m (after cs m) × Locked (after cs m) x
locked_stands_after = history_stands

-- Where a refine is taken back, the links of a locked triangle have followed from the mesh that is left to the one
-- before.
pub locked_goes_back : (x : ℕ) (note : List ℕ) (m : Mesh) → Locked m x → (take_back_call note m).answer.refusal ≡ 0
    → LinksFollow x (take_back_call note m).mesh.topology m.topology
locked_goes_back = goes_back

-- Where the call takes nothing back, its links only follow.
pub locked_follows : (x : ℕ) (c : Call) (m : Mesh) → Locked m x → NoLoad c m → NoTakeBack c m
    → LinksFollow x m.topology (outcome c m).mesh.topology
locked_follows = call_follows

-- So they do where no call of the list takes anything back.
pub locked_follows_after : (x : ℕ) (cs : List Call) (m : Mesh) → Locked m x → LeaveLocked x cs m
    → NoneTakenBack cs m → LinksFollow x m.topology (after cs m).topology
locked_follows_after = history_follows
