-- The first refusal of a whole step and of a lock.
use Rattle.std.proofs.Common.{ℕ, ◌*◌, ◌<◌, arith, Bool, not, eqb, [], ◌∷◌, length, ◌≡◌, ◌≢◌, sym, ◌∙◌}
use Rattle.theory.proofs.Calls.Carried.{lock_found}
use Rattle.theory.proofs.Calls.FirstThatHolds.{two_kept, refuses, carries}
use Rattle.rules.specs.Calls.{◌if◌, no_room}
use Rattle.rules.specs.Calls.{refused_with, room_for, closed_even, long_ring}
use Rattle.rules.specs.Calls.{whole_step_refusal}
use Rattle.rules.specs.Calls.{worked, some_locked, with_lock, lock_refusal, lock_call}
use Rattle.rules.specs.Sound.{is_sound}
use Rattle.rules.specs.Split.{at_first}
use Rattle.rules.specs.Tables.{Mesh, tables_agree, generation}
use Rattle.tables.specs.Standing.{standing, slot_refusal}

pub step_standing : (m : Mesh) (r : ℕ) → r ≡ standing m → r ≢ 0 → r ≡ whole_step_refusal m
unfolding whole_step_refusal
step_standing m r =
    two_kept (not (tables_agree m)) (not (is_sound m)) (
    12 if not (closed_even m.topology)
    ∷ 9 if eqb (generation m.topology 0) 20
    ∷ 13 if long_ring m.topology
    ∷ 19 if some_locked m
    ∷ 11 if not (room_for m.topology.triangles (2 * m.topology.triangles) m)
    ∷ []
    ) r

module _ (on : Bool) (t : ℕ) (m : Mesh) (r : ℕ) (e : r ≡ slot_refusal m.topology.triangles t m) where
  of_lock : r ≡ lock_refusal t m
  unfolding lock_refusal
  of_lock = e

  pub lock_refused : r ≢ 0 → refused_with r m no_room ≡ lock_call on t m
  unfolding lock_call
  lock_refused = refuses m no_room (worked (at_first (with_lock on t m))) (lock_refusal t m) r of_lock

  module _ (z : r ≡ 0) where
    pub lock_carried : worked (at_first (with_lock on t m)) ≡ lock_call on t m
    unfolding lock_call
    lock_carried = carries m no_room (worked (at_first (with_lock on t m))) (lock_refusal t m) r of_lock z

    pub lock_room : t < length m.locks
    lock_room =
        let F = lock_found t m (sym of_lock ∙ z) in
        omega (arith, F.in_use, F.sound.triangle_room, F.sound.tables.locks)
