-- What comes of a take-back, by its refusal.
use mathlib.Core.Bool.{Bool, not}
use mathlib.Core.List.{List, [], ◌∷◌}
use mathlib.Core.Logic.{◌≢◌}
use mathlib.Core.Path.{◌≡◌, refl, sym, ap, ◌∙◌}
use Prim.Native.Nat.{ℕ, ◌≤◌}
use native.Mathlib.Omega.{arith}
use lib.IntN.{ℤ}
use Rattle.theory.proofs.Calls.CallRefusals.{take_back_refusal_first}
use Rattle.theory.proofs.Calls.Carried.{take_back_found}
use Rattle.theory.proofs.Calls.FirstThatHolds.{two_kept, two_passed, none_hold, refuses, carries}
use Rattle.theory.proofs.Numbers.Decide.{stable}
use Rattle.theory.proofs.Soundness.SoundTest.{sound_is}
use Rattle.rules.specs.Calls.{no_room, refused_with, worked, first_of, ◌if◌}
use Rattle.rules.specs.Notes.{old_v, old_f, note_slots, put_back_all, restored, accepted, take_back_refusal}
use Rattle.rules.specs.Notes.{take_back_call}
use Rattle.rules.specs.Sound.{Sound, is_sound}
use Rattle.rules.specs.Spares.{Spares}
use Rattle.rules.specs.Split.{at_first}
use Rattle.rules.specs.Tables.{Mesh, tables_agree}
use Rattle.tables.specs.Standing.{standing}
use Rattle.tables.specs.declared.Counts.{Counts}
use Rattle.tables.specs.Lent.{mesh_with, spares_now}
use Rattle.restoring.specs.Fitting.{NoteFits}
use Rattle.restoring.specs.Putting.{SlotRoom}
use Rattle.undoing.proofs.AcceptedCut.{accepted_counts}
use Rattle.undoing.proofs.CutTables.{recounted_back}
use Rattle.restoring.proofs.NoteTests.{accepted_fits}

-- ---- the refusal, found test by test

module _ (note : List ℕ) (m : Mesh) (r : ℕ) (s : r ≡ standing m) where
  pub refused_standing : r ≢ 0 → r ≡ take_back_refusal note m
  unfolding take_back_refusal
  refused_standing = two_kept (not (tables_agree m)) (not (is_sound m)) (21 if not (accepted note m) ∷ []) r s

  -- On a sound mesh it is 21 or none, by the answer of the test.
  pub refused_by_note : r ≡ 0 → {b : Bool} → b ≡ accepted note m → first_of (21 if not b ∷ []) ≡ take_back_refusal note m
  unfolding take_back_refusal
  refused_by_note z e =
      sym (two_passed (not (tables_agree m)) (not (is_sound m)) (21 if not (accepted note m) ∷ []) r s z ∙ rw e refl)

-- ---- what comes of it

module _ (note : List ℕ) (m : Mesh) (r : ℕ) (e : r ≡ take_back_refusal note m) where
  pub back_refused : r ≢ 0 → refused_with r m no_room ≡ take_back_call note m
  unfolding take_back_call
  back_refused = refuses m no_room (worked (at_first (restored note m))) (take_back_refusal note m) r e

  module _ (z : r ≡ 0) where
    -- The mesh is sound, the note fits, and its slots are in use.
    pub may_put : (Sound m) × (NoteFits note) × (old_f note ≤ m.topology.triangles)
    may_put =
        let (_, (s, _)) = none_hold (take_back_refusal_first note m) (sym e ∙ z) tt in
        let A = take_back_found note m (sym e ∙ z) in
        (stable (sound_is m) s, accepted_fits note m A, (accepted_counts note m A).1)

    pub back_carried : {back : Mesh} → back ≡ restored note m → worked (at_first back) ≡ take_back_call note m
    unfolding take_back_call
    back_carried b =
        ap (λ (x : Mesh). worked (at_first x)) b
        ∙ carries m no_room (worked (at_first (restored note m))) (take_back_refusal note m) r e z

-- ---- the lent tables

module _ (n : Counts) (s : Spares) where
  -- Wherever the points are.
  pub sound_room : {f : ℕ} {p : List ℤ} → Sound (mesh_with n s) → f ≤ n.triangles
      → SlotRoom f (spares_now p s.corners s.links s.generations s.locks)
  sound_room S b = record {
    triangles = record {
      corners = S.tables.corners;
      links = S.tables.links;
      few = S.tables.few_triangles;
    };
    locks = S.tables.locks;
    room = omega (arith, S.triangle_room);
  }

  -- With the slots of a note and its counts they are restored.
  pub put_restored : (note : List ℕ) {back : Spares}
      → ((o : Counts) → mesh_with o back ≡ put_back_all note (note_slots note) (mesh_with o s))
      → mesh_with (record { vertices = old_v note; triangles = old_f note; rule = n.rule }) back
      ≡ restored note (mesh_with n s)
  unfolding restored
  put_restored note put =
      put (record { vertices = old_v note; triangles = old_f note; rule = n.rule })
      ∙ recounted_back note (old_v note) (old_f note) (mesh_with n s) (note_slots note)
