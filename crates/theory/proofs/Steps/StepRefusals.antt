-- The refusals of a whole step and of limit positions on a sound mesh by their tests, and what the calls make of them.
use mathlib.Core.Path.{◌≡◌, refl}
use mathlib.Core.Logic.{◌≢◌}
use mathlib.Core.Bool.{Bool, true, not}
use mathlib.Core.List.{List, [], ◌∷◌}
use Prim.Native.Nat.{ℕ, ◌*◌}
use lib.Dec.{eqb}
use lib.IntN.{ℤ}
use lib.ListN.{length}
use Rattle.theory.proofs.Numbers.Decide.{is_true, is_same}
use Rattle.theory.proofs.Calls.FirstThatHolds.{refuses, carries}
use Rattle.theory.proofs.Soundness.SoundTest.{tables_agree_is, sound_is}
use Rattle.rules.specs.Calls.{no_room, refused_with, worked, room_for, closed_even, long_ring, some_locked}
use Rattle.rules.specs.Calls.{whole_step_refusal, whole_step_call}
use Rattle.rules.specs.Calls.{◌if◌, first_of, table_room, limit_refusal, limit_read, limit_call}
use Rattle.rules.specs.Sound.{Sound, is_sound}
use Rattle.rules.specs.Step.{whole_step}
use Rattle.rules.specs.Tables.{Mesh, tables_agree, generation}

agrees : {m : Mesh} → Sound m → tables_agree m ≡ true
agrees {m} S = is_same (tables_agree_is m) (is_true S.tables)

tests_sound : {m : Mesh} → Sound m → is_sound m ≡ true
tests_sound {m} S = is_same (sound_is m) (is_true S)

-- The refusal of a sound mesh by the answers of the later tests. A test that was not made stands for itself.
pub step_by_tests : {m : Mesh} {c g r l s : Bool} → Sound m → closed_even m.topology ≡ c
    → eqb (generation m.topology 0) 20 ≡ g → long_ring m.topology ≡ r → some_locked m ≡ l
    → room_for m.topology.triangles (2 * m.topology.triangles) m ≡ s
    → first_of (12 if not c ∷ 9 if g ∷ 13 if r ∷ 19 if l ∷ 11 if not s ∷ []) ≡ whole_step_refusal m
unfolding whole_step_refusal
step_by_tests {m} S c g r l s = rw (whole_step_refusal, agrees S, tests_sound S, c, g, r, l, s)

pub step_refused : (m : Mesh) (n : ℕ) → n ≡ whole_step_refusal m → n ≢ 0
    → refused_with n m no_room ≡ whole_step_call m
unfolding whole_step_call
step_refused m n e = refuses m no_room (worked (whole_step m)) (whole_step_refusal m) n e

pub step_carried : (m : Mesh) → 0 ≡ whole_step_refusal m → worked (whole_step m) ≡ whole_step_call m
unfolding whole_step_call
step_carried m e = carries m no_room (worked (whole_step m)) (whole_step_refusal m) 0 e refl

-- ---- limit positions

pub limit_by_tests : (table : List ℤ) {m : Mesh} {c r s : Bool} → Sound m → closed_even m.topology ≡ c
    → long_ring m.topology ≡ r
    → eqb (length table) (3 * m.topology.vertices) ≡ s
    → first_of (12 if not c ∷ 13 if r ∷ 15 if not s ∷ []) ≡ limit_refusal table m
unfolding limit_refusal
limit_by_tests table S c r s = rw (limit_refusal, agrees S, tests_sound S, c, r, s)

pub limit_refused : (table : List ℤ) (m : Mesh) (n : ℕ) → n ≡ limit_refusal table m → n ≢ 0
    → refused_with n m (table_room table) ≡ limit_call table m
unfolding limit_call
limit_refused table m n e = refuses m (table_room table) (limit_read table m) (limit_refusal table m) n e

pub limit_carried : (table : List ℤ) (m : Mesh) → 0 ≡ limit_refusal table m → limit_read table m ≡ limit_call table m
unfolding limit_call
limit_carried table m e = carries m (table_room table) (limit_read table m) (limit_refusal table m) 0 e refl
