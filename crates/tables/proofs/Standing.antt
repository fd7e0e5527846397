-- A mesh is not refused before a call looks at its own arguments just where it is sound.
use mathlib.Core.Bool.{Bool, true, false, not}
use mathlib.Core.List.{[], ◌∷◌}
use mathlib.Core.Path.{◌≡◌, refl, sym, ◌∙◌}
use Prim.Native.Nat.{ℕ}
use native.Mathlib.Omega.{arith}
use Rattle.theory.proofs.Numbers.Decide.{Decides, is_true, is_same}
use Rattle.theory.proofs.Soundness.SoundTest.{tables_agree_is, sound_is}
use Rattle.rules.specs.Calls.{◌if◌, first_of}
use Rattle.rules.specs.Sound.{Sound, is_sound}
use Rattle.rules.specs.Tables.{Mesh, tables_agree}
use Rattle.tables.specs.Standing.{standing}

pub standing_sound : (m : Mesh) (r : ℕ) → r ≡ standing m → r ≡ 0 → Sound m
standing_sound m r e z = go (tables_agree m) (is_sound m) (sound_is m) (sym e ∙ z)
  where
    go : (a b : Bool) → Decides b (Sound m) → first_of (1 if not a ∷ 7 if not b ∷ []) ≡ 0 → Sound m
    go true true d q = d.holds tt
    go true false d q = absurd (omega arith)
    go false b d q = absurd (omega arith)

pub sound_standing : {m : Mesh} → Sound m → 0 ≡ standing m
sound_standing {m} S =
    rw (is_same (tables_agree_is m) (is_true S.tables), is_same (sound_is m) (is_true S)) refl
