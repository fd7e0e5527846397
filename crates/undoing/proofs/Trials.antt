-- A note tried in tables of its own, found test by test.
use borrow.Author.Tests.{le-leb, eq-eqb, ne_eqb}
use mathlib.Core.Bool.{Bool, true, false}
use mathlib.Core.List.{List}
use mathlib.Core.Logic.{◌≢◌}
use mathlib.Core.Path.{◌≡◌, refl, sym, ◌∙◌}
use Prim.Native.Nat.{ℕ, ◌≤◌}
use Rattle.theory.proofs.Numbers.Decide.{when_true}
use Rattle.theory.proofs.Soundness.SoundTest.{sound_is}
use Rattle.rules.specs.Calls.{refine_refusal}
use Rattle.rules.specs.Notes.{noted_triangle, old_v, old_f, restored, refined, same_in_use}
use Rattle.rules.specs.Sound.{is_sound}
use Rattle.rules.specs.Tables.{Mesh}
use Rattle.tables.proofs.Standing.{sound_standing}
use Rattle.tables.specs.Standing.{standing}
use Rattle.undoing.specs.Trying.{cut, refines_to, accepted_cut}

-- ---- whether refining leads from an old mesh to the present one

pub old_stands : (old : Mesh) {r : Bool} → r ≡ is_sound old → r ≡ true → 0 ≡ standing old
old_stands old a x = sound_standing (when_true (sound_is old) (sym a ∙ x))

module _ (t : ℕ) (old m : Mesh) {r : Bool} (a : r ≡ is_sound old) (x : r ≡ true) where
  pub not_refined : {n : ℕ} → n ≡ refine_refusal t old → n ≢ 0 → false ≡ refines_to t old m
  unfolding refines_to
  not_refined e n = rw (← a, x, ne_eqb _ _ (λ z. n (e ∙ z))) refl

  pub refined_compared : refine_refusal t old ≡ 0 → {made : Mesh} → made ≡ refined t old
      → {b : Bool} → b ≡ same_in_use m made → b ≡ refines_to t old m
  unfolding refines_to
  refined_compared z q f = rw (← a, x, eq-eqb _ _ z, ← q) f

-- ---- whether a note that fits is accepted

pub tried : (note : List ℕ) (m : Mesh) {old : Mesh} {r : Bool} → old_v note ≤ m.topology.vertices
    → old_f note ≤ m.topology.triangles
    → old ≡ cut m.topology.vertices m.topology.triangles (restored note m)
    → r ≡ refines_to (noted_triangle note) old m → r ≡ accepted_cut note m
unfolding accepted_cut
tried note m v l e f = f ∙ rw (le-leb _ _ v, le-leb _ _ l, e) refl
