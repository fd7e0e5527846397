-- The refusal of a load by its tests, and what the call makes of it.
use mathlib.Core.Path.{◌≡◌, refl, ap, ◌∙◌}
use mathlib.Core.Logic.{◌≢◌}
use mathlib.Core.Bool.{Bool, not, ◌||◌}
use mathlib.Core.List.{List, [], ◌∷◌}
use Prim.Native.Nat.{ℕ}
use Rattle.theory.proofs.Calls.FirstThatHolds.{refuses, carries}
use Rattle.rules.specs.Cage.{cage_of, loaded, sizes_fit, corners_fit, coordinates_fit, sides_differ, fans_fit}
use Rattle.rules.specs.Cage.{some_inner_of_two}
use Rattle.rules.specs.Calls.{no_room, load_refusal, load_call, ◌if◌, first_of, refused_with, worked}
use Rattle.rules.specs.Split.{at_first}
use Rattle.rules.specs.Numbers.{known_rule}
use Rattle.rules.specs.Tables.{Mesh, tables_agree, with_rule}

module _ (rule : ℕ) (bytes : List ℕ) (m : Mesh) where
  -- The refusal by the answers of its tests. A test that was not made stands for itself.
  pub load_by_tests : {a u s k r d f : Bool} → tables_agree m ≡ a → known_rule rule ≡ u → sizes_fit bytes m ≡ s
      → corners_fit (cage_of bytes) ≡ k
      → coordinates_fit (cage_of bytes) ≡ r → sides_differ (cage_of bytes) ≡ d
      → not (fans_fit (cage_of bytes) m) || some_inner_of_two (cage_of bytes) m ≡ f
      → first_of (1 if not a ∷ 16 if not u ∷ 2 if not s ∷ 3 if not k ∷ 4 if not r ∷ 5 if not d ∷ 6 if f ∷ [])
      ≡ load_refusal rule bytes m
  unfolding load_refusal
  load_by_tests a u s k r d f = rw (load_refusal, a, u, s, k, r, d, f)

  -- The call by its refusal, and by the mesh that it leaves where there is none.
  pub load_refused : {n : ℕ} → n ≡ load_refusal rule bytes m → n ≢ 0 → refused_with n m no_room ≡ load_call rule bytes m
  unfolding load_call
  load_refused {n} e z =
      refuses m no_room (worked (at_first (with_rule rule (loaded (cage_of bytes) m)))) (load_refusal rule bytes m) n e z

  pub load_carried : {n : Mesh} → 0 ≡ load_refusal rule bytes m → n ≡ with_rule rule (loaded (cage_of bytes) m)
      → worked (at_first n) ≡ load_call rule bytes m
  unfolding load_call
  load_carried e l =
      ap (λ (k : Mesh). worked (at_first k)) l
      ∙ carries m no_room (worked (at_first (with_rule rule (loaded (cage_of bytes) m)))) (load_refusal rule bytes m) 0 e
      refl
