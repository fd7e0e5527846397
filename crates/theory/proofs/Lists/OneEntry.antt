-- A list of one entry does what a refine does.
use mathlib.Core.Path.{◌≡◌, refl}
use mathlib.Core.Logic.{◌≢◌}
use mathlib.Core.Bool.{Bool, true, false, not}
use mathlib.Core.List.{[], ◌∷◌}
use Prim.Native.Nat.{ℕ, zero, suc}
use native.Mathlib.Omega.{arith}
use lib.Dec.{leb}
use borrow.Author.Tests.{le-ltb}
use Rattle.theory.proofs.Numbers.Decide.{is_true, is_same}
use Rattle.theory.proofs.Soundness.SoundTest.{tables_agree_is, sound_is}
use Rattle.rules.specs.Calls.{no_room, spare_room, worked, first_of, ◌if◌, unless, refine_call}
use Rattle.rules.specs.Calls.{refine_refusal, too_old, alters_locked, room_for, vertices_of, triangles_of}
use Rattle.rules.specs.Lists.{begun, goes_on, risen, entry_refusal}
use Rattle.rules.specs.Lists.{entry_work, handle, handle_all, spares_refusal}
use Rattle.rules.specs.Lists.{all_or_nothing, list_call}
use Rattle.rules.specs.Promises.{SameWork}
use Rattle.rules.specs.Sound.{Sound, is_sound}
use Rattle.rules.specs.Spares.{Spares, SameSizes}
use Rattle.rules.specs.Split.{at_first, refine}
use Rattle.rules.specs.Tables.{Mesh, tables_agree, generation}
use Rattle.theory.proofs.Lists.ListCall.{same_sizes_is, spares_sound}

module _ (t : ℕ) (spares : Spares) (m : Mesh) (Z : SameSizes spares m) where
  -- The refusal of a refine by the first three of its tests.
  abbrev by_each_test : Bool → Bool → Bool → ℕ
  by_each_test a b c =
      first_of (
      1 if not a
      ∷ 7 if not b
      ∷ 8 if c
      ∷ 9 if too_old m.topology t
      ∷ 19 if alters_locked t m
      ∷ 11 if not (room_for (vertices_of m.topology t) (triangles_of m.topology t) m)
      ∷ []
      )

  -- What refuses the mesh refuses both.
  first_same : spares_refusal spares m ≢ 0 → refine_refusal t m ≡ spares_refusal spares m
  unfolding spares_refusal refine_refusal
  first_same = rw (is_same (same_sizes_is spares m) (is_true Z)) (go (tables_agree m) (is_sound m))
    where
      go : (a b : Bool) → first_of (1 if not a ∷ 17 if false ∷ 7 if not b ∷ []) ≢ 0
          → by_each_test a b (leb m.topology.triangles t) ≡ first_of (1 if not a ∷ 17 if false ∷ 7 if not b ∷ [])
      go true true n = absurd (n refl)
      go true false n = refl
      go false b n = refl

  entry_same : Sound m → entry_refusal m t m ≡ refine_refusal t m
  unfolding entry_refusal refine_refusal
  entry_same S =
      go (tables_agree m) (is_sound m) (leb m.topology.triangles t) (risen m t m) (refine_refusal t m) refl
      (is_same (tables_agree_is m) (is_true S.tables)) (is_same (sound_is m) (is_true S))
      (le-ltb (generation m.topology t) (generation m.topology t) (omega arith))
    where
      go : (a b c r : Bool) (n : ℕ) → n ≡ by_each_test a b c → a ≡ true → b ≡ true → r ≡ false
          → ◌≡◌ {A = ℕ} (elim c [ true ↦ 8 | false ↦ elim r [ true ↦ 0 | false ↦ n ] ]) (by_each_test a b c)
      go a b true r n q e f g = rw (e, f) refl
      go a b false r n q e f g = rw g q

  work_same : entry_work m t (at_first m) ≡ refine t (at_first m)
  unfolding entry_work
  work_same = rw (le-ltb (generation m.topology t) (generation m.topology t) (omega arith), entry_work) refl

  pub one_entry : SameWork (list_call (t ∷ []) spares m) (refine_call t m)
  unfolding list_call refine_call handle_all handle
  one_entry =
      rw work_same (go (spares_refusal spares m) (refine_refusal t m) (entry_refusal m t m) first_same
      (λ z. entry_same (spares_sound spares m z).1))
    where
      go : (n k e : ℕ) → (n ≢ 0 → k ≡ n) → (n ≡ 0 → e ≡ k) →
          let p = goes_on e (refine t (at_first m)) (begun m) in
          SameWork (unless n m (spare_room spares) (all_or_nothing p.refusal p spares m))
          (unless k m no_room (worked (refine t (at_first m))))
      go zero k e f g = rw (g refl) (both k)
        where
          both : (k : ℕ) →
              let p = goes_on k (refine t (at_first m)) (begun m) in
              SameWork (all_or_nothing p.refusal p spares m) (unless k m no_room (worked (refine t (at_first m))))
          both zero = (record {
            refusal = refl;
            splits = refl;
            flips = refl;
            vertices = refl;
            triangles = refl;
            rule = refl;
            mesh = refl;
          })
          both (suc k) = (record {
            refusal = refl;
            splits = refl;
            flips = refl;
            vertices = refl;
            triangles = refl;
            rule = refl;
            mesh = refl;
          })
      go (suc n) k e f g = rw (f (λ z. omega arith)) (record {
        refusal = refl;
        splits = refl;
        flips = refl;
        vertices = refl;
        triangles = refl;
        rule = refl;
        mesh = refl;
      })
