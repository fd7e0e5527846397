-- The first refusal of a refine, found test by test.
use borrow.Author.Tests.{leb-false}
use Rattle.std.specs.Prelude.{Result, Ok}
use mathlib.Core.Bool.{Bool, true, false, not}
use mathlib.Core.List.{List, [], ◌∷◌}
use mathlib.Core.Logic.{◌≢◌}
use mathlib.Core.Path.{◌≡◌, refl, sym, ap₂, subst, ◌∙◌}
use Prim.Native.Nat.{ℕ, ◌≤◌, ◌<◌}
use native.Mathlib.Omega.{arith}
use lib.Dec.{leb}
use Rattle.theory.proofs.Numbers.Decide.{Decides}
use Rattle.theory.proofs.Calls.Carried.{refine_found}
use Rattle.theory.proofs.Calls.FirstThatHolds.{two_kept, two_passed, refuses, carries}
use Rattle.theory.proofs.Soundness.SoundTest.{sound_is}
use Rattle.rules.specs.Calls.{Test, ◌if◌, first_of, no_room, refused_with, room_for, worked, refine_refusal, refine_call}
use Rattle.rules.specs.Calls.{vertices_of, triangles_of, too_old, alters_locked}
use Rattle.rules.specs.Sound.{Sound, is_sound}
use Rattle.rules.specs.Split.{at_first, refine}
use Rattle.rules.specs.Tables.{Mesh, tables_agree, generation}
use Rattle.refining.specs.Finding.{mesh_cornered, Finds, Goes}
use Rattle.rules.specs.Spares.{Spares}
use Rattle.tables.specs.Lent.{mesh_with}
use Rattle.tables.specs.Standing.{standing}
use Rattle.tables.specs.declared.Counts.{Counts}
use Rattle.tables.specs.declared.refusals.Refusal.{Refusal}
use Rattle.split.specs.declared.Chain.{Chain}

-- Four tests before the rest.
four_kept : (a b d e : Bool) (rest : List Test) (r : ℕ) → r ≡ first_of (1 if a ∷ 7 if b ∷ 8 if d ∷ 9 if e ∷ []) → r ≢ 0
    → r ≡ first_of (1 if a ∷ 7 if b ∷ 8 if d ∷ 9 if e ∷ rest)
four_kept true b d e rest r q x = q
four_kept false true d e rest r q x = q
four_kept false false true e rest r q x = q
four_kept false false false true rest r q x = q
four_kept false false false false rest r q x = absurd (x q)

four_passed : (a b d e : Bool) (rest : List Test) (r : ℕ) → r ≡ first_of (1 if a ∷ 7 if b ∷ 8 if d ∷ 9 if e ∷ [])
    → r ≡ 0 → first_of (1 if a ∷ 7 if b ∷ 8 if d ∷ 9 if e ∷ rest) ≡ first_of rest
four_passed true b d e rest r q z = absurd (omega arith)
four_passed false true d e rest r q z = absurd (omega arith)
four_passed false false true e rest r q z = absurd (omega arith)
four_passed false false false true rest r q z = absurd (omega arith)
four_passed false false false false rest r q z = refl

module _ (t : ℕ) (m : Mesh) where
  -- The tests of the triangle, with those before them.
  abbrev pub triangle_refusal : ℕ
  triangle_refusal =
      first_of (
      1 if not (tables_agree m)
      ∷ 7 if not (is_sound m)
      ∷ 8 if leb m.topology.triangles t
      ∷ 9 if too_old m.topology t
      ∷ []
      )

  -- The mesh's own refusal comes first.
  pub triangle_stands : (r : ℕ) → r ≡ standing m → r ≢ 0 → r ≡ triangle_refusal
  triangle_stands =
      two_kept (not (tables_agree m)) (not (is_sound m))
      (8 if leb m.topology.triangles t ∷ 9 if too_old m.topology t ∷ [])

  -- The refusal by the answers of the tests. A test that was not made stands for itself.
  module _ (r : ℕ) (s : r ≡ standing m) (z : r ≡ 0) where
    triangle_by_tests : {a b : Bool} → leb m.topology.triangles t ≡ a → too_old m.topology t ≡ b
        → first_of (8 if a ∷ 9 if b ∷ []) ≡ triangle_refusal
    triangle_by_tests a b =
        sym (two_passed (not (tables_agree m)) (not (is_sound m))
        (8 if leb m.topology.triangles t ∷ 9 if too_old m.topology t ∷ []) r s z ∙ rw (b, a))

    pub triangle_eight : leb m.topology.triangles t ≡ true → 8 ≡ triangle_refusal
    triangle_eight a = triangle_by_tests a refl

    module _ (a : leb m.topology.triangles t ≡ false) where
      pub triangle_nine : too_old m.topology t ≡ true → 9 ≡ triangle_refusal
      triangle_nine b = triangle_by_tests a b

      pub triangle_none : too_old m.topology t ≡ false → 0 ≡ triangle_refusal
      triangle_none b = triangle_by_tests a b

  -- The tests by the base chain come after them.
  abbrev chain_tests : List Test
  chain_tests =
      19 if alters_locked t m ∷ 11 if not (room_for (vertices_of m.topology t) (triangles_of m.topology t) m) ∷ []

  module _ (r : ℕ) (e : r ≡ triangle_refusal) where
    pub refine_triangle : r ≢ 0 → r ≡ refine_refusal t m
    unfolding refine_refusal
    refine_triangle =
        four_kept (not (tables_agree m)) (not (is_sound m)) (leb m.topology.triangles t)
        (too_old m.topology t) chain_tests r e

    module _ (z : r ≡ 0) where
      pub refine_chain : (q : ℕ) → q ≡ first_of chain_tests → q ≡ refine_refusal t m
      unfolding refine_refusal
      refine_chain q f =
          f
          ∙ sym (four_passed (not (tables_agree m)) (not (is_sound m)) (leb m.topology.triangles t)
          (too_old m.topology t) chain_tests r e z)

      -- Then the mesh is sound and t in use.
      pub refine_stands : Sound m × (t < m.topology.triangles)
      refine_stands = go (tables_agree m) (is_sound m) (sound_is m) (leb m.topology.triangles t) refl (sym e ∙ z)
        where
          go : (a b : Bool) → Decides b (Sound m) → (d : Bool) → leb m.topology.triangles t ≡ d
              → first_of (
              1 if not a
              ∷ 7 if not b
              ∷ 8 if d
              ∷ 9 if too_old m.topology t
              ∷ []
              ) ≡ 0
              → Sound m × (t < m.topology.triangles)
          go true true s false f q = (s.holds tt, leb-false _ _ f)
          go true true s true f q = absurd (omega arith)
          go true false s d f q = absurd (omega arith)
          go false b s d f q = absurd (omega arith)

      -- The base chain of t is no longer than there are generations.
      pub refine_young : generation m.topology t ≤ 20
      refine_young = refine_stands.0.generations t refine_stands.1

-- The answers of the tests by a chain. A test that was not made stands for itself.
pub chain_by_tests : (t v f : ℕ) (m : Mesh) {a b : Bool} → alters_locked t m ≡ a → room_for v f m ≡ b
    → first_of (19 if a ∷ 11 if not b ∷ []) ≡ first_of (19 if alters_locked t m ∷ 11 if not (room_for v f m) ∷ [])
chain_by_tests t v f m a b = ap₂ (λ (x y : Bool). first_of (19 if x ∷ 11 if not y ∷ [])) (sym a) (sym b)

-- ---- outcomes

module _ (t : ℕ) (m : Mesh) (r : ℕ) (e : r ≡ refine_refusal t m) where
  pub refine_refused : r ≢ 0 → refused_with r m no_room ≡ refine_call t m
  unfolding refine_call
  refine_refused = refuses m no_room (worked (refine t (at_first m))) (refine_refusal t m) r e

  pub refine_carried : r ≡ 0 → worked (refine t (at_first m)) ≡ refine_call t m
  unfolding refine_call
  refine_carried = carries m no_room (worked (refine t (at_first m))) (refine_refusal t m) r e

-- Where nothing is found to refuse, the refine is carried out.
pub finds_goes : {t : ℕ} {m : Mesh} {c : Chain} → Finds t m (Ok c) → Goes t m c
finds_goes {t} {m} F = record { found = refine_found t m (sym F.0); chain = F.1 }

-- What is known of the tables as they were seen is known of them as they are lent.
module _ (n : Counts) {seen lent : Spares} (e : seen ≡ lent) where
  pub stands_seen : {r : ℕ} → r ≡ standing (mesh_with n lent)
      → (c : List ℕ) × (r ≡ standing (mesh_cornered n c seen))
  stands_seen {r} s = (seen.corners, subst (λ (x : Spares). r ≡ standing (mesh_with n x)) (sym e) s)

  pub found_seen : {r : ℕ} (t : ℕ) (q : Result Chain Refusal)
      → ((c : List ℕ) → r ≡ standing (mesh_cornered n c seen) → Finds t (mesh_cornered n c seen) q)
      → r ≡ standing (mesh_with n lent) → Finds t (mesh_with n lent) q
  found_seen {r} t q F s =
      subst (λ (x : Spares). Finds t (mesh_with n x) q) e
      (F seen.corners (subst (λ (x : Spares). r ≡ standing (mesh_with n x)) (sym e) s))
