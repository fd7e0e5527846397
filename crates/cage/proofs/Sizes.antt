-- What the sizes of a cage say, where they fit.
use mathlib.Core.Bool.{Bool, true}
use mathlib.Core.Path.{◌≡◌, sym, ap, ◌∙◌}
use mathlib.Core.List.{List}
use Prim.Native.Nat.{ℕ}
use native.Mathlib.Omega.{arith}
use Rattle.theory.proofs.Loads.CageTests.{sizes_fit_is}
use Rattle.theory.proofs.Numbers.Decide.{when_true}
use Rattle.theory.proofs.Soundness.SoundTest.{tables_agree_is}
use Rattle.rules.specs.Cage.{cage_of, sizes_fit}
use Rattle.rules.specs.Conditions.{SizesFit}
use Rattle.rules.specs.Numbers.{number_at}
use Rattle.rules.specs.Spares.{Spares}
use Rattle.rules.specs.Tables.{Mesh, TablesAgree, tables_agree}
use Rattle.tables.specs.declared.Counts.{Counts}
use Rattle.tables.specs.Lent.{mesh_with}
use Rattle.judging.specs.Loading.{Sized}

-- What the first tests say of the tables, as they are seen, holds of what they hold.
pub agreeing : {s t : Spares} (n : Counts) {a : Bool} → s ≡ t → a ≡ tables_agree (mesh_with n s)
    → tables_agree (mesh_with n t) ≡ a
agreeing n same p = ap (λ s. tables_agree (mesh_with n s)) (sym same) ∙ sym p

pub fitting : (bytes : List ℕ) {s t : Spares} (n : Counts) {a : Bool} → s ≡ t → a ≡ sizes_fit bytes (mesh_with n s)
    → sizes_fit bytes (mesh_with n t) ≡ a
fitting bytes n same p = ap (λ s. sizes_fit bytes (mesh_with n s)) (sym same) ∙ sym p

pub passed : (bytes : List ℕ) {s t : Spares} (n : Counts) {a b : Bool} → s ≡ t → a ≡ tables_agree (mesh_with n s)
    → a ≡ true → b ≡ sizes_fit bytes (mesh_with n s) → b ≡ true
    → TablesAgree (mesh_with n t) × SizesFit bytes (mesh_with n t)
passed bytes n same p x q y =
    (when_true (tables_agree_is _) (agreeing n same p ∙ x), when_true (sizes_fit_is _ _) (fitting bytes n same q ∙ y))

-- A cage whose sizes fit is as long as they say.
pub sized : {bytes : List ℕ} {m : Mesh} {v f : ℕ} → v ≡ number_at bytes 0 → f ≡ number_at bytes 4 → TablesAgree m
    → SizesFit bytes m → Sized bytes v f
unfolding cage_of
sized e g A S = record {
  vertices = sym e;
  triangles = sym g;
  few_vertices = omega (arith, A.few_vertices, S.vertex_room);
  few_triangles = omega (arith, A.few_triangles, S.triangle_room);
  size = rw (e, g) S.size;
}
