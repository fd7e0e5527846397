-- Runs computed from the rules: the twelve facts of the tetrahedron run, the nine triangles of Figure 8, and a refine
-- of one split. (The tetrahedron run; requests b, k)
use Prim.Native.Nat.{ℕ, zero, ◌+◌, ◌*◌, ◌≤◌, ◌<◌}
use native.Mathlib.Omega.{arith}
use mathlib.Core.List.{List, [], ◌∷◌, map}
use mathlib.Core.Logic.{inl, inr}
use mathlib.Core.Path.{◌≡◌, refl}
use lib.IntN.{ℤ, pos}
use lib.ListN.{length}
use Rattle.rules.proofs.Computing.{computing, made, made_each, fresh, tetrahedron, bytes}
use Rattle.rules.specs.Calls.{Outcome, refine_call}
use Rattle.rules.specs.History.{Change, loads, refines, steps}
use Rattle.rules.specs.Conditions.{TooOld, Risen, is_even}
use Rattle.rules.specs.Runs.{MayRun, ran, LeastDisturbance}
use Rattle.rules.specs.Split.{at_first}
use Rattle.rules.specs.Tables.{Mesh, origin, generation, coordinate}

-- ---- what the facts speak of

-- A printed line of the program: refusal, splits, flips, V, F.
abbrev pub line_of : Outcome → List ℕ
line_of o = o.answer.refusal ∷ o.answer.splits ∷ o.answer.flips ∷ o.answer.vertices ∷ o.answer.triangles ∷ []

-- The corners of triangle t and its generation.
abbrev pub triangle_of : Mesh → ℕ → List ℕ
triangle_of m t =
    let at : ℕ → ℕ = λ i. origin m.topology (3 * t + i) in
    at 0 ∷ at 1 ∷ at 2 ∷ generation m.topology t ∷ []

abbrev pub point_of : Mesh → ℕ → List ℤ
point_of m v = coordinate m v 0 ∷ coordinate m v 1 ∷ coordinate m v 2 ∷ []

-- ---- the table

unfoldable pub run : List Change
run = loads 1 tetrahedron ∷ refines 0 ∷ refines 0 ∷ refines 0 ∷ refines 0 ∷ refines 99 ∷ []

unfoldable pub store : Mesh
store = fresh 1024 2048

unfoldable pub finished : Mesh
unfolding computing run store fresh tetrahedron
finished = made run store

unfoldable pub smoothing : List Change
smoothing = loads 1 tetrahedron ∷ steps ∷ []

unfoldable pub smoothed : Mesh
unfolding computing smoothing store fresh tetrahedron
smoothed = made smoothing store

pub record Table : Type 0 where
  pub p1_to_p6 : map line_of (made_each run store) ≡
      (0 ∷ 0 ∷ 0 ∷ 4 ∷ 4 ∷ [])
      ∷ (0 ∷ 1 ∷ 0 ∷ 5 ∷ 6 ∷ [])
      ∷ (0 ∷ 1 ∷ 1 ∷ 6 ∷ 8 ∷ [])
      ∷ (0 ∷ 1 ∷ 0 ∷ 7 ∷ 10 ∷ [])
      ∷ (0 ∷ 2 ∷ 3 ∷ 9 ∷ 14 ∷ [])
      ∷ (8 ∷ 0 ∷ 0 ∷ 9 ∷ 14 ∷ [])
      ∷ []
  pub p7 : triangle_of finished 0 ≡ 0 ∷ 8 ∷ 6 ∷ 4 ∷ []
  pub p8 : triangle_of finished 5 ≡ 2 ∷ 7 ∷ 4 ∷ 2 ∷ []
  pub p9 : point_of finished 6 ≡ pos 2 ∷ pos 1 ∷ pos 1 ∷ []
  pub p10 : point_of finished 8 ≡ pos 1 ∷ pos 1 ∷ pos 2 ∷ []
  pub p11 : map line_of (made_each smoothing store) ≡ (0 ∷ 0 ∷ 0 ∷ 4 ∷ 4 ∷ []) ∷ (0 ∷ 4 ∷ 6 ∷ 8 ∷ 12 ∷ []) ∷ []
  pub p12₀ : point_of smoothed 0 ≡ pos 2 ∷ pos 2 ∷ pos 2 ∷ []
  pub p12₁ : point_of smoothed 1 ≡ pos 4 ∷ pos 2 ∷ pos 2 ∷ []

pub tetrahedron_run : Table
unfolding computing run store finished smoothing smoothed fresh tetrahedron
tetrahedron_run = record {
  p1_to_p6 = refl;
  p7 = refl;
  p8 = refl;
  p9 = refl;
  p10 = refl;
  p11 = refl;
  p12₀ = refl;
  p12₁ = refl;
}

-- ---- one triangle, whose three sides are on the boundary, becomes the nine of Figure 8 (request b)

unfoldable pub one_triangle : List ℕ
unfolding bytes
one_triangle = bytes (3 ∷ 1 ∷ 0 ∷ 0 ∷ 0 ∷ 9 ∷ 0 ∷ 0 ∷ 0 ∷ 9 ∷ 0 ∷ 0 ∷ 1 ∷ 2 ∷ [])

unfoldable pub nine_run : List Change
nine_run = loads 1 one_triangle ∷ refines 0 ∷ refines 0 ∷ refines 1 ∷ refines 2 ∷ []

unfoldable pub shell_store : Mesh
shell_store = fresh 64 128

unfoldable pub nine : Mesh
unfolding computing nine_run shell_store fresh one_triangle
nine = made nine_run shell_store

pub record NineTable : Type 0 where
  pub lines : map line_of (made_each nine_run shell_store) ≡
      (0 ∷ 0 ∷ 0 ∷ 3 ∷ 1 ∷ [])
      ∷ (0 ∷ 1 ∷ 0 ∷ 4 ∷ 3 ∷ [])
      ∷ (0 ∷ 1 ∷ 0 ∷ 6 ∷ 5 ∷ [])
      ∷ (0 ∷ 1 ∷ 1 ∷ 8 ∷ 7 ∷ [])
      ∷ (0 ∷ 1 ∷ 2 ∷ 10 ∷ 9 ∷ [])
      ∷ []
  -- The nine triangles, all of generation 4.
  pub triangles : map (triangle_of nine) (0 ∷ 1 ∷ 2 ∷ 3 ∷ 4 ∷ 5 ∷ 6 ∷ 7 ∷ 8 ∷ []) ≡
      (3 ∷ 9 ∷ 4 ∷ 4 ∷ [])
      ∷ (3 ∷ 5 ∷ 6 ∷ 4 ∷ [])
      ∷ (3 ∷ 7 ∷ 8 ∷ 4 ∷ [])
      ∷ (4 ∷ 5 ∷ 3 ∷ 4 ∷ [])
      ∷ (1 ∷ 6 ∷ 5 ∷ 4 ∷ [])
      ∷ (6 ∷ 7 ∷ 3 ∷ 4 ∷ [])
      ∷ (2 ∷ 8 ∷ 7 ∷ 4 ∷ [])
      ∷ (8 ∷ 9 ∷ 3 ∷ 4 ∷ [])
      ∷ (0 ∷ 4 ∷ 9 ∷ 4 ∷ [])
      ∷ []
  -- A' of the first rim split is nearer to A, B' to B.
  pub first : point_of nine 4 ≡ pos 3 ∷ pos 0 ∷ pos 0 ∷ []
  pub second : point_of nine 5 ≡ pos 6 ∷ pos 0 ∷ pos 0 ∷ []

pub nine_triangles : NineTable
unfolding computing nine_run shell_store nine fresh one_triangle
nine_triangles = record { lines = refl; triangles = refl; first = refl; second = refl }

-- ---- a refine of one split is least (request k)

unfoldable pub four_faces : Mesh
unfolding fresh tetrahedron
four_faces = made (loads 1 tetrahedron ∷ []) (fresh 5 6)

-- No run without a split raises slot 0, and every other has one or more.
none_fewer : (other : List ℕ) → MayRun other (at_first four_faces)
    → Risen four_faces 0 (ran other (at_first four_faces)).mesh → (refine_call 0 four_faces).answer.splits ≤ length other
unfolding computing fresh tetrahedron four_faces
none_fewer [] M R = let r : 0 < 0 = R in absurd (omega (arith, r))
none_fewer (x ∷ rest) M R = omega arith

still_young : ¬ TooOld four_faces.topology 0
unfolding computing fresh tetrahedron four_faces
still_young (inl e) = let f : zero ≡ 20 = e in omega (arith, f)
still_young (inr b) = let f : zero ≡ 19 = b.0 in omega (arith, f)

pub one_split : LeastDisturbance 0 four_faces (refine_call 0 four_faces)
unfolding computing fresh tetrahedron four_faces
one_split = record {
  run = 0 ∷ [];
  may_run = (
    record {
      in_use = omega arith;
      splittable = is_even refl;
      young = still_young;
      room = record { vertices = omega arith; triangles = omega arith };
    },
    tt,
  );
  outcome = refl;
  splits = refl;
  raises = omega arith;
  least = none_fewer;
}
