-- Base chains of several odd triangles, computed from the rules: a run that meets one, chains that end at the boundary,
-- and the splits that raise a triangle. (Requests b, k)
use Prim.Native.Nat.{ℕ, zero, suc, ◌+◌, ◌-◌, ◌*◌}
use mathlib.Core.Bool.{Bool, false, not, ◌&&◌, ◌||◌}
use mathlib.Core.List.{List, [], ◌∷◌, ◌++◌, map}
use mathlib.Core.Path.{◌≡◌, refl}
use lib.Dec.{eqb, ltb}
use lib.IntN.{pos}
use lib.ListN.{replicate}
use Rattle.rules.proofs.Computing.{computing, made, made_each, fresh, hinge}
use Rattle.rules.proofs.Examples.{line_of, one_triangle, shell_store}
use Rattle.rules.specs.Below.{any}
use Rattle.rules.specs.Calls.{refine_call}
use Rattle.rules.specs.History.{Change, loads, refines}
use Rattle.rules.specs.Runs.{ran}
use Rattle.rules.specs.Split.{Work, at_first, chain_at, split_at, refine}
use Rattle.rules.specs.Tables.{Mesh, generation, topology_of, mesh_of, boundary, link, odd}

-- ---- a run on one triangle (request b)

-- The seventh refine meets a chain of four odd triangles that ends at the boundary.
unfoldable pub deep_run : List Change
deep_run =
    loads 1 one_triangle ∷ refines 0 ∷ refines 0 ∷ refines 0 ∷ refines 0 ∷ refines 0 ∷ refines 0 ∷ refines 0 ∷ refines 0
    ∷ refines 0 ∷ []

pub deep : map line_of (made_each deep_run shell_store) ≡
    (0 ∷ 0 ∷ 0 ∷ 3 ∷ 1 ∷ [])
    ∷ (0 ∷ 1 ∷ 0 ∷ 4 ∷ 3 ∷ [])
    ∷ (0 ∷ 1 ∷ 0 ∷ 6 ∷ 5 ∷ [])
    ∷ (0 ∷ 1 ∷ 1 ∷ 8 ∷ 7 ∷ [])
    ∷ (0 ∷ 1 ∷ 0 ∷ 9 ∷ 9 ∷ [])
    ∷ (0 ∷ 1 ∷ 1 ∷ 10 ∷ 11 ∷ [])
    ∷ (0 ∷ 1 ∷ 0 ∷ 11 ∷ 13 ∷ [])
    ∷ (0 ∷ 3 ∷ 4 ∷ 15 ∷ 19 ∷ [])
    ∷ (0 ∷ 1 ∷ 0 ∷ 16 ∷ 21 ∷ [])
    ∷ (0 ∷ 3 ∷ 3 ∷ 19 ∷ 27 ∷ [])
    ∷ []
unfolding computing fresh one_triangle shell_store deep_run
deep = refl

-- ---- base chains of 1 to 10 odd triangles that end at the boundary (request b)

-- n triangles from slot j on, round vertex 0: the base of each is linked to side 1 of the one before, the first base
-- is on the boundary, and so are the other sides.
unfoldable pub chain_corners : ℕ → ℕ → List ℕ
chain_corners zero j = []
chain_corners (suc n) j = (j + 1) ∷ 0 ∷ (j + 2) ∷ chain_corners n (j + 1)

unfoldable pub chain_links : ℕ → ℕ → ℕ → List ℕ
chain_links zero j base = []
chain_links (suc zero) j base = base ∷ boundary ∷ boundary ∷ []
chain_links (suc (suc n)) j base = base ∷ (3 * (j + 1)) ∷ boundary ∷ chain_links (suc n) (j + 1) (3 * j + 1)

unfoldable pub chain_generations : ℕ → ℕ → List ℕ
chain_generations zero j = []
chain_generations (suc n) j = (2 * j + 1) ∷ chain_generations n (j + 1)

-- Such a chain of n, with v and f slots more.
unfoldable pub chain_of : ℕ → ℕ → ℕ → Mesh
unfolding chain_corners chain_links chain_generations
chain_of n v f =
    mesh_of (topology_of (n + 2) n
    (chain_corners n 0 ++ replicate (3 * f) 0)
    (chain_links n 0 boundary ++ replicate (3 * f) 0)
    (chain_generations n 0 ++ replicate f 0))
    (replicate (3 * (n + 2 + v)) (pos 0))
    (replicate (n + f) 0) 1

-- Its last triangle refined: with room for v vertices and f triangles more.
unfoldable pub last_refined : ℕ × ℕ × ℕ → List ℕ
unfolding chain_of
last_refined (n, v, f) = line_of (refine_call (n - 1) (chain_of n v f))

pub record ChainTable : Type 0 where
  -- V + 2 and F + 2 for one odd triangle; V + n and F + 2 (n - 1) for n of them.
  pub enough :
      map last_refined (
      (1, 2, 2) ∷ (2, 2, 2) ∷ (3, 3, 4) ∷ (4, 4, 6) ∷ (5, 5, 8) ∷ (6, 6, 10) ∷ (7, 7, 12) ∷ (8, 8, 14) ∷ (9, 9, 16)
      ∷ [])
      ≡ (0 ∷ 1 ∷ 0 ∷ 5 ∷ 3 ∷ [])
      ∷ (0 ∷ 1 ∷ 1 ∷ 6 ∷ 4 ∷ [])
      ∷ (0 ∷ 2 ∷ 2 ∷ 8 ∷ 7 ∷ [])
      ∷ (0 ∷ 3 ∷ 3 ∷ 10 ∷ 10 ∷ [])
      ∷ (0 ∷ 4 ∷ 4 ∷ 12 ∷ 13 ∷ [])
      ∷ (0 ∷ 5 ∷ 5 ∷ 14 ∷ 16 ∷ [])
      ∷ (0 ∷ 6 ∷ 6 ∷ 16 ∷ 19 ∷ [])
      ∷ (0 ∷ 7 ∷ 7 ∷ 18 ∷ 22 ∷ [])
      ∷ (0 ∷ 8 ∷ 8 ∷ 20 ∷ 25 ∷ [])
      ∷ []
  pub ten : last_refined (10, 10, 18) ≡ 0 ∷ 9 ∷ 9 ∷ 22 ∷ 28 ∷ []
  -- One slot less is too few.
  pub too_few :
      map last_refined ((1, 1, 2) ∷ (1, 2, 1) ∷ (2, 1, 2) ∷ (2, 2, 1) ∷ (10, 9, 18) ∷ (10, 10, 17) ∷ [])
      ≡ (11 ∷ 0 ∷ 0 ∷ 3 ∷ 1 ∷ [])
      ∷ (11 ∷ 0 ∷ 0 ∷ 3 ∷ 1 ∷ [])
      ∷ (11 ∷ 0 ∷ 0 ∷ 4 ∷ 2 ∷ [])
      ∷ (11 ∷ 0 ∷ 0 ∷ 4 ∷ 2 ∷ [])
      ∷ (11 ∷ 0 ∷ 0 ∷ 12 ∷ 10 ∷ [])
      ∷ (11 ∷ 0 ∷ 0 ∷ 12 ∷ 10 ∷ [])
      ∷ []

pub chains : ChainTable
unfolding computing chain_of last_refined
chains = record { enough = refl; ten = refl; too_few = refl }

-- ---- runs that raise a triangle (request k)

-- The hinge with triangles 0, 2, 4 and 4 refined, ten triangles. Slots 4 and 9 have base chains of four odd triangles:
-- that of 4 ends at the even slot 1, that of 9 at the boundary.
unfoldable pub four_deep : Mesh
unfolding fresh hinge
four_deep = made (loads 1 hinge ∷ refines 0 ∷ refines 2 ∷ refines 4 ∷ refines 4 ∷ []) (fresh 18 18)

-- What a run makes of it.
unfoldable pub four_run : List ℕ → Work
unfolding four_deep
four_run slots = ran slots (at_first four_deep)

abbrev pub generations_of : Work → List ℕ
generations_of w = w.mesh.topology.generations

-- Some run of n splits from w on leaves t above generation g. Each triangle is tried that is even or has its base on
-- the boundary; slots and age suffice here.
unfoldable pub some_raises : ℕ → ℕ → ℕ → Work → Bool
some_raises zero g t w = ltb g (generation w.mesh.topology t)
some_raises (suc n) g t w =
    let m = w.mesh.topology in
    let may : ℕ → Bool = λ x. not (odd (generation m x)) || eqb (link m (3 * x)) boundary in
    any m.triangles (λ x. may x && some_raises n g t (split_at x w))

pub record RunTable : Type 0 where
  pub chain : map (λ i. chain_at i four_deep.topology 4) (0 ∷ 1 ∷ 2 ∷ 3 ∷ 4 ∷ []) ≡ 4 ∷ 7 ∷ 2 ∷ 0 ∷ 1 ∷ []
  pub generations : map (generation four_deep.topology) (4 ∷ 7 ∷ 2 ∷ 0 ∷ 1 ∷ []) ≡ 7 ∷ 5 ∷ 3 ∷ 1 ∷ 0 ∷ []
  pub refined : map (λ t. line_of (refine_call t four_deep)) (4 ∷ 9 ∷ []) ≡ (0 ∷ 4 ∷ 4 ∷ 14 ∷ 18 ∷ [])
      ∷ (0 ∷ 3 ∷ 3 ∷ 14 ∷ 16 ∷ []) ∷ []
  -- The generations of the refine of 4 are those of the run of slots 1, 1, 2 and 15; of 9 of 3, at the boundary, 3 and 6.
  pub as_run : map generations_of (refine 4 (four_run []) ∷ four_run (1 ∷ 1 ∷ 2 ∷ 15 ∷ []) ∷ [])
      ≡ replicate 2 (2 ∷ 4 ∷ 5 ∷ 1 ∷ 8 ∷ 3 ∷ 5 ∷ 6 ∷ 8 ∷ 7 ∷ 1 ∷ 1 ∷ 3 ∷ 3 ∷ 5 ∷ 8 ∷ 7 ∷ 7 ∷ [])
  pub as_run_at_boundary : map generations_of (refine 9 (four_run []) ∷ four_run (3 ∷ 3 ∷ 6 ∷ []) ∷ [])
      ≡ replicate 2 (1 ∷ 0 ∷ 3 ∷ 6 ∷ 7 ∷ 4 ∷ 7 ∷ 5 ∷ 8 ∷ 8 ∷ 4 ∷ 3 ∷ 5 ∷ 5 ∷ 7 ∷ 8 ∷ 0 ∷ 0 ∷ [])
  -- Slot 4 before each of its splits, and after the last.
  pub waits : map (λ run. generation (four_run run).mesh.topology 4)
      ([] ∷ (1 ∷ []) ∷ (1 ∷ 1 ∷ []) ∷ (1 ∷ 1 ∷ 2 ∷ []) ∷ (1 ∷ 1 ∷ 2 ∷ 15 ∷ []) ∷ []) ≡ 7 ∷ 7 ∷ 7 ∷ 7 ∷ 8 ∷ []
  -- No run of three splits raises slot 4, and none of two raises slot 9.
  pub fewer : some_raises 3 7 4 (four_run []) ≡ false
  pub fewer_at_boundary : some_raises 2 7 9 (four_run []) ≡ false
  -- Slot 8 is even and beside 4 and 9, but meets them at no base: its split leaves them.
  pub beside_left : map (generation (four_run (8 ∷ [])).mesh.topology) (4 ∷ 8 ∷ 9 ∷ []) ≡ 7 ∷ 9 ∷ 7 ∷ []

pub runs_of_four : RunTable
unfolding computing fresh hinge four_deep four_run some_raises
runs_of_four = record {
  chain = refl;
  generations = refl;
  refined = refl;
  as_run = refl;
  as_run_at_boundary = refl;
  waits = refl;
  fewer = refl;
  fewer_at_boundary = refl;
  beside_left = refl;
}
