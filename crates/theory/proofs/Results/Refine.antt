-- What is proved of refine. (Refine one triangle)
use mathlib.Core.Path.{◌≡◌}
use mathlib.Core.Logic.{◌≢◌}
use Prim.Native.Nat.{ℕ, ◌-◌, ◌*◌, ◌%◌, ◌≤◌, ◌<◌}
use Rattle.theory.proofs.Calls.CallRefusals.{taken_at_boundary}
use Rattle.theory.proofs.Calls.Outcomes.{refine_makes, chain_falls, refine_is_split}
use Rattle.theory.proofs.Chains.Refine.{chain_counts, chain_takes}
use Rattle.rules.specs.Calls.{worked, refine_call, splits_of, rim_splits_of, vertices_of, triangles_of}
use Rattle.rules.specs.Conditions.{EndsAtBoundary, OddInChain, Takes}
use Rattle.rules.specs.Promises.{ChainFalls, RefineMakes, kobbelt}
use Rattle.rules.specs.Sound.{Sound}
use Rattle.rules.specs.Split.{at_first, chain_odd, refine}
use Rattle.rules.specs.Tables.{Mesh, boundary, link, generation}

-- A refine that is carried out answers and leaves what `refine` makes, and that is sound and counted.
pub refine_carried : (t : ℕ) (m : Mesh) → (refine_call t m).answer.refusal ≡ 0
    → let w = refine t (at_first m) in
    (refine_call t m ≡ worked w) × RefineMakes t m w
refine_carried = refine_makes

-- The odd triangles of a base chain are counted, all of them.
pub chain_whole : (t : ℕ) (m : Mesh) → Sound m → t < m.topology.triangles
    → OddInChain m.topology t (chain_odd m.topology t)
chain_whole = chain_counts

-- The splits and rim splits that are computed are those that a refine takes.
pub splits_taken : (t : ℕ) (m : Mesh) → Sound m → t < m.topology.triangles
    → Takes m.topology t (splits_of m.topology t) (rim_splits_of m.topology t)
splits_taken = chain_takes

-- Where its base chain, of k odd triangles, ends at the boundary, a refine takes two vertices and two triangles for one
-- of them, and k vertices and 2 (k - 1) triangles for more. (Request b; Refused inputs, 11)
pub boundary_taken : (t k : ℕ) (m : Mesh) → Sound m → t < m.topology.triangles → OddInChain m.topology t k
    → EndsAtBoundary m.topology t
    → (k ≡ 1 → (vertices_of m.topology t ≡ 2) × (triangles_of m.topology t ≡ 2))
    × (2 ≤ k → (vertices_of m.topology t ≡ k) × (triangles_of m.topology t ≡ 2 * (k - 1)))
boundary_taken = taken_at_boundary

-- From an odd triangle of a sound mesh, whose base is not on the boundary, the base chain goes on two generations
-- below, or ends one below.
pub chain_steps : (m : Mesh) → Sound m → (t : ℕ) → t < m.topology.triangles → generation m.topology t % 2 ≡ 1
    → link m.topology (3 * t) ≢ boundary → ChainFalls m.topology t
chain_steps = chain_falls

-- Refine is the recursive procedure of Kobbelt's section 4, with the outline's face split and, at the boundary, the
-- rim split of request b, at any depth that suffices.
pub refine_recursive : (t n : ℕ) (m : Mesh) → (refine_call t m).answer.refusal ≡ 0 → generation m.topology t < n
    → refine t (at_first m) ≡ kobbelt n t (at_first m)
refine_recursive = refine_is_split
