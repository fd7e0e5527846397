-- Turning about the corners of triangles that are glued along their sides.
use mathlib.Core.Path.{◌≡◌, sym, ap, ◌∙◌}
use mathlib.Core.Logic.{◌≢◌}
use Prim.Native.Nat.{ℕ, ◌/◌, ◌<◌}
use native.Mathlib.Omega.{arith}
use native.Mathlib.Decide.{ℕ_discrete}
use Rattle.theory.proofs.Links.Manifold.{Partnered, Manifold, Joined, partnered, few}
use Rattle.theory.proofs.Links.Sides.{next_previous, previous_next, next_lt, previous_lt}
use Rattle.rules.specs.Tables.{Topology, sides, next, previous, origin, target, boundary, link, rotate}

-- Triangles of three corners, glued along their sides: what a manifold is without its fans.
pub record Glued (m : Topology) : Type 0 where
  pub few : sides m < boundary
  pub distinct : (h : ℕ) → h < sides m → origin m h ≢ target m h
  pub joined : (h : ℕ) → h < sides m → Joined m h

pub manifold_glued : {m : Topology} → Manifold m → Glued m
manifold_glued {m} F = record { few = few m F; distinct = F.distinct; joined = F.linked }

not_next : (h k : ℕ) → h / 3 ≡ k / 3 → k ≢ next h → h ≢ next k → h ≡ k
not_next h k t e f = omega arith

module _ (m : Topology) (G : Glued m) where
  -- The side that a turn crosses.
  crossed : (h : ℕ) → h < sides m → rotate m h < sides m → Partnered m (previous h)
  crossed h l i =
      partnered (G.joined (previous h) (previous_lt h m.triangles l)) (λ e. omega (arith, G.few))

  pub rotate_origin : (h : ℕ) → h < sides m → rotate m h < sides m → origin m (rotate m h) ≡ origin m h
  rotate_origin h l i = (crossed h l i).from ∙ ap (λ (k : ℕ). origin m k) (next_previous h)

  pub rotate_target : (h : ℕ) → h < sides m → rotate m h < sides m → target m (rotate m h) ≡ origin m (previous h)
  rotate_target h l i = (crossed h l i).onto

  pub rotate_back : (h : ℕ) → h < sides m → rotate m h < sides m → link m (rotate m h) ≡ previous h
  rotate_back h l i = (crossed h l i).back

  -- Turning leads to no side on the boundary.
  pub rotate_inner : (h k : ℕ) → h < sides m → k < sides m → rotate m h ≡ k → link m k ≢ boundary
  rotate_inner h k l i e q =
      let a : link m k ≡ previous h = ap (λ (x : ℕ). link m x) (sym e) ∙ rotate_back h l (rw e i) in
      let b = previous_lt h m.triangles l in
      omega (arith, G.few)

  -- No two sides turn into one.
  pub rotate_injective : (h k : ℕ) → h < sides m → k < sides m → rotate m h < sides m → rotate m h ≡ rotate m k → h ≡ k
  rotate_injective h k l j i e =
      let p : previous h ≡ previous k =
      sym (rotate_back h l i) ∙ ap (λ (x : ℕ). link m x) e ∙ rotate_back k j (rw e at i) in
      sym (next_previous h) ∙ ap next p ∙ next_previous k

  -- The side that turns into h.
  pub before : (h : ℕ) → h < sides m → link m h ≢ boundary
      → (k : ℕ) × (k < sides m) × (origin m k ≡ origin m h) × (rotate m k ≡ h)
  before h l n =
      let M : Partnered m h = partnered (G.joined h l) n in (
        next (link m h),
        next_lt (link m h) m.triangles M.in_use,
        M.onto,
        ap (λ (x : ℕ). link m x) (previous_next (link m h)) ∙ M.back,
      )

  -- A triangle has one side out of a vertex.
  pub same_side : (h k : ℕ) → h < sides m → k < sides m → h / 3 ≡ k / 3 → origin m h ≡ origin m k → h ≡ k
  same_side h k l i t o = go (ℕ_discrete k (next h)) (ℕ_discrete h (next k))
    where
      go : Dec (k ≡ next h) → Dec (h ≡ next k) → h ≡ k
      go (yes e) d = absurd (G.distinct h l (o ∙ ap (λ (x : ℕ). origin m x) e))
      go (no e) (yes f) = absurd (G.distinct k i (sym o ∙ ap (λ (x : ℕ). origin m x) f))
      go (no e) (no f) = not_next h k t e f
