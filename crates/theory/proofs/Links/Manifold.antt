-- Sound but for bases that meet, with levels in place of the five kinds; and what holds of the sides of such a mesh.
use mathlib.Core.Path.{◌≡◌, sym, ap, ◌∙◌}
use mathlib.Core.Logic.{◌≢◌, ◌⊎◌, inl, inr}
use Prim.Native.Nat.{ℕ, ◌+◌, ◌*◌, ◌/◌, ◌%◌, ◌≤◌, ◌<◌, min}
use native.Mathlib.Omega.{arith}
use native.Mathlib.Decide.{ℕ_discrete}
use lib.ListN.{length}
use Rattle.theory.proofs.Links.Sides.{next_previous, next_0, next_1, next_2, same_triangle, next_lt, previous_lt}
use Rattle.rules.specs.Sound.{OneFan}
use Rattle.rules.specs.Tables.{Topology, sides, origin, target, boundary, link, generation, next, previous}
use Rattle.rules.specs.Tables.{rotate}

-- The level of a side: 0 on the cage, and one more for the sides of each finer lattice. The sides of an even triangle
-- of generation 2k and the base of an odd one of 2k + 1 have level k, the other sides of that one k + 1.
abbrev pub level : Topology → ℕ → ℕ
level m h = (generation m (h / 3) + min 1 (h % 3)) / 2

-- Side h has a partner: a side in use that links back, runs the other way between the same two vertices, and has its
-- level.
pub record Partnered (m : Topology) (h : ℕ) : Type 0 where
  pub in_use : link m h < sides m
  pub back : link m (link m h) ≡ h
  pub from : origin m (link m h) ≡ target m h
  pub onto : target m (link m h) ≡ origin m h
  pub level : level m (link m h) ≡ level m h

abbrev pub Joined : Topology → ℕ → Type 0
Joined m h = (link m h ≡ boundary) ⊎ Partnered m h

-- The base of an odd triangle.
abbrev pub Base : Topology → ℕ → Type 0
Base m h = (h % 3 ≡ 0) × (generation m (h / 3) % 2 ≡ 1)

-- Two bases meet nowhere but at triangles that X names.
abbrev pub BasesMeetIn : (ℕ → Type 0) → Topology → Type 0
BasesMeetIn X m = (h : ℕ) → h < sides m → Base m h → Base m (link m h) → X (h / 3) ⊎ X (link m h / 3)

-- Sound, but for bases that meet.
pub record Manifold (m : Topology) : Type 0 where
  pub slots : length m.generations ≤ 65536
  pub link_slots : length m.links ≤ boundary
  pub corner_room : 3 * m.triangles ≤ length m.corners
  pub link_room : 3 * m.triangles ≤ length m.links
  pub generation_room : m.triangles ≤ length m.generations
  pub corner : (h : ℕ) → h < sides m → origin m h < m.vertices
  pub distinct : (h : ℕ) → h < sides m → origin m h ≢ target m h
  pub linked : (h : ℕ) → h < sides m → Joined m h
  pub fan : (v : ℕ) → v < m.vertices → OneFan m v

-- ---- the three sides of a triangle

pub level_of : (m : Topology) (h t i : ℕ) → h / 3 ≡ t → h % 3 ≡ i → level m h ≡ (generation m t + min 1 i) / 2
level_of m h t i p q = rw (p, q)

module _ (m : Topology) (t : ℕ) where
  pub level₀ : level m (3 * t) ≡ generation m t / 2
  level₀ = level_of m (3 * t) t 0 (omega arith) (omega arith) ∙ omega arith

  pub level₁ : level m (3 * t + 1) ≡ (generation m t + 1) / 2
  level₁ = level_of m (3 * t + 1) t 1 (omega arith) (omega arith)

  pub level₂ : level m (3 * t + 2) ≡ (generation m t + 1) / 2
  level₂ = level_of m (3 * t + 2) t 2 (omega arith) (omega arith)

  pub target₀ : target m (3 * t) ≡ origin m (3 * t + 1)
  target₀ = ap (λ (x : ℕ). origin m x) (next_0 t)

  pub target₁ : target m (3 * t + 1) ≡ origin m (3 * t + 2)
  target₁ = ap (λ (x : ℕ). origin m x) (next_1 t)

  pub target₂ : target m (3 * t + 2) ≡ origin m (3 * t)
  target₂ = ap (λ (x : ℕ). origin m x) (next_2 t)

  pub rotate₀ : rotate m (3 * t) ≡ link m (3 * t + 2)
  rotate₀ = let e : previous (3 * t) ≡ 3 * t + 2 = omega arith in ap (λ (x : ℕ). link m x) e

  pub rotate₁ : rotate m (3 * t + 1) ≡ link m (3 * t)
  rotate₁ = let e : previous (3 * t + 1) ≡ 3 * t = omega arith in ap (λ (x : ℕ). link m x) e

  pub rotate₂ : rotate m (3 * t + 2) ≡ link m (3 * t + 1)
  rotate₂ = let e : previous (3 * t + 2) ≡ 3 * t + 1 = omega arith in ap (λ (x : ℕ). link m x) e

-- ---- partners

-- A pair of sides linked to each other.
pub pair : (m : Topology) (a b : ℕ) → link m a ≡ b → link m b ≡ a → b < sides m → origin m b ≡ target m a
    → target m b ≡ origin m a → level m b ≡ level m a → Partnered m a
pair m a b e f l o d v = record { in_use = rw e l; back = rw e f; from = rw e o; onto = rw e d; level = rw e v }

pub pair_both : (m : Topology) (a b : ℕ) → link m a ≡ b → link m b ≡ a → a < sides m → b < sides m
    → origin m b ≡ target m a → target m b ≡ origin m a → level m b ≡ level m a → Partnered m a × Partnered m b
pair_both m a b e f k l o d v = (pair m a b e f l o d v, pair m b a f e k (sym d) (sym o) (sym v))

-- A side that is not on the boundary has a partner.
pub partnered : {m : Topology} {h : ℕ} → Joined m h → link m h ≢ boundary → Partnered m h
partnered (inl e) n = absurd (n e)
partnered (inr M) n = M

-- The boundary is no side in use.
pub few : (m : Topology) → Manifold m → sides m < boundary
few m F = omega (arith, F.slots, F.generation_room)

-- A side that is linked to a side in use has a partner.
pub partnered_with : {m : Topology} {h k : ℕ} → Manifold m → h < sides m → link m h ≡ k → k < sides m → Partnered m h
partnered_with {m} {h} F l e i = partnered (F.linked h l) (λ q. omega (arith, few m F))

-- No side is linked to a side of its own triangle.
pub no_self : (m : Topology) (h : ℕ) → Manifold m → h < sides m → Partnered m h → link m h / 3 ≢ h / 3
no_self m h F b M e = go (ℕ_discrete (link m h) h) (ℕ_discrete (link m h) (next h))
  where
    go : Dec (link m h ≡ h) → Dec (link m h ≡ next h) → ⊥
    go (yes x) d = F.distinct h b (sym (ap (λ (k : ℕ). origin m k) x) ∙ M.from)
    go (no x) (yes y) =
        let q : next (next h) ≡ previous h = omega arith in
        F.distinct (previous h) (previous_lt h m.triangles b)
        (ap (λ (k : ℕ). origin m k) (sym q) ∙ ap (λ (k : ℕ). target m k) (sym y) ∙ M.onto
        ∙ ap (λ (k : ℕ). origin m k) (sym (next_previous h)))
    go (no x) (no y) =
        let q : link m h ≡ next (next h) = same_triangle h (link m h) e x y in
        F.distinct (next h) (next_lt h m.triangles b) (sym M.from ∙ ap (λ (k : ℕ). origin m k) q)
