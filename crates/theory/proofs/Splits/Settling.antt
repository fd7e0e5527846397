-- What settling one child keeps, and what it brings.
use mathlib.Core.Path.{◌≡◌, refl, sym, ap, ◌∙◌, subst}
use mathlib.Core.Logic.{◌≢◌, ◌⊎◌, inl, inr}
use Prim.Native.Nat.{ℕ, suc, ◌+◌, ◌*◌, ◌/◌, ◌%◌, ◌≤◌, ◌<◌}
use native.Mathlib.Omega.{arith}
use native.Mathlib.Decide.{ℕ_discrete}
use lib.ListN.{length}
use Rattle.theory.proofs.Splits.Bases.{Child, Settling, kept, flipped, partnered_base, not_child}
use Rattle.theory.proofs.Splits.FlipKeeps.{BasesMeet}
use Rattle.theory.proofs.Splits.FlipRead.{Flips, flip_name, flip_name_else, by_flip_name}
use Rattle.theory.proofs.Links.Manifold.{Partnered, Manifold, Base, BasesMeetIn, few, partnered_with}
use Rattle.theory.proofs.Links.Past.{Past, past_same}
use Rattle.rules.specs.Tables.{Topology, sides, origin, boundary, link, generation}

-- ---- a flip, seen from a side of another triangle

module _ (s u : ℕ) (m n : Topology) (B : BasesMeet s u m) (S : Flips s u m n) where
  -- A base after the flip was one before, of a third triangle.
  pub still_base : (k : ℕ) → Base n k → (k / 3 ≢ s) × (k / 3 ≢ u) × Base m k
  still_base k b =
      let i : k / 3 ≢ s = λ e. even_s (subst (λ (x : ℕ). generation n x % 2 ≡ 1) e b.1) in
      let j : k / 3 ≢ u = λ e. even_u (subst (λ (x : ℕ). generation n x % 2 ≡ 1) e b.1) in
      (i, j, (b.0, subst (λ (x : ℕ). x % 2 ≡ 1) (S.generations (k / 3) i j) b.1))
    where
      even_s : generation n s % 2 ≡ 1 → ⊥
      even_s q = omega (arith, S.generation_s, B.odd)

      even_u : generation n u % 2 ≡ 1 → ⊥
      even_u q = omega (arith, S.generation_u, B.odd)

  -- A link that does not lead into the two is an old one.
  far : (h : ℕ) → h < sides m → h / 3 ≢ s → h / 3 ≢ u → link n h / 3 ≢ s → link n h / 3 ≢ u → link n h ≡ link m h
  far h l i j x y =
      by_flip_name s u (λ z. link n h ≡ z → link n h ≡ link m h) B.differ (link m h)
      (λ _ e. absurd (y (omega arith)))
      (λ _ e. absurd (x (omega arith))) (λ _ _ e. e) (S.links h l i j)

  pub meets_base : (h : ℕ) → h < sides m → h / 3 ≢ s → h / 3 ≢ u → Base n (link n h)
      → (link n h ≡ link m h) × Base m (link m h)
  meets_base h l i j b =
      let x = still_base (link n h) b in
      let e : link n h ≡ link m h = far h l i j x.0 x.1 in
      (e, subst (λ (k : ℕ). Base m k) e x.2)

  -- Another child stays one.
  other_child : (p g c : ℕ) → Child p g s m → Child p g c m → c ≢ s → Child p g c n
  other_child p g c C D ne =
      let nu : c ≢ u = not_child p g s u c m B C D in
      let l = D.in_use in
      record {
        in_use = omega (arith, S.triangles);
        generations = S.generations c ne nu ∙ D.generations;
        odd = D.odd;
        fresh = omega (arith, S.corners (3 * c + 2) (omega arith) (omega arith), D.fresh);
        other = λ b.
            let x = still_base (link n (3 * c)) b in
            let y = meets_base (3 * c) (omega arith) (omega arith) (omega arith) b in
            let k : ℕ = link n (3 * c) / 3 in
            let x₀ = x.0 in
            let x₁ = x.1 in
            omega (
              arith,
              D.other y.1,
              ap (λ (z : ℕ). origin m (3 * (z / 3) + 2)) y.0,
              S.corners (3 * k + 2) (omega arith) (omega arith),
            );
      }

  fewer_meet : (X : ℕ → Type 0) → BasesMeetIn (λ x. (x ≡ s) ⊎ X x) m → BasesMeetIn X n
  fewer_meet X K h l b c =
      let x = still_base h b in
      let y = still_base (link n h) c in
      let w = S.triangles in
      let lt : h < sides m = omega arith in
      let z = meets_base h lt x.0 x.1 c in
      go x.0 y.0 z.0 (K h lt x.2 z.1)
    where
      go : h / 3 ≢ s → link n h / 3 ≢ s → link n h ≡ link m h
          → ((h / 3 ≡ s) ⊎ X (h / 3)) ⊎ ((link m h / 3 ≡ s) ⊎ X (link m h / 3)) → X (h / 3) ⊎ X (link n h / 3)
      go i j e (inl (inl q)) = absurd (i q)
      go i j e (inl (inr q)) = inl q
      go i j e (inr (inl q)) = absurd (j (ap (λ (z : ℕ). z / 3) e ∙ q))
      go i j e (inr (inr q)) = inr (subst (λ (z : ℕ). X (z / 3)) (sym e) q)

-- ---- the outcome of settling c

pub settling_child : (p g c d : ℕ) (m n : Topology) → Settling c m n → Child p g c m → Child p g d m → d ≢ c
    → Child p g d n
settling_child p g c d m n (kept x) C D e = D
settling_child p g c d m n (flipped u B S) C D e = other_child c u m n B S p g d C D e

pub settling_bases : (p g c : ℕ) (X : ℕ → Type 0) (m n : Topology) → Manifold m → Child p g c m → Settling c m n
    → BasesMeetIn (λ x. (x ≡ c) ⊎ X x) m → BasesMeetIn X n
settling_bases p g c X m n F C (flipped u B S) K = fewer_meet c u m n B S X K
settling_bases p g c X m n F C (kept no-base) K = λ h l b d. go h l b d (K h l b d)
  where
    go : (h : ℕ) → h < sides m → Base m h → Base m (link m h)
        → ((h / 3 ≡ c) ⊎ X (h / 3)) ⊎ ((link m h / 3 ≡ c) ⊎ X (link m h / 3)) → X (h / 3) ⊎ X (link m h / 3)
    go h l b d (inl (inl q)) =
        let e : h ≡ 3 * c = omega (arith, b.0) in
        absurd (no-base (subst (λ (x : ℕ). Base m (link m x)) e d))
    go h l b d (inl (inr q)) = inl q
    go h l b d (inr (inl q)) =
        let e : link m h ≡ 3 * c = omega (arith, d.0) in
        let M : Partnered m h = partnered_base F l d in
        let f : link m (3 * c) ≡ h = ap (λ (x : ℕ). link m x) (sym e) ∙ M.back in
        absurd (no-base (subst (λ (x : ℕ). Base m x) (sym f) b))
    go h l b d (inr (inr q)) = inr q

-- The counts and the room do not change.
pub record Same (m n : Topology) : Type 0 where
  pub vertices : n.vertices ≡ m.vertices
  pub triangles : n.triangles ≡ m.triangles
  pub corners : length n.corners ≡ length m.corners
  pub links : length n.links ≡ length m.links
  pub generations : length n.generations ≡ length m.generations

pub same_all : (m : Topology) → Same m m
same_all m = record { vertices = refl; triangles = refl; corners = refl; links = refl; generations = refl }

pub settling_same : (c : ℕ) (m n : Topology) → Settling c m n → Same m n
settling_same c m n (kept x) = same_all m
settling_same c m n (flipped u B S) = record {
  vertices = S.vertices;
  triangles = S.triangles;
  corners = S.corner_room;
  links = S.link_room;
  generations = S.generation_room;
}

pub settling_past : (c b : ℕ) (m n : Topology) → Settling c m n → m.triangles ≤ b → Past b m n
settling_past c b m n (kept x) i = past_same b m
settling_past c b m n (flipped u B S) i = S.past b i

-- A triangle of another generation is not flipped, and left.
not_flipped : (s u : ℕ) (m : Topology) → BasesMeet s u m → {x : ℕ} → generation m x ≢ generation m s → (x ≢ s) × (x ≢ u)
not_flipped s u m B e = ((λ q. e (ap (generation m) q)), (λ q. e (ap (generation m) q ∙ B.same)))

pub settling_generation : (c x : ℕ) (m n : Topology) → Settling c m n → generation m x ≢ generation m c
    → generation n x ≡ generation m x
settling_generation c x m n (kept y) e = refl
settling_generation c x m n (flipped u B S) e =
    S.generations x (not_flipped c u m B e).0 (not_flipped c u m B e).1

-- The child whose base meets the base of t flips it.
pub settling_flips : (p g c t : ℕ) (m n : Topology) → Settling c m n → Child p g c m → link m (3 * c) ≡ 3 * t
    → generation m t % 2 ≡ 1 → generation n t ≡ suc (generation m t)
settling_flips p g c t m n (kept x) C e o =
    let q : 3 * t / 3 ≡ t = omega arith in
    absurd (x (rw (e, q) (omega arith, o)))
settling_flips p g c t m n (flipped u B S) C e o =
    let q : u ≡ t = omega (arith, B.meet) in
    rw (← q) (omega (arith, S.generation_u, B.same))

-- Another child's base goes on meeting the base of t, which is left.
pub settling_waits : (p g c d t : ℕ) (m n : Topology) → Manifold m → Settling c m n → Child p g c m → Child p g d m
    → d ≢ c → t < m.triangles → link m (3 * d) ≡ 3 * t
    → (link n (3 * d) ≡ 3 * t) × (generation n t ≡ generation m t)
settling_waits p g c d t m n F (kept x) C D ne l e = (e, refl)
settling_waits p g c d t m n F (flipped u B S) C D ne l e =
    let du : d ≢ u = not_child p g c u d m B C D in
    let ld : 3 * d < sides m = omega (arith, D.in_use) in
    let lc : 3 * c < sides m = omega (arith, C.in_use) in
    let D' : Partnered m (3 * d) = partnered_with F ld e (omega arith) in
    let C' : Partnered m (3 * c) = partnered_with F lc B.meet (omega (arith, B.use_u)) in
    let bd : link m (3 * t) ≡ 3 * d = rw e at D'.back in
    let bc : link m (3 * u) ≡ 3 * c = rw B.meet at C'.back in
    let tu : t ≢ u = λ q. ne (omega (arith, sym bd ∙ ap (λ (x : ℕ). link m (3 * x)) q ∙ bc)) in
    let tc : t ≢ c = λ q. du (omega (arith, sym bd ∙ ap (λ (x : ℕ). link m (3 * x)) q ∙ B.meet)) in (
      S.links (3 * d) ld (omega arith) (omega arith)
          ∙ ap (flip_name c u) e
          ∙ flip_name_else c u (3 * t) (omega arith) (omega arith),
      S.generations t tc tu,
    )

-- The base of x has a partner, in triangle t or in some even one.
abbrev pub Follow : ℕ → ℕ → Topology → Type 0
Follow x t m = (link m (3 * x) ≢ boundary) × ((link m (3 * x) / 3 ≡ t) ⊎ (generation m (link m (3 * x) / 3) % 2 ≡ 0))

pub settling_follow : (c x t : ℕ) (m n : Topology) → Manifold m → Settling c m n → x < m.triangles
    → generation m x ≢ generation m c → Follow x t m → Follow x t n
settling_follow c x t m n F (kept y) l e f = f
settling_follow c x t m n F (flipped u B S) l e f = (
  λ q. inner (sym k ∙ q),
  go (ℕ_discrete (link n (3 * x) / 3) c) (ℕ_discrete (link n (3 * x) / 3) u),
)
  where
    xc : x ≢ c
    xc = (not_flipped c u m B e).0

    xu : x ≢ u
    xu = (not_flipped c u m B e).1

    k : link n (3 * x) ≡ flip_name c u (link m (3 * x))
    k = S.links (3 * x) (omega arith) (let w = xc in omega arith) (let w = xu in omega arith)

    inner : flip_name c u (link m (3 * x)) ≢ boundary
    inner =
        by_flip_name c u (λ z. z ≢ boundary) B.differ (link m (3 * x)) (λ _. omega (arith, few m F, B.use_u))
        (λ _. omega (arith, few m F, B.use_s)) (λ _ _. f.0)

    near : link n (3 * x) / 3 ≢ c → link n (3 * x) / 3 ≢ u → link n (3 * x) ≡ link m (3 * x)
    near i j = far c u m n B S (3 * x) (omega arith) (let w = xc in omega arith) (let w = xu in omega arith) i j

    same : link n (3 * x) ≡ link m (3 * x) → link n (3 * x) / 3 ≢ c → link n (3 * x) / 3 ≢ u
        → (link m (3 * x) / 3 ≡ t) ⊎ (generation m (link m (3 * x) / 3) % 2 ≡ 0)
        → (link n (3 * x) / 3 ≡ t) ⊎ (generation n (link n (3 * x) / 3) % 2 ≡ 0)
    same q i j (inl y) = inl (ap (λ (z : ℕ). z / 3) q ∙ y)
    same q i j (inr y) =
        inr
        (ap (λ (z : ℕ). z % 2) (S.generations (link n (3 * x) / 3) i j ∙ ap (λ (z : ℕ). generation m (z / 3)) q) ∙ y)

    go : Dec (link n (3 * x) / 3 ≡ c) → Dec (link n (3 * x) / 3 ≡ u)
        → (link n (3 * x) / 3 ≡ t) ⊎ (generation n (link n (3 * x) / 3) % 2 ≡ 0)
    go (yes y) d = inr (rw y (omega (arith, S.generation_s, B.odd)))
    go (no y) (yes z) = inr (rw z (omega (arith, S.generation_u, B.odd)))
    go (no y) (no z) = same (near y z) y z f.1

-- A generation stays or is one above the child's.
pub settling_spread : (c x : ℕ) (m n : Topology) → Settling c m n
    → (generation n x ≡ generation m x) ⊎ (generation n x ≡ suc (generation m c))
settling_spread c x m n (kept y) = inl refl
settling_spread c x m n (flipped u B S) = go (ℕ_discrete x c) (ℕ_discrete x u)
  where
    go : Dec (x ≡ c) → Dec (x ≡ u) → (generation n x ≡ generation m x) ⊎ (generation n x ≡ suc (generation m c))
    go (yes e) d = inr (rw e S.generation_s)
    go (no e) (yes f) = inr (rw f S.generation_u)
    go (no e) (no f) = inl (S.generations x e f)

-- Another child's base that meets the base of x has met it before.
pub settling_meets : (p g c d x : ℕ) (m n : Topology) → Settling c m n → Child p g c m → Child p g d m → d ≢ c
    → generation n x % 2 ≡ 1 → link n (3 * d) ≡ 3 * x → link m (3 * d) ≡ 3 * x
settling_meets p g c d x m n (kept y) C D ne o e = e
settling_meets p g c d x m n (flipped u B S) C D ne o e =
    let du : d ≢ u = not_child p g c u d m B C D in
    let q : 3 * x / 3 ≡ x = omega arith in
    let b : Base n (link n (3 * d)) = rw (e, q) (omega arith, o) in
    sym (meets_base c u m n B S (3 * d) (omega (arith, D.in_use)) (omega arith) (omega arith) b).0 ∙ e
