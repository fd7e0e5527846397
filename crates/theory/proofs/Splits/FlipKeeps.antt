-- A flip keeps a manifold.
use mathlib.Core.Path.{◌≡◌, refl, sym, ap, ◌∙◌, subst}
use mathlib.Core.Logic.{◌≢◌, inr}
use Prim.Native.Nat.{ℕ, ◌+◌, ◌*◌, ◌/◌, ◌%◌, ◌<◌, min}
use native.Mathlib.Omega.{arith}
use Rattle.theory.proofs.Splits.FlipRead.{Flips, flip_name, flip_name_s, flip_name_u, flip_name_else}
use Rattle.theory.proofs.Links.Manifold.{Partnered, Manifold, level, Joined, level₀, level₁, level₂, target₀}
use Rattle.theory.proofs.Links.Manifold.{target₁}
use Rattle.theory.proofs.Links.Manifold.{target₂, rotate₀, rotate₁, rotate₂, pair_both, few, partnered_with}
use Rattle.theory.proofs.Links.Manifold.{no_self}
use Rattle.theory.proofs.Links.Renaming.{Renames, linked, fan_map}
use Rattle.theory.proofs.Links.Sides.{previous_lt, by_triangle}
use Rattle.rules.specs.Sound.{Turns, here, turn}
use Rattle.rules.specs.Tables.{Topology, sides, next, previous, origin, target, boundary, link, rotate}
use Rattle.rules.specs.Tables.{generation}

-- The bases of s and u meet, of one odd generation, and their centres differ.
pub record BasesMeet (s u : ℕ) (m : Topology) : Type 0 where
  pub use_s : s < m.triangles
  pub use_u : u < m.triangles
  pub differ : s ≢ u
  pub meet : link m (3 * s) ≡ 3 * u
  pub odd : generation m s % 2 ≡ 1
  pub same : generation m u ≡ generation m s
  pub centres : origin m (3 * s + 2) ≢ origin m (3 * u + 2)

module _ (s u : ℕ) (m n : Topology) (F : Manifold m) (B : BasesMeet s u m) (S : Flips s u m n) where
  -- The new name of an old side.
  abbrev name : ℕ → ℕ
  name = flip_name s u

  -- A fact of an old side and its new name.
  by_name : (P : ℕ → ℕ → Type 0)
      → (P (3 * s) (3 * s) × P (3 * s + 1) (3 * u) × P (3 * s + 2) (3 * s + 2))
      → (P (3 * u) (3 * u) × P (3 * u + 1) (3 * s) × P (3 * u + 2) (3 * u + 2))
      → ((h : ℕ) → h < sides m → h / 3 ≢ s → h / 3 ≢ u → P h h) → (h : ℕ) → h < sides m → P h (name h)
  by_name P p q o = by_triangle (λ h. h < sides m → P h (name h)) s
      (λ l. rw (flip_name_else s u (3 * s) (omega arith) (omega arith)) p.0)
      (λ l. rw (flip_name_s s u) p.1)
      (λ l. rw (flip_name_else s u (3 * s + 2) (omega arith) (omega arith)) p.2)
      (λ h i. by_triangle (λ h. h / 3 ≢ s → h < sides m → P h (name h)) u
      (λ _ l. rw (flip_name_else s u (3 * u) (omega arith) (omega arith)) q.0)
      (λ _ l. rw (flip_name_u s u B.differ) q.1)
      (λ _ l. rw (flip_name_else s u (3 * u + 2) (omega arith) (omega arith)) q.2)
      (λ h j i l. subst (λ (k : ℕ). P h k) (sym (flip_name_else s u h (omega arith) (omega arith))) (o h l i j)) h i)

  by_new : (P : ℕ → Type 0)
      → (P (3 * s) × P (3 * s + 1) × P (3 * s + 2))
      → (P (3 * u) × P (3 * u + 1) × P (3 * u + 2))
      → ((h : ℕ) → h < sides m → h / 3 ≢ s → h / 3 ≢ u → P h) → (k : ℕ) → k < sides n → P k
  by_new P p q o =
      let w = S.triangles in
      by_triangle (λ h. h < sides n → P h) s (λ _. p.0) (λ _. p.1) (λ _. p.2) (λ h i.
      by_triangle (λ h. h / 3 ≢ s → h < sides n → P h) u (λ _ _. q.0) (λ _ _. q.1) (λ _ _. q.2)
      (λ h j i l. o h (omega arith) i j) h i)

  -- The two triangles' corners: (A, B, P) and (B, A, Q).
  partnered_s : Partnered m (3 * s)
  partnered_s = partnered_with F (omega (arith, B.use_s)) B.meet (omega (arith, B.use_u))

  pub meet_back : link m (3 * u) ≡ 3 * s
  meet_back = rw B.meet at partnered_s.back

  same_b : origin m (3 * u) ≡ origin m (3 * s + 1)
  same_b = (rw B.meet at partnered_s.from) ∙ target₀ m s

  same_a : origin m (3 * u + 1) ≡ origin m (3 * s)
  same_a = sym (target₀ m u) ∙ (rw B.meet at partnered_s.onto)

  record Corners : Type 0 where
    bp : origin m (3 * s + 1) ≢ origin m (3 * s + 2)
    pa : origin m (3 * s + 2) ≢ origin m (3 * s)
    aq : origin m (3 * u + 1) ≢ origin m (3 * u + 2)
    qb : origin m (3 * u + 2) ≢ origin m (3 * u)

  corners : Corners
  corners = record {
    bp = λ e. F.distinct (3 * s + 1) (omega (arith, B.use_s)) (e ∙ sym (target₁ m s));
    pa = λ e. F.distinct (3 * s + 2) (omega (arith, B.use_s)) (e ∙ sym (target₂ m s));
    aq = λ e. F.distinct (3 * u + 1) (omega (arith, B.use_u)) (e ∙ sym (target₁ m u));
    qb = λ e. F.distinct (3 * u + 2) (omega (arith, B.use_u)) (e ∙ sym (target₂ m u));
  }

  -- A side is not linked to one that starts elsewhere.
  not_to : (h k : ℕ) → h < sides m → k < sides m → origin m k ≢ target m h → link m h ≢ k
  not_to h k l i d e = d (rw e at (partnered_with F l e i).from)

  not_onto : (h k : ℕ) → h < sides m → k < sides m → target m k ≢ origin m h → link m h ≢ k
  not_onto h k l i d e = d (rw e at (partnered_with F l e i).onto)

  not_own : (h k : ℕ) → h < sides m → k < sides m → k / 3 ≡ h / 3 → link m h ≢ k
  not_own h k l i d e = no_self m h F l (partnered_with F l e i) (ap (λ (x : ℕ). x / 3) e ∙ d)

  -- The partners of the sides that stay are not renamed.
  own_s₁ : name (link m (3 * s + 1)) ≡ link m (3 * s + 1)
  own_s₁ =
      let bs = B.use_s in
      let bu = B.use_u in
      let c = corners in
      let a = same_a in
      flip_name_else s u (link m (3 * s + 1)) (not_own (3 * s + 1) (3 * s + 1) (omega arith) (omega arith) refl)
      (not_to (3 * s + 1) (3 * u + 1) (omega arith) (omega arith) (λ e. c.pa (sym (target₁ m s) ∙ sym e ∙ a)))

  own_s₂ : name (link m (3 * s + 2)) ≡ link m (3 * s + 2)
  own_s₂ =
      let bs = B.use_s in
      let bu = B.use_u in
      flip_name_else s u (link m (3 * s + 2))
      (not_own (3 * s + 2) (3 * s + 1) (omega arith) (omega arith) (omega arith))
      (not_onto (3 * s + 2) (3 * u + 1) (omega arith) (omega arith) (λ e. B.centres (sym e ∙ target₁ m u)))

  own_u₁ : name (link m (3 * u + 1)) ≡ link m (3 * u + 1)
  own_u₁ =
      let bs = B.use_s in
      let bu = B.use_u in
      let c = corners in
      flip_name_else s u (link m (3 * u + 1))
      (not_to (3 * u + 1) (3 * s + 1) (omega arith) (omega arith) (λ e. c.qb (sym (target₁ m u) ∙ sym e ∙ sym same_b)))
      (not_own (3 * u + 1) (3 * u + 1) (omega arith) (omega arith) refl)

  own_u₂ : name (link m (3 * u + 2)) ≡ link m (3 * u + 2)
  own_u₂ =
      let bs = B.use_s in
      let bu = B.use_u in
      flip_name_else s u (link m (3 * u + 2))
      (not_onto (3 * u + 2) (3 * s + 1) (omega arith) (omega arith) (λ e. B.centres (sym (target₁ m s) ∙ e)))
      (not_own (3 * u + 2) (3 * u + 1) (omega arith) (omega arith) (omega arith))

  Kept : ℕ → Type 0
  Kept h = (h ≢ 3 * s) × (h ≢ 3 * u)

  origin' : (h : ℕ) → h < sides m → origin n (name h) ≡ origin m h
  origin' = by_name (λ h k. origin n k ≡ origin m h)
      (S.corners_s.0, S.corners_u.0 ∙ same_b, S.corners_s.2)
      (S.corners_u.0, S.corners_s.0 ∙ sym same_a, S.corners_u.2)
      (λ h l i j. S.corners h i j)

  target' : (h : ℕ) → h < sides m → Kept h → target n (name h) ≡ target m h
  unfolding Kept
  target' = by_name (λ h k. Kept h → target n k ≡ target m h) (
    (λ x. absurd (x.0 refl)),
    (λ _. target₀ n u ∙ S.corners_u.1 ∙ sym (target₁ m s)),
    (λ _. target₂ n s ∙ S.corners_s.0 ∙ sym (target₂ m s)),
  ) (
    (λ x. absurd (x.1 refl)),
    (λ _. target₀ n s ∙ S.corners_s.1 ∙ sym (target₁ m u)),
    (λ _. target₂ n u ∙ S.corners_u.0 ∙ sym (target₂ m u)),
  )
      (λ h l i j _. S.corners (next h) (omega arith) (omega arith))

  level' : (h : ℕ) → h < sides m → Kept h → level n (name h) ≡ level m h
  unfolding Kept
  level' =
      let o = B.odd in
      let e = B.same in
      let gs = S.generation_s in
      let gu = S.generation_u in
      by_name (λ h k. Kept h → level n k ≡ level m h) (
        (λ x. absurd (x.0 refl)),
        (λ _. omega (arith, level₀ n u, level₁ m s)),
        (λ _. omega (arith, level₂ n s, level₂ m s)),
      ) (
        (λ x. absurd (x.1 refl)),
        (λ _. omega (arith, level₀ n s, level₁ m u)),
        (λ _. omega (arith, level₂ n u, level₂ m u)),
      )
      (λ h l i j _. ap (λ (x : ℕ). (x + min 1 (h % 3)) / 2) (S.generations (h / 3) i j))

  link' : (h : ℕ) → h < sides m → Kept h → link n (name h) ≡ name (link m h)
  unfolding Kept
  link' = by_name (λ h k. Kept h → link n k ≡ name (link m h))
      ((λ x. absurd (x.0 refl)), (λ _. S.links_u.0 ∙ sym own_s₁), (λ _. S.links_s.2 ∙ sym own_s₂))
      ((λ x. absurd (x.1 refl)), (λ _. S.links_s.0 ∙ sym own_u₁), (λ _. S.links_u.2 ∙ sym own_u₂))
      (λ h l i j _. S.links h l i j)

  renames : Renames m n Kept name
  unfolding Kept
  renames =
      let bs = B.use_s in
      let bu = B.use_u in
      let w = S.triangles in
      record {
        at_boundary =
            flip_name_else s u boundary (omega (arith, few m F)) (omega (arith, few m F));
        into =
            by_name (λ h k. k < sides n) (omega arith, omega arith, omega arith)
            (omega arith, omega arith, omega arith) (λ h l i j. omega arith);
        origin = λ h l k. origin' h l;
        target = target';
        level = level';
        links = link';
        stays = λ h l k M. (
          (λ e. k.1 (sym M.back ∙ ap (λ (x : ℕ). link m x) e ∙ B.meet)),
          (λ e. k.0 (sym M.back ∙ ap (λ (x : ℕ). link m x) e ∙ meet_back)),
        );
      }

  old : (h k : ℕ) → name h ≡ k → h < sides m → h ≢ 3 * s → h ≢ 3 * u → Joined n k
  unfolding Kept
  old h k e l i j = rw e at (linked m n Kept name renames h l (i, j) (F.linked h l))

  linked' : (k : ℕ) → k < sides n → Joined n k
  linked' =
      let bs = B.use_s in
      let bu = B.use_u in
      let w = S.triangles in
      let t = B.differ in
      let gs = S.generation_s in
      let gu = S.generation_u in
      let su = pair_both n (3 * s + 1) (3 * u + 1) S.links_s.1 S.links_u.1 (omega arith) (omega arith)
      (S.corners_u.1 ∙ sym (target₁ n s ∙ S.corners_s.2)) (target₁ n u ∙ S.corners_u.2 ∙ sym S.corners_s.1)
      (omega (arith, level₁ n s, level₁ n u)) in
      by_new (λ k. Joined n k) (
        old (3 * u + 1) (3 * s) (flip_name_u s u t) (omega arith) (omega arith) (omega arith),
        inr su.0,
        old (3 * s + 2) (3 * s + 2) (flip_name_else s u (3 * s + 2) (omega arith) (omega arith)) (omega arith)
            (omega arith) (omega arith),
      ) (
        old (3 * s + 1) (3 * u) (flip_name_s s u) (omega arith) (omega arith) (omega arith),
        inr su.1,
        old (3 * u + 2) (3 * u + 2) (flip_name_else s u (3 * u + 2) (omega arith) (omega arith)) (omega arith)
            (omega arith) (omega arith),
      )
      (λ h l i j. old h h (flip_name_else s u h (omega arith) (omega arith)) l (omega arith) (omega arith))

  corner' : (k : ℕ) → k < sides n → origin n k < n.vertices
  corner' =
      let bs = B.use_s in
      let bu = B.use_u in
      let v = S.vertices in
      let a = F.corner (3 * s) (omega arith) in
      let b = F.corner (3 * u) (omega arith) in
      let p = F.corner (3 * s + 2) (omega arith) in
      let q = F.corner (3 * u + 2) (omega arith) in
      by_new (λ k. origin n k < n.vertices)
      (omega (arith, S.corners_s.0), omega (arith, S.corners_s.1), omega (arith, S.corners_s.2))
      (omega (arith, S.corners_u.0), omega (arith, S.corners_u.1), omega (arith, S.corners_u.2))
      (λ h l i j. omega (arith, S.corners h i j, F.corner h l))

  apart : (k : ℕ) → k < sides n → origin n k ≢ target n k
  apart =
      let c = corners in
      by_new (λ k. origin n k ≢ target n k) (
        (λ e. c.aq (same_a ∙ sym S.corners_s.0 ∙ e ∙ target₀ n s ∙ S.corners_s.1)),
        (λ e. B.centres (sym (sym S.corners_s.1 ∙ e ∙ target₁ n s ∙ S.corners_s.2))),
        (λ e. c.pa (sym S.corners_s.2 ∙ e ∙ target₂ n s ∙ S.corners_s.0)),
      ) (
        (λ e. c.bp (sym same_b ∙ sym S.corners_u.0 ∙ e ∙ target₀ n u ∙ S.corners_u.1)),
        (λ e. B.centres (sym S.corners_u.1 ∙ e ∙ target₁ n u ∙ S.corners_u.2)),
        (λ e. c.qb (sym S.corners_u.2 ∙ e ∙ target₂ n u ∙ S.corners_u.0)),
      )
      (λ h l i j q. F.distinct h l (sym (S.corners h i j) ∙ q ∙ S.corners (next h) (omega arith) (omega arith)))

  -- ---- fans

  go_on : {a h k : ℕ} → Turns n a h → rotate n h ≡ k → k < sides m → Turns n a k
  go_on p e l = turn p e (omega (arith, S.triangles))

  step : (h : ℕ) → h < sides m → rotate m h < sides m → Turns n (name h) (name (rotate m h))
  step =
      let bs = B.use_s in
      let bu = B.use_u in
      by_name (λ h k. rotate m h < sides m → Turns n k (name (rotate m h))) (
        (λ l. rw (rotate₀ m s, own_s₂) (go_on here (rotate₀ n s ∙ S.links_s.2) (omega (arith, rotate₀ m s)))),
        (λ l. rw (rotate₁ m s, B.meet, flip_name_else s u (3 * u) (omega arith) (omega arith)) here),
        (λ l. rw (rotate₂ m s, own_s₁) (go_on (go_on here (rotate₂ n s ∙ S.links_s.1) (omega arith))
            (rotate₁ n u ∙ S.links_u.0) (omega (arith, rotate₂ m s)))),
      ) (
        (λ l. rw (rotate₀ m u, own_u₂) (go_on here (rotate₀ n u ∙ S.links_u.2) (omega (arith, rotate₀ m u)))),
        (λ l. rw (rotate₁ m u, meet_back, flip_name_else s u (3 * s) (omega arith) (omega arith)) here),
        (λ l. rw (rotate₂ m u, own_u₁) (go_on (go_on here (rotate₂ n u ∙ S.links_u.1) (omega arith))
            (rotate₁ n s ∙ S.links_s.0) (omega (arith, rotate₂ m u)))),
      )
      (λ h l i j q. turn here (S.links (previous h) (previous_lt h m.triangles l) (omega arith) (omega arith))
      (renames.into (rotate m h) q))

  every : (v : ℕ) (k : ℕ) → k < sides n → origin n k ≡ v
      → (h : ℕ) × (h < sides m) × (origin m h ≡ v) × Turns n (name h) k
  every v =
      let bs = B.use_s in
      let bu = B.use_u in
      by_new (λ k. origin n k ≡ v → (h : ℕ) × (h < sides m) × (origin m h ≡ v) × Turns n (name h) k) (
        (λ q. (
          3 * s,
          omega arith,
          sym S.corners_s.0 ∙ q,
          rw (flip_name_else s u (3 * s) (omega arith) (omega arith)) here,
        )),
        (λ q. (
          3 * u + 2,
          omega arith,
          sym S.corners_s.1 ∙ q,
          rw (flip_name_else s u (3 * u + 2) (omega arith) (omega arith))
              (go_on here (rotate₂ n u ∙ S.links_u.1) (omega arith)),
        )),
        (λ q. (
          3 * s + 2,
          omega arith,
          sym S.corners_s.2 ∙ q,
          rw (flip_name_else s u (3 * s + 2) (omega arith) (omega arith)) here,
        )),
      ) (
        (λ q. (
          3 * u,
          omega arith,
          sym S.corners_u.0 ∙ q,
          rw (flip_name_else s u (3 * u) (omega arith) (omega arith)) here,
        )),
        (λ q. (
          3 * s + 2,
          omega arith,
          sym S.corners_u.1 ∙ q,
          rw (flip_name_else s u (3 * s + 2) (omega arith) (omega arith))
              (go_on here (rotate₂ n s ∙ S.links_s.1) (omega arith)),
        )),
        (λ q. (
          3 * u + 2,
          omega arith,
          sym S.corners_u.2 ∙ q,
          rw (flip_name_else s u (3 * u + 2) (omega arith) (omega arith)) here,
        )),
      )
      (λ h l i j q. (
        h,
        l,
        sym (S.corners h i j) ∙ q,
        subst (λ (x : ℕ). Turns n x h) (sym (flip_name_else s u h (omega arith) (omega arith))) here,
      ))

  -- A flip keeps a manifold one.
  pub flip_manifold : Manifold n
  flip_manifold = record {
    slots = omega (arith, S.generation_room, F.slots);
    link_slots = omega (arith, S.link_room, F.link_slots);
    corner_room = omega (arith, S.triangles, S.corner_room, F.corner_room);
    link_room = omega (arith, S.triangles, S.link_room, F.link_room);
    generation_room = omega (arith, S.triangles, S.generation_room, F.generation_room);
    corner = corner';
    distinct = apart;
    linked = linked';
    fan = λ v l.
        fan_map m n name step v (λ h i. (renames.into h i, origin' h i)) (every v)
        (F.fan v (omega (arith, S.vertices)));
  }
