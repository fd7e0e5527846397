-- What a triangle cut in three needs to keep a manifold.
use mathlib.Core.Path.{◌≡◌, refl, sym, ap, ◌∙◌, subst}
use mathlib.Core.Logic.{◌≢◌, ◌⊎◌, inl, inr}
use mathlib.Core.Bool.{true, false}
use Prim.Native.Nat.{ℕ, ◌+◌, ◌*◌, ◌/◌, ◌%◌, ◌≤◌, ◌<◌, min}
use native.Mathlib.Omega.{arith}
use native.Mathlib.Decide.{ℕ_discrete, dec_lt}
use lib.ListN.{length}
use lib.Dec.{eqb}
use borrow.Author.Tests.{eq-eqb, ne_eqb}
use Rattle.theory.proofs.Links.Manifold.{Manifold, level, Joined, target₀, target₁, target₂, rotate₀, rotate₁}
use Rattle.theory.proofs.Links.Manifold.{rotate₂, few, no_self}
use Rattle.theory.proofs.Links.Renaming.{Renames, linked, fan_map}
use Rattle.theory.proofs.Links.Sides.{rename_a, rename_b, rename_else, previous_lt, by_triangle}
use Rattle.theory.proofs.Links.Sides.{by_side}
use Rattle.theory.proofs.Splits.Parts.{Cell, Holds, Parts, Parted}
use Rattle.rules.specs.Actions.{rename_two}
use Rattle.rules.specs.Sound.{OneFan, Turns, here, turn}
use Rattle.rules.specs.Tables.{Topology, sides, next, previous, origin, target, boundary, link, rotate}

-- Side h of m is side k of n, with its ends, its level and its partner.
pub record Moves (m n : Topology) (h k : ℕ) : Type 0 where
  pub in_use : k < sides n
  pub origin : origin n k ≡ origin m h
  pub target : target n k ≡ target m h
  pub level : level n k ≡ level m h
  pub link : link n k ≡ link m h

-- Three distinct corners below v.
pub record Proper (v : ℕ) (c : ℕ × ℕ × ℕ) : Type 0 where
  pub in₀ : c.0 < v
  pub in₁ : c.1 < v
  pub in₂ : c.2 < v
  pub apart₀ : c.0 ≢ c.1
  pub apart₁ : c.1 ≢ c.2
  pub apart₂ : c.2 ≢ c.0

-- Those of a triangle in use.
pub corners_proper : (m : Topology) (t : ℕ) → Manifold m → t < m.triangles
    → Proper m.vertices (origin m (3 * t), origin m (3 * t + 1), origin m (3 * t + 2))
corners_proper m t F b = record {
  in₀ = F.corner (3 * t) (omega arith);
  in₁ = F.corner (3 * t + 1) (omega arith);
  in₂ = F.corner (3 * t + 2) (omega arith);
  apart₀ = λ e. F.distinct (3 * t) (omega arith) (e ∙ sym (target₀ m t));
  apart₁ = λ e. F.distinct (3 * t + 1) (omega arith) (e ∙ sym (target₁ m t));
  apart₂ = λ e. F.distinct (3 * t + 2) (omega arith) (e ∙ sym (target₂ m t));
}

-- Two old corners and a new one.
pub with_new : {a b v n x : ℕ} → a < v → b < v → a ≢ b → v ≤ x → x < n → Proper n (a, b, x)
with_new i j d l k = record {
  in₀ = omega arith;
  in₁ = omega arith;
  in₂ = k;
  apart₀ = d;
  apart₁ = omega arith;
  apart₂ = omega arith;
}

-- A fact of each side of the three triangles in the place of t.
abbrev pub Nine : ℕ → ℕ → (ℕ → Type 0) → Type 0
Nine t f P =
    (P (3 * t) × P (3 * t + 1) × P (3 * t + 2)) × (P (3 * f) × P (3 * f + 1) × P (3 * f + 2))
    × (P (3 * (f + 1)) × P (3 * (f + 1) + 1) × P (3 * (f + 1) + 2))

-- Side j of n, one of the three triangles in the place of t, runs out of a new vertex, or is reached by turns from a
-- side of t. Out of the origin of its base that is k.
pub data Reached (t k : ℕ) (p : Parts) (m n : Topology) (j : ℕ) : Type 0 where
  out_of_new : m.vertices ≤ origin n j → Reached t k p m n j
  from₀ : origin n j ≡ origin m (3 * t) → Turns n k j → Reached t k p m n j
  from₁ : origin n j ≡ origin m (3 * t + 1) → Turns n p.place₁ j → Reached t k p m n j
  from₂ : origin n j ≡ origin m (3 * t + 2) → Turns n p.place₂ j → Reached t k p m n j

-- It is a side of t at its new place, or linked to another of them, or on the boundary.
abbrev pub Sewn : ℕ → ℕ → Parts → Topology → ℕ → Type 0
Sewn t k p n j = Joined n j ⊎ ((j ≡ p.place₁) ⊎ ((j ≡ p.place₂) ⊎ ((j ≡ k) × (k ≡ 3 * t))))

-- The parts fit. The base of t stays, and k is the base; or it is on the boundary and goes, and k is another side out
-- of its origin.
pub record Fits (t k : ℕ) (p : Parts) (m n : Topology) : Type 0 where
  pub in_use : k < sides n
  pub origin : origin n k ≡ origin m (3 * t)
  pub base : k ≡ 3 * t → Moves m n (3 * t) k
  pub goes : (k ≡ 3 * t) ⊎ (link m (3 * t) ≡ boundary)
  pub side₁ : Moves m n (3 * t + 1) p.place₁
  pub side₂ : Moves m n (3 * t + 2) p.place₂
  pub grows : m.vertices ≤ n.vertices
  pub own : Proper n.vertices p.own.corners
  pub second : Proper n.vertices p.second.corners
  pub third : Proper n.vertices p.third.corners
  pub sewn : Nine t m.triangles (Sewn t k p n)
  -- A turn from a side of t goes on to where it went.
  pub turn₀ : link m (3 * t + 2) < sides m → Turns n k (link m (3 * t + 2))
  pub turn₁ : link m (3 * t) < sides m → Turns n p.place₁ (link m (3 * t))
  pub turn₂ : link m (3 * t + 1) < sides m → Turns n p.place₂ (link m (3 * t + 1))
  pub reached : Nine t m.triangles (Reached t k p m n)
  pub fans : (v : ℕ) → m.vertices ≤ v → v < n.vertices → OneFan n v

-- No side is linked to a side on the boundary.
pub not_edge : (m : Topology) (k h : ℕ) → Manifold m → k < sides m → link m k ≡ boundary → h < sides m → link m h ≢ k
not_edge m k h F i edge l e = go (F.linked h l)
  where
    go : Joined m h → ⊥
    go (inl x) = omega (arith, few m F)
    go (inr M) =
        let z : boundary ≡ h = sym edge ∙ ap (λ (x : ℕ). link m x) (sym e) ∙ M.back in
        omega (arith, few m F)

-- The corners of a cell, and the ends of its sides.
module _ {n : Topology} {t v : ℕ} {c : Cell} (H : Holds n t c) (P : Proper v c.corners) where
  cell_corners : (origin n (3 * t) < v) × (origin n (3 * t + 1) < v) × (origin n (3 * t + 2) < v)
  cell_corners = (
    omega (arith, H.corners.0, P.in₀),
    omega (arith, H.corners.1, P.in₁),
    omega (arith, H.corners.2, P.in₂),
  )

  cell_apart : (origin n (3 * t) ≢ target n (3 * t)) × (origin n (3 * t + 1) ≢ target n (3 * t + 1))
      × (origin n (3 * t + 2) ≢ target n (3 * t + 2))
  cell_apart = (
    λ e. P.apart₀ (sym H.corners.0 ∙ e ∙ target₀ n t ∙ H.corners.1),
    λ e. P.apart₁ (sym H.corners.1 ∙ e ∙ target₁ n t ∙ H.corners.2),
    λ e. P.apart₂ (sym H.corners.2 ∙ e ∙ target₂ n t ∙ H.corners.0),
  )

-- The fan of a new vertex, of sides of the three triangles.
pub new_fan : (t first v : ℕ) (p : Parts) (m n : Topology) → Manifold m → Parted t p m n → m.vertices ≤ v
    → first < sides n → origin n first ≡ v → Nine t m.triangles (λ j. origin n j ≡ v → Turns n first j) → OneFan n v
new_fan t first v p m n F S i l o x = record {
  first = first;
  in_use = l;
  out = o;
  all =
      by_side t m.triangles n.triangles (λ j. origin n j ≡ v → Turns n first j) S.triangles x.0 x.1
      x.2
      (λ h l d q. absurd (omega (arith, S.corners h l d, F.corner h l)));
}

module _ (t k : ℕ) (p : Parts) (m n : Topology) (F : Manifold m) (b : t < m.triangles) (S : Parted t p m n)
    (W : Fits t k p m n) where
  -- The new name of an old side.
  unfoldable name : ℕ → ℕ
  name h = elim (eqb h (3 * t)) [
    | true ↦ k
    | false ↦ rename_two (3 * t + 1) p.place₁ (3 * t + 2) p.place₂ h
  ]

  name_kept : (h : ℕ) → h ≢ 3 * t → name h ≡ rename_two (3 * t + 1) p.place₁ (3 * t + 2) p.place₂ h
  unfolding name
  name_kept h i = rw (ne_eqb h (3 * t) i, name)

  name₀ : name (3 * t) ≡ k
  unfolding name
  name₀ = rw (eq-eqb (3 * t) (3 * t) refl, name)

  name₁ : name (3 * t + 1) ≡ p.place₁
  name₁ =
      name_kept (3 * t + 1) (omega arith) ∙ rename_a (3 * t + 1) p.place₁ (3 * t + 2) p.place₂

  name₂ : name (3 * t + 2) ≡ p.place₂
  name₂ =
      name_kept (3 * t + 2) (omega arith)
      ∙ rename_b (3 * t + 1) p.place₁ (3 * t + 2) p.place₂ (omega arith)

  name_else : (h : ℕ) → h / 3 ≢ t → name h ≡ h
  name_else h i =
      name_kept h (omega arith)
      ∙ rename_else (3 * t + 1) p.place₁ (3 * t + 2) p.place₂ h (omega arith) (omega arith)

  -- A fact of an old side and its new name.
  by_name : (P : ℕ → ℕ → Type 0) → P (3 * t) k → P (3 * t + 1) p.place₁ → P (3 * t + 2) p.place₂
      → ((h : ℕ) → h < sides m → h / 3 ≢ t → P h h) → (h : ℕ) → h < sides m → P h (name h)
  by_name P p₀ p₁ p₂ q = by_triangle (λ h. h < sides m → P h (name h)) t
      (λ l. rw name₀ p₀) (λ l. rw name₁ p₁) (λ l. rw name₂ p₂)
      (λ h i l. subst (λ (j : ℕ). P h j) (sym (name_else h i)) (q h l i))

  -- The partner of a side of t is not renamed.
  own_name : (h : ℕ) → h < sides m → h / 3 ≡ t → name (link m h) ≡ link m h
  own_name h l e = go (F.linked h l)
    where
      go : Joined m h → name (link m h) ≡ link m h
      go (inl x) = name_else (link m h) (omega (arith, few m F))
      go (inr M) =
          let y : link m h / 3 ≢ h / 3 = no_self m h F l M in
          name_else (link m h) (omega arith)

  links_named : (h : ℕ) → h < sides m → h / 3 ≢ t → link n h ≡ name (link m h)
  links_named h l i = S.links h l i ∙ go (ℕ_discrete (link m h) (3 * t)) W.goes
    where
      go : Dec (link m h ≡ 3 * t) → (k ≡ 3 * t) ⊎ (link m (3 * t) ≡ boundary)
          → rename_two (3 * t + 1) p.place₁ (3 * t + 2) p.place₂ (link m h) ≡ name (link m h)
      go (no d) g = sym (name_kept (link m h) d)
      go (yes e) (inr g) = absurd (not_edge m (3 * t) h F (omega arith) g l e)
      go (yes e) (inl g) =
          rename_else (3 * t + 1) p.place₁ (3 * t + 2) p.place₂ (link m h) (omega arith) (omega arith) ∙ e
          ∙ sym g ∙ sym name₀ ∙ ap name (sym e)

  origins : (h : ℕ) → h < sides m → origin n (name h) ≡ origin m h
  origins = by_name (λ h j. origin n j ≡ origin m h) W.origin W.side₁.origin W.side₂.origin S.corners

  -- All sides but a base that goes.
  abbrev Kept : ℕ → Type 0
  Kept h = h ≡ 3 * t → k ≡ 3 * t

  renames : Renames m n Kept name
  renames = record {
    at_boundary = name_else boundary (omega (arith, few m F));
    into =
        by_name (λ h j. j < sides n) W.in_use W.side₁.in_use W.side₂.in_use
        (λ h l i. omega (arith, S.triangles));
    origin = λ h l _. origins h l;
    target = by_name (λ h j. Kept h → target n j ≡ target m h) (λ q. (W.base (q refl)).target)
        (λ _. W.side₁.target) (λ _. W.side₂.target)
        (λ h l i _. S.corners (next h) (omega arith) (omega arith));
    level = by_name (λ h j. Kept h → level n j ≡ level m h) (λ q. (W.base (q refl)).level)
        (λ _. W.side₁.level) (λ _. W.side₂.level)
        (λ h l i _. ap (λ (x : ℕ). (x + min 1 (h % 3)) / 2) (S.generations (h / 3) (omega arith) i));
    links = by_name (λ h j. Kept h → link n j ≡ name (link m h))
        (λ q. (W.base (q refl)).link ∙ sym (own_name (3 * t) (omega arith) (omega arith)))
        (λ _. W.side₁.link ∙ sym (own_name (3 * t + 1) (omega arith) (omega arith)))
        (λ _. W.side₂.link ∙ sym (own_name (3 * t + 2) (omega arith) (omega arith)))
        (λ h l i _. links_named h l i);
    stays = λ h l q M e. go W.goes h l e;
  }
    where
      go : (k ≡ 3 * t) ⊎ (link m (3 * t) ≡ boundary) → (h : ℕ) → h < sides m → link m h ≡ 3 * t → k ≡ 3 * t
      go (inl g) h l e = g
      go (inr g) h l e = absurd (not_edge m (3 * t) h F (omega arith) g l e)

  -- A fact of each side of n, by cases.
  by_new : (P : ℕ → Type 0) → Nine t m.triangles P → ((h : ℕ) → h < sides m → h / 3 ≢ t → P h) → (j : ℕ)
      → j < sides n → P j
  by_new P x = by_side t m.triangles n.triangles P S.triangles x.0 x.1 x.2

  -- ---- links and corners

  old : (h j : ℕ) → name h ≡ j → h < sides m → Kept h → Joined n j
  old h j e l q = rw e at (linked m n Kept name renames h l q (F.linked h l))

  sewn : (j : ℕ) → Sewn t k p n j → Joined n j
  sewn j (inl J) = J
  sewn j (inr (inl e)) = old (3 * t + 1) j (name₁ ∙ sym e) (omega arith) (λ q. absurd (omega arith))
  sewn j (inr (inr (inl e))) = old (3 * t + 2) j (name₂ ∙ sym e) (omega arith) (λ q. absurd (omega arith))
  sewn j (inr (inr (inr e))) = old (3 * t) j (name₀ ∙ sym e.0) (omega arith) (λ _. e.1)

  linked' : (j : ℕ) → j < sides n → Joined n j
  linked' j l =
      sewn j
      (by_new (Sewn t k p n) W.sewn (λ h i d. inl (old h h (name_else h d) i (λ q. absurd (omega arith)))) j l)

  corner' : (j : ℕ) → j < sides n → origin n j < n.vertices
  corner' =
      by_new (λ j. origin n j < n.vertices)
      (cell_corners S.own W.own, cell_corners S.second W.second, cell_corners S.third W.third)
      (λ h l i. omega (arith, S.corners h l i, F.corner h l, W.grows))

  apart : (j : ℕ) → j < sides n → origin n j ≢ target n j
  apart =
      by_new (λ j. origin n j ≢ target n j)
      (cell_apart S.own W.own, cell_apart S.second W.second, cell_apart S.third W.third)
      (λ h l i q. F.distinct h l (sym (S.corners h l i) ∙ q ∙ S.corners (next h) (omega arith) (omega arith)))

  -- ---- fans

  step : (h : ℕ) → h < sides m → rotate m h < sides m → Turns n (name h) (name (rotate m h))
  step =
      by_name (λ h j. rotate m h < sides m → Turns n j (name (rotate m h)))
      (λ l. to (3 * t) (3 * t + 2) (rotate₀ m t) (omega arith) (omega arith) (W.turn₀ (omega (arith, rotate₀ m t))))
      (λ l. to (3 * t + 1) (3 * t) (rotate₁ m t) (omega arith) (omega arith) (W.turn₁ (omega (arith, rotate₁ m t))))
      (λ l. to (3 * t + 2) (3 * t + 1) (rotate₂ m t) (omega arith) (omega arith)
      (W.turn₂ (omega (arith, rotate₂ m t))))
      (λ h l i q. turn here (links_named (previous h) (previous_lt h m.triangles l) (omega arith))
      (renames.into (rotate m h) q))
    where
      to : (h i : ℕ) {j : ℕ} → rotate m h ≡ link m i → i < sides m → i / 3 ≡ t → Turns n j (link m i)
          → Turns n j (name (rotate m h))
      to h i {j} e l q T = subst (Turns n j) (sym (ap name e ∙ own_name i l q)) T

  every : (v : ℕ) → v < m.vertices → (j : ℕ) → j < sides n → origin n j ≡ v
      → (h : ℕ) × (h < sides m) × (origin m h ≡ v) × Turns n (name h) j
  every v l j i = go (by_new (λ j. Reached t k p m n j ⊎ ((j < sides m) × (j / 3 ≢ t))) new (λ h i d. inr (i, d)) j i)
    where
      new : Nine t m.triangles (λ j. Reached t k p m n j ⊎ ((j < sides m) × (j / 3 ≢ t)))
      new =
          let r = W.reached in (
            (inl r.0.0, inl r.0.1, inl r.0.2),
            (inl r.1.0, inl r.1.1, inl r.1.2),
            (inl r.2.0, inl r.2.1, inl r.2.2),
          )

      go : Reached t k p m n j ⊎ ((j < sides m) × (j / 3 ≢ t)) → origin n j ≡ v
          → (h : ℕ) × (h < sides m) × (origin m h ≡ v) × Turns n (name h) j
      go (inl (out_of_new q)) e = absurd (omega arith)
      go (inl (from₀ o T)) e = (3 * t, omega arith, sym o ∙ e, rw name₀ T)
      go (inl (from₁ o T)) e = (3 * t + 1, omega arith, sym o ∙ e, rw name₁ T)
      go (inl (from₂ o T)) e = (3 * t + 2, omega arith, sym o ∙ e, rw name₂ T)
      go (inr (a, d)) e =
          (j, a, sym (S.corners j a d) ∙ e, subst (λ (x : ℕ). Turns n x j) (sym (name_else j d)) here)

  fan' : (v : ℕ) → v < n.vertices → OneFan n v
  fan' v l = go (dec_lt v m.vertices)
    where
      go : Dec (v < m.vertices) → OneFan n v
      go (yes i) =
          fan_map m n name step v (λ h j. (renames.into h j, origins h j)) (every v i) (F.fan v i)
      go (no i) = W.fans v (omega arith) l

  -- A triangle cut into parts that fit keeps a manifold one.
  pub parts_keep : n.triangles ≤ length m.generations → 3 * n.triangles ≤ length m.corners
      → 3 * n.triangles ≤ length m.links → Manifold n
  parts_keep x y z = record {
    slots = omega (arith, S.generation_room, F.slots);
    link_slots = omega (arith, S.link_room, F.link_slots);
    corner_room = omega (arith, S.corner_room);
    link_room = omega (arith, S.link_room);
    generation_room = omega (arith, S.generation_room);
    corner = corner';
    distinct = apart;
    linked = linked';
    fan = fan';
  }
