-- Cuts and flips do the same in tables into which what is in use is copied.
use mathlib.Core.Path.{◌≡◌, refl, subst}
use mathlib.Core.Logic.{◌⊎◌, inl, inr}
use Prim.Native.Nat.{ℕ, suc, ◌+◌, ◌*◌, ◌≤◌, ◌<◌, min, max}
use native.Mathlib.Omega.{arith}
use lib.ListN.{set}
use Rattle.theory.proofs.Spares.Copies.{Copy, copy_wider, copy_set, copy_out, copy_three}
use Rattle.theory.proofs.Spares.Growing.{Counted}
use Rattle.rules.specs.Split.{face_cut, rim_cut, flip}
use Rattle.rules.specs.Tables.{Topology, Mesh, TablesAgree, triangle_slots, boundary, put_triangle, relink}
use Rattle.rules.specs.Tables.{with_counts}

-- What a side may be linked to among b triangles.
abbrev pub LinkIn : ℕ → ℕ → Type 0
LinkIn b h = (h ≡ boundary) ⊎ (h < 3 * b)

-- The tables of n are those of s with the first f triangles of m copied into them, whose corners are below v and which
-- are linked among b triangles. The tables of m are as long as those of r.
pub record Copied (r s : Mesh) (v b f : ℕ) (m n : Topology) : Type 0 where
  pub corners : Copy (λ x. x < v) 0 (3 * f) r.topology.corners s.topology.corners m.corners n.corners
  pub links : Copy (LinkIn b) 0 (3 * f) r.topology.links s.topology.links m.links n.links
  pub generations :
      Copy (λ _. Unit {0}) 0 f r.topology.generations s.topology.generations m.generations n.generations

-- The triangle slots that both have.
abbrev pub slots_of_both : Mesh → Mesh → ℕ
slots_of_both r s = min (triangle_slots r) (triangle_slots s)

-- ---- what is written

link_wider : {b c h : ℕ} → b ≤ c → LinkIn b h → LinkIn c h
link_wider l (inl e) = inl e
link_wider l (inr i) = inr (omega arith)

module _ {r s : Mesh} (A : TablesAgree r) (B : TablesAgree s) where
  module _ {v b f : ℕ} {m n : Topology} (C : Copied r s v b f m n) where
    -- With higher counts.
    wider : (w c : ℕ) → v ≤ w → b ≤ c → Copied r s w c f (with_counts w c m) (with_counts w c n)
    wider w c i j = record {
      corners = copy_wider C.corners (λ x l. omega arith);
      links = copy_wider C.links (λ h. link_wider j);
      generations = C.generations;
    }

    resized : {g : ℕ} → f ≡ g → Copied r s v b g m n
    resized e = subst (λ (g : ℕ). Copied r s v b g m n) e C

    -- The link of one of their sides written, or of the boundary, which changes nothing.
    relinked : (h k : ℕ) → f ≤ slots_of_both r s → LinkIn f h → LinkIn b k
        → Copied r s v b f (relink h k m) (relink h k n)
    relinked h k u i j = record { corners = C.corners; links = go i; generations = C.generations }
      where
        go : LinkIn f h
            → Copy (LinkIn b) 0 (3 * f) r.topology.links s.topology.links (set m.links h k)
            (set n.links h k)
        go (inl e) = copy_out C.links h k (omega arith) (omega arith)
        go (inr l) =
            let e : max (3 * f) (suc h) ≡ 3 * f = omega arith in
            rw e at (copy_set C.links h k (omega arith) (omega arith) (omega arith) j)

    -- A triangle written: one of the first f, or one more.
    put : (t : ℕ) (corners links : ℕ × ℕ × ℕ) (g : ℕ) → t ≤ f → t < slots_of_both r s
        → (corners.0 < v) × (corners.1 < v) × (corners.2 < v)
        → LinkIn b links.0 × LinkIn b links.1 × LinkIn b links.2
        → Copied r s v b (max f (suc t)) (put_triangle t corners links g m) (put_triangle t corners links g n)
    put t corners links g l u c k = record {
      corners = copy_three C.corners t corners l (omega arith) (omega arith) c;
      links = copy_three C.links t links l (omega arith) (omega arith) k;
      generations = copy_set C.generations t g l (omega arith) (omega arith) tt;
    }

  -- ---- flip, face cut and rim cut

  pub flip_copied : {v f : ℕ} {m n : Topology} → f ≤ slots_of_both r s → Copied r s v f f m n → (a u : ℕ) → a < f → u < f
      → Copied r s v f f (flip a u m) (flip a u n)
  unfolding flip
  flip_copied {v} {f} {m} {n} z C a u i j =
      let c₀ = C.corners.used (3 * a) (omega arith) in
      let c₂ = C.corners.used (3 * a + 2) (omega arith) in
      let d₀ = C.corners.used (3 * u) (omega arith) in
      let d₂ = C.corners.used (3 * u + 2) (omega arith) in
      let k₁ = C.links.used (3 * a + 1) (omega arith) in
      let k₂ = C.links.used (3 * a + 2) (omega arith) in
      let l₁ = C.links.used (3 * u + 1) (omega arith) in
      let l₂ = C.links.used (3 * u + 2) (omega arith) in
      rw (c₀.0, c₂.0, d₀.0, d₂.0, k₁.0, k₂.0, l₁.0, l₂.0, (C.generations.used a i).0)
      (resized
      (put
      (put (relinked (relinked C _ _ z k₁.1 (inr (omega arith))) _ _ z l₁.1 (inr (omega arith)))
      a _ _ _ (omega arith) (omega arith) (c₀.1, d₂.1, c₂.1) (l₁.1, inr (omega arith), k₂.1))
      u _ _ _ (omega arith) (omega arith) (d₀.1, c₂.1, d₂.1) (k₁.1, inr (omega arith), l₂.1))
      (omega arith))

  module _ {v f : ℕ} {m n : Topology} (room : f + 2 ≤ slots_of_both r s) (M : Counted v f m) (N : Counted v f n)
      (C : Copied r s v f f m n) (t : ℕ) (i : t < f) where
    pub face_cut_copied : Copied r s (suc v) (f + 2) (f + 2) (face_cut t m) (face_cut t n)
    unfolding face_cut
    face_cut_copied =
        let D = wider C (suc v) (f + 2) (omega arith) (omega arith) in
        let c₀ = D.corners.used (3 * t) (omega arith) in
        let c₁ = D.corners.used (3 * t + 1) (omega arith) in
        let c₂ = D.corners.used (3 * t + 2) (omega arith) in
        let k₀ = D.links.used (3 * t) (omega arith) in
        let k₁ = D.links.used (3 * t + 1) (omega arith) in
        let k₂ = D.links.used (3 * t + 2) (omega arith) in
        rw (M.0, M.1, N.0, N.1, c₀.0, c₁.0, c₂.0, k₀.0, k₁.0, k₂.0, (D.generations.used t i).0)
        (resized
        (put
        (put
        (put
        (relinked
        (relinked D _ _ (omega arith) (C.links.used (3 * t + 1) (omega arith)).1 (inr (omega arith)))
        _ _ (omega arith) (C.links.used (3 * t + 2) (omega arith)).1 (inr (omega arith)))
        t _ _ _ (omega arith) (omega arith) (c₀.1, c₁.1, omega arith) (k₀.1, inr (omega arith), inr (omega arith)))
        f _ _ _ (omega arith) (omega arith) (c₁.1, c₂.1, omega arith) (k₁.1, inr (omega arith), inr (omega arith)))
        (f + 1) _ _ _ (omega arith) (omega arith) (c₂.1, c₀.1, omega arith)
        (k₂.1, inr (omega arith), inr (omega arith)))
        (omega arith))

    pub rim_cut_copied : Copied r s (v + 2) (f + 2) (f + 2) (rim_cut t m) (rim_cut t n)
    unfolding rim_cut
    rim_cut_copied =
        let D = wider C (v + 2) (f + 2) (omega arith) (omega arith) in
        let c₀ = D.corners.used (3 * t) (omega arith) in
        let c₁ = D.corners.used (3 * t + 1) (omega arith) in
        let c₂ = D.corners.used (3 * t + 2) (omega arith) in
        let k₁ = D.links.used (3 * t + 1) (omega arith) in
        let k₂ = D.links.used (3 * t + 2) (omega arith) in
        rw (M.0, M.1, N.0, N.1, c₀.0, c₁.0, c₂.0, k₁.0, k₂.0, (D.generations.used t i).0)
        (resized
        (put
        (put
        (put
        (relinked
        (relinked D _ _ (omega arith) (C.links.used (3 * t + 1) (omega arith)).1 (inr (omega arith)))
        _ _ (omega arith) (C.links.used (3 * t + 2) (omega arith)).1 (inr (omega arith)))
        t _ _ _ (omega arith) (omega arith) (c₂.1, c₀.1, omega arith) (k₂.1, inl refl, inr (omega arith)))
        f _ _ _ (omega arith) (omega arith) (omega arith, omega arith, c₂.1)
        (inl refl, inr (omega arith), inr (omega arith)))
        (f + 1) _ _ _ (omega arith) (omega arith) (c₁.1, c₂.1, omega arith) (k₁.1, inr (omega arith), inl refl))
        (omega arith))
