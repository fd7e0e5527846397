-- Counts after flips, cuts, splits and refines: they never fall.
use mathlib.Core.Path.{◌≡◌, refl, ap}
use mathlib.Core.Bool.{Bool, true, false}
use mathlib.Core.List.{List, [], ◌∷◌}
use Prim.Native.Nat.{ℕ, zero, suc, ◌+◌, ◌*◌, ◌/◌, ◌≤◌}
use native.Mathlib.Omega.{arith}
use lib.Dec.{ltb}
use Rattle.theory.proofs.Splits.Bases.{reached}
use Rattle.rules.specs.Split.{Work, with_split, with_flip, face_cut, rim_cut, flip, face_placed, rim_placed, settle}
use Rattle.rules.specs.Split.{settle_all, face_split, rim_split, split_at, chain_end, raise}
use Rattle.rules.specs.Tables.{Topology, with_topology, link, generation, odd, is_base}

-- The counts V and F.
abbrev pub Counted : ℕ → ℕ → Topology → Type 0
Counted v f m = (m.vertices ≡ v) × (m.triangles ≡ f)

module _ {v f : ℕ} (t : ℕ) (m : Topology) (M : Counted v f m) where
  pub flip_counted : (u : ℕ) → Counted v f (flip t u m)
  unfolding flip
  flip_counted u = M

  pub face_cut_counted : Counted (suc v) (f + 2) (face_cut t m)
  unfolding face_cut
  face_cut_counted = (ap suc M.0, ap (λ (f : ℕ). f + 2) M.1)

  pub rim_cut_counted : Counted (v + 2) (f + 2) (rim_cut t m)
  unfolding rim_cut
  rim_cut_counted = (ap (λ (v : ℕ). v + 2) M.0, ap (λ (f : ℕ). f + 2) M.1)

settle_counted : {v f : ℕ} (c : ℕ) (w : Work) → Counted v f (reached w) → Counted v f (reached (settle c w))
unfolding settle
settle_counted {v} {f} c w M = go (is_base (reached w) h)
  where
    h : ℕ
    h = link (reached w) (3 * c)

    go : (b : Bool) →
        let x : Work =
        elim b [ true ↦ with_flip c (h / 3) (with_topology (flip c (h / 3) (reached w)) w.mesh) w | false ↦ w ] in
        Counted v f (reached x)
    go true = flip_counted c (reached w) M (h / 3)
    go false = M

settle_all_counted : {v f : ℕ} (cs : List ℕ) (w : Work) → Counted v f (reached w)
    → Counted v f (reached (settle_all cs w))
settle_all_counted [] w M = M
settle_all_counted (c ∷ cs) w M = settle_all_counted cs (settle c w) (settle_counted c w M)

module _ {v f : ℕ} (t : ℕ) (w : Work) (M : Counted v f (reached w)) where
  pub face_split_counted : Counted (suc v) (f + 2) (reached (face_split t w))
  unfolding face_split face_placed
  face_split_counted =
      let e : ℕ = (reached w).triangles in
      settle_all_counted (t ∷ e ∷ (e + 1) ∷ []) (with_split t (face_placed t w.mesh) w)
      (face_cut_counted t (reached w) M)

  pub rim_split_counted : Counted (v + 2) (f + 2) (reached (rim_split t w))
  unfolding rim_split rim_placed
  rim_split_counted =
      settle_all_counted (t ∷ ((reached w).triangles + 1) ∷ []) (with_split t (rim_placed t w.mesh) w)
      (rim_cut_counted t (reached w) M)

-- They are not lower in n than in m.
pub record Grown (m n : Topology) : Type 0 where
  pub vertices : m.vertices ≤ n.vertices
  pub triangles : m.triangles ≤ n.triangles

split_grows : (t : ℕ) (w : Work) → Grown (reached w) (reached (split_at t w))
split_grows t w = go (odd (generation (reached w) t))
  where
    go : (b : Bool) →
        let x : Work = elim b [ false ↦ face_split t w | true ↦ rim_split t w ] in
        Grown (reached w) (reached x)
    go false =
        let c = face_split_counted t w (refl, refl) in
        record { vertices = omega (arith, c.0); triangles = omega (arith, c.1) }
    go true =
        let c = rim_split_counted t w (refl, refl) in
        record { vertices = omega (arith, c.0); triangles = omega (arith, c.1) }

pub raise_grows : (k g t : ℕ) (w : Work) → Grown (reached w) (reached (raise k g t w))
unfolding raise
raise_grows zero g t w = record { vertices = omega arith; triangles = omega arith }
raise_grows (suc k) g t w =
    let x : Work = split_at (chain_end (reached w) t) w in
    go x (raise k g t x) (ltb g (generation (reached w) t)) (split_grows (chain_end (reached w) t) w)
    (raise_grows k g t x)
  where
    go : (x y : Work) (b : Bool) → Grown (reached w) (reached x) → Grown (reached x) (reached y) →
        let z : Work = elim b [ true ↦ w | false ↦ y ] in
        Grown (reached w) (reached z)
    go x y true G H = record { vertices = omega arith; triangles = omega arith }
    go x y false G H = record {
      vertices = omega (arith, G.vertices, H.vertices);
      triangles = omega (arith, G.triangles, H.triangles);
    }
