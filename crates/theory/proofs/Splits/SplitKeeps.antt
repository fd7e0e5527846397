-- The cut of a face split keeps a manifold.
use mathlib.Core.Path.{◌≡◌, refl, sym, ◌∙◌}
use mathlib.Core.Logic.{inl, inr}
use Prim.Native.Nat.{ℕ, ◌+◌, ◌*◌, ◌%◌, ◌≤◌, ◌<◌}
use native.Mathlib.Omega.{arith}
use lib.ListN.{length}
use Rattle.theory.proofs.Links.Manifold.{Manifold, level₀, level₁, level₂, target₀, target₁, target₂, rotate₀}
use Rattle.theory.proofs.Links.Manifold.{rotate₁, rotate₂, pair_both}
use Rattle.theory.proofs.Splits.Parts.{Parted, face_parts}
use Rattle.theory.proofs.Splits.PartsKeep.{Moves, corners_proper, with_new, Nine, Reached, out_of_new, from₀}
use Rattle.theory.proofs.Splits.PartsKeep.{from₁}
use Rattle.theory.proofs.Splits.PartsKeep.{from₂, Sewn, Fits, new_fan, parts_keep}
use Rattle.rules.specs.Sound.{OneFan, Turns, here, turn}
use Rattle.rules.specs.Tables.{Topology, origin, rotate, generation}

module _ (t : ℕ) (m n : Topology) (F : Manifold m) (b : t < m.triangles) (even : generation m t % 2 ≡ 0)
    (S : Parted t (face_parts t m) m n) where
  -- The old sides are the bases.
  side₀ : Moves m n (3 * t) (3 * t)
  side₀ = record {
    in_use = omega (arith, S.triangles);
    origin = S.own.corners.0;
    target = target₀ n t ∙ S.own.corners.1 ∙ sym (target₀ m t);
    level = omega (arith, level₀ n t, level₀ m t, S.own.generation);
    link = S.own.links.0;
  }

  side₁ : Moves m n (3 * t + 1) (3 * m.triangles)
  side₁ = record {
    in_use = omega (arith, S.triangles);
    origin = S.second.corners.0;
    target = target₀ n m.triangles ∙ S.second.corners.1 ∙ sym (target₁ m t);
    level = omega (arith, level₀ n m.triangles, level₁ m t, S.second.generation);
    link = S.second.links.0;
  }

  side₂ : Moves m n (3 * t + 2) (3 * (m.triangles + 1))
  side₂ = record {
    in_use = omega (arith, S.triangles);
    origin = S.third.corners.0;
    target = target₀ n (m.triangles + 1) ∙ S.third.corners.1 ∙ sym (target₂ m t);
    level = omega (arith, level₀ n (m.triangles + 1), level₂ m t, S.third.generation);
    link = S.third.links.0;
  }

  -- The three sides at the new vertex are linked in pairs.
  sewn : Nine t m.triangles (Sewn t (3 * t) (face_parts t m) n)
  sewn =
      let f : ℕ = m.triangles in
      let e : ℕ = f + 1 in
      let w = S.triangles in
      let gT = S.own.generation in
      let gF = S.second.generation in
      let gE = S.third.generation in
      let tf = pair_both n (3 * t + 1) (3 * f + 2) S.own.links.1 S.second.links.2 (omega arith) (omega arith)
      (S.second.corners.2 ∙ sym (target₁ n t ∙ S.own.corners.2))
      (target₂ n f ∙ S.second.corners.0 ∙ sym S.own.corners.1) (omega (arith, level₂ n f, level₁ n t)) in
      let te = pair_both n (3 * t + 2) (3 * e + 1) S.own.links.2 S.third.links.1 (omega arith) (omega arith)
      (S.third.corners.1 ∙ sym (target₂ n t ∙ S.own.corners.0))
      (target₁ n e ∙ S.third.corners.2 ∙ sym S.own.corners.2) (omega (arith, level₁ n e, level₂ n t)) in
      let fe = pair_both n (3 * f + 1) (3 * e + 2) S.second.links.1 S.third.links.2 (omega arith)
      (omega arith) (S.third.corners.2 ∙ sym (target₁ n f ∙ S.second.corners.2))
      (target₂ n e ∙ S.third.corners.0 ∙ sym S.second.corners.1) (omega (arith, level₂ n e, level₁ n f)) in (
        (inr (inr (inr (refl, refl))), inl (inr tf.0), inl (inr te.0)),
        (inr (inl refl), inl (inr fe.0), inl (inr tf.1)),
        (inr (inr (inl refl)), inl (inr te.1), inl (inr fe.1)),
      )

  -- ---- fans

  go_on : {s h k : ℕ} → Turns n s h → rotate n h ≡ k → k < 3 * m.triangles + 6 → Turns n s k
  go_on p q l = turn p q (omega (arith, S.triangles))

  -- From each base to the side after it.
  t_to_e : Turns n (3 * t) (3 * (m.triangles + 1) + 1)
  t_to_e = go_on here (rotate₀ n t ∙ S.own.links.2) (omega arith)

  f_to_t : Turns n (3 * m.triangles) (3 * t + 1)
  f_to_t = go_on here (rotate₀ n m.triangles ∙ S.second.links.2) (omega arith)

  e_to_f : Turns n (3 * (m.triangles + 1)) (3 * m.triangles + 1)
  e_to_f = go_on here (rotate₀ n (m.triangles + 1) ∙ S.third.links.2) (omega arith)

  -- The new vertex, corner 2 of all three.
  new₀ : m.vertices ≤ origin n (3 * t + 2)
  new₀ = omega (arith, S.own.corners.2)

  new₁ : m.vertices ≤ origin n (3 * m.triangles + 2)
  new₁ = omega (arith, S.second.corners.2)

  new₂ : m.vertices ≤ origin n (3 * (m.triangles + 1) + 2)
  new₂ = omega (arith, S.third.corners.2)

  reached : Nine t m.triangles (Reached t (3 * t) (face_parts t m) m n)
  reached = (
    (from₀ S.own.corners.0 here, from₁ S.own.corners.1 f_to_t, out_of_new new₀),
    (from₁ S.second.corners.0 here, from₂ S.second.corners.1 e_to_f, out_of_new new₁),
    (from₂ S.third.corners.0 here, from₀ S.third.corners.1 t_to_e, out_of_new new₂),
  )

  fan : (v : ℕ) → m.vertices ≤ v → v < n.vertices → OneFan n v
  fan v i l =
      let C = corners_proper m t F b in
      let to-f = go_on here (rotate₂ n t ∙ S.own.links.1) (omega arith) in
      let to-e = go_on to-f (rotate₂ n m.triangles ∙ S.second.links.1) (omega arith) in
      new_fan t (3 * t + 2) v (face_parts t m) m n F S i (omega (arith, S.triangles))
      (omega (arith, S.vertices, S.own.corners.2)) (
        (
          (λ q. absurd (omega (arith, S.own.corners.0))),
          (λ q. absurd (omega (arith, S.own.corners.1))),
          (λ q. here),
        ),
        (
          (λ q. absurd (omega (arith, S.second.corners.0))),
          (λ q. absurd (omega (arith, S.second.corners.1))),
          (λ q. to-f),
        ),
        (
          (λ q. absurd (omega (arith, S.third.corners.0))),
          (λ q. absurd (omega (arith, S.third.corners.1))),
          (λ q. to-e),
        ),
      )

  fits : Fits t (3 * t) (face_parts t m) m n
  fits =
      let C = corners_proper m t F b in
      let v = S.vertices in
      record {
        in_use = side₀.in_use;
        origin = side₀.origin;
        base = λ _. side₀;
        goes = inl refl;
        side₁ = side₁;
        side₂ = side₂;
        grows = omega arith;
        own = with_new C.in₀ C.in₁ C.apart₀ (omega arith) (omega arith);
        second = with_new C.in₁ C.in₂ C.apart₁ (omega arith) (omega arith);
        third = with_new C.in₂ C.in₀ C.apart₂ (omega arith) (omega arith);
        sewn = sewn;
        turn₀ = λ l. go_on t_to_e (rotate₁ n (m.triangles + 1) ∙ S.third.links.0) (omega arith);
        turn₁ = λ l. go_on f_to_t (rotate₁ n t ∙ S.own.links.0) (omega arith);
        turn₂ = λ l. go_on e_to_f (rotate₁ n m.triangles ∙ S.second.links.0) (omega arith);
        reached = reached;
        fans = fan;
      }

  -- The cut keeps a manifold one.
  pub split_manifold : m.triangles + 2 ≤ length m.generations → 3 * (m.triangles + 2) ≤ length m.corners
      → 3 * (m.triangles + 2) ≤ length m.links → Manifold n
  split_manifold x y z =
      let w = S.triangles in
      parts_keep t (3 * t) (face_parts t m) m n F b S fits (omega arith) (omega arith) (omega arith)
