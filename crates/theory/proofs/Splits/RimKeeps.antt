-- The cut of a rim split keeps a manifold.
use mathlib.Core.Path.{◌≡◌, refl, sym, ◌∙◌}
use mathlib.Core.Logic.{inl, inr}
use Prim.Native.Nat.{ℕ, ◌+◌, ◌*◌, ◌%◌, ◌≤◌, ◌<◌}
use native.Mathlib.Omega.{arith}
use native.Mathlib.Decide.{ℕ_discrete}
use lib.ListN.{length}
use Rattle.theory.proofs.Links.Manifold.{Manifold, level₀, level₁, level₂, target₀, target₁, target₂, rotate₀}
use Rattle.theory.proofs.Links.Manifold.{rotate₁, rotate₂, pair_both, few}
use Rattle.theory.proofs.Splits.Parts.{Parted, rim_parts}
use Rattle.theory.proofs.Splits.PartsKeep.{Moves, corners_proper, with_new, Nine, Reached, out_of_new, from₀}
use Rattle.theory.proofs.Splits.PartsKeep.{from₁}
use Rattle.theory.proofs.Splits.PartsKeep.{from₂, Sewn, Fits, new_fan, parts_keep}
use Rattle.rules.specs.Sound.{OneFan, Turns, here, turn}
use Rattle.rules.specs.Tables.{Topology, boundary, link, rotate, generation}

module _ (t : ℕ) (m n : Topology) (F : Manifold m) (b : t < m.triangles) (odd : generation m t % 2 ≡ 1)
    (edge : link m (3 * t) ≡ boundary) (S : Parted t (rim_parts t m) m n) where
  -- The sides but the base are the bases of the outer two.
  side₁ : Moves m n (3 * t + 1) (3 * (m.triangles + 1))
  side₁ = record {
    in_use = omega (arith, S.triangles);
    origin = S.third.corners.0;
    target = target₀ n (m.triangles + 1) ∙ S.third.corners.1 ∙ sym (target₁ m t);
    level = omega (arith, level₀ n (m.triangles + 1), level₁ m t, S.third.generation);
    link = S.third.links.0;
  }

  side₂ : Moves m n (3 * t + 2) (3 * t)
  side₂ = record {
    in_use = omega (arith, S.triangles);
    origin = S.own.corners.0;
    target = target₀ n t ∙ S.own.corners.1 ∙ sym (target₂ m t);
    level = omega (arith, level₀ n t, level₂ m t, S.own.generation);
    link = S.own.links.0;
  }

  -- The one in the middle is linked to each of them; three new sides are on the boundary.
  sewn : Nine t m.triangles (Sewn t (3 * t + 1) (rim_parts t m) n)
  sewn =
      let f : ℕ = m.triangles in
      let e : ℕ = f + 1 in
      let w = S.triangles in
      let gT = S.own.generation in
      let gF = S.second.generation in
      let gE = S.third.generation in
      let tf = pair_both n (3 * t + 2) (3 * f + 2) S.own.links.2 S.second.links.2 (omega arith) (omega arith)
      (S.second.corners.2 ∙ sym (target₂ n t ∙ S.own.corners.0))
      (target₂ n f ∙ S.second.corners.0 ∙ sym S.own.corners.2) (omega (arith, level₂ n f, level₂ n t)) in
      let fe = pair_both n (3 * f + 1) (3 * e + 1) S.second.links.1 S.third.links.1 (omega arith)
      (omega arith) (S.third.corners.1 ∙ sym (target₁ n f ∙ S.second.corners.2))
      (target₁ n e ∙ S.third.corners.2 ∙ sym S.second.corners.1) (omega (arith, level₁ n e, level₁ n f)) in (
        (inr (inr (inl refl)), inl (inl S.own.links.1), inl (inr tf.0)),
        (inl (inl S.second.links.0), inl (inr fe.0), inl (inr tf.1)),
        (inr (inl refl), inl (inr fe.1), inl (inl S.third.links.2)),
      )

  -- ---- fans

  go_on : {s h k : ℕ} → Turns n s h → rotate n h ≡ k → k < 3 * m.triangles + 6 → Turns n s k
  go_on p q l = turn p q (omega (arith, S.triangles))

  -- Round P, corner 2 of t.
  t_to_f : Turns n (3 * t) (3 * m.triangles + 2)
  t_to_f = go_on here (rotate₀ n t ∙ S.own.links.2) (omega arith)

  t_to_e : Turns n (3 * t) (3 * (m.triangles + 1) + 1)
  t_to_e = go_on t_to_f (rotate₂ n m.triangles ∙ S.second.links.1) (omega arith)

  reached : Nine t m.triangles (Reached t (3 * t + 1) (rim_parts t m) m n)
  reached = (
    (
      from₂ S.own.corners.0 here,
      from₀ S.own.corners.1 here,
      out_of_new (omega (arith, S.own.corners.2)),
    ),
    (
      out_of_new (omega (arith, S.second.corners.0)),
      out_of_new (omega (arith, S.second.corners.1)),
      from₂ S.second.corners.2 t_to_f,
    ),
    (
      from₁ S.third.corners.0 here,
      from₂ S.third.corners.1 t_to_e,
      out_of_new (omega (arith, S.third.corners.2)),
    ),
  )

  -- Round A' from f to t, and round B' from e to f.
  fan : (v : ℕ) → m.vertices ≤ v → v < n.vertices → OneFan n v
  fan v i l = go (ℕ_discrete v m.vertices)
    where
      go : Dec (v ≡ m.vertices) → OneFan n v
      go (yes q) =
          let C = corners_proper m t F b in
          new_fan t (3 * m.triangles) v (rim_parts t m) m n F S i (omega (arith, S.triangles))
          (S.second.corners.0 ∙ sym q) (
            (
              (λ z. absurd (omega (arith, S.own.corners.0))),
              (λ z. absurd (omega (arith, S.own.corners.1))),
              (λ z. go_on here (rotate₀ n m.triangles ∙ S.second.links.2) (omega arith)),
            ),
            (
              (λ z. here),
              (λ z. absurd (omega (arith, S.second.corners.1))),
              (λ z. absurd (omega (arith, S.second.corners.2))),
            ),
            (
              (λ z. absurd (omega (arith, S.third.corners.0))),
              (λ z. absurd (omega (arith, S.third.corners.1))),
              (λ z. absurd (omega (arith, S.third.corners.2))),
            ),
          )
      go (no q) =
          let C = corners_proper m t F b in
          new_fan t (3 * (m.triangles + 1) + 2) v (rim_parts t m) m n F S i (omega (arith, S.triangles))
          (omega (arith, S.vertices, S.third.corners.2)) (
            (
              (λ z. absurd (omega (arith, S.own.corners.0))),
              (λ z. absurd (omega (arith, S.own.corners.1))),
              (λ z. absurd (omega (arith, S.own.corners.2))),
            ),
            (
              (λ z. absurd (omega (arith, S.second.corners.0))),
              (λ z. go_on here (rotate₂ n (m.triangles + 1) ∙ S.third.links.1) (omega arith)),
              (λ z. absurd (omega (arith, S.second.corners.2))),
            ),
            (
              (λ z. absurd (omega (arith, S.third.corners.0))),
              (λ z. absurd (omega (arith, S.third.corners.1))),
              (λ z. here),
            ),
          )

  fits : Fits t (3 * t + 1) (rim_parts t m) m n
  fits =
      let C = corners_proper m t F b in
      let v = S.vertices in
      record {
        in_use = omega (arith, S.triangles);
        origin = S.own.corners.1;
        base = λ e. absurd (omega arith);
        goes = inr edge;
        side₁ = side₁;
        side₂ = side₂;
        grows = omega arith;
        own = with_new C.in₂ C.in₀ C.apart₂ (omega arith) (omega arith);
        second = record {
          in₀ = omega arith;
          in₁ = omega arith;
          in₂ = omega arith;
          apart₀ = omega arith;
          apart₁ = omega (arith, C.in₂);
          apart₂ = omega (arith, C.in₂);
        };
        third = with_new C.in₁ C.in₂ C.apart₁ (omega arith) (omega arith);
        sewn = sewn;
        turn₀ = λ l. go_on here (rotate₁ n t ∙ S.own.links.0) (omega arith);
        turn₁ = λ l. absurd (omega (arith, edge, few m F));
        turn₂ = λ l. go_on t_to_e (rotate₁ n (m.triangles + 1) ∙ S.third.links.0) (omega arith);
        reached = reached;
        fans = fan;
      }

  -- The cut keeps a manifold one.
  pub rim_manifold : m.triangles + 2 ≤ length m.generations → 3 * (m.triangles + 2) ≤ length m.corners
      → 3 * (m.triangles + 2) ≤ length m.links → Manifold n
  rim_manifold x y z =
      let w = S.triangles in
      parts_keep t (3 * t + 1) (rim_parts t m) m n F b S fits (omega arith) (omega arith) (omega arith)
