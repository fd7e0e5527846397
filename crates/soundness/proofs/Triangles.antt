-- Triangles that fit, and what is known of the tables where all do.
use Prim.Native.Nat.{ℕ, ◌+◌, ◌*◌, ◌/◌, ◌≤◌, ◌<◌}
use native.Mathlib.Omega.{arith}
use mathlib.Core.Logic.{◌≢◌}
use mathlib.Core.Path.{◌≡◌, refl, sym, ap, ◌∙◌}
use Rattle.theory.proofs.Numbers.Decide.{Decides, is_le, is_iff, is_and, is_all}
use Rattle.theory.proofs.Links.Sides.{by_triangle}
use Rattle.theory.proofs.Rings.Turning.{Glued}
use Rattle.theory.proofs.Soundness.Relaxed.{linked_joined}
use Rattle.theory.proofs.Soundness.SoundTest.{SoundSide}
use Rattle.rules.specs.Below.{all}
use Rattle.rules.specs.Tables.{Topology, sides, next, origin, target, boundary, generation}
use Rattle.sides.proofs.Corners.{corners_are}
use Rattle.sides.specs.Parts.{triangle_fits}
use Rattle.soundness.proofs.Pairs.{LinkFits, link_is, links_fit, link_fits_lem}

module _ (m : Topology) where
  pub record SideFits (h : ℕ) : Type 0 where
    pub corner : origin m h < m.vertices
    pub distinct : origin m h ≢ target m h
    pub link : LinkFits m h

  pub record TriangleFits (t : ℕ) : Type 0 where
    pub low : generation m t ≤ 20
    pub side : (h : ℕ) → h / 3 ≡ t → SideFits h

  -- A side fits by its corner, the corner at k where it ends, and its link.
  side_by : (h k : ℕ) → next h ≡ k → origin m h < m.vertices → origin m h ≢ origin m k → LinkFits m h → SideFits h
  side_by h k e c d l = record {
    corner = c;
    distinct = λ q. d (q ∙ ap (λ (x : ℕ). origin m x) e);
    link = l;
  }

  -- The corner at k is another.
  other_end : (h k : ℕ) → next h ≡ k → SideFits h → origin m h ≢ origin m k
  other_end h k e S q = S.distinct (q ∙ ap (λ (x : ℕ). origin m x) (sym e))

  triangle_is : (t : ℕ) → Decides (triangle_fits m t) (TriangleFits t)
  unfolding triangle_fits
  triangle_is t = is_iff
      (λ ((((g, C), i), j), k). record {
        low = g;
        side =
            by_triangle (λ h. h / 3 ≡ t → SideFits h) t
            (λ _. side_by a b (omega arith) C.a_in_use C.a_not_b i)
            (λ _. side_by b c (omega arith) C.b_in_use C.b_not_c j)
            (λ _. side_by c a (omega arith) C.c_in_use C.c_not_a k)
            (λ h n e. absurd (n e));
      })
      (λ T.
      let A = T.side a (omega arith) in
      let B = T.side b (omega arith) in
      let C = T.side c (omega arith) in (
        (
          (
            (
              T.low,
              record {
                a_in_use = A.corner;
                b_in_use = B.corner;
                c_in_use = C.corner;
                a_not_b = other_end a b (omega arith) A;
                b_not_c = other_end b c (omega arith) B;
                c_not_a = other_end c a (omega arith) C;
              },
            ),
            A.link,
          ),
          B.link,
        ),
        C.link,
      ))
      (is_and (is_and (is_and (is_and (is_le (generation m t) 20)
      (corners_are m.vertices (origin m a) (origin m b) (origin m c)))
      (link_is m a)) (link_is m b)) (link_is m c))
    where
      a : ℕ
      a = 3 * t

      b : ℕ
      b = 3 * t + 1

      c : ℕ
      c = 3 * t + 2

  pub triangles_are : Decides (all m.triangles (triangle_fits m)) ((t : ℕ) → t < m.triangles → TriangleFits t)
  triangles_are = is_all m.triangles (triangle_fits m) TriangleFits (λ t l. triangle_is t)

  -- What is known where all fit.
  module _ (few : sides m < boundary) (F : (t : ℕ) → t < m.triangles → TriangleFits t) where
    fits : (h : ℕ) → h < sides m → SideFits h
    fits h l = (F (h / 3) (omega arith)).side h refl

    pub sound_side_lem : (h : ℕ) → h < sides m → SoundSide m h
    sound_side_lem h l = record {
      corner = (fits h l).corner;
      distinct = (fits h l).distinct;
      linked = links_fit m few (λ k i. (fits k i).link) h l;
    }

    pub sides_glued : Glued m
    sides_glued = record {
      few = few;
      distinct = λ h l. (fits h l).distinct;
      joined = λ h l. linked_joined m h (sound_side_lem h l).linked;
    }

  -- A triangle fits whose sides are sound.
  pub triangle_fits_lem : (t : ℕ) → generation m t ≤ 20 → ((h : ℕ) → h / 3 ≡ t → SoundSide m h) → TriangleFits t
  triangle_fits_lem t g s = record {
    low = g;
    side = λ h e. let S = s h e in
        record { corner = S.corner; distinct = S.distinct; link = link_fits_lem m h S.linked };
  }
