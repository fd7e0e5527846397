-- The test of soundness, part by part in the order of the code.
use Prim.Native.Nat.{ℕ, ◌*◌, ◌≤◌, ◌<◌}
use native.Mathlib.Omega.{arith}
use mathlib.Core.Bool.{Bool, ◌&&◌}
use mathlib.Core.Path.{◌≡◌}
use lib.Dec.{leb}
use lib.IntN.{pos}
use lib.ListN.{get_or}
use Rattle.theory.proofs.Numbers.Decide.{Decides, is_le, is_iff, is_then, is_and, is_all, is_same}
use Rattle.theory.proofs.Rings.FanTest.{one_fan_is}
use Rattle.theory.proofs.Soundness.SoundTest.{SoundSide, in_range_is, known_rule_is, tables_agree_is, sound_is}
use Rattle.rules.specs.Below.{all}
use Rattle.rules.specs.Numbers.{InRange, in_range, KnownRule}
use Rattle.rules.specs.Sound.{OneFan, Sound, has_one_fan, is_sound}
use Rattle.rules.specs.Tables.{Mesh, TablesAgree, tables_agree, vertex_slots, triangle_slots, sides, boundary}
use Rattle.rules.specs.Tables.{lock}
use Rattle.soundness.proofs.Triangles.{TriangleFits, triangles_are, sound_side_lem, sides_glued, triangle_fits_lem}
use Rattle.tables.specs.Lent.{spares_now}
use Rattle.sides.specs.Parts.{Room}
use Rattle.soundness.specs.Parts.{counts_fit, is_surface}

module _ (m : Mesh) where
  pub record CountsFit : Type 0 where
    pub rule : KnownRule m.rule
    pub some_vertex : 1 ≤ m.topology.vertices
    pub some_triangle : 1 ≤ m.topology.triangles
    pub vertex_room : m.topology.vertices ≤ vertex_slots m
    pub triangle_room : m.topology.triangles ≤ triangle_slots m

  pub counts_are : Decides (counts_fit m) CountsFit
  counts_are = is_iff
      (λ ((((r, v), f), p), s). record { rule = r; some_vertex = v; some_triangle = f; vertex_room = p; triangle_room = s })
      (λ C. ((((C.rule, C.some_vertex), C.some_triangle), C.vertex_room), C.triangle_room))
      (is_and (is_and (is_and (is_and (known_rule_is m.rule) (is_le 1 m.topology.vertices))
      (is_le 1 m.topology.triangles))
      (is_le m.topology.vertices (vertex_slots m))) (is_le m.topology.triangles (triangle_slots m)))

  -- What is known before the triangles are tested.
  module _ (A : TablesAgree m) (C : CountsFit) where
    pub room : Room m.topology.triangles (spares_now m.positions m.topology.corners m.topology.links m.topology.generations m.locks)
    room = record {
      few_slots = A.few_triangles;
      corner_room = omega (arith, A.corners);
      link_room = omega (arith, A.links);
      triangle_room = C.triangle_room;
    }

    few : sides m.topology < boundary
    few = omega (arith, A.few_triangles, C.triangle_room)

    side : ((t : ℕ) → t < m.topology.triangles → TriangleFits m.topology t) → (h : ℕ) → h < sides m.topology
        → SoundSide m.topology h
    side = sound_side_lem m.topology few

  -- What a sound mesh gives.
  module _ (S : Sound m) where
    counts : CountsFit
    counts = record {
      rule = S.rule;
      some_vertex = S.some_vertex;
      some_triangle = S.some_triangle;
      vertex_room = S.vertex_room;
      triangle_room = S.triangle_room;
    }

    triangle : (t : ℕ) → t < m.topology.triangles → TriangleFits m.topology t
    triangle t l = triangle_fits_lem m.topology t (S.generations t l) (λ h e.
        let i : h < sides m.topology = omega arith in
        record { corner = S.corner h i; distinct = S.distinct h i; linked = S.linked h i })

  abbrev pub coordinate_fits : ℕ → Bool
  coordinate_fits i = in_range (get_or m.positions i (pos 0))

  abbrev pub lock_fits : ℕ → Bool
  lock_fits t = leb (lock m t) 1

  pub parts : is_sound m
      ≡ (tables_agree m && counts_fit m && all (3 * m.topology.vertices) coordinate_fits
      && all m.topology.triangles lock_fits && is_surface m.topology)
  parts = is_same (sound_is m)
      (is_iff
      (λ ((((A, C), R), K), (F, fans)). record {
        tables = A;
        some_vertex = C.some_vertex;
        some_triangle = C.some_triangle;
        vertex_room = C.vertex_room;
        triangle_room = C.triangle_room;
        corner = λ h l. (side A C F h l).corner;
        distinct = λ h l. (side A C F h l).distinct;
        linked = λ h l. (side A C F h l).linked;
        fans = fans;
        range = R;
        generations = λ t l. (F t l).low;
        locks = K;
        rule = C.rule;
      })
      (λ S. ((((S.tables, counts S), S.range), S.locks), (triangle S, S.fans)))
      (is_then (is_and (is_and (is_and (tables_agree_is m) counts_are)
      (is_all (3 * m.topology.vertices) coordinate_fits (λ i. InRange (get_or m.positions i (pos 0)))
      (λ i l. in_range_is (get_or m.positions i (pos 0)))))
      (is_all m.topology.triangles lock_fits (λ t. lock m t ≤ 1) (λ t l. is_le (lock m t) 1)))
      (λ (((A, C), R), K). is_then (triangles_are m.topology)
      (λ F. is_all m.topology.vertices (has_one_fan m.topology) (OneFan m.topology)
      (λ v l. one_fan_is m.topology (sides_glued m.topology (few A C) F) v)))))
