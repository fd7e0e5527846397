-- The test of soundness says whether the tables are sound.
use mathlib.Core.Path.{◌≡◌}
use mathlib.Core.Logic.{◌≢◌, ◌⊎◌}
use Prim.Native.Nat.{ℕ, ◌*◌, ◌≤◌, ◌<◌}
use native.Mathlib.Omega.{arith}
use lib.ListN.{length, get_or}
use lib.Dec.{leb}
use lib.IntN.{ℤ, pos, neg_ℤ}
use lib.Signed.{◌≤ℤ◌, le_z}
use Rattle.theory.proofs.Numbers.Decide.{Decides, is_self, is_eq, is_lt, is_le, is_not, is_iff, is_then, is_and}
use Rattle.theory.proofs.Numbers.Decide.{is_or}
use Rattle.theory.proofs.Numbers.Decide.{is_all}
use Rattle.theory.proofs.Rings.FanTest.{one_fan_is}
use Rattle.theory.proofs.Soundness.Relaxed.{linked_joined}
use Rattle.theory.proofs.Rings.Turning.{Glued}
use Rattle.rules.specs.Numbers.{InRange, max_coordinate, in_range, KnownRule, known_rule}
use Rattle.rules.specs.Sound.{Linked, OneFan, Sound, role, five_kinds, is_linked, sound_side, has_one_fan, is_sound}
use Rattle.rules.specs.Tables.{Topology, Mesh, TablesAgree, sides, origin, target, boundary, link, generation}
use Rattle.rules.specs.Tables.{vertex_slots, triangle_slots, tables_agree, lock}

pub le_is : (a b : ℤ) → Decides (le_z a b) (a ≤ℤ b)
le_is a b = record { holds = λ t. record { le = t }; passes = λ x. x.le }

pub in_range_is : (z : ℤ) → Decides (in_range z) (InRange z)
in_range_is z =
    is_iff (λ x. record { low = x.0; high = x.1 }) (λ r. (r.low, r.high))
    (is_and (le_is (neg_ℤ (pos max_coordinate)) z) (le_is z (pos max_coordinate)))

pub tables_agree_is : (m : Mesh) → Decides (tables_agree m) (TablesAgree m)
unfolding tables_agree
tables_agree_is m =
    is_iff
    (λ (((((p, c), l), k), v), t). record {
      positions = p;
      corners = c;
      links = l;
      locks = k;
      few_vertices = v;
      few_triangles = t;
    })
    (λ A. (((((A.positions, A.corners), A.links), A.locks), A.few_vertices), A.few_triangles))
    (is_and (is_and (is_and (is_and (is_and
    (is_eq (length m.positions) (3 * vertex_slots m))
    (is_eq (length m.topology.corners) (3 * triangle_slots m)))
    (is_eq (length m.topology.links) (3 * triangle_slots m)))
    (is_eq (length m.locks) (triangle_slots m)))
    (is_le (vertex_slots m) 32768))
    (is_le (triangle_slots m) 65536))

-- ---- one side

module _ (m : Topology) (h : ℕ) where
  pub linked_is : Decides (is_linked m h) (Linked m h)
  unfolding is_linked
  linked_is =
      let k : ℕ = link m h in
      is_iff
      (λ ((((u, b), f), o), r). record { in_use = u; back = b; from = f; onto = o; kind = r })
      (λ L. ((((L.in_use, L.back), L.from), L.onto), L.kind))
      (is_and (is_and (is_and (is_and
      (is_lt k (sides m))
      (is_eq (link m k) h))
      (is_eq (origin m k) (target m h)))
      (is_eq (target m k) (origin m h)))
      (is_self (five_kinds (role m h) (role m k))))

  pub record SoundSide : Type 0 where
    pub corner : origin m h < m.vertices
    pub distinct : origin m h ≢ target m h
    pub linked : (link m h ≡ boundary) ⊎ Linked m h

  pub sound_side_is : Decides (sound_side m h) SoundSide
  unfolding sound_side
  sound_side_is =
      is_iff (λ ((c, d), l). record { corner = c; distinct = d; linked = l })
      (λ S. ((S.corner, S.distinct), S.linked))
      (is_and (is_and (is_lt (origin m h) m.vertices) (is_not (is_eq (origin m h) (target m h))))
      (is_or (is_eq (link m h) boundary) linked_is))

-- ---- the whole

-- The rule is 1 or 2.
pub known_rule_is : (rule : ℕ) → Decides (known_rule rule) (KnownRule rule)
known_rule_is rule = is_or (is_eq rule 1) (is_eq rule 2)

-- What is tested before the fans is what the walks need.
pub glued : (m : Mesh) → TablesAgree m → m.topology.triangles ≤ triangle_slots m
    → ((h : ℕ) → h < sides m.topology → SoundSide m.topology h) → Glued m.topology
glued m A f s = record {
  few = omega (arith, A.few_triangles);
  distinct = λ h l. (s h l).distinct;
  joined = λ h l. linked_joined m.topology h (s h l).linked;
}

-- The test says of every mesh whether it is sound.
pub sound_is : (m : Mesh) → Decides (is_sound m) (Sound m)
unfolding is_sound
sound_is m =
    is_iff
    (λ ((((((((((tables, vertex), triangle), vertices), triangles), side), fans), range), generations), locks), rule).
    record {
      tables = tables;
      some_vertex = vertex;
      some_triangle = triangle;
      vertex_room = vertices;
      triangle_room = triangles;
      corner = λ h l. (side h l).corner;
      distinct = λ h l. (side h l).distinct;
      linked = λ h l. (side h l).linked;
      fans = fans;
      range = range;
      generations = generations;
      locks = locks;
      rule = rule;
    })
    (λ S.
    let side : (h : ℕ) → h < sides t → SoundSide t h =
    λ h l. record { corner = S.corner h l; distinct = S.distinct h l; linked = S.linked h l } in (
      (
        (
          (
            ((((((S.tables, S.some_vertex), S.some_triangle), S.vertex_room), S.triangle_room), side), S.fans),
            S.range,
          ),
          S.generations,
        ),
        S.locks,
      ),
      S.rule,
    ))
    (is_and (is_and (is_and (is_and (is_then (is_and (is_and (is_and (is_and (is_and
    (tables_agree_is m)
    (is_le 1 t.vertices))
    (is_le 1 t.triangles))
    (is_le t.vertices (vertex_slots m)))
    (is_le t.triangles (triangle_slots m)))
    (is_all (sides t) (sound_side t) (SoundSide t) (λ h l. sound_side_is t h)))
    (λ (((((tables, _), _), _), triangles), side).
    is_all t.vertices (has_one_fan t) (OneFan t) (λ v l. one_fan_is t (glued m tables triangles side) v)))
    (is_all (3 * t.vertices) (λ i. in_range (at i)) (λ i. InRange (at i)) (λ i l. in_range_is (at i))))
    (is_all t.triangles (λ x. leb (generation t x) 20) (λ x. generation t x ≤ 20)
    (λ x l. is_le (generation t x) 20)))
    (is_all t.triangles (λ x. leb (lock m x) 1) (λ x. lock m x ≤ 1) (λ x l. is_le (lock m x) 1)))
    (known_rule_is m.rule))
  where
    t : Topology
    t = m.topology

    at : ℕ → ℤ
    at i = get_or m.positions i (pos 0)
