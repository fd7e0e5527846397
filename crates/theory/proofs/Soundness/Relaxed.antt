-- Sound meshes are the manifolds with agreeing tables in which no two bases meet: the five kinds traded for levels.
use mathlib.Core.Path.{◌≡◌, sym, subst}
use mathlib.Core.Logic.{◌⊎◌, inl, inr}
use Prim.Native.Nat.{ℕ, ◌*◌, ◌/◌, ◌%◌, ◌≤◌, ◌<◌}
use native.Mathlib.Omega.{arith}
use lib.ListN.{length, get_or}
use lib.IntN.{pos}
use Rattle.theory.proofs.Splits.Bases.{boundary_not_base}
use Rattle.theory.proofs.Soundness.FiveKinds.{kind_level, kind_bases, level_kind}
use Rattle.theory.proofs.Links.Manifold.{Manifold, Joined, Base, BasesMeetIn}
use Rattle.theory.proofs.Splits.Settled.{nowhere}
use Rattle.rules.specs.Numbers.{InRange, KnownRule}
use Rattle.rules.specs.Sound.{Linked, Sound}
use Rattle.rules.specs.Tables.{Topology, Mesh, TablesAgree, boundary, link, generation, lock, vertex_slots}

module _ (m : Topology) (h : ℕ) where
  pub linked_joined : (link m h ≡ boundary) ⊎ Linked m h → Joined m h
  linked_joined (inl e) = inl e
  linked_joined (inr M) = inr (record {
    in_use = M.in_use;
    back = M.back;
    from = M.from;
    onto = M.onto;
    level = sym (kind_level (generation m (h / 3)) (h % 3) (generation m (link m h / 3)) (link m h % 3) M.kind);
  })

  joined_linked : (Base m h → Base m (link m h) → nowhere (h / 3) ⊎ nowhere (link m h / 3)) → Joined m h
      → (link m h ≡ boundary) ⊎ Linked m h
  joined_linked n (inl e) = inl e
  joined_linked n (inr M) = inr (record {
    in_use = M.in_use;
    back = M.back;
    from = M.from;
    onto = M.onto;
    kind = level_kind (generation m (h / 3)) (h % 3) (generation m (link m h / 3)) (link m h % 3) (sym M.level)
        (λ a b. elim (n a b) [ inl x ↦ x | inr x ↦ x ]);
  })

-- A sound mesh is a manifold.
pub sound_manifold : {m : Mesh} → Sound m → Manifold m.topology
sound_manifold {m} S = record {
  slots = S.tables.few_triangles;
  link_slots = omega (arith, S.tables.links, S.tables.few_triangles);
  corner_room = omega (arith, S.tables.corners, S.triangle_room);
  link_room = omega (arith, S.tables.links, S.triangle_room);
  generation_room = S.triangle_room;
  corner = S.corner;
  distinct = S.distinct;
  linked = λ h l. linked_joined m.topology h (S.linked h l);
  fan = S.fans;
}

-- In a sound mesh no two bases meet.
pub sound_bases : {m : Mesh} → Sound m → BasesMeetIn nowhere m.topology
sound_bases {m} S h l a b = go (S.linked h l)
  where
    t : Topology
    t = m.topology

    go : (link t h ≡ boundary) ⊎ Linked t h → nowhere (h / 3) ⊎ nowhere (link t h / 3)
    go (inl e) = absurd (boundary_not_base t (sound_manifold S) (subst (Base t) e b))
    go (inr M) =
        absurd (kind_bases (generation t (h / 3)) (h % 3) (generation t (link t h / 3)) (link t h % 3) M.kind a b)

-- A manifold in which no two bases meet is sound, where the tables agree and hold what a sound mesh asks of each
-- vertex and triangle alone, and the rule is known.
pub manifold_sound : (m : Mesh) → TablesAgree m → Manifold m.topology → BasesMeetIn nowhere m.topology
    → 1 ≤ m.topology.vertices → 1 ≤ m.topology.triangles → m.topology.vertices ≤ vertex_slots m
    → ((t : ℕ) → t < m.topology.triangles → generation m.topology t ≤ 20)
    → ((i : ℕ) → i < 3 * m.topology.vertices → InRange (get_or m.positions i (pos 0)))
    → ((t : ℕ) → t < m.topology.triangles → lock m t ≤ 1) → KnownRule m.rule → Sound m
manifold_sound m A F K v f room low near locks known = record {
  tables = A;
  some_vertex = v;
  some_triangle = f;
  vertex_room = room;
  triangle_room = F.generation_room;
  corner = F.corner;
  distinct = F.distinct;
  linked = λ h l. joined_linked m.topology h (K h l) (F.linked h l);
  fans = F.fan;
  range = near;
  generations = low;
  locks = locks;
  rule = known;
}

-- The tables keep their slots, so that they go on agreeing.
pub record SameSlots (m n : Mesh) : Type 0 where
  pub positions : length n.positions ≡ length m.positions
  pub corners : length n.topology.corners ≡ length m.topology.corners
  pub links : length n.topology.links ≡ length m.topology.links
  pub generations : length n.topology.generations ≡ length m.topology.generations
  pub locks : length n.locks ≡ length m.locks

pub agree_on : {m n : Mesh} → TablesAgree m → SameSlots m n → TablesAgree n
agree_on A L = record {
  positions = omega (arith, A.positions, L.positions);
  corners = omega (arith, A.corners, L.corners, L.generations);
  links = omega (arith, A.links, L.links, L.generations);
  locks = omega (arith, A.locks, L.locks, L.generations);
  few_vertices = omega (arith, A.few_vertices, L.positions);
  few_triangles = omega (arith, A.few_triangles, L.generations);
}
