-- Loading a cage: what the tables hold then, and that they are sound.
use mathlib.Core.Path.{◌≡◌, refl, sym, ◌∙◌}
use mathlib.Core.Logic.{◌≢◌, inl, inr}
use mathlib.Core.Bool.{Bool, true, false}
use mathlib.Core.List.{List}
use Prim.Native.Nat.{ℕ, ◌*◌, ◌/◌, ◌≤◌, ◌<◌}
use native.Mathlib.Omega.{arith}
use lib.ListN.{length, get_or, drop}
use lib.Dec.{ltb}
use lib.IntN.{pos}
use Rattle.theory.proofs.Numbers.Decide.{Decides, Lowest, is_eq, is_lt, when_true, when_false, is_and, is_all}
use Rattle.theory.proofs.Numbers.Decide.{lowest_is}
use Rattle.theory.proofs.Rings.FanTest.{one_fan_is}
use Rattle.theory.proofs.Numbers.Fill.{length_fill, get_or_fill, drop_fill}
use Rattle.theory.proofs.Links.Manifold.{Partnered, Manifold, level, Joined, BasesMeetIn, pair}
use Rattle.theory.proofs.Links.Past.{Past}
use Rattle.theory.proofs.Soundness.Relaxed.{manifold_sound, agree_on}
use Rattle.theory.proofs.Splits.Settled.{nowhere}
use Rattle.theory.proofs.Links.Sides.{next_lt}
use Rattle.theory.proofs.Rings.Turning.{Glued}
use Rattle.rules.specs.Below.{lowest}
use Rattle.rules.specs.Cage.{Cage, cage_of, opposite, partner, loaded, fans_fit}
use Rattle.rules.specs.Conditions.{SizesFit, CornersFit, CoordinatesFit, SidesDiffer, FansFit}
use Rattle.rules.specs.Numbers.{KnownRule}
use Rattle.rules.specs.Promises.{Opposite, Matches, only, alone}
use Rattle.rules.specs.Sound.{OneFan, Sound, has_one_fan}
use Rattle.rules.specs.Tables.{Topology, Mesh, TablesAgree, sides, next, origin, target, boundary, link}
use Rattle.rules.specs.Tables.{generation, lock, vertex_slots, triangle_slots, with_rule}

-- ---- the partner of a side

opposite_is : (c : Cage) (h k : ℕ)
    → Decides (opposite c h k) ((c.corner k ≡ c.corner (next h)) × (c.corner (next k) ≡ c.corner h))
opposite_is c h k = is_and (is_eq (c.corner k) (c.corner (next h))) (is_eq (c.corner (next k)) (c.corner h))

pub opposite_back : (c : Cage) (h k : ℕ) → h < 3 * c.triangles → Opposite c h k → Opposite c k h
opposite_back c h k l O = record { in_use = l; from = sym O.onto; onto = sym O.from }

-- A side that is opposite to h is the one that matches it.
pub matches_opposite : {c : Cage} {h j : ℕ} → Matches c h j → (k : ℕ) → Opposite c h k → j ≡ k
matches_opposite (only O u) k P = sym (u k P)
matches_opposite (alone n) k P = absurd (n k P)

module _ (c : Cage) (D : SidesDiffer c) where
  lowest_matches : (h k : ℕ) → Lowest (3 * c.triangles) (opposite c h) k → (b : Bool) → ltb k (3 * c.triangles) ≡ b
      → Matches c h (elim b [ true ↦ k | false ↦ boundary ])
  lowest_matches h k L true e =
      let l = when_true (is_lt k (3 * c.triangles)) e in
      let x = (opposite_is c h k).holds (L.passes l) in
      only (record { in_use = l; from = x.0; onto = x.1 })
      (λ j O. D j k O.in_use l (O.from ∙ sym x.0) (O.onto ∙ sym x.1))
  lowest_matches h k L false e =
      let n = when_false (is_lt k (3 * c.triangles)) e in
      alone (λ j O. L.none j (omega (arith, O.in_use)) ((opposite_is c h j).passes (O.from, O.onto)))

  pub partner_matches : (h : ℕ) → Matches c h (partner c h)
  unfolding partner
  partner_matches h =
      let k : ℕ = lowest (3 * c.triangles) (opposite c h) in
      lowest_matches h k (lowest_is (3 * c.triangles) (opposite c h)) (ltb k (3 * c.triangles)) refl

-- ---- the tables read back

-- n is m with the cage c in its first slots.
pub record Loads (c : Cage) (m n : Mesh) : Type 0 where
  pub vertices : n.topology.vertices ≡ c.vertices
  pub triangles : n.topology.triangles ≡ c.triangles
  pub corners : (h : ℕ) → h < 3 * c.triangles → origin n.topology h ≡ c.corner h
  pub links : (h : ℕ) → h < 3 * c.triangles → link n.topology h ≡ partner c h
  pub generations : (t : ℕ) → t < c.triangles → generation n.topology t ≡ 0
  pub locks : (t : ℕ) → t < c.triangles → lock n t ≡ 0
  pub positions : (i : ℕ) → i < 3 * c.vertices → get_or n.positions i (pos 0) ≡ c.coordinate i
  pub corner_room : length n.topology.corners ≡ length m.topology.corners
  pub link_room : length n.topology.links ≡ length m.topology.links
  pub generation_room : length n.topology.generations ≡ length m.topology.generations
  pub lock_room : length n.locks ≡ length m.locks
  pub position_room : length n.positions ≡ length m.positions

module _ (c : Cage) (m : Mesh) (A : TablesAgree m)
    (vertex_room : c.vertices ≤ vertex_slots m) (triangle_room : c.triangles ≤ triangle_slots m) where
  pub loaded_loads : Loads c m (loaded c m)
  unfolding loaded
  loaded_loads = record {
    vertices = refl;
    triangles = refl;
    corners = λ h l. get_or_fill (3 * c.triangles) c.corner m.topology.corners h 0 (omega (arith, A.corners)) l;
    links = λ h l. get_or_fill (3 * c.triangles) (partner c) m.topology.links h 0 (omega (arith, A.links)) l;
    generations = λ t l. get_or_fill c.triangles (λ i. 0) m.topology.generations t 0 triangle_room l;
    locks = λ t l. get_or_fill c.triangles (λ i. 0) m.locks t 0 (omega (arith, A.locks)) l;
    positions = λ i l.
        get_or_fill (3 * c.vertices) c.coordinate m.positions i (pos 0) (omega (arith, A.positions)) l;
    corner_room = length_fill (3 * c.triangles) c.corner m.topology.corners;
    link_room = length_fill (3 * c.triangles) (partner c) m.topology.links;
    generation_room = length_fill c.triangles (λ i. 0) m.topology.generations;
    lock_room = length_fill c.triangles (λ i. 0) m.locks;
    position_room = length_fill (3 * c.vertices) c.coordinate m.positions;
  }

  pub loaded_agree : TablesAgree (loaded c m)
  loaded_agree =
      let L = loaded_loads in
      agree_on A (record {
        positions = L.position_room;
        corners = L.corner_room;
        links = L.link_room;
        generations = L.generation_room;
        locks = L.lock_room;
      })

  -- All triangles are even, so that there is no base.
  pub load_bases : BasesMeetIn nowhere (loaded c m).topology
  unfolding loaded
  load_bases h l x y = absurd (omega (arith, loaded_loads.generations (h / 3) (omega arith)))

  -- The links are the matching sides.
  pub links_are : SidesDiffer c → (h : ℕ) → h < 3 * c.triangles → Matches c h (link (loaded c m).topology h)
  links_are D h l = rw (loaded_loads.links h l) (partner_matches c D h)

  level_zero : (h : ℕ) → h < 3 * c.triangles → level (loaded c m).topology h ≡ 0
  level_zero h l = rw (loaded_loads.generations (h / 3) (omega arith)) (omega arith)

  target_is : (h : ℕ) → h < 3 * c.triangles → target (loaded c m).topology h ≡ c.corner (next h)
  target_is h l = loaded_loads.corners (next h) (next_lt h c.triangles l)

  opposite_partnered : SidesDiffer c → (h k : ℕ) → h < 3 * c.triangles → link (loaded c m).topology h ≡ k
      → Opposite c h k
      → Partnered (loaded c m).topology h
  unfolding loaded
  opposite_partnered D h k l e O =
      let i = O.in_use in
      pair (loaded c m).topology h k e
      (matches_opposite (links_are D k i) h (opposite_back c h k l O))
      i
      (loaded_loads.corners k i ∙ O.from ∙ sym (target_is h l))
      (target_is k i ∙ O.onto ∙ sym (loaded_loads.corners h l))
      (level_zero k i ∙ sym (level_zero h l))

  pub load_joined : SidesDiffer c → (h : ℕ) → h < sides (loaded c m).topology → Joined (loaded c m).topology h
  unfolding loaded
  load_joined D h l = go (link (loaded c m).topology h) refl (links_are D h l)
    where
      go : (k : ℕ) → link (loaded c m).topology h ≡ k → Matches c h k → Joined (loaded c m).topology h
      go k e (only O u) = inr (opposite_partnered D h k l e O)
      go k e (alone n) = inl e

  pub load_distinct : CornersFit c → (h : ℕ) → h < sides (loaded c m).topology
      → origin (loaded c m).topology h ≢ target (loaded c m).topology h
  unfolding loaded
  load_distinct K h l e = K.distinct h l (sym (loaded_loads.corners h l) ∙ e ∙ target_is h l)

  pub load_manifold : CornersFit c → SidesDiffer c → FansFit c m → Manifold (loaded c m).topology
  unfolding loaded
  load_manifold K D fits =
      let B = loaded_agree in
      let r = loaded_loads.generation_room in
      record {
        slots = B.few_triangles;
        link_slots = omega (arith, B.links, B.few_triangles);
        corner_room = omega (arith, B.corners);
        link_room = omega (arith, B.links);
        generation_room = omega arith;
        corner = λ h l. rw (loaded_loads.corners h l) (K.corner h l);
        distinct = load_distinct K;
        linked = load_joined D;
        fan = fits;
      }

-- ---- soundness

-- A cage that is not refused is loaded as a sound mesh.
pub load_sound : (rule : ℕ) (bytes : List ℕ) (m : Mesh) → TablesAgree m → KnownRule rule → SizesFit bytes m
    → CornersFit (cage_of bytes) → CoordinatesFit (cage_of bytes) → SidesDiffer (cage_of bytes) → FansFit (cage_of bytes) m
    → Sound (with_rule rule (loaded (cage_of bytes) m))
unfolding loaded
load_sound rule bytes m A known S K R D fits =
    let c : Cage = cage_of bytes in
    let L = loaded_loads c m A S.vertex_room S.triangle_room in
    let B = loaded_agree c m A S.vertex_room S.triangle_room in
    manifold_sound (with_rule rule (loaded c m))
    (agree_on B (record { positions = refl; corners = refl; links = refl; generations = refl; locks = refl }))
    (load_manifold c m A S.vertex_room S.triangle_room K D fits)
    (load_bases c m A S.vertex_room S.triangle_room)
    S.some_vertex
    S.some_triangle
    (rw L.position_room S.vertex_room)
    (λ t l. rw (L.generations t l) (omega arith))
    (λ i l. rw (L.positions i l) (R i l))
    (λ t l. rw (L.locks t l) (omega arith))
    known

pub load_glued : (c : Cage) (m : Mesh) → TablesAgree m → c.vertices ≤ vertex_slots m → c.triangles ≤ triangle_slots m
    → CornersFit c → SidesDiffer c → Glued (loaded c m).topology
unfolding loaded
load_glued c m A v f K D = record {
  few = omega (arith, A.few_triangles);
  distinct = load_distinct c m A v f K;
  joined = load_joined c m A v f D;
}

-- The test of all vertices decides whether each has one fan.
pub fans_fit_is : (c : Cage) (m : Mesh) → TablesAgree m → c.vertices ≤ vertex_slots m → c.triangles ≤ triangle_slots m
    → CornersFit c → SidesDiffer c → Decides (fans_fit c m) (FansFit c m)
unfolding fans_fit
fans_fit_is c m A v f K D =
    let t : Topology = (loaded c m).topology in
    is_all c.vertices (has_one_fan t) (OneFan t) (λ x l. one_fan_is t (load_glued c m A v f K D) x)

-- ---- what is left

pub loaded_past : (c : Cage) (m : Mesh) → Past c.triangles m.topology (loaded c m).topology
unfolding loaded
loaded_past c m =
    let f : ℕ = c.triangles in
    record {
      corners = drop_fill (3 * f) c.corner m.topology.corners (3 * f) (omega arith);
      links = drop_fill (3 * f) (partner c) m.topology.links (3 * f) (omega arith);
      generations = drop_fill f (λ i. 0) m.topology.generations f (omega arith);
    }

pub loaded_positions_past : (c : Cage) (m : Mesh)
    → drop (3 * c.vertices) (loaded c m).positions ≡ drop (3 * c.vertices) m.positions
unfolding loaded
loaded_positions_past c m = drop_fill (3 * c.vertices) c.coordinate m.positions (3 * c.vertices) (omega arith)
