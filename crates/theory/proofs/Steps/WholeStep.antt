-- The whole step on a sound mesh without boundary whose triangles are all of one even generation.
use mathlib.Core.Path.{◌≡◌, sym, ◌∙◌, subst}
use mathlib.Core.Logic.{◌≢◌}
use Prim.Native.Nat.{ℕ, suc, ◌+◌, ◌*◌, ◌/◌, ◌%◌, ◌≤◌, ◌<◌}
use native.Mathlib.Omega.{arith}
use native.Mathlib.Decide.{dec_lt}
use lib.ListN.{length, get_or}
use lib.IntN.{pos}
use Rattle.theory.proofs.Splits.Bases.{reached}
use Rattle.theory.proofs.Splits.Edges.{edges_boundary, boundary_none}
use Rattle.theory.proofs.Splits.Splitting.{Room}
use Rattle.theory.proofs.Chains.Refine.{sound_room}
use Rattle.theory.proofs.Soundness.Relaxed.{sound_manifold, sound_bases, manifold_sound, agree_on}
use Rattle.theory.proofs.Splits.Unlocking.{locks_fit}
use Rattle.theory.proofs.Rings.RingVertices.{ring_coordinates, ring_some}
use Rattle.theory.proofs.Steps.StepPositions.{length_move, move_else, move_past, move_at}
use Rattle.theory.proofs.Steps.StepPositions.{moved_coordinate_in_range}
use Rattle.theory.proofs.Steps.StepTopology.{Midway, refine_even, refine_first_lem, two_up}
use Rattle.theory.proofs.Numbers.Sums.{total_zero}
use Rattle.rules.specs.Conditions.{RoomFor, ClosedEven}
use Rattle.rules.specs.Numbers.{InRange, KnownRule}
use Rattle.rules.specs.Promises.{StepMakes, odds}
use Rattle.rules.specs.Sound.{Sound}
use Rattle.rules.specs.Split.{Work, at_first, face_split, refine}
use Rattle.rules.specs.Step.{moved_coordinate, move_vertices, refine_first, whole_step}
use Rattle.rules.specs.Tables.{Topology, Mesh, TablesAgree, generation}

pub none_odd : (m : Topology) → ((t : ℕ) → t < m.triangles → generation m t % 2 ≡ 0) → odds m ≡ 0
unfolding odds
none_odd m e = total_zero m.triangles (λ t. generation m t % 2) e

-- A mesh that a step takes has no odd triangle.
pub closed_none_odd : {m : Topology} → ClosedEven m → odds m ≡ 0
closed_none_odd {m} C = none_odd m (λ t l. rw (C.all t l) C.even)

-- The step on its way, and the next triangle, which it refines by a split.
module _ (m : Mesh) (S : Sound m) (C : ClosedEven m.topology)
    (R : RoomFor m.topology.triangles (2 * m.topology.triangles) m) where
  pub room : Room m.topology.triangles m.topology
  room = sound_room m.topology.triangles S.tables R

  pub slots : 3 * (m.topology.vertices + m.topology.triangles) ≤ length m.positions
  slots = omega (arith, S.tables.positions, R.vertices)

  pub midway : (i : ℕ) → i ≤ m.topology.triangles
      → Midway C.common i (at_first m) (refine_first i (at_first m))
  midway =
      refine_first_lem C.common C.even (at_first m) (sound_manifold S) (sound_bases S) C.all room slots

  pub next_split : (i : ℕ) → i < m.topology.triangles
      → refine i (refine_first i (at_first m)) ≡ face_split i (refine_first i (at_first m))
  next_split i l =
      refine_even C.common C.even (at_first m) (sound_manifold S) (sound_bases S) C.all room slots i
      (refine_first i (at_first m)) l (midway i (omega arith))

  pub all_up : (t : ℕ) → t < (reached (refine_first m.topology.triangles (at_first m))).triangles
      → generation (reached (refine_first m.topology.triangles (at_first m))) t ≡ suc (suc C.common)
  all_up =
      two_up C.common C.even (at_first m) (sound_manifold S) (sound_bases S) C.all room slots
      (boundary_none m.topology C.closed)

module _ (m : Mesh) (S : Sound m) (C : ClosedEven m.topology) (young : C.common ≢ 20)
    (R : RoomFor m.topology.triangles (2 * m.topology.triangles) m) where
  g : ℕ
  g = C.common

  f : ℕ
  f = m.topology.triangles

  w : Work
  w = refine_first f (at_first m)

  M : Midway g f (at_first m) w
  unfolding g f w
  M = midway m S C R f (omega arith)

  up : (t : ℕ) → t < (reached w).triangles → generation (reached w) t ≡ suc (suc g)
  unfolding g f w
  up = all_up m S C R

  -- 20 is the only even generation above 18.
  low : g ≤ 18
  unfolding g
  low =
      let a = C.all 0 S.some_triangle in
      let b = S.generations 0 S.some_triangle in
      let c = C.even in
      omega arith

  moved_range : (v k : ℕ) → v < m.topology.vertices → k < 3 → InRange (moved_coordinate m v k)
  moved_range v k l i =
      moved_coordinate_in_range m v k (S.range (3 * v + k) (omega arith)) (ring_coordinates S v l k i)
      (ring_some S v l)

  fits : 3 * m.topology.vertices ≤ length w.mesh.positions
  unfolding w g f
  fits = let p = M.places.size in omega (arith, S.tables.positions, S.vertex_room)

  moved_to : (v k : ℕ) → v < m.topology.vertices → k < 3
      → get_or (move_vertices m.topology.vertices m w.mesh.positions) (3 * v + k) (pos 0) ≡ moved_coordinate m v k
  moved_to v k l i = move_at m v k i m.topology.vertices w.mesh.positions fits l

  range : (i : ℕ) → i < 3 * (reached w).vertices
      → InRange (get_or (move_vertices m.topology.vertices m w.mesh.positions) i (pos 0))
  unfolding w g f
  range i l = go (dec_lt (i / 3) m.topology.vertices)
    where
      room_there : 3 * (reached w).vertices ≤ length w.mesh.positions
      room_there = omega (arith, M.places.size, M.vertices, slots m S C R)

      go : Dec (i / 3 < m.topology.vertices)
          → InRange (get_or (move_vertices m.topology.vertices m w.mesh.positions) i (pos 0))
      go (yes q) =
          let e : 3 * (i / 3) + i % 3 ≡ i = omega arith in
          subst (λ (j : ℕ). InRange (get_or (move_vertices m.topology.vertices m w.mesh.positions) j (pos 0))) e
          (subst InRange (sym (moved_to (i / 3) (i % 3) q (omega arith))) (moved_range (i / 3) (i % 3) q (omega arith)))
      go (no q) =
          subst InRange (sym (move_else m.topology.vertices m w.mesh.positions i (omega arith)))
          (M.places.range room_there S.range i l)

  pub step_makes : StepMakes C.common m (whole_step m)
  unfolding whole_step w g f
  step_makes =
      let t = M.triangles in
      let v = M.vertices in
      let U = M.places.locks in
      let size : length (move_vertices m.topology.vertices m w.mesh.positions) ≡ length m.positions =
      length_move m.topology.vertices m w.mesh.positions ∙ M.places.size in
      let A : TablesAgree (whole_step m).mesh =
      agree_on S.tables (record {
        positions = size;
        corners = M.corners;
        links = M.links;
        generations = M.generations;
        locks = U.size;
      }) in
      let o : odds (reached w) ≡ 0 = none_odd (reached w) (λ x l. two_even (up x l) C.even) in
      let o' : odds m.topology ≡ 0 = closed_none_odd C in
      let past = M.past (reached w).triangles (omega arith) in
      record {
        sound =
            manifold_sound (whole_step m).mesh A M.manifold M.bases_meet (omega (arith, S.some_vertex))
            (omega (arith, S.some_triangle)) (omega (arith, R.vertices))
            (λ x l. let u = up x l in let y = low in omega arith) range (locks_fit U S.locks)
            (subst KnownRule (sym M.places.rule) S.rule);
        splits = omega (arith, M.splits);
        flips = omega (arith, M.odd);
        vertices = v;
        triangles = omega arith;
        edges =
            let old = edges_boundary m.topology (sound_manifold S) in
            omega (arith, M.boundary_count, old, edges_boundary (reached w) M.manifold);
        generations = λ x l. let u = up x l in omega arith;
        locks = record { old = U.same.old; new = U.same.new };
        moved = moved_to;
        placed = λ x k l i.
            move_else m.topology.vertices m w.mesh.positions (3 * (m.topology.vertices + x) + k) (omega arith)
            ∙ M.centres x k l i;
        rule = M.places.rule;
        past = record {
          corner_slots = M.corners;
          link_slots = M.links;
          generation_slots = M.generations;
          lock_slots = U.size;
          position_slots = size;
          corners = past.corners;
          links = past.links;
          generations = past.generations;
          locks = U.past (reached w).triangles (omega arith);
          positions =
              move_past m.topology.vertices m w.mesh.positions (reached w).vertices (omega arith)
              ∙ M.places.past (reached w).vertices (omega arith);
        };
      }
    where
      two_even : {x g : ℕ} → x ≡ suc (suc g) → g % 2 ≡ 0 → x % 2 ≡ 0
      two_even e q = omega arith
