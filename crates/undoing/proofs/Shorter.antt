-- Tables cut to fewer slots: a mesh that fits into them is as sound, is refused and is refined as in the whole ones.
use mathlib.Core.Path.{◌≡◌, refl, sym, ap, subst, ◌∙◌}
use mathlib.Core.Bool.{Bool, true, false, not}
use mathlib.Core.List.{[], ◌∷◌}
use Prim.Native.Nat.{ℕ, ◌+◌, ◌*◌, ◌≤◌}
use native.Mathlib.Omega.{arith}
use lib.Dec.{T, leb}
use lib.IntN.{pos}
use lib.ListN.{length, take}
use lib.Seq.{length-take-le}
use Rattle.theory.proofs.Calls.CallRefusals.{room_is}
use Rattle.theory.proofs.Calls.Carried.{RefineFound, found_refined}
use Rattle.theory.proofs.Chains.Going.{going_begins, going_on, same_past}
use Rattle.theory.proofs.Numbers.Decide.{is_same, is_true}
use Rattle.theory.proofs.Spares.CopiedBack.{tables_of}
use Rattle.theory.proofs.Spares.Copies.{copied_part, copied_same}
use Rattle.theory.proofs.Spares.OverSpares.{over, Holds, held_sound, refine_tests, room_in, sound_refusal}
use Rattle.theory.proofs.Spares.OverSpares.{held_refusal, held_refine}
use Rattle.rules.specs.Calls.{◌if◌, first_of, vertices_of, triangles_of, too_old, alters_locked, refine_refusal}
use Rattle.rules.specs.Conditions.{RoomFor}
use Rattle.rules.specs.Promises.{SamePast}
use Rattle.rules.specs.Sound.{Sound}
use Rattle.rules.specs.Spares.{Spares, copied, mesh_in}
use Rattle.rules.specs.Split.{Work, at_first, with_mesh, refine}
use Rattle.rules.specs.Tables.{Mesh, TablesAgree, topology_of, mesh_of, sides, vertex_slots, triangle_slots}
use Rattle.undoing.specs.Trying.{cut}

-- The tables of m agree and have these slots, which what is in use fits into.
pub record Fits (v f : ℕ) (m : Mesh) : Type 0 where
  pub tables : TablesAgree m
  pub vertex_slots : v ≤ vertex_slots m
  pub triangle_slots : f ≤ triangle_slots m
  pub vertices : m.topology.vertices ≤ v
  pub triangles : m.topology.triangles ≤ f

-- What refining t makes fits into them too.
pub record FitsRefined (v f t : ℕ) (m : Mesh) : Type 0 where
  pub vertices : m.topology.vertices + vertices_of m.topology t ≤ v
  pub triangles : m.topology.triangles + triangles_of m.topology t ≤ f

-- A mesh of the slots of m, copied into the cut tables of m.
copied_cut : {v f : ℕ} {m n : Mesh} → SamePast m n → Fits v f n
    → copied n (tables_of (cut v f m)) ≡ tables_of (cut v f n)
unfolding copied
copied_cut {v} {f} {m} {n} P W =
    let t = n.topology in
    let A = W.tables in
    λ i. record {
      positions =
          copied_part (pos 0) (3 * t.vertices) (3 * v) m.positions n.positions (omega (arith, W.vertices))
          (omega (arith, A.positions, W.vertex_slots)) P.position_slots P.positions i;
      corners =
          copied_part 0 (sides t) (3 * f) m.topology.corners t.corners (omega (arith, W.triangles))
          (omega (arith, A.corners, W.triangle_slots)) P.corner_slots P.corners i;
      links =
          copied_part 0 (sides t) (3 * f) m.topology.links t.links (omega (arith, W.triangles))
          (omega (arith, A.links, W.triangle_slots)) P.link_slots P.links i;
      generations =
          copied_part 0 t.triangles f m.topology.generations t.generations W.triangles
          W.triangle_slots P.generation_slots P.generations i;
      locks =
          copied_part 0 t.triangles f m.locks n.locks W.triangles
          (omega (arith, A.locks, W.triangle_slots)) P.lock_slots P.locks i;
    }

-- Where nothing is refused, the last test passes.
last_passes : (a b c d : Bool) → first_of (8 if a ∷ 9 if b ∷ 19 if c ∷ 11 if not d ∷ []) ≡ 0 → T d
last_passes true b c d z = absurd (omega arith)
last_passes false true c d z = absurd (omega arith)
last_passes false false true d z = absurd (omega arith)
last_passes false false false true z = tt
last_passes false false false false z = absurd (omega arith)

module _ {v f : ℕ} {m : Mesh} (W : Fits v f m) where
  -- ---- the cut mesh is a copy, and the whole one is a copy of it

  cut_positions : length (take (3 * v) m.positions) ≡ 3 * v
  cut_positions = length-take-le (3 * v) m.positions (omega (arith, W.tables.positions, W.vertex_slots))

  cut_generations : length (take f m.topology.generations) ≡ f
  cut_generations = length-take-le f m.topology.generations W.triangle_slots

  pub cut_slots : (vertex_slots (cut v f m) ≡ v) × (triangle_slots (cut v f m) ≡ f)
  cut_slots = (omega (arith, cut_positions), cut_generations)

  cut_holds : Holds (tables_of (cut v f m)) m
  cut_holds =
      let A = W.tables in
      let p = cut_positions in
      let g = cut_generations in
      let c = length-take-le (3 * f) m.topology.corners (omega (arith, A.corners, W.triangle_slots)) in
      let l = length-take-le (3 * f) m.topology.links (omega (arith, A.links, W.triangle_slots)) in
      let k = length-take-le f m.locks (omega (arith, A.locks, W.triangle_slots)) in
      record {
        tables = record {
          positions = omega (arith, p);
          corners = omega (arith, c, g);
          links = omega (arith, l, g);
          locks = omega (arith, k, g);
          few_vertices = omega (arith, p, A.few_vertices, W.vertex_slots);
          few_triangles = omega (arith, g, A.few_triangles, W.triangle_slots);
        };
        vertex_room = omega (arith, p, W.vertices);
        triangle_room = omega (arith, g, W.triangles);
      }

  cut_is : over (tables_of (cut v f m)) m ≡ cut v f m
  cut_is =
      ap (λ (s : Spares). mesh_in s m)
      (copied_cut {m = m} (record {
        corner_slots = refl;
        link_slots = refl;
        generation_slots = refl;
        lock_slots = refl;
        position_slots = refl;
        corners = refl;
        links = refl;
        generations = refl;
        locks = refl;
        positions = refl;
      }) W)

  whole_holds : Holds (tables_of m) (cut v f m)
  whole_holds = record {
    tables = W.tables;
    vertex_room = omega (arith, W.vertices, W.vertex_slots);
    triangle_room = omega (arith, W.triangles, W.triangle_slots);
  }

  whole_is : over (tables_of m) (cut v f m) ≡ m
  unfolding copied
  whole_is =
      let t = m.topology in
      let A = W.tables in
      λ i. mesh_of
      (topology_of t.vertices t.triangles
      (copied_same 0 (sides t) (3 * f) t.corners (omega (arith, W.triangles))
      (omega (arith, A.corners, W.triangles, W.triangle_slots)) i)
      (copied_same 0 (sides t) (3 * f) t.links (omega (arith, W.triangles))
      (omega (arith, A.links, W.triangles, W.triangle_slots)) i)
      (copied_same 0 t.triangles f t.generations W.triangles
      (omega (arith, W.triangles, W.triangle_slots)) i))
      (copied_same (pos 0) (3 * t.vertices) (3 * v) m.positions (omega (arith, W.vertices))
      (omega (arith, A.positions, W.vertices, W.vertex_slots)) i)
      (copied_same 0 t.triangles f m.locks W.triangles
      (omega (arith, A.locks, W.triangles, W.triangle_slots)) i)
      m.rule

  -- ---- soundness

  pub cut_sound : Sound m → Sound (cut v f m)
  cut_sound S = subst Sound cut_is (held_sound cut_holds S)

  pub whole_sound : Sound (cut v f m) → Sound m
  whole_sound S = subst Sound whole_is (held_sound whole_holds S)

  -- ---- refusals

  cut_room : (t : ℕ) → FitsRefined v f t m
      → RoomFor (vertices_of m.topology t) (triangles_of m.topology t) (cut v f m)
  cut_room t F = record {
    vertices = omega (arith, F.vertices, cut_slots.0);
    triangles = omega (arith, F.triangles, cut_slots.1);
  }

  module _ (t : ℕ) (S : Sound m) where
    -- The tests are those of m, with room in the cut tables.
    pub cut_refusal : refine_refusal t (cut v f m) ≡ first_of (refine_tests t m (room_in (cut v f m) t m))
    cut_refusal = ap (refine_refusal t) (sym cut_is) ∙ held_refusal cut_holds S t

    -- Where what it makes fits, the refusal is that of m.
    pub cut_refusal_same : FitsRefined v f t m → refine_refusal t (cut v f m) ≡ refine_refusal t m
    cut_refusal_same F =
        let a : RoomFor (vertices_of m.topology t) (triangles_of m.topology t) m =
        record {
          vertices = omega (arith, F.vertices, W.vertex_slots);
          triangles = omega (arith, F.triangles, W.triangle_slots);
        } in
        cut_refusal
        ∙ ap (λ (room : Bool). first_of (refine_tests t m room))
        (is_same (room_is _ _ (cut v f m)) (is_true (cut_room t F)) ∙ sym (is_same (room_is _ _ m) (is_true a)))
        ∙ sym (sound_refusal t S)

    -- It is 0 exactly where that of m is, and what the refine makes fits.
    pub cut_carried_out : refine_refusal t (cut v f m) ≡ 0 → (refine_refusal t m ≡ 0) × FitsRefined v f t m
    cut_carried_out z =
        let R =
        (room_is _ _ (cut v f m)).holds
        (last_passes (leb m.topology.triangles t) (too_old m.topology t) (alters_locked t m)
        (room_in (cut v f m) t m) (sym cut_refusal ∙ z)) in
        let F : FitsRefined v f t m =
        record {
          vertices = omega (arith, R.vertices, cut_slots.0);
          triangles = omega (arith, R.triangles, cut_slots.1);
        } in
        (sym (cut_refusal_same F) ∙ z, F)

-- ---- refines

module _ {v f t : ℕ} {m : Mesh} (W : Fits v f m) (R : RefineFound t m) (F : FitsRefined v f t m) where
  pub refined_fits : Fits v f (refine t (at_first m)).mesh
  refined_fits =
      let X = found_refined R in
      record {
        tables = X.sound.tables;
        vertex_slots = omega (arith, X.places.size, W.vertex_slots);
        triangle_slots = omega (arith, X.generation_room, W.triangle_slots);
        vertices = omega (arith, X.vertices, F.vertices);
        triangles = omega (arith, X.triangles, F.triangles);
      }

  pub cut_refine :
      let w = refine t (at_first m) in
      refine t (at_first (cut v f m)) ≡ with_mesh (cut v f w.mesh) w
  cut_refine =
      let w : Work = refine t (at_first m) in
      ap (λ (n : Mesh). refine t (at_first n)) (sym (cut_is W))
      ∙ held_refine (cut_holds W) R (cut_room W t F)
      ∙ ap (λ (s : Spares). with_mesh (mesh_in s w.mesh) w)
      (copied_cut (same_past (going_on (going_begins R.sound) R)) refined_fits)
