-- A mesh copied into spare tables is as sound, is refused and is refined as the mesh itself.
use mathlib.Core.Path.{◌≡◌, refl, sym, ◌∙◌, subst}
use mathlib.Core.Logic.{◌⊎◌, inl, inr}
use mathlib.Core.Bool.{Bool, not}
use mathlib.Core.List.{List, [], ◌∷◌}
use Prim.Native.Nat.{ℕ, ◌+◌, ◌*◌, ◌/◌, ◌≤◌, ◌<◌}
use native.Mathlib.Omega.{arith}
use native.Mathlib.Decide.{dec_lt}
use lib.Dec.{leb}
use lib.IntN.{pos}
use lib.ListN.{get_or}
use Rattle.theory.proofs.Calls.Carried.{RefineFound, refine_found, found_refined}
use Rattle.theory.proofs.Chains.Altering.{SameWays, ways_back, alters_in, alters_locked_is}
use Rattle.theory.proofs.Links.Manifold.{partnered}
use Rattle.theory.proofs.Links.Past.{joined_below}
use Rattle.theory.proofs.Links.Renaming.{fan_map}
use Rattle.theory.proofs.Links.Sides.{next_lt, previous_lt}
use Rattle.theory.proofs.Numbers.Decide.{is_le, is_iff, is_same, is_true}
use Rattle.theory.proofs.Soundness.Relaxed.{SameSlots, sound_manifold, agree_on}
use Rattle.theory.proofs.Soundness.SoundTest.{tables_agree_is, sound_is}
use Rattle.theory.proofs.Spares.Copies.{copy_is, copy_of}
use Rattle.theory.proofs.Spares.CopiedWork.{Over, SlotsOf, chain_end_same, chain_odd_same, refine_over}
use Rattle.theory.proofs.Splits.Bases.{reached}
use Rattle.rules.specs.Calls.{Test, ◌if◌, first_of, room_for, rim_splits_of, vertices_of, triangles_of, too_old}
use Rattle.rules.specs.Calls.{refine_refusal, alters_locked}
use Rattle.rules.specs.Conditions.{RoomFor}
use Rattle.rules.specs.Sound.{Linked, Sound, here, turn}
use Rattle.rules.specs.Spares.{Spares, copied, mesh_in, SameSizes}
use Rattle.rules.specs.Split.{Work, at_first, with_mesh, chain_end_within, chain_odd, refine}
use Rattle.rules.specs.Tables.{Mesh, topology_of, mesh_of, sides, next, previous, origin, link, boundary}
use Rattle.rules.specs.Tables.{generation, coordinate, lock, TablesAgree, vertex_slots, triangle_slots}

-- The mesh m, copied into the tables s.
abbrev pub over : Spares → Mesh → Mesh
over s m = mesh_in (copied m s) m

-- The tables s agree and have slots for what m has in use.
pub record Holds (s : Spares) (m : Mesh) : Type 0 where
  pub tables : TablesAgree (mesh_in s m)
  pub vertex_room : m.topology.vertices ≤ vertex_slots (mesh_in s m)
  pub triangle_room : m.topology.triangles ≤ triangle_slots (mesh_in s m)

-- Those of its sizes do.
pub same_holds : {s : Spares} {m : Mesh} → SameSizes s m → Sound m → Holds s m
same_holds L S = record {
  tables =
      agree_on S.tables (record {
        positions = L.positions;
        corners = L.corners;
        links = L.links;
        generations = L.generations;
        locks = L.locks;
      });
  vertex_room = omega (arith, S.vertex_room, L.positions);
  triangle_room = omega (arith, S.triangle_room, L.generations);
}

-- What refuses a refine of t in sound tables, where there is room for it or not.
abbrev pub refine_tests : ℕ → Mesh → Bool → List Test
refine_tests t m room =
    8 if leb m.topology.triangles t
    ∷ 9 if too_old m.topology t
    ∷ 19 if alters_locked t m
    ∷ 11 if not room
    ∷ []

-- The tables of n have room for what refining t makes of m.
abbrev pub room_in : Mesh → ℕ → Mesh → Bool
room_in n t m = room_for (vertices_of m.topology t) (triangles_of m.topology t) n

pub sound_refusal : (t : ℕ) {m : Mesh} → Sound m → refine_refusal t m ≡ first_of (refine_tests t m (room_in m t m))
unfolding refine_refusal
sound_refusal t {m} S =
    rw (is_same (tables_agree_is m) (is_true S.tables), is_same (sound_is m) (is_true S)) refl

module _ {s : Spares} {m : Mesh} (H : Holds s m) (S : Sound m) where
  begun : Over m (mesh_in s m) m.topology.vertices m.topology.triangles (at_first m) (at_first (over s m))
  unfolding copied
  begun =
      let B = H.tables in
      record {
        counts = (refl, refl);
        copy_counts = (refl, refl);
        tables = record {
          corners = copy_of (omega (arith, B.corners, H.triangle_room)) refl S.corner;
          links =
              copy_of (omega (arith, B.links, H.triangle_room)) refl
              (λ h l. joined_below m.topology _ h (omega arith) ((sound_manifold S).linked h l));
          generations = copy_of H.triangle_room refl (λ _ _. tt);
        };
        positions = copy_of (omega (arith, B.positions, H.vertex_room)) refl (λ _ _. tt);
        locks = copy_of (omega (arith, B.locks, H.triangle_room)) refl (λ _ _. tt);
        rule = refl;
        splits = refl;
        flips = refl;
        report = refl;
      }

  sizes : SameSlots (mesh_in s m) (over s m)
  sizes = record {
    positions = begun.positions.copy_size;
    corners = begun.tables.corners.copy_size;
    links = begun.tables.links.copy_size;
    generations = begun.tables.generations.copy_size;
    locks = begun.locks.copy_size;
  }

  pub corner_same : (h : ℕ) → h < sides m.topology → origin (over s m).topology h ≡ origin m.topology h
  corner_same h l = (begun.tables.corners.used h l).0

  pub link_same : (h : ℕ) → h < sides m.topology → link (over s m).topology h ≡ link m.topology h
  link_same h l = (begun.tables.links.used h l).0

  pub generation_same : (t : ℕ) → t < m.topology.triangles
      → generation (over s m).topology t ≡ generation m.topology t
  generation_same t l = (begun.tables.generations.used t l).0

  pub lock_same : (t : ℕ) → t < m.topology.triangles → lock (over s m) t ≡ lock m t
  lock_same t l = (begun.locks.used t l).0

  pub position_same : (i : ℕ) → i < 3 * m.topology.vertices
      → get_or (over s m).positions i (pos 0) ≡ get_or m.positions i (pos 0)
  position_same i l = (begun.positions.used i l).0

  pub coordinate_same : (v k : ℕ) → v < m.topology.vertices → k < 3
      → coordinate (over s m) v k ≡ coordinate m v k
  coordinate_same v k l i = position_same (3 * v + k) (omega arith)

  -- ---- soundness

  pub held_sound : Sound (over s m)
  held_sound = record {
    tables = agree_on H.tables sizes;
    some_vertex = S.some_vertex;
    some_triangle = S.some_triangle;
    vertex_room = omega (arith, H.vertex_room, sizes.positions);
    triangle_room = omega (arith, H.triangle_room, sizes.generations);
    corner = λ h l. rw (corner_same h l) (S.corner h l);
    distinct = λ h l. rw (corner_same h l, corner_same (next h) (next_lt h _ l)) (S.distinct h l);
    linked = λ h l. linked h l (S.linked h l);
    fans = λ v l.
        fan_map m.topology (over s m).topology (λ h. h)
        (λ h i j. turn here (link_same (previous h) (previous_lt h _ i)) j) v (λ h i. (i, corner_same h i))
        (λ h i e. (h, i, sym (corner_same h i) ∙ e, here)) (S.fans v l);
    range = λ i l. rw (position_same i l) (S.range i l);
    generations = λ t l. rw (generation_same t l) (S.generations t l);
    locks = λ t l. rw (lock_same t l) (S.locks t l);
    rule = S.rule;
  }
    where
      linked : (h : ℕ) → h < sides m.topology → (link m.topology h ≡ boundary) ⊎ Linked m.topology h
          → (link (over s m).topology h ≡ boundary) ⊎ Linked (over s m).topology h
      linked h l (inl e) = inl (link_same h l ∙ e)
      linked h l (inr M) =
          let e = link_same h l in
          let k = link m.topology h in
          let i = M.in_use in
          inr (record {
            in_use = rw e i;
            back = rw e (link_same k i ∙ M.back);
            from = rw e (corner_same k i ∙ M.from ∙ sym (corner_same (next h) (next_lt h _ l)));
            onto = rw e (corner_same (next k) (next_lt k _ i) ∙ M.onto ∙ sym (corner_same h l));
            kind =
                rw (e, generation_same (h / 3) (omega arith), generation_same (k / 3) (omega arith)) M.kind;
          })

  -- ---- refusals

  same_ways : SameWays m.topology.triangles m.topology (over s m).topology
  same_ways = record {
    generations = generation_same;
    links = link_same;
    in_use = λ h l n. (partnered ((sound_manifold S).linked h l) n).in_use;
  }

  module _ (t : ℕ) (l : t < m.topology.triangles) where
    rim_splits_same : rim_splits_of (over s m).topology t ≡ rim_splits_of m.topology t
    rim_splits_same =
        let g = generation m.topology t in
        let c = chain_end_same begun.tables g t l in
        rw (generation_same t l, c.0, generation_same (chain_end_within g m.topology t) c.1)

    odd_same : chain_odd (over s m).topology t ≡ chain_odd m.topology t
    odd_same = rw (generation_same t l) (chain_odd_same begun.tables (generation m.topology t) t l)

    old_same : too_old (over s m).topology t ≡ too_old m.topology t
    old_same = rw (generation_same t l, link_same (3 * t) (omega arith))

    altered_same : alters_locked t (over s m) ≡ alters_locked t m
    altered_same =
        is_same (alters_locked_is t (over s m) held_sound l)
        (is_iff
        (λ (x, (u, e), A). (x, (u, lock_same x u ∙ e), alters_in same_ways l u A))
        (λ (x, (u, e), A). (x, (u, sym (lock_same x u) ∙ e), alters_in (ways_back same_ways) l u A))
        (alters_locked_is t m S l))

    room_same : room_in (over s m) t (over s m) ≡ room_in (mesh_in s m) t m
    room_same = rw (rim_splits_same, odd_same, sizes.positions, sizes.generations)

  -- The tests are those of m, with room in the tables s.
  pub held_refusal : (t : ℕ) → refine_refusal t (over s m) ≡ first_of (refine_tests t m (room_in (mesh_in s m) t m))
  held_refusal t = sound_refusal t held_sound ∙ go (dec_lt t m.topology.triangles)
    where
      go : Dec (t < m.topology.triangles)
          → first_of (refine_tests t (over s m) (room_in (over s m) t (over s m)))
          ≡ first_of (refine_tests t m (room_in (mesh_in s m) t m))
      go (yes l) = rw (old_same t l, altered_same t l, room_same t l)
      go (no l) = rw (is_same (is_le m.topology.triangles t) (is_true (omega arith)))

-- ---- refines

-- Work in copied tables has made the copy of what the other has made.
over_is : {s : Spares} {m : Mesh} {w x : Work} → TablesAgree (mesh_in s m)
    → (v : ℕ) × (f : ℕ) × Over m (mesh_in s m) v f w x → SlotsOf m (mesh_in s m) (reached w)
    → x ≡ with_mesh (over s w.mesh) w
unfolding copied
over_is {s} {m} {w} {x} B (v, f, O) Z =
    let n : Mesh = mesh_in s m in
    let P : Over m n (reached w).vertices (reached w).triangles w x =
    subst (λ (v : ℕ). Over m n v (reached w).triangles w x) (sym O.counts.0)
    (subst (λ (f : ℕ). Over m n v f w x) (sym O.counts.1) O) in
    λ i. record {
      mesh = mesh_of (topology_of (P.copy_counts.0 i) (P.copy_counts.1 i)
          (copy_is (omega (arith, B.corners, Z.triangles)) P.tables.corners i)
          (copy_is (omega (arith, B.links, Z.triangles)) P.tables.links i)
          (copy_is (omega (arith, Z.triangles)) P.tables.generations i))
          (copy_is (omega (arith, B.positions, Z.vertices)) P.positions i)
          (copy_is (omega (arith, B.locks, Z.triangles)) P.locks i)
          (P.rule i);
      splits = P.splits i;
      flips = P.flips i;
      report = P.report i;
    }

-- Where s has the slots for it too.
pub held_refine : {s : Spares} {m : Mesh} {t : ℕ} → Holds s m → RefineFound t m
    → RoomFor (vertices_of m.topology t) (triangles_of m.topology t) (mesh_in s m)
    → let w = refine t (at_first m) in
    refine t (at_first (over s m)) ≡ with_mesh (over s w.mesh) w
held_refine {s} {m} {t} H R N =
    let X = found_refined R in
    let Z : SlotsOf m (mesh_in s m) (reached (refine t (at_first m))) =
    record {
      vertices = omega (arith, X.vertices, R.room.vertices, N.vertices);
      triangles = omega (arith, X.triangles, R.room.triangles, N.triangles);
    } in
    over_is H.tables
    (refine_over R.sound.tables H.tables (begun H R.sound) t R.in_use Z) Z

-- ---- in tables of the sizes of m

module _ {s : Spares} {m : Mesh} (L : SameSizes s m) where
  pub over_sound : Sound m → Sound (over s m)
  over_sound S = held_sound (same_holds L S) S

  pub over_refusal : Sound m → (t : ℕ) → refine_refusal t (over s m) ≡ refine_refusal t m
  over_refusal S t =
      rw (held_refusal (same_holds L S) S t, sound_refusal t S, L.positions, L.generations) refl

  pub over_refine : (t : ℕ) → refine_refusal t m ≡ 0 →
      let w = refine t (at_first m) in
      refine t (at_first (over s m)) ≡ with_mesh (over s w.mesh) w
  over_refine t z =
      let R = refine_found t _ z in
      held_refine (same_holds L R.sound) R (record {
        vertices = omega (arith, R.room.vertices, L.positions);
        triangles = omega (arith, R.room.triangles, L.generations);
      })
