-- Refines, whole steps, limit positions and curves of a mirrored mesh. What a split places is not rounded by the rule,
-- nor are the points of a curve.
use Prim.Native.Nat.{ℕ, zero, suc, ◌+◌, ◌*◌, ◌/◌, ◌%◌, ◌<◌}
use native.Mathlib.Omega.{arith}
use mathlib.Core.Bool.{Bool, true, false}
use mathlib.Core.List.{List, [], ◌∷◌}
use mathlib.Core.Path.{◌≡◌, refl, sym}
use lib.Dec.{ltb}
use lib.IntN.{ℤ}
use lib.ListN.{length}
use Rattle.theory.proofs.Mirrors.MirrorTables.{put_mirror, fill_mirror, coordinate_mirror}
use Rattle.theory.proofs.Mirrors.Opposites.{mirror_zero, mirror_sum, mirror_third, mirror_moved, mirror_limit}
use Rattle.theory.proofs.Mirrors.Opposites.{mirror_smoothed}
use Rattle.rules.specs.Below.{fill}
use Rattle.rules.specs.Mirror.{mirror_at, mirror_table, mirror}
use Rattle.rules.specs.Rim.{curve_at}
use Rattle.rules.specs.Split.{Work, at_first, with_split, with_flip, with_mesh, flip, third_of, centre, first_third}
use Rattle.rules.specs.Split.{second_third, face_placed, rim_placed, settle, settle_all, face_split, rim_split}
use Rattle.rules.specs.Split.{split_at, chain_end, raise, refine}
use Rattle.rules.specs.Step.{sum_over, moved_coordinate, move_vertices, refine_first, whole_step, limit_coordinate}
use Rattle.rules.specs.Step.{limit_positions}
use Rattle.rules.specs.Tables.{Mesh, with_topology, link, is_base, generation, odd}

-- Work on the mirrored mesh.
abbrev pub mirror_work : ℕ → Work → Work
mirror_work k w = with_mesh (mirror k w.mesh) w

module _ (k : ℕ) where
  third_mirror : (h i j : ℕ) (m : Mesh) (t c : ℕ) → c < 3
      → third_of h i j (mirror k m) t c ≡ mirror_at k c (third_of h i j m t c)
  third_mirror h i j m t c b = simp (coordinate_mirror k m, mirror_sum, mirror_third)

  split_mirror : (t : ℕ) (m : Mesh) → face_placed t (mirror k m) ≡ mirror k (face_placed t m)
  unfolding face_placed centre
  split_mirror t m = rw (put_mirror k m.positions _ (centre m t) (centre (mirror k m) t) (third_mirror 0 1 2 m t))

  rim_mirror : (t : ℕ) (m : Mesh) → rim_placed t (mirror k m) ≡ mirror k (rim_placed t m)
  unfolding rim_placed first_third second_third
  rim_mirror t m =
      rw (
        put_mirror k m.positions _ (first_third m t) (first_third (mirror k m) t) (third_mirror 0 0 1 m t),
        put_mirror k _ _ (second_third m t) (second_third (mirror k m) t) (third_mirror 0 1 1 m t),
      )

  -- A test of the topology goes the same way.
  pub either : (b : Bool) (x y : Work) {x' y' : Work} → x' ≡ mirror_work k x → y' ≡ mirror_work k y
      → ◌≡◌ {A = Work} (elim b [ true ↦ x' | false ↦ y' ]) (mirror_work k (elim b [ true ↦ x | false ↦ y ]))
  either true x y e f = e
  either false x y e f = f

  settle_mirror : (s : ℕ) (w : Work) → settle s (mirror_work k w) ≡ mirror_work k (settle s w)
  unfolding settle
  settle_mirror s w =
      let m = w.mesh.topology in
      let h = link m (3 * s) in
      either (is_base m h) (with_flip s (h / 3) (with_topology (flip s (h / 3) m) w.mesh) w) w refl refl

  settle_all_mirror : (l : List ℕ) (w : Work) → settle_all l (mirror_work k w) ≡ mirror_work k (settle_all l w)
  settle_all_mirror [] w = refl
  settle_all_mirror (s ∷ l) w = rw settle_mirror (settle_all_mirror l (settle s w))

  split_at_mirror : (t : ℕ) (w : Work) → split_at t (mirror_work k w) ≡ mirror_work k (split_at t w)
  unfolding face_split rim_split
  split_at_mirror t w =
      let f = w.mesh.topology.triangles in
      either (odd (generation w.mesh.topology t)) (rim_split t w) (face_split t w)
      (rw rim_mirror (settle_all_mirror (t ∷ (f + 1) ∷ []) (with_split t (rim_placed t w.mesh) w)))
      (rw split_mirror (settle_all_mirror (t ∷ f ∷ (f + 1) ∷ []) (with_split t (face_placed t w.mesh) w)))

  raise_mirror : (n g t : ℕ) (w : Work) → raise n g t (mirror_work k w) ≡ mirror_work k (raise n g t w)
  unfolding raise
  raise_mirror zero g t w = refl
  raise_mirror (suc n) g t w =
      let m = w.mesh.topology in
      let split = split_at (chain_end m t) w in
      either (ltb g (generation m t)) w (raise n g t split) refl (rw split_at_mirror (raise_mirror n g t split))

  pub refine_mirror : (t : ℕ) (w : Work) → refine t (mirror_work k w) ≡ mirror_work k (refine t w)
  unfolding refine
  refine_mirror t w = raise_mirror _ _ t w

  refine_first_mirror : (n : ℕ) (w : Work) → refine_first n (mirror_work k w) ≡ mirror_work k (refine_first n w)
  unfolding refine_first
  refine_first_mirror zero w = refl
  refine_first_mirror (suc n) w = rw (refine_first_mirror n w) (refine_mirror n (refine_first n w))

  curve_at_mirror : (m : Mesh) (l : List ℕ) (i : ℕ) → curve_at (mirror k m) l i ≡ mirror_at k (i % 3) (curve_at m l i)
  unfolding curve_at
  curve_at_mirror m l i =
      let j : i % 3 < 3 = omega arith in
      simp (coordinate_mirror k m, mirror_smoothed)

  pub curve_mirror : (m : Mesh) (l : List ℕ) (table : List ℤ)
      → fill (9 * length l) (curve_at (mirror k m) l) (mirror_table k table)
      ≡ mirror_table k (fill (9 * length l) (curve_at m l) table)
  curve_mirror m l table = fill_mirror k (9 * length l) (curve_at m l) _ table (λ i b. curve_at_mirror m l i)

  -- ---- what is rounded by the rule

  sum_mirror : (m : Mesh) (j : ℕ) → j < 3 → (vs : List ℕ)
      → sum_over (mirror k m) j vs ≡ mirror_at k j (sum_over m j vs)
  unfolding sum_over
  sum_mirror m j b [] = sym (mirror_zero k j)
  sum_mirror m j b (v ∷ vs) = rw (coordinate_mirror k m v j b, sum_mirror m j b vs, mirror_sum)

  module _ (m : Mesh) (two : m.rule ≡ 2) where
    moved_mirror : (v j : ℕ) → j < 3 → moved_coordinate (mirror k m) v j ≡ mirror_at k j (moved_coordinate m v j)
    unfolding moved_coordinate
    moved_mirror v j b = simp (coordinate_mirror k m, sum_mirror m, mirror_moved k j two)

    limit_mirror : (v j : ℕ) → j < 3 → limit_coordinate (mirror k m) v j ≡ mirror_at k j (limit_coordinate m v j)
    unfolding limit_coordinate
    limit_mirror v j b = simp (coordinate_mirror k m, sum_mirror m, mirror_limit k j two)

    move_mirror : (n : ℕ) (l : List ℤ)
        → move_vertices n (mirror k m) (mirror_table k l) ≡ mirror_table k (move_vertices n m l)
    unfolding move_vertices
    move_mirror zero l = refl
    move_mirror (suc v) l =
        rw (put_mirror k l v (moved_coordinate m v) (moved_coordinate (mirror k m) v) (moved_mirror v)) (move_mirror v _)

    pub step_mirror : whole_step (mirror k m) ≡ mirror_work k (whole_step m)
    unfolding whole_step
    step_mirror =
        rw (refine_first_mirror m.topology.triangles (at_first m), move_mirror m.topology.vertices _)

    pub limits_mirror : (table : List ℤ)
        → limit_positions (mirror k m) (mirror_table k table) ≡ mirror_table k (limit_positions m table)
    unfolding limit_positions
    limits_mirror table =
        fill_mirror k (3 * m.topology.vertices) (λ i. limit_coordinate m (i / 3) (i % 3)) _ table
        (λ i b. limit_mirror (i / 3) (i % 3) (omega arith))
