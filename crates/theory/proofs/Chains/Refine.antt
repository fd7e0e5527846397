-- Refining one triangle of a sound mesh.
use mathlib.Core.Path.{◌≡◌, sym, subst}
use mathlib.Core.Logic.{◌≢◌, inl, inr}
use Prim.Native.Nat.{ℕ, zero, suc, ◌+◌, ◌-◌, ◌*◌, ◌≤◌, ◌<◌, max}
use native.Mathlib.Omega.{arith}
use lib.ListN.{length}
use Rattle.theory.proofs.Splits.Reported.{Telling}
use Rattle.theory.proofs.Splits.Bases.{reached}
use Rattle.theory.proofs.Chains.Chain.{Path, ends, Way, path_short, path_fit, path_counts, path_inside}
use Rattle.theory.proofs.Chains.Chain.{path_outside, way}
use Rattle.theory.proofs.Splits.Edges.{edges_boundary}
use Rattle.theory.proofs.Splits.Splitting.{Room}
use Rattle.theory.proofs.Links.Manifold.{Manifold, BasesMeetIn}
use Rattle.theory.proofs.Links.Past.{Past}
use Rattle.theory.proofs.Splits.Places.{Places}
use Rattle.theory.proofs.Splits.Unlocking.{locks_fit}
use Rattle.theory.proofs.Chains.Raise.{Raised, raise_chain, raise_own}
use Rattle.theory.proofs.Soundness.Relaxed.{sound_manifold, sound_bases, manifold_sound, agree_on}
use Rattle.theory.proofs.Chains.Runs.{top_of, rim_of}
use Rattle.theory.proofs.Splits.Settled.{nowhere}
use Rattle.rules.specs.Calls.{splits_of, rim_splits_of, vertices_of, triangles_of}
use Rattle.rules.specs.Conditions.{OddInChain, Takes, even_end, boundary_end, RoomFor, TooOld, Splittable}
use Rattle.rules.specs.Conditions.{is_even, on_boundary}
use Rattle.rules.specs.History.{edges}
use Rattle.rules.specs.Numbers.{KnownRule}
use Rattle.rules.specs.Promises.{RisesBy, Still, odds}
use Rattle.rules.specs.Sound.{Sound}
use Rattle.rules.specs.Split.{Work, at_first, chain_end, chain_odd, refine}
use Rattle.rules.specs.Tables.{Mesh, TablesAgree, generation, vertex_slots}

-- What a refine of t that makes s splits, q of them rim splits, makes of the mesh m.
pub record Refined (t s q : ℕ) (m : Mesh) (w : Work) : Type 0 where
  pub sound : Sound w.mesh
  pub splits : w.splits ≡ s
  pub odd : 2 * w.flips + odds (reached w) + 2 * q ≡ odds m.topology + 3 * s
  pub vertices : (reached w).vertices ≡ m.topology.vertices + s + q
  pub triangles : (reached w).triangles ≡ m.topology.triangles + 2 * s
  pub edges : edges (reached w) ≡ edges m.topology + 3 * s + q
  pub rises : generation m.topology t < generation (reached w) t
  pub rises_by : RisesBy t m.topology (reached w)
  pub still : Still m.topology (reached w)
  pub corner_room : length (reached w).corners ≡ length m.topology.corners
  pub link_room : length (reached w).links ≡ length m.topology.links
  pub generation_room : length (reached w).generations ≡ length m.topology.generations
  pub past : (b : ℕ) → (reached w).triangles ≤ b → Past b m.topology (reached w)
  pub places : Places m w.mesh
  pub telling : Telling (at_first m) w

pub sound_room : {m : Mesh} {v : ℕ} (s : ℕ) → TablesAgree m → RoomFor v (2 * s) m → Room s m.topology
sound_room s A R = record {
  corners = omega (arith, A.corners, R.triangles);
  links = omega (arith, A.links, R.triangles);
  generations = R.triangles;
}

-- The base chain of a triangle: its odd triangles are counted, and a refine takes at most half of the generations up to
-- that of the triangle.
module _ (t : ℕ) (m : Mesh) (S : Sound m) (b : t < m.topology.triangles) where
  the_way : Way (generation m.topology t) m.topology t
  the_way = way (generation m.topology t) m.topology (sound_manifold S) (sound_bases S) t b (omega arith)

  pub chain_path :
      Path m.topology t (chain_end m.topology t) (chain_odd m.topology t - rim_splits_of m.topology t)
  chain_path =
      let W = the_way in
      let e : W.steps ≡ chain_odd m.topology t - rim_splits_of m.topology t = omega (arith, W.counts) in
      subst (Path m.topology t (chain_end m.topology t)) e W.path

  pub chain_counts : OddInChain m.topology t (chain_odd m.topology t)
  chain_counts = let W = the_way in subst (OddInChain m.topology t) (sym W.counts) (path_counts W.path)

  pub chain_bound : 2 * (chain_odd m.topology t - rim_splits_of m.topology t) ≤ generation m.topology t + 1
  chain_bound = path_short (sound_manifold S) (sound_bases S) b chain_path

  -- The splits that the calls compute are those that the conditions speak of.
  pub chain_takes : Takes m.topology t (splits_of m.topology t) (rim_splits_of m.topology t)
  chain_takes = go (path_fit chain_path)
    where
      go : Splittable m.topology (chain_end m.topology t)
          → Takes m.topology t (splits_of m.topology t) (rim_splits_of m.topology t)
      go (is_even e) =
          let z : max 1 (chain_odd m.topology t) ≡ max 1 (chain_odd m.topology t - 0) = omega arith in
          rw e (subst (λ (s : ℕ). Takes m.topology t s 0) z (even_end chain_counts (path_inside chain_path e)))
      go (on_boundary o e) = rw o (boundary_end chain_counts (path_outside chain_path o))

module _ (t : ℕ) (m : Mesh) (S : Sound m) (b : t < m.topology.triangles) (young : ¬ TooOld m.topology t) where
  F : Manifold m.topology
  F = sound_manifold S

  K : BasesMeetIn nowhere m.topology
  K = sound_bases S

  refined_of : (top s q : ℕ) → suc top ≤ 20 → m.topology.vertices + s + q ≤ vertex_slots m → (w : Work)
      → Raised t top s q (at_first m) w → Refined t s q m w
  refined_of top s q i room w X =
      let A : TablesAgree w.mesh =
      agree_on S.tables (record {
        positions = X.places.size;
        corners = X.corner_room;
        links = X.link_room;
        generations = X.generation_room;
        locks = X.places.locks.size;
      }) in
      let p = X.places.size in
      let v : (reached w).vertices ≤ vertex_slots w.mesh = omega (arith, X.vertices) in
      record {
        sound = manifold_sound w.mesh A X.manifold X.bases_meet (omega (arith, X.vertices, S.some_vertex))
            (omega (arith, X.triangles, S.some_triangle)) v (X.most 20 S.generations i)
            (X.places.range (omega (arith, A.positions)) S.range) (locks_fit X.places.locks S.locks)
            (subst KnownRule (sym X.places.rule) S.rule);
        splits = omega (arith, X.splits);
        odd = omega (arith, X.odd);
        vertices = X.vertices;
        triangles = X.triangles;
        edges =
            omega (
              arith,
              X.triangles,
              X.boundary_count,
              edges_boundary m.topology F,
              edges_boundary (reached w) X.manifold,
            );
        rises = X.rises;
        rises_by = X.rises_by;
        still = X.still;
        corner_room = X.corner_room;
        link_room = X.link_room;
        generation_room = X.generation_room;
        past = X.past;
        places = X.places;
        telling = X.telling;
      }

  below : generation m.topology t < 20
  below = let g = S.generations t b in let n : generation m.topology t ≢ 20 = λ e. young (inl e) in omega arith

  low_top : (x : Splittable m.topology t) → suc (top_of m.topology t) ≤ 20
  low_top (is_even e) = let g = below in omega arith
  low_top (on_boundary o e) =
      let g = below in
      let n : generation m.topology t ≢ 19 = λ q. young (inr (q, e)) in
      omega arith

  -- A sound mesh is refined to a sound mesh, by as many splits as its chain has odd triangles before its end, and
  -- at least one.
  refine_path : (k v : ℕ) → Path m.topology t v k
      → RoomFor (max 1 k + rim_of m.topology v) (2 * max 1 k) m
      → Refined t (max 1 k) (rim_of m.topology v) m (refine t (at_first m))
  unfolding refine F K
  refine_path zero v (ends x) R =
      refined_of (top_of m.topology t) 1 (rim_of m.topology t) (low_top x) (omega (arith, R.vertices))
      (refine t (at_first m))
      (raise_own (generation m.topology t) t (at_first m) x F K b (sound_room 1 S.tables R))
  refine_path (suc k) v p R =
      let j : 2 * suc k ≤ generation m.topology t + 1 = path_short F K b p in
      let g = below in
      let z : max 1 (suc k) ≡ suc k = omega arith in
      let R' : RoomFor (suc k + rim_of m.topology v) (2 * suc k) m =
      subst (λ (y : ℕ). RoomFor (y + rim_of m.topology v) (2 * y) m) z R in
      subst (λ (y : ℕ). Refined t y (rim_of m.topology v) m (refine t (at_first m))) (sym z)
      (refined_of (generation m.topology t) (suc k) (rim_of m.topology v) (omega arith)
      (omega (arith, R'.vertices)) (refine t (at_first m))
      (raise_chain k (suc (generation m.topology t)) t v (at_first m) F K b p (omega arith)
      (sound_room (suc k) S.tables R')))

  -- Where there is room.
  pub refine_refined : RoomFor (vertices_of m.topology t) (triangles_of m.topology t) m
      → Refined t (splits_of m.topology t) (rim_splits_of m.topology t) m (refine t (at_first m))
  refine_refined =
      refine_path (chain_odd m.topology t - rim_splits_of m.topology t) (chain_end m.topology t)
      (chain_path t m S b)
