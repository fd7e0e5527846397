-- A refine counts on from what was counted before it.
use Prim.Native.Nat.{ℕ, zero, suc, ◌+◌, ◌*◌, ◌/◌}
use native.Mathlib.Nat.{add-zero, add-suc}
use mathlib.Core.Bool.{Bool, true, false}
use mathlib.Core.List.{List, [], ◌∷◌, append_assoc, append-nil}
use mathlib.Core.Path.{◌≡◌, refl}
use lib.Dec.{ltb}
use Rattle.rules.specs.Promises.{added}
use Rattle.rules.specs.Split.{Work, at_first, with_split, with_flip, flip, face_placed, rim_placed, settle, settle_all}
use Rattle.rules.specs.Split.{face_split, rim_split, split_at, chain_end, raise, refine}
use Rattle.rules.specs.Tables.{with_topology, link, is_base, generation, odd}

module _ (w : Work) where
  either : (b : Bool) (x y : Work) {x' y' : Work} → x' ≡ added w x → y' ≡ added w y
      → ◌≡◌ {A = Work} (elim b [ true ↦ x' | false ↦ y' ]) (added w (elim b [ true ↦ x | false ↦ y ]))
  either true x y e f = e
  either false x y e f = f

  settle_adds : (s : ℕ) (r : Work) → settle s (added w r) ≡ added w (settle s r)
  unfolding settle
  settle_adds s r =
      let m = r.mesh.topology in
      let h = link m (3 * s) in
      either (is_base m h) (with_flip s (h / 3) (with_topology (flip s (h / 3) m) r.mesh) r) r (rw (add-suc, append_assoc)) refl

  settle_all_adds : (l : List ℕ) (r : Work) → settle_all l (added w r) ≡ added w (settle_all l r)
  settle_all_adds [] r = refl
  settle_all_adds (s ∷ l) r = rw settle_adds (settle_all_adds l (settle s r))

  split_at_adds : (t : ℕ) (r : Work) → split_at t (added w r) ≡ added w (split_at t r)
  unfolding face_split rim_split
  split_at_adds t r =
      let f = r.mesh.topology.triangles in
      either (odd (generation r.mesh.topology t)) (rim_split t r) (face_split t r)
      (rw (← add-suc, append_assoc) (settle_all_adds (t ∷ (f + 1) ∷ []) (with_split t (rim_placed t r.mesh) r)))
      (rw (← add-suc, append_assoc) (settle_all_adds (t ∷ f ∷ (f + 1) ∷ []) (with_split t (face_placed t r.mesh) r)))

  raise_adds : (n g t : ℕ) (r : Work) → raise n g t (added w r) ≡ added w (raise n g t r)
  unfolding raise
  raise_adds zero g t r = refl
  raise_adds (suc n) g t r =
      let m = r.mesh.topology in
      let split = split_at (chain_end m t) r in
      either (ltb g (generation m t)) r (raise n g t split) refl (rw split_at_adds (raise_adds n g t split))

pub refine_adds : (t : ℕ) (w : Work) → refine t w ≡ added w (refine t (at_first w.mesh))
unfolding refine
refine_adds t w =
    let g = generation w.mesh.topology t in
    simp (add-zero, append-nil) at (raise_adds w (suc g) g t (at_first w.mesh))
