-- The restored mesh in tables that are cut to what the present mesh uses.
use mathlib.Core.List.{List}
use mathlib.Core.Path.{◌≡◌, refl, sym, ap, ◌∙◌}
use Prim.Native.Nat.{ℕ, zero, suc, ◌*◌}
use lib.IntN.{pos}
use lib.ListN.{take}
use Rattle.theory.proofs.Numbers.Take.{take_set, take_three}
use Rattle.theory.proofs.Spares.Copies.{copied_all}
use Rattle.rules.specs.Notes.{old_v, old_f, note_slots, note_nine, put_back, put_back_all, restored}
use Rattle.rules.specs.Sound.{Sound}
use Rattle.rules.specs.Spares.{Spares, copied}
use Rattle.rules.specs.Tables.{Mesh, with_topology, with_counts}
use Rattle.refining.proofs.Batching.{has_slots}
use Rattle.tables.specs.declared.Counts.{Counts}
use Rattle.tables.specs.Lent.{mesh_now, mesh_with}
use Rattle.undoing.specs.Trying.{cut, JustSlots}

-- ---- slots put back into cut tables

module _ (note : List ℕ) where
  cut_put_back : (v f i : ℕ) (m : Mesh) → cut v f (put_back note i m) ≡ put_back note i (cut v f m)
  cut_put_back v f i m =
      let at : ℕ → ℕ = note_nine note i in
      let corners = take_three (3 * f) m.topology.corners (at 0) (at 1, at 2, at 3) in
      let links = take_three (3 * f) m.topology.links (at 0) (at 4, at 5, at 6) in
      let generations = take_set f m.topology.generations (at 0) (at 7) in
      let locks = take_set f m.locks (at 0) (at 8) in
      rw (corners, links, generations, locks) refl

  cut_put_back_all : (v f : ℕ) (m : Mesh) (n : ℕ) → cut v f (put_back_all note n m) ≡ put_back_all note n (cut v f m)
  unfolding put_back_all
  cut_put_back_all v f m zero = refl
  cut_put_back_all v f m (suc n) =
      cut_put_back v f n (put_back_all note n m) ∙ ap (put_back note n) (cut_put_back_all v f m n)

  -- Counts do not matter to what is put.
  pub recounted_back : (v f : ℕ) (m : Mesh) (n : ℕ)
      → put_back_all note n (with_topology (with_counts v f m.topology) m)
      ≡ with_topology (with_counts v f (put_back_all note n m).topology) (put_back_all note n m)
  unfolding put_back_all
  recounted_back v f m zero = refl
  recounted_back v f m (suc n) = ap (put_back note n) (recounted_back v f m n)

  restored_cut : (v f : ℕ) (m : Mesh)
      → put_back_all note (note_slots note)
      (cut v f (with_topology (with_counts (old_v note) (old_f note) m.topology) m))
      ≡ cut v f (restored note m)
  unfolding restored
  restored_cut v f m =
      sym (cut_put_back_all v f _ (note_slots note))
      ∙ ap (cut v f) (recounted_back (old_v note) (old_f note) m (note_slots note))

-- ---- the copy of a mesh in tables with just its slots

module _ (n : Counts) (s : Spares) (S : Sound (mesh_with n s)) {room copy : Spares} (J : JustSlots n room)
    (e : copy ≡ copied (mesh_with n s) room) where
  -- The copy is the mesh in cut tables, with whatever counts.
  copy_is_cut : (o : Counts)
      → mesh_with o copy
      ≡ mesh_now o (take (3 * n.vertices) s.positions) (take (3 * n.triangles) s.corners) (take (3 * n.triangles) s.links)
      (take n.triangles s.generations) (take n.triangles s.locks)
  unfolding copied
  copy_is_cut o =
      let R = has_slots n S in
      let positions = ap (λ (x : Spares). x.positions) e ∙ copied_all (pos 0) _ room.positions s.positions R.positions J.positions in
      let corners = ap (λ (x : Spares). x.corners) e ∙ copied_all 0 _ room.corners s.corners R.corners J.corners in
      let links = ap (λ (x : Spares). x.links) e ∙ copied_all 0 _ room.links s.links R.links J.links in
      let generations =
      ap (λ (x : Spares). x.generations) e ∙ copied_all 0 _ room.generations s.generations R.generations J.generations in
      let locks = ap (λ (x : Spares). x.locks) e ∙ copied_all 0 _ room.locks s.locks R.locks J.locks in
      rw (positions, corners, links, generations, locks) refl

  -- With the slots of a note it is the restored mesh.
  pub copy_restored : (note : List ℕ) {back : Spares}
      → ((o : Counts) → mesh_with o back ≡ put_back_all note (note_slots note) (mesh_with o copy))
      → mesh_with (record { vertices = old_v note; triangles = old_f note; rule = n.rule }) back
      ≡ cut n.vertices n.triangles (restored note (mesh_with n s))
  copy_restored note put =
      let o : Counts = record { vertices = old_v note; triangles = old_f note; rule = n.rule } in
      put o
      ∙ ap (put_back_all note (note_slots note)) (copy_is_cut o)
      ∙ restored_cut note n.vertices n.triangles (mesh_with n s)
