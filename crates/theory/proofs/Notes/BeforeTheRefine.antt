-- What the note of a refine restores: the mesh before it, copied into the tables that it left.
use mathlib.Core.Path.{◌≡◌, refl, sym, ap, ◌∙◌}
use mathlib.Core.Bool.{Bool, true, false}
use mathlib.Core.List.{List}
use Prim.Native.Nat.{ℕ, ◌*◌, ◌/◌, ◌<◌}
use native.Mathlib.Omega.{arith}
use lib.Dec.{T}
use lib.IntN.{pos}
use lib.ListN.{get_or}
use Rattle.theory.proofs.Notes.Reading.{Says}
use Rattle.theory.proofs.Notes.Restoring.{SlotSame, slot_on, nine_same, HasSlot, all_positions, all_rule}
use Rattle.theory.proofs.Notes.Restoring.{all_sizes, all_past, all_other, all_noted}
use Rattle.theory.proofs.Notes.Tests.{same_nines}
use Rattle.theory.proofs.Numbers.Those.{Those, those_are}
use Rattle.theory.proofs.Soundness.Relaxed.{SameSlots}
use Rattle.theory.proofs.Spares.Copies.{front_is, entry_past}
use Rattle.theory.proofs.Spares.CopiedBack.{tables_of}
use Rattle.theory.proofs.Spares.OverSpares.{over}
use Rattle.rules.specs.Notes.{nine_of, differs, changed_slots, note_slots, note_nine, put_back_all, restored}
use Rattle.rules.specs.Sound.{Sound}
use Rattle.rules.specs.Spares.{copied}
use Rattle.rules.specs.Tables.{Mesh, topology_of, mesh_of, sides}

-- n has the tables of m with other content, but its rule and the places of its vertices.
pub record From (m n : Mesh) : Type 0 where
  pub sizes : SameSlots m n
  pub old : (i : ℕ) → i < 3 * m.topology.vertices → get_or n.positions i (pos 0) ≡ get_or m.positions i (pos 0)
  pub rule : n.rule ≡ m.rule

module _ {t : ℕ} {m n : Mesh} {note : List ℕ} (Y : Says t m n note) (S : Sound m) (F : From m n) where
  back : Mesh
  back = put_back_all note (note_slots note) n

  slots : Those m.topology.triangles (differs m n) (changed_slots m n)
  slots = those_are m.topology.triangles (differs m n)

  -- The noted slots are those that differ.
  slot_at : (i : ℕ) → i < note_slots note → note_nine note i 0 ≡ get_or (changed_slots m n) i 0
  slot_at i l = Y.nine i 0 l (omega arith)

  noted_below : (i : ℕ) → i < note_slots note → note_nine note i 0 < m.topology.triangles
  noted_below i l = omega (arith, slot_at i l, slots.below i (omega (arith, Y.slots)))

  slot_back : (s : ℕ) → s < m.topology.triangles → SlotSame back m s
  unfolding back
  slot_back s l = go (differs m n s) refl
    where
      room : HasSlot n s
      room =
          let A = S.tables in
          let L = F.sizes in
          record {
            corners = omega (arith, L.corners, A.corners, S.triangle_room);
            links = omega (arith, L.links, A.links, S.triangle_room);
            generations = omega (arith, L.generations, S.triangle_room);
            locks = omega (arith, L.locks, A.locks, S.triangle_room);
          }

      noted : (i j : ℕ) → i < note_slots note → j < 9 → note_nine note i j ≡ get_or (nine_of m (note_nine note i 0)) j 0
      noted i j b c = Y.nine i j b c ∙ ap (λ (s : ℕ). get_or (nine_of m s) j 0) (sym (slot_at i b))

      go : (b : Bool) → differs m n s ≡ b → SlotSame back m s
      go true e =
          let (i, b, q) = slots.has s l (rw e tt) in
          let c : i < note_slots note = omega (arith, Y.slots) in
          all_noted note n m (note_slots note) noted i s c (sym (slot_at i c ∙ q)) room
      go false e =
          let d : ¬ T (differs m n s) = λ x. rw e at x in
          slot_on
          (all_other note n s (note_slots note) (λ i b q.
          d (rw (q ∙ slot_at i b) (slots.pass i (omega (arith, Y.slots))))))
          (nine_same n m s (sym (same_nines m n s d)))

  pub restored_over : restored note n ≡ over (tables_of n) m
  unfolding restored copied back
  restored_over =
      let A = S.tables in
      let L = F.sizes in
      let B = all_sizes note n (note_slots note) in
      let f = m.topology.triangles in
      let (P, k) = all_past note n f (note_slots note) noted_below in
      λ i. mesh_of (topology_of (Y.vertices i) (Y.triangles i)
      (front_is 0 (sides m.topology) n.topology.corners m.topology.corners back.topology.corners
      (omega (arith, L.corners, A.corners, S.triangle_room)) B.corners
      (λ h b. (slot_back (h / 3) (omega arith)).corners h refl)
      (λ h b. entry_past (3 * f) h back.topology.corners n.topology.corners 0 b P.corners) i)
      (front_is 0 (sides m.topology) n.topology.links m.topology.links back.topology.links
      (omega (arith, L.links, A.links, S.triangle_room)) B.links
      (λ h b. (slot_back (h / 3) (omega arith)).links h refl)
      (λ h b. entry_past (3 * f) h back.topology.links n.topology.links 0 b P.links) i)
      (front_is 0 f n.topology.generations m.topology.generations back.topology.generations
      (omega (arith, L.generations, S.triangle_room)) B.generations (λ x b. (slot_back x b).generations)
      (λ x b. entry_past f x back.topology.generations n.topology.generations 0 b P.generations) i))
      ((all_positions note n (note_slots note)
      ∙ front_is (pos 0) (3 * m.topology.vertices) n.positions m.positions n.positions
      (omega (arith, L.positions, A.positions, S.vertex_room)) refl F.old (λ j b. refl)) i)
      (front_is 0 f n.locks m.locks back.locks (omega (arith, L.locks, A.locks, S.triangle_room)) B.locks
      (λ x b. (slot_back x b).locks) (λ x b. entry_past f x back.locks n.locks 0 b k) i)
      ((all_rule note n (note_slots note) ∙ F.rule) i)
