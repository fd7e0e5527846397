-- A note that is accepted, whoever wrote it: refining the mesh that it restores makes the present mesh, wholly.
use mathlib.Core.Path.{◌≡◌, ap, ◌∙◌}
use mathlib.Core.List.{List}
use Prim.Native.Nat.{ℕ, ◌*◌, ◌≤◌, ◌<◌}
use native.Mathlib.Omega.{arith}
use native.Mathlib.Decide.{dec_lt}
use lib.IntN.{pos}
use lib.ListN.{length, get_or, drop}
use lib.Seq.{ext_get_or}
use Rattle.theory.proofs.Calls.Carried.{RefineFound, refine_found}
use Rattle.theory.proofs.Chains.Going.{Going, going_begins, going_on, same_past}
use Rattle.theory.proofs.Notes.Restoring.{all_positions, all_sizes, all_past}
use Rattle.theory.proofs.Spares.Copies.{entry_past}
use Rattle.rules.specs.Notes.{refined, noted_triangle, old_v, old_f, note_slots, restored, Accepted}
use Rattle.rules.specs.Promises.{SamePast}
use Rattle.rules.specs.Split.{at_first, refine}
use Rattle.rules.specs.Tables.{Mesh, topology_of, mesh_of, sides}

-- ---- what any note leaves

-- Slots past the restored counts keep their content.
pub restored_past : {note : List ℕ} {m : Mesh} → Accepted note m → SamePast m (restored note m)
unfolding restored
restored_past {note} {m} A =
    let L = all_sizes note m (note_slots note) in
    let (P, k) = all_past note m (old_f note) (note_slots note) A.in_use in
    record {
      corner_slots = L.corners;
      link_slots = L.links;
      generation_slots = L.generations;
      lock_slots = L.locks;
      position_slots = L.positions;
      corners = P.corners;
      links = P.links;
      generations = P.generations;
      locks = k;
      positions = ap (drop (3 * old_v note)) (all_positions note m (note_slots note));
    }

-- ---- refined again

-- Lists with the same entries below a, which go on as l does, from a on and from b on.
same_whole : {A : Type 0} (d : A) (a b : ℕ) (q l k : List A) → length q ≡ length k → b ≤ a → drop a q ≡ drop a l
    → drop b l ≡ drop b k → ((i : ℕ) → i < a → get_or q i d ≡ get_or k i d) → q ≡ k
same_whole d a b q l k e r s t f = ext_get_or d q k e (λ i _. go i (dec_lt i a))
  where
    go : (i : ℕ) → Dec (i < a) → get_or q i d ≡ get_or k i d
    go i (yes c) = f i c
    go i (no c) = entry_past a i q l d (omega arith) s ∙ entry_past b i l k d (omega arith) t

module _ {note : List ℕ} {m : Mesh} (A : Accepted note m) where
  old : Mesh
  old = restored note m

  pub found_again : RefineFound (noted_triangle note) (restored note m)
  found_again = refine_found (noted_triangle note) (restored note m) A.carried_out

  G : Going old (refine (noted_triangle note) (at_first old))
  unfolding old
  G = going_on (going_begins found_again.sound) found_again

  -- The refine makes the present mesh of what is restored, in every slot of the tables.
  pub makes_present : refined (noted_triangle note) (restored note m) ≡ m
  unfolding old
  makes_present =
      let q = refined (noted_triangle note) old in
      let P = same_past G in
      let R = restored_past A in
      let E = A.present in
      let f = G.still.grows in
      let v = G.places.grows in
      let e : sides q.topology ≡ sides m.topology = ap (λ (f : ℕ). 3 * f) E.triangles in
      let u : 3 * q.topology.vertices ≡ 3 * m.topology.vertices = ap (λ (v : ℕ). 3 * v) E.vertices in
      λ i. mesh_of (topology_of (E.vertices i) (E.triangles i)
      (same_whole 0 (sides q.topology) (sides old.topology) q.topology.corners old.topology.corners
      m.topology.corners (P.corner_slots ∙ R.corner_slots) (omega arith) P.corners R.corners
      (λ h b. E.corners h (omega arith)) i)
      (same_whole 0 (sides q.topology) (sides old.topology) q.topology.links old.topology.links
      m.topology.links (P.link_slots ∙ R.link_slots) (omega arith) P.links R.links
      (λ h b. E.links h (omega arith)) i)
      (same_whole 0 q.topology.triangles old.topology.triangles q.topology.generations
      old.topology.generations m.topology.generations (P.generation_slots ∙ R.generation_slots) f
      P.generations R.generations (λ x b. E.generations x (omega arith)) i))
      (same_whole (pos 0) (3 * q.topology.vertices) (3 * old.topology.vertices) q.positions old.positions
      m.positions (P.position_slots ∙ R.position_slots) (omega arith) P.positions R.positions
      (λ j b. E.positions j (omega arith)) i)
      (same_whole 0 q.topology.triangles old.topology.triangles q.locks old.locks m.locks
      (P.lock_slots ∙ R.lock_slots) f P.locks R.locks (λ x b. E.locks x (omega arith)) i)
      (E.rule i)
