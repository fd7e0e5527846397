-- A note tried in tables of its own, which have no more slots than the present mesh uses.
use Rattle.std.specs.Prelude.{ℕ, ◌*◌, Bool, ◌&&◌, List, ◌≡◌, eqb, leb, length, take}
use Rattle.rules.specs.Calls.{refine_refusal}
use Rattle.rules.specs.Notes.{noted_triangle, old_v, old_f, restored, refined, same_in_use}
use Rattle.rules.specs.Sound.{is_sound}
use Rattle.rules.specs.Spares.{Spares}
use Rattle.rules.specs.Tables.{Mesh, topology_of, mesh_of}
use Rattle.tables.specs.declared.Counts.{Counts}

-- The mesh in tables of v vertex slots and f triangle slots, the first of its own.
abbrev pub cut : ℕ → ℕ → Mesh → Mesh
cut v f m =
    let t = m.topology in
    mesh_of (topology_of t.vertices t.triangles (take (3 * f) t.corners) (take (3 * f) t.links)
    (take f t.generations))
    (take (3 * v) m.positions) (take f m.locks) m.rule

-- The old mesh is sound, and refining t there is carried out and gives m.
unfoldable pub refines_to : ℕ → Mesh → Mesh → Bool
refines_to t old m = is_sound old && eqb (refine_refusal t old) 0 && same_in_use m (refined t old)

-- What makes a note that fits accepted: the old counts are not above the present ones, and from the restored mesh, in
-- tables cut to what is in use, refining the noted triangle leads to the present one.
unfoldable pub accepted_cut : List ℕ → Mesh → Bool
accepted_cut note m =
    let v = m.topology.vertices in
    let f = m.topology.triangles in
    leb (old_v note) v
    && leb (old_f note) f
    && refines_to (noted_triangle note) (cut v f (restored note m)) m

-- Tables with just the slots for so many vertices and triangles.
pub record JustSlots (n : Counts) (s : Spares) : Type 0 where
  pub positions : length s.positions ≡ 3 * n.vertices
  pub corners : length s.corners ≡ 3 * n.triangles
  pub links : length s.links ≡ 3 * n.triangles
  pub generations : length s.generations ≡ n.triangles
  pub locks : length s.locks ≡ n.triangles
