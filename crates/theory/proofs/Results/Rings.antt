-- What is proved of rings and positions. (Rings and positions)
use mathlib.Core.Path.{◌≡◌}
use mathlib.Core.List.{List}
use Prim.Native.Nat.{ℕ, ◌<◌}
use Rattle.theory.proofs.Calls.Outcomes.{ring_reads, position_reads, view_reads}
use Rattle.theory.proofs.Rings.RingTheory.{ring_makes}
use Rattle.rules.specs.Calls.{ring_read, ring_call, position_read, position_call, view_read, view_call}
use Rattle.rules.specs.Promises.{RingMakes}
use Rattle.rules.specs.Sound.{Sound}
use Rattle.rules.specs.Tables.{Mesh}

-- The walk round a vertex of a sound mesh is whole, and the ring lists its neighbours.
pub ring_whole : {m : Mesh} → Sound m → (v : ℕ) → v < m.topology.vertices → RingMakes m.topology v
ring_whole = ring_makes

-- A ring query that is carried out writes the ring into the first entries of the buffer, and nothing else.
pub ring_carried : (v : ℕ) (buffer : List ℕ) (m : Mesh) → (ring_call v buffer m).answer.refusal ≡ 0
    → ring_call v buffer m ≡ ring_read v buffer m
ring_carried = ring_reads

-- A position query that is carried out answers the coordinates, and writes nothing.
pub position_carried : (v : ℕ) (m : Mesh) → (position_call v m).answer.refusal ≡ 0
    → position_call v m ≡ position_read v m
position_carried = position_reads

-- A call for all triangles that is carried out leaves the mesh; the crate `viewer` says what it writes. (Request j)
pub view_carried : (n : ℕ) (m : Mesh) → (view_call n m).answer.refusal ≡ 0 → view_call n m ≡ view_read m
view_carried = view_reads
