-- Copying back into tables that were left as they are past what is in use.
use mathlib.Core.Path.{◌≡◌}
use Prim.Native.Nat.{◌*◌, ◌≤◌}
use native.Mathlib.Omega.{arith}
use lib.IntN.{pos}
use lib.ListN.{length, get_or}
use Rattle.theory.proofs.Numbers.Fill.{get_or_fill, fill_same}
use Rattle.theory.proofs.Spares.Copies.{copied_over, copied_self}
use Rattle.theory.proofs.Spares.OverSpares.{over}
use Rattle.rules.specs.Promises.{SamePast, AgreeInUse}
use Rattle.rules.specs.Sound.{Sound}
use Rattle.rules.specs.Spares.{Spares, copied, SameSizes}
use Rattle.rules.specs.Tables.{Mesh, sides, origin, link, generation, lock}

-- The tables of a mesh, without its counts.
abbrev pub tables_of : Mesh → Spares
tables_of m = record {
  positions = m.positions;
  corners = m.topology.corners;
  links = m.topology.links;
  generations = m.topology.generations;
  locks = m.locks;
}

pub copied_back : {m n : Mesh} → SamePast m n → Sound n → copied n (tables_of m) ≡ tables_of n
unfolding copied
copied_back {m} {n} P S =
    let A = S.tables in
    rw (
      copied_over (pos 0) (3 * n.topology.vertices) m.positions n.positions
          (omega (arith, A.positions, S.vertex_room)) P.position_slots P.positions,
      copied_over 0 (sides n.topology) m.topology.corners n.topology.corners
          (omega (arith, A.corners, S.triangle_room)) P.corner_slots P.corners,
      copied_over 0 (sides n.topology) m.topology.links n.topology.links
          (omega (arith, A.links, S.triangle_room)) P.link_slots P.links,
      copied_over 0 n.topology.triangles m.topology.generations n.topology.generations S.triangle_room
          P.generation_slots P.generations,
      copied_over 0 n.topology.triangles m.locks n.locks (omega (arith, A.locks, S.triangle_room))
          P.lock_slots P.locks,
    )

-- Tables that hold the mesh already.
pub copied_held : {s : Spares} {m : Mesh} → SameSizes s m → Sound m → AgreeInUse s m → copied m s ≡ s
unfolding copied
copied_held {s} {m} L S E =
    let A = S.tables in
    λ i. record {
      positions =
          copied_self (pos 0) (3 * m.topology.vertices) _ s.positions
          (omega (arith, L.positions, A.positions, S.vertex_room)) E.positions i;
      corners =
          copied_self 0 (sides m.topology) _ s.corners
          (omega (arith, L.corners, A.corners, S.triangle_room)) E.corners i;
      links =
          copied_self 0 (sides m.topology) _ s.links
          (omega (arith, L.links, A.links, S.triangle_room)) E.links i;
      generations =
          copied_self 0 m.topology.triangles _ s.generations
          (omega (arith, L.generations, S.triangle_room)) E.generations i;
      locks =
          copied_self 0 m.topology.triangles _ s.locks
          (omega (arith, L.locks, A.locks, S.triangle_room)) E.locks i;
    }

-- What is copied from a copy.
pub copied_again : {s : Spares} {m : Mesh} (t : Spares) → SameSizes s m → Sound m → copied (over s m) t ≡ copied m t
unfolding copied
copied_again {s} {m} t L S =
    let A = S.tables in
    let p : 3 * m.topology.vertices ≤ length s.positions =
    omega (arith, L.positions, A.positions, S.vertex_room) in
    let c : sides m.topology ≤ length s.corners = omega (arith, L.corners, A.corners, S.triangle_room) in
    let l : sides m.topology ≤ length s.links = omega (arith, L.links, A.links, S.triangle_room) in
    let g : m.topology.triangles ≤ length s.generations = omega (arith, L.generations, S.triangle_room) in
    let k : m.topology.triangles ≤ length s.locks = omega (arith, L.locks, A.locks, S.triangle_room) in
    rw (
      fill_same (3 * m.topology.vertices) _ (λ i. get_or m.positions i (pos 0)) t.positions
          (λ i b. get_or_fill _ _ s.positions i (pos 0) p b),
      fill_same (sides m.topology) _ (origin m.topology) t.corners
          (λ i b. get_or_fill _ _ s.corners i 0 c b),
      fill_same (sides m.topology) _ (link m.topology) t.links (λ i b. get_or_fill _ _ s.links i 0 l b),
      fill_same m.topology.triangles _ (generation m.topology) t.generations
          (λ i b. get_or_fill _ _ s.generations i 0 g b),
      fill_same m.topology.triangles _ (lock m) t.locks (λ i b. get_or_fill _ _ s.locks i 0 k b),
    )
