-- `rings::sums::ring_sums` meets its contract: a pass over the sides adds up every ring.
use Prim.Native.Nat.{ℕ, ◌<◌}
use native.Mathlib.Omega.{arith}
use mathlib.Core.List.{List}
use mathlib.Core.Path.{◌≡◌, sym, ◌∙◌, subst}
use lib.Dec.{T}
use lib.IntN.{ℤ, pos}
use lib.ListN.{length, get_or}
use Rattle.points.specs.Axes.{coordinate}
use Rattle.theory.proofs.Rings.RingSums.{out_of, SumOut, none_added, none_out, ring_counted, ring_added}
use Rattle.theory.proofs.Rings.RingVertices.{ring_some}
use Rattle.rules.specs.Conditions.{LongRing}
use Rattle.rules.specs.Ring.{ring}
use Rattle.rules.specs.Tables.{Topology, Mesh, sides}
use Rattle.tables.specs.Lent.{mesh_now}
use Rattle.tables.specs.declared.Counts.{Counts}
use Rattle.rings.specs.declared.sums.RingSum.{RingSum}
use Rattle.rings.proofs.sums.Sides.{on_each}
use Rattle.rings.specs.Sums.{nothing, Closed, Cleared, RingSums, Summable, Summed}
use Rattle.rings.proofs.sums.ring_sums.Goals as goal

-- ---- before the first side

module _ {n : Counts} {positions : List ℤ} {corners links generations locks : List ℕ}
    (C : Closed (mesh_now n positions corners links generations locks)) where
  summable : Summable n positions corners
  summable =
      let S = C.sound in
      record {
        few = omega (arith, S.tables.few_triangles, S.triangle_room);
        room = omega (arith, S.tables.corners, S.triangle_room);
        slots = omega (arith, S.vertex_room);
        corner = S.corner;
        range = S.range;
      }

none_summed : {n : ℕ} {positions : List ℤ} {corners : List ℕ} {rings : List RingSum} → Cleared n rings
    → Summed 0 n positions corners rings
none_summed {n} {positions} {corners} {rings} Z = record {
  room = Z.size;
  counted = λ v b. rw (Z.each v b) (sym (none_out positions corners v));
  few = λ v b. rw (Z.each v b) (omega arith);
  added = λ v k b i.
      subst (λ (r : RingSum). SumOut 0 positions corners v k (coordinate r.sum k)) (sym (Z.each v b))
      (subst (SumOut 0 positions corners v k) (sym (on_each (λ _. pos 0) k i)) (none_added positions corners v k));
}

-- ---- after the last side

module _ {m : Mesh} (C : Closed m) where
  abbrev t : Topology
  t = m.topology

  some_ring_long : (v : ℕ) × (v < t.vertices) × (12 < out_of (sides t) t.corners v) → LongRing t
  some_ring_long (v, b, l) = (v, b, rw (ring_counted C.sound C.inner v b) l)

  module _ {rings : List RingSum} (S : Summed (sides t) t.vertices m.positions t.corners rings) where
    is_length : (v : ℕ) → v < t.vertices → (get_or rings v nothing).length ≡ length (ring t v)
    is_length v b = S.counted v b ∙ sym (ring_counted C.sound C.inner v b)

    ring_sums : RingSums m rings
    ring_sums = record {
      room = S.room;
      long = is_length;
      some = λ v b. omega (arith, is_length v b, ring_some C.sound v b);
      few = S.few;
      sum = λ v k b i. ring_added C.sound C.inner v b k (S.added v k b i);
    }

-- ---- the needs

pub loop-t-init : goal.loop-t-init
loop-t-init c =
    none_summed c.requires.cleared

pub returns-then-not-add_triangle : goal.returns-then-not-add_triangle
returns-then-not-add_triangle c l g k C =
    record {
      whole = λ e. absurd (subst T (sym e) tt);
      crowded = λ _. some_ring_long C (c.add_triangle.ensures.crowded c.if-not-add_triangle.true);
    }

pub returns : goal.returns
returns c l g k C =
    let e : c.loop-t.t ≡ c.args.counts.triangles = omega arith in
    record { whole = λ _. ring_sums C (rw e at c.loop-t.invariant); crowded = λ q. absurd (subst T q tt) }
