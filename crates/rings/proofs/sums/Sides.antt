-- The three sides of a triangle added up, one after the other.
use Prim.Native.Nat.{ℕ, zero, suc, ◌+◌, ◌*◌, ◌≤◌, ◌<◌}
use native.Mathlib.Decide.{ℕ_discrete}
use native.Mathlib.Omega.{arith}
use mathlib.Core.Bool.{Bool, true}
use mathlib.Core.List.{List}
use mathlib.Core.Logic.{◌≢◌}
use mathlib.Core.Path.{◌≡◌, refl, sym, subst}
use lib.IntN.{ℤ, ◌+ℤ◌}
use lib.ListN.{get_or, length-set}
use lib.Seq.{get_or-set_same, get_or-set_other}
use Rattle.points.proofs.Axes.{each_fits}
use Rattle.points.specs.Axes.{coordinate, each_axis, SumOf}
use Rattle.theory.proofs.Links.Sides.{next_0, next_1, next_2, next_lt}
use Rattle.theory.proofs.Rings.RingSums.{ahead, out_of, SumOut, one_added, one_out, other_added, other_out, out_up}
use Rattle.theory.proofs.Rings.RingSums.{sum_low, sum_high}
use Rattle.rules.specs.Numbers.{InRange}
use Rattle.rules.specs.Tables.{next}
use Rattle.tables.specs.Lent.{point_in}
use Rattle.tables.specs.declared.Counts.{Counts}
use Rattle.rings.specs.declared.sums.RingSum.{RingSum}
use Rattle.rings.specs.Sums.{nothing, with_one, SideFits, SideAdded, Summable, Summed, SidesAdded}

-- A point made axis by axis, read on one of them.
pub on_each : (f : ℕ → ℤ) (k : ℕ) → k < 3 → coordinate (each_axis f) k ≡ f k
on_each f zero l = refl
on_each f (suc zero) l = refl
on_each f (suc (suc zero)) l = refl
on_each f (suc (suc (suc k))) l = absurd (omega arith)

-- ---- side h

module _ {n : Counts} {positions : List ℤ} {corners : List ℕ} (A : Summable n positions corners) (h : ℕ)
    (b : h < 3 * n.triangles) {rings : List RingSum}
    (S : Summed h n.vertices positions corners rings) where
  -- Where it comes from, and where it leads.
  abbrev o : ℕ
  o = get_or corners h 0

  abbrev d : ℕ
  d = get_or corners (next h) 0

  from_use : o < n.vertices
  from_use = A.corner h b

  onto_use : d < n.vertices
  onto_use = A.corner (next h) (next_lt h n.triangles b)

  ahead_in_range : (j k : ℕ) → j < 3 * n.triangles → k < 3 → InRange (ahead positions corners j k)
  ahead_in_range j k l i =
      A.range (3 * get_or corners (next j) 0 + k) (omega (arith, A.corner (next j) (next_lt j n.triangles l)))

  -- The ring where it comes from, and that with it.
  abbrev ring : RingSum
  ring = get_or rings o nothing

  abbrev one : RingSum
  one = with_one ring (point_in positions d)

  abbrev more : ℕ → ℤ
  more k = coordinate ring.sum k +ℤ ahead positions corners h k

  sum_fits : (k : ℕ) → k < 3 → ring.length < 12 → SumOf 1 (more k)
  sum_fits k i few =
      let s = one_added positions corners o h k refl (S.added o k from_use i) in
      let c = S.counted o from_use in
      let e = one_out positions corners o h refl in
      record {
        low = sum_low positions corners o (h + 1) k s (λ j l. ahead_in_range j k (omega arith) i) 2147483648 (omega arith);
        high = sum_high positions corners o (h + 1) k s (λ j l. ahead_in_range j k (omega arith) i) 2147483647 (omega arith);
      }

  fits : SideFits positions o d rings
  fits = record {
    ahead = omega (arith, onto_use, A.slots);
    entry = omega (arith, from_use, S.room);
    sum = λ few. each_fits more (λ k i. sum_fits k i few);
  }

  -- It is counted and added.
  module _ {rings' : List RingSum} {r : Bool} (D : SideAdded positions o d rings rings' r) (e : r ≡ true) where
    there : get_or rings' o nothing ≡ one
    there = rw (D.put e) (get_or-set_same rings o one nothing (omega (arith, from_use, S.room)))

    elsewhere : (v : ℕ) → v ≢ o → get_or rings' v nothing ≡ get_or rings v nothing
    elsewhere v q = rw (D.put e) (get_or-set_other rings o v one nothing q)

    counted' : (v : ℕ) → v < n.vertices → Dec (v ≡ o)
        → ((get_or rings' v nothing).length ≡ out_of (h + 1) corners v) × ((get_or rings' v nothing).length ≤ 12)
    counted' v u (yes q) =
        let y = one_out positions corners o h refl in
        rw (q, there) (omega (arith, S.counted o from_use, D.few e))
    counted' v u (no q) =
        let y = other_out positions corners v h (λ z. q (sym z)) in
        rw (elsewhere v q) (omega (arith, S.counted v u, S.few v u))

    added' : (v k : ℕ) → v < n.vertices → k < 3 → Dec (v ≡ o)
        → SumOut (h + 1) positions corners v k (coordinate (get_or rings' v nothing).sum k)
    added' v k u i (yes q) =
        rw (q, there)
        (subst (SumOut (h + 1) positions corners o k) (sym (on_each more k i))
        (one_added positions corners o h k refl (S.added o k from_use i)))
    added' v k u i (no q) =
        rw (elsewhere v q) (other_added positions corners v h k (λ z. q (sym z)) (S.added v k u i))

    one_summed : Summed (h + 1) n.vertices positions corners rings'
    one_summed = record {
      room = rw (D.put e, length-set) S.room;
      counted = λ v u. (counted' v u (ℕ_discrete v o)).0;
      few = λ v u. (counted' v u (ℕ_discrete v o)).1;
      added = λ v k u i. added' v k u i (ℕ_discrete v o);
    }

  -- It is one too many.
  one_too_many : 12 ≤ ring.length → (v : ℕ) × (v < n.vertices) × (12 < out_of (3 * n.triangles) corners v)
  one_too_many l =
      let x = one_out positions corners o h refl in
      let y = out_up positions corners o (h + 1) (3 * n.triangles) (omega arith) in
      (o, from_use, omega (arith, S.counted o from_use))

  -- What it asks and gives, with the next side j and the number g of sides added up then.
  module _ (j : ℕ) (ej : j ≡ next h) where
    side_fits : SideFits positions o (get_or corners j 0) rings
    side_fits = rw ej fits

    side_done : (g : ℕ) → g ≡ h + 1 → {rings' : List RingSum} {r : Bool}
        → SideAdded positions o (get_or corners j 0) rings rings' r
        → SidesAdded g n positions corners rings' r
    side_done g eg D = record {
      whole = λ e. rw eg (one_summed (rw ej at D) e);
      crowded = λ e. one_too_many (D.full e);
    }

-- ---- the three sides of triangle t

module _ {n : Counts} {positions : List ℤ} {corners : List ℕ} (A : Summable n positions corners) (t : ℕ)
    (b : t < n.triangles) {rings : List RingSum} where
  module _ (S : Summed (3 * t) n.vertices positions corners rings) where
    pub first_fits : SideFits positions (get_or corners (3 * t) 0) (get_or corners (3 * t + 1) 0) rings
    first_fits = side_fits A (3 * t) (omega arith) S (3 * t + 1) (sym (next_0 t))

    pub first_done : {rings' : List RingSum} {r : Bool}
        → SideAdded positions (get_or corners (3 * t) 0) (get_or corners (3 * t + 1) 0) rings rings' r
        → SidesAdded (3 * t + 1) n positions corners rings' r
    first_done = side_done A (3 * t) (omega arith) S (3 * t + 1) (sym (next_0 t)) (3 * t + 1) refl

  module _ (S : Summed (3 * t + 1) n.vertices positions corners rings) where
    pub second_fits : SideFits positions (get_or corners (3 * t + 1) 0) (get_or corners (3 * t + 2) 0) rings
    second_fits = side_fits A (3 * t + 1) (omega arith) S (3 * t + 2) (sym (next_1 t))

    pub second_done : {rings' : List RingSum} {r : Bool}
        → SideAdded positions (get_or corners (3 * t + 1) 0) (get_or corners (3 * t + 2) 0) rings rings' r
        → SidesAdded (3 * t + 2) n positions corners rings' r
    second_done = side_done A (3 * t + 1) (omega arith) S (3 * t + 2) (sym (next_1 t)) (3 * t + 2) (omega arith)

  module _ (S : Summed (3 * t + 2) n.vertices positions corners rings) where
    pub third_fits : SideFits positions (get_or corners (3 * t + 2) 0) (get_or corners (3 * t) 0) rings
    third_fits = side_fits A (3 * t + 2) (omega arith) S (3 * t) (sym (next_2 t))

    pub third_done : {rings' : List RingSum} {r : Bool}
        → SideAdded positions (get_or corners (3 * t + 2) 0) (get_or corners (3 * t) 0) rings rings' r
        → SidesAdded (3 * (t + 1)) n positions corners rings' r
    third_done = side_done A (3 * t + 2) (omega arith) S (3 * t) (sym (next_2 t)) (3 * (t + 1)) (omega arith)
