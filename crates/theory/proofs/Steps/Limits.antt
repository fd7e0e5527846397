-- Limit positions: nearest, in range, and what ever more whole steps lead to.
use mathlib.Core.Path.{◌≡◌, refl, sym, ap, ◌∙◌}
use mathlib.Core.Logic.{◌≢◌, inl, inr}
use mathlib.Core.List.{List, [], ◌∷◌}
use Prim.Native.Nat.{ℕ, zero, suc, ◌+◌, ◌-◌, ◌*◌, ◌/◌, ◌%◌, ◌≤◌, ◌<◌}
use native.Mathlib.Omega.{arith}
use lib.Dec.{ltb}
use lib.IntN.{ℤ, pos, nat_abs, ◌+ℤ◌, ◌-ℤ◌, ◌*ℤ◌}
use lib.ListN.{length, get_or}
use Rattle.theory.proofs.Numbers.Decide.{is_all, is_lt, is_le, stable}
use Rattle.theory.proofs.Numbers.Differences.{above, below, Is, its, nat, add, sub, scale, times, equal}
use Rattle.theory.proofs.Numbers.Fill.{length_fill, get_or_fill}
use Rattle.theory.proofs.Numbers.Rounding.{rounded_nearest, weight_at_most}
use Rattle.theory.proofs.Numbers.Sums.{total_same, total_add, total_const, total_first}
use Rattle.theory.proofs.Links.Sides.{previous_lt, next_lt}
use Rattle.theory.proofs.Rings.RingSums.{sum_over_is, fan_out, as_fan}
use Rattle.theory.proofs.Rings.RingTheory.{ring_makes}
use Rattle.theory.proofs.Rings.RingVertices.{ring_coordinates, ring_some}
use Rattle.theory.proofs.Steps.StepPositions.{limit_coordinate_in_range}
use Rattle.rules.specs.Below.{all, total}
use Rattle.rules.specs.Conditions.{LongRing}
use Rattle.rules.specs.Numbers.{weights, weight, limit}
use Rattle.rules.specs.Promises.{RingMakes, IsLimit, LimitMakes, corners_over, move_numerator, limit_numerator}
use Rattle.rules.specs.Ring.{OnBoundary, fan, ring}
use Rattle.rules.specs.Sound.{Sound}
use Rattle.rules.specs.Step.{sum_over, limit_coordinate, limit_positions}
use Rattle.rules.specs.Tables.{Topology, Mesh, sides, next, previous, origin, target, boundary, link, rotate}
use Rattle.rules.specs.Tables.{coordinate}

-- ---- numbers

module _ (n : ℕ) (p s c : ℤ) (e : c ≡ pos n *ℤ p +ℤ pos 2 *ℤ s) where
  abbrev u : ℕ
  u = 65536 - weight n

  whole : u + weight n ≡ 65536
  whole = omega (arith, weight_at_most n)

  move_is : Is (move_numerator n p s) (n * u * above p + weight n * above s) (n * u * below p + weight n * below s)
  move_is =
      let h = weight_at_most n in
      let d : pos 65536 -ℤ pos (weight n) ≡ pos u = equal (sub (nat 65536) (nat (weight n))) (nat u) (omega arith) in
      rw d (add (scale (n * u) (its p)) (scale (weight n) (its s)))

  corners_is : Is c (n * above p + 2 * above s) (n * below p + 2 * below s)
  corners_is = rw e (add (scale n (its p)) (scale 2 (its s)))

  limit_stays : move_numerator n p s +ℤ pos (weight n) *ℤ c ≡ limit_numerator n p s
  limit_stays =
      let a = ap (λ t. n * t * above p) whole in
      let b = ap (λ t. n * t * below p) whole in
      equal (add move_is (scale (weight n) corners_is))
      (add (scale (65536 * n) (its p)) (scale (3 * weight n) (its s))) (omega arith)

  limit_nearer : pos 3 *ℤ move_numerator n p s -ℤ pos 65536 *ℤ c
      ≡ (pos 131072 -ℤ pos (3 * weight n)) *ℤ (pos n *ℤ p -ℤ s)
  limit_nearer =
      let a = ap (λ t. n * t * above p) whole in
      let b = ap (λ t. n * t * below p) whole in
      equal (sub (scale 3 move_is) (scale 65536 corners_is))
      (times (sub (nat 131072) (nat (3 * weight n))) (sub (scale n (its p)) (its s))) (omega arith)

-- The factor, by one computed test of the table from 2 entries on.
small_factor : (i : ℕ) → i < 11 → 100 * nat_abs (pos 131072 -ℤ pos (3 * weight (2 + i))) < 42 * 196608
unfolding all weight weights
small_factor =
    (is_all 11 (λ i. ltb (100 * nat_abs (pos 131072 -ℤ pos (3 * weight (2 + i)))) (42 * 196608))
    (λ i. 100 * nat_abs (pos 131072 -ℤ pos (3 * weight (2 + i))) < 42 * 196608) (λ i l. is_lt _ _)).holds tt

factor_of : (n : ℕ) → 2 ≤ n → n ≤ 12 → 100 * nat_abs (pos 131072 -ℤ pos (3 * weight n)) < 42 * 196608
factor_of n a b =
    let e : 2 + (n - 2) ≡ n = omega arith in
    rw e at (small_factor (n - 2) (omega arith))

-- ---- the corners round a vertex

abbrev corner_of : Mesh → ℕ → ℕ → ℤ
corner_of m k h = coordinate m (origin m.topology h) k

abbrev three_of : (ℤ → ℕ) → Mesh → ℕ → ℕ → ℕ
three_of part m k h = part (corner_of m k h) + part (corner_of m k (next h)) + part (corner_of m k (previous h))

corners_over_is : (m : Mesh) (k : ℕ) (l : List ℕ)
    → Is (corners_over m k l) (total (length l) (λ i. three_of above m k (get_or l i 0)))
    (total (length l) (λ i. three_of below m k (get_or l i 0)))
unfolding corners_over total
corners_over_is m k [] = nat 0
corners_over_is m k (h ∷ l) =
    rw (
      total_first (length l) (λ i. three_of above m k (get_or (h ∷ l) i 0)),
      total_first (length l) (λ i. three_of below m k (get_or (h ∷ l) i 0)),
    )
    (add (add (add (its (corner_of m k h)) (its (corner_of m k (next h)))) (its (corner_of m k (previous h))))
    (corners_over_is m k l))

-- A sum that starts one place later, and ends with the first place.
total_turned : (n : ℕ) (f g : ℕ → ℕ) → ((i : ℕ) → suc i < n → g i ≡ f (suc i)) → ((i : ℕ) → suc i ≡ n → g i ≡ f 0)
    → total n g ≡ total n f
unfolding total
total_turned zero f g a b = refl
total_turned (suc n) f g a b =
    let x = total_first n f in
    let y = total_same n g (λ i. f (suc i)) (λ i l. a i (omega arith)) in
    let z = b n refl in
    omega arith

module _ {m : Mesh} (S : Sound m) (closed : (h : ℕ) → h < sides m.topology → link m.topology h ≢ boundary)
    (v : ℕ) (b : v < m.topology.vertices) where
  abbrev mt : Topology
  mt = m.topology

  R : RingMakes mt v
  R = ring_makes S v b

  abbrev n : ℕ
  n = length (fan mt v)

  abbrev at : ℕ → ℕ
  at i = get_or (fan mt v) i 0

  inner : ¬ OnBoundary mt v
  inner x = closed x.0 x.1 x.3

  -- Crossing into v, the vertex left behind is the one ahead.
  crossed : (h : ℕ) → h < sides mt → target mt (rotate mt h) ≡ origin mt (previous h)
  crossed h l = let p = previous_lt h mt.triangles l in elim (S.linked (previous h) p) [
    | inl e ↦ absurd (closed (previous h) p e)
    | inr L ↦ L.onto
  ]

  turned : (i : ℕ) → suc i < n → origin mt (previous (at i)) ≡ target mt (at (suc i))
  turned i l = sym (crossed (at i) (R.in_use i (omega arith))) ∙ ap (λ (h : ℕ). target mt h) (sym (R.turns i l))

  round : (i : ℕ) → suc i ≡ n → rotate mt (at i) ≡ at 0
  round i e = elim (R.ends i e) [
    | inl q ↦ q ∙ sym R.first
    | inr q ↦ absurd (inner ((R.ends_at_boundary i e).0 q))
  ]

  turned_last : (i : ℕ) → suc i ≡ n → origin mt (previous (at i)) ≡ target mt (at 0)
  turned_last i e = sym (crossed (at i) (R.in_use i (omega arith))) ∙ ap (λ (h : ℕ). target mt h) (round i e)

  -- One triangle alone cannot surround v: two of its corners would be one.
  two : 2 ≤ n
  two = go n refl R.some
    where
      go : (j : ℕ) → j ≡ n → 0 < j → 2 ≤ j
      go zero e l = absurd (omega arith)
      go (suc zero) e l =
          let u = next_lt (at 0) mt.triangles (R.in_use 0 (omega arith)) in
          let same : next (next (at 0)) ≡ previous (at 0) = omega arith in
          absurd (S.distinct (next (at 0)) u (sym (turned_last 0 e) ∙ ap (λ (h : ℕ). origin mt h) (sym same)))
      go (suc (suc j)) e l = omega arith

  module _ (k : ℕ) where
    -- A part of the corners: v once, and each ring entry twice.
    three_parts : (part : ℤ → ℕ) → total n (λ i. three_of part m k (at i))
        ≡ n * part (coordinate m v k) + 2 * total n (λ i. part (coordinate m (get_or (ring mt v) i 0) k))
    three_parts part =
        let own : ℕ → ℕ = λ i. part (corner_of m k (at i)) in
        let ahead : ℕ → ℕ = λ i. part (corner_of m k (next (at i))) in
        let behind : ℕ → ℕ = λ i. part (corner_of m k (previous (at i))) in
        let entry : ℕ → ℕ = λ i. part (coordinate m (get_or (ring mt v) i 0) k) in
        let of : (i : ℕ) → i < n → ahead i ≡ entry i =
        λ i l. ap (λ (x : ℕ). part (coordinate m x k)) (sym (R.entries i l)) in
        let a = total_same n own (λ i. part (coordinate m v k))
        (λ i l. ap (λ (x : ℕ). part (coordinate m x k)) (fan_out S closed v b i l)) in
        let b = total_const n (part (coordinate m v k)) in
        let c = total_same n ahead entry of in
        let d = total_turned n ahead behind (λ i l. ap (λ (x : ℕ). part (coordinate m x k)) (turned i l))
        (λ i e. ap (λ (x : ℕ). part (coordinate m x k)) (turned_last i e)) in
        let e = total_add n (λ i. own i + ahead i) behind in
        let f = total_add n own ahead in
        omega arith

    corners_round : corners_over m k (fan mt v)
        ≡ pos (length (ring mt v)) *ℤ coordinate m v k +ℤ pos 2 *ℤ sum_over m k (ring mt v)
    corners_round =
        let f = as_fan S closed v b in
        let a = three_parts above in
        let c = three_parts below in
        rw f
        (equal (corners_over_is m k (fan mt v))
        (add (scale n (its (coordinate m v k))) (scale 2 (sum_over_is m k (ring mt v)))) (rw f (omega arith)))

    limit_is_limit : k < 3 → length (ring mt v) ≤ 12
        → IsLimit m.rule (length (ring mt v)) (coordinate m v k) (sum_over m k (ring mt v))
        (corners_over m k (fan mt v)) (limit_coordinate m v k)
    unfolding limit_coordinate limit
    limit_is_limit i few =
        let r = length (ring mt v) in
        let p = coordinate m v k in
        let s = sum_over m k (ring mt v) in
        record {
          nearest = rounded_nearest m.rule (limit_numerator r p s) (omega (arith, ring_some S v b));
          range = limit_coordinate_in_range m v k (S.range (3 * v + k) (omega arith)) (ring_coordinates S v b k i)
              (ring_some S v b);
          corners = corners_round;
          stays = limit_stays r p s _ corners_round;
          nearer = limit_nearer r p s _ corners_round;
          factor = factor_of r (omega (arith, two, as_fan S closed v b)) few;
        }

-- The whole table.
pub limits_made : {m : Mesh} → Sound m → ((h : ℕ) → h < sides m.topology → link m.topology h ≢ boundary)
    → ¬ LongRing m.topology → (table : List ℤ) → length table ≡ 3 * m.topology.vertices
    → LimitMakes m (limit_positions m table)
unfolding limit_positions
limits_made {m} S closed short table e = record {
  size = length_fill (3 * m.topology.vertices) _ table ∙ e;
  each = λ v k b i.
      let j : (3 * v + k) / 3 ≡ v = omega arith in
      let q : (3 * v + k) % 3 ≡ k = omega arith in
      rw (
        get_or_fill (3 * m.topology.vertices) (λ x. limit_coordinate m (x / 3) (x % 3)) table (3 * v + k) (pos 0)
            (omega arith) (omega arith),
        j,
        q,
      )
      (limit_is_limit S closed v b k i (not_long v b));
}
  where
    not_long : (v : ℕ) → v < m.topology.vertices → length (ring m.topology v) ≤ 12
    not_long v b = stable (is_le (length (ring m.topology v)) 12) (λ x. short (v, b, omega arith))
