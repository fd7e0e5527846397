-- Where no side is on the boundary, the ring of a vertex adds up to what the sides out of it lead to, in any order.
use mathlib.Core.Path.{◌≡◌, refl, sym, ap, ◌∙◌, subst}
use mathlib.Core.Logic.{◌≢◌}
use mathlib.Core.Bool.{Bool, true, false}
use mathlib.Core.List.{List, [], ◌∷◌}
use Prim.Native.Nat.{ℕ, zero, suc, ◌+◌, ◌*◌, ◌/◌, ◌≤◌, ◌<◌}
use native.Mathlib.Numerals.{add-one}
use native.Mathlib.Decide.{ℕ_discrete}
use native.Mathlib.Omega.{arith}
use borrow.Author.Tests.{eq-eqb, ne_eqb}
use lib.Dec.{T, eqb}
use lib.IntN.{ℤ, pos, negsuc, neg_ℤ, ◌+ℤ◌}
use lib.ListN.{length, get_or}
use lib.Signed.{◌≤ℤ◌}
use Rattle.theory.proofs.Numbers.Decide.{is_eq}
use Rattle.theory.proofs.Numbers.Differences.{above, below, Is, its, nat, add, neg, equal, at_most}
use Rattle.theory.proofs.Numbers.Differences.{at_most_gives}
use Rattle.theory.proofs.Rings.FanTest.{MeetsAll, all_counted, fan_met}
use Rattle.theory.proofs.Rings.Fans.{Walked, side_at, fan_walked}
use Rattle.theory.proofs.Numbers.Pigeonhole.{Reached}
use Rattle.theory.proofs.Soundness.Relaxed.{sound_manifold}
use Rattle.theory.proofs.Rings.RingTheory.{ring_makes}
use Rattle.theory.proofs.Numbers.Sums.{total_same, total_zero, total_swap, total_one, total_first}
use Rattle.theory.proofs.Rings.Turning.{Glued, manifold_glued}
use Rattle.rules.specs.Below.{total, bit, count}
use Rattle.rules.specs.Numbers.{InRange, max_coordinate}
use Rattle.rules.specs.Promises.{RingMakes}
use Rattle.rules.specs.Ring.{triangle_count, first_side, fan, ring}
use Rattle.rules.specs.Sound.{Sound}
use Rattle.rules.specs.Step.{sum_over}
use Rattle.rules.specs.Tables.{Topology, Mesh, sides, next, origin, target, link, boundary, coordinate}

-- ---- sums of naturals

-- x where the test says yes, else 0.
abbrev given : Bool → ℕ → ℕ
given true x = x
given false x = 0

total_up : (n k : ℕ) (f : ℕ → ℕ) → n ≤ k → total n f ≤ total k f
unfolding total
total_up n zero f l = let e : n ≡ 0 = omega arith in rw e (omega arith)
total_up n (suc k) f l = go (ℕ_discrete n (suc k)) (total_up n k f)
  where
    go : Dec (n ≡ suc k) → (n ≤ k → total n f ≤ total k f) → total n f ≤ total k f + f k
    go (yes e) i = rw (e, total) (omega arith)
    go (no e) i = let a = i (omega arith) in omega arith

-- Terms of at most b, where a test lets them count.
total_given : (n b : ℕ) (p : ℕ → Bool) (g : ℕ → ℕ) → ((h : ℕ) → h < n → g h ≤ b)
    → total n (λ h. given (p h) (g h)) ≤ count n p * b
unfolding total
total_given zero b p g l = omega arith
total_given (suc n) b p g l = go (p n) (total_given n b p g (λ h k. l h (omega arith))) (l n (omega arith))
  where
    go : (c : Bool) → total n (λ h. given (p h) (g h)) ≤ count n p * b → g n ≤ b
        → total n (λ h. given (p h) (g h)) + given c (g n) ≤ (count n p + bit c) * b
    go true i k = omega arith
    go false i k = omega arith

-- The sum over different numbers that pass a test, where they are all that pass.
module _ (n c : ℕ) (f : ℕ → ℕ) (p : ℕ → Bool) (g : ℕ → ℕ)
    (in_use : (i : ℕ) → i < c → f i < n)
    (pass : (i : ℕ) → i < c → T (p (f i)))
    (differ : (i j : ℕ) → i < c → j < c → f i ≡ f j → i ≡ j)
    (each : (h : ℕ) → h < n → T (p h) → Reached c f h) where
  yes_given : (i h : ℕ) → f i ≡ h → given (eqb (f i) h) (g h) ≡ g h
  yes_given i h e = ap (λ (b : Bool). given b (g h)) (eq-eqb (f i) h e)

  no_given : (i h : ℕ) → f i ≢ h → given (eqb (f i) h) (g h) ≡ 0
  no_given i h e = ap (λ (b : Bool). given b (g h)) (ne_eqb (f i) h e)

  by_number : (i : ℕ) → i < c → g (f i) ≡ total n (λ h. given (eqb (f i) h) (g h))
  by_number i l =
      sym (total_one n (f i) (λ h. given (eqb (f i) h) (g h)) (in_use i l) (λ h k o. no_given i h (λ q. o (sym q)))
      ∙ yes_given i (f i) refl)

  by_place : (h : ℕ) → h < n → total c (λ i. given (eqb (f i) h) (g h)) ≡ given (p h) (g h)
  by_place h l = go (p h) refl
    where
      go : (b : Bool) → p h ≡ b → total c (λ i. given (eqb (f i) h) (g h)) ≡ given b (g h)
      go true e =
          let x = each h l (subst T (sym e) tt) in
          total_one c x.0 (λ i. given (eqb (f i) h) (g h)) x.1
          (λ j k o. no_given j h (λ q. o (differ j x.0 k x.1 (q ∙ sym x.2))))
          ∙ yes_given x.0 h x.2
      go false e = total_zero c (λ i. given (eqb (f i) h) (g h))
          (λ i k. no_given i h (λ q. subst T (ap p q ∙ e) (pass i k)))

  total_passing : total c (λ i. g (f i)) ≡ total n (λ h. given (p h) (g h))
  total_passing =
      total_same c (λ i. g (f i)) (λ i. total n (λ h. given (eqb (f i) h) (g h))) by_number
      ∙ total_swap c n (λ i h. given (eqb (f i) h) (g h))
      ∙ total_same n (λ h. total c (λ i. given (eqb (f i) h) (g h))) (λ h. given (p h) (g h)) by_place

-- ---- what the first n sides lead to from a vertex

above_range : (z : ℤ) → InRange z → above z ≤ max_coordinate
unfolding above below
above_range (pos n) r = omega (arith, at_most_gives (nat n) (nat max_coordinate) r.high)
above_range (negsuc n) r = omega arith

below_range : (z : ℤ) → InRange z → below z ≤ max_coordinate
unfolding above below
below_range (pos n) r = omega arith
below_range (negsuc n) r = omega (arith, at_most_gives (neg (nat max_coordinate)) (its (negsuc n)) r.low)

-- Coordinate k of the vertex that side h leads to.
abbrev pub ahead : List ℤ → List ℕ → ℕ → ℕ → ℤ
ahead positions corners h k = get_or positions (3 * get_or corners (next h) 0 + k) (pos 0)

-- A part of these coordinates of the first n sides out of v, added up.
unfoldable pub outward : (ℤ → ℕ) → ℕ → List ℤ → List ℕ → ℕ → ℕ → ℕ
outward part n positions corners v k =
    total n (λ h. given (eqb (get_or corners h 0) v) (part (ahead positions corners h k)))

-- How many of the first n sides go out of v.
abbrev pub out_of : ℕ → List ℕ → ℕ → ℕ
out_of n corners v = count n (λ h. eqb (get_or corners h 0) v)

-- z is the sum of the coordinates k that they lead to.
pub record SumOut (n : ℕ) (positions : List ℤ) (corners : List ℕ) (v k : ℕ) (z : ℤ) : Type 0 where
  pub is : Is z (outward above n positions corners v k) (outward below n positions corners v k)

module _ (positions : List ℤ) (corners : List ℕ) (v : ℕ) where
  pub none_added : (k : ℕ) → SumOut 0 positions corners v k (pos 0)
  unfolding outward total
  none_added k = record { is = nat 0 }

  pub none_out : out_of 0 corners v ≡ 0
  unfolding total
  none_out = refl

  -- One side more.
  module _ (n : ℕ) where
    more : (part : ℤ → ℕ) (k : ℕ) (b : Bool) → eqb (get_or corners n 0) v ≡ b
        → outward part (n + 1) positions corners v k
        ≡ outward part n positions corners v k + given b (part (ahead positions corners n k))
    unfolding outward total
    more part k b e = rw (add-one n, outward, total, e)

    more_out : (b : Bool) → eqb (get_or corners n 0) v ≡ b → out_of (n + 1) corners v ≡ out_of n corners v + bit b
    unfolding total
    more_out b e = rw (add-one n, total, e)

    pub one_added : (k : ℕ) {z : ℤ} → get_or corners n 0 ≡ v → SumOut n positions corners v k z
        → SumOut (n + 1) positions corners v k (z +ℤ ahead positions corners n k)
    one_added k {z} e s = record {
      is = rw (more above k true (eq-eqb _ _ e), more below k true (eq-eqb _ _ e))
          (add s.is (its (ahead positions corners n k)));
    }

    pub one_out : get_or corners n 0 ≡ v → out_of (n + 1) corners v ≡ out_of n corners v + 1
    one_out e = more_out true (eq-eqb _ _ e)

    pub other_added : (k : ℕ) {z : ℤ} → get_or corners n 0 ≢ v → SumOut n positions corners v k z
        → SumOut (n + 1) positions corners v k z
    other_added k {z} e s =
        let a = more above k false (ne_eqb _ _ e) in
        let b = more below k false (ne_eqb _ _ e) in
        record { is = record { is = omega (arith, s.is.is) } }

    pub other_out : get_or corners n 0 ≢ v → out_of (n + 1) corners v ≡ out_of n corners v
    other_out e = let a = more_out false (ne_eqb _ _ e) in omega arith

    -- More sides count no less.
    pub out_up : (k : ℕ) → n ≤ k → out_of n corners v ≤ out_of k corners v
    out_up k l = total_up n k (λ h. bit (eqb (get_or corners h 0) v)) l

    -- The sum lies where those of so many coordinates lie.
    module _ (k : ℕ) {z : ℤ} (s : SumOut n positions corners v k z)
        (in_range : (h : ℕ) → h < n → InRange (ahead positions corners h k))
        (bound : ℕ) (few : out_of n corners v * max_coordinate ≤ bound) where
      most : (part : ℤ → ℕ) → ((x : ℤ) → InRange x → part x ≤ max_coordinate)
          → outward part n positions corners v k ≤ bound
      unfolding outward
      most part l =
          let a = total_given n max_coordinate (λ h. eqb (get_or corners h 0) v) (λ h. part (ahead positions corners h k))
          (λ h i. l _ (in_range h i)) in
          omega arith

      pub sum_low : neg_ℤ (pos bound) ≤ℤ z
      sum_low = at_most (neg (nat bound)) s.is (omega (arith, most below below_range))

      pub sum_high : z ≤ℤ pos bound
      sum_high = at_most s.is (nat bound) (omega (arith, most above above_range))

-- ---- the ring

pub sum_over_is : (m : Mesh) (k : ℕ) (l : List ℕ)
    → Is (sum_over m k l) (total (length l) (λ i. above (coordinate m (get_or l i 0) k)))
    (total (length l) (λ i. below (coordinate m (get_or l i 0) k)))
unfolding sum_over total
sum_over_is m k [] = nat 0
sum_over_is m k (v ∷ l) =
    rw (
      total_first (length l) (λ i. above (coordinate m (get_or (v ∷ l) i 0) k)),
      total_first (length l) (λ i. below (coordinate m (get_or (v ∷ l) i 0) k)),
    )
    (add (its (coordinate m v k)) (sum_over_is m k l))

module _ {m : Mesh} (S : Sound m) (closed : (h : ℕ) → h < sides m.topology → link m.topology h ≢ boundary)
    (v : ℕ) (b : v < m.topology.vertices) where
  abbrev mt : Topology
  mt = m.topology

  R : RingMakes mt v
  R = ring_makes S v b

  G : Glued mt
  G = manifold_glued (sound_manifold S)

  M : MeetsAll mt v
  M = fan_met mt G v (S.fans v b)

  W : Walked mt (first_side mt v) (fan mt v)
  W = fan_walked mt v G M.start

  starts_out_lem : origin mt (first_side mt v) ≡ v
  starts_out_lem = R.starts_out

  pub fan_out : (i : ℕ) → i < length (fan mt v) → origin mt (side_at (fan mt v) i) ≡ v
  fan_out i l = W.out i l ∙ starts_out_lem

  -- The ring has an entry for each side out of v.
  pub ring_counted : length (ring mt v) ≡ triangle_count mt v
  ring_counted = R.inner (λ x. closed x.0 x.1 x.3)

  pub as_fan : length (ring mt v) ≡ length (fan mt v)
  as_fan = ring_counted ∙ sym (all_counted mt (first_side mt v) (fan mt v) W v starts_out_lem M.all)

  total_ring : (g : ℕ → ℕ) → total (length (ring mt v)) (λ i. g (get_or (ring mt v) i 0))
      ≡ total (sides mt) (λ h. given (eqb (origin mt h) v) (g (target mt h)))
  total_ring g =
      ap (λ (n : ℕ). total n (λ i. g (get_or (ring mt v) i 0))) as_fan
      ∙ total_same (length (fan mt v)) (λ i. g (get_or (ring mt v) i 0)) (λ i. g (target mt (side_at (fan mt v) i)))
      (λ i l. ap g (R.entries i l))
      ∙ total_passing (sides mt) (length (fan mt v)) (side_at (fan mt v)) (λ h. eqb (origin mt h) v)
      (λ h. g (target mt h)) W.in_use
      (λ i l. (is_eq (origin mt (side_at (fan mt v) i)) v).passes (fan_out i l))
      (λ i j a c e. W.once i j a c (ap (λ (x : ℕ). x / 3) e))
      (λ h l q. M.all h l ((is_eq (origin mt h) v).holds q))

  -- What all sides lead to from v is what its ring adds up to.
  pub ring_added : (k : ℕ) {z : ℤ} → SumOut (sides mt) m.positions mt.corners v k z → z ≡ sum_over m k (ring mt v)
  unfolding outward
  ring_added k {z} s =
      let x = total_ring (λ u. above (coordinate m u k)) in
      let y = total_ring (λ u. below (coordinate m u k)) in
      equal s.is (sum_over_is m k (ring mt v)) (rw (x, y) refl)
