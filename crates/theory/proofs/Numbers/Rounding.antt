-- What the rounding rules give: the only number of its kind, between the numbers that it is made of.
use Prim.Native.Nat.{ℕ, zero, suc, ◌+◌, ◌-◌, ◌*◌, ◌≤◌, ◌<◌, max}
use native.Mathlib.Omega.{arith}
use native.Mathlib.Nat.{div-mul-le_self, lt-div-mul-add, lt_of_mul-lt-mul_left, mul-le-mul_left, le_trans}
use native.Mathlib.Decide.{ℕ_discrete}
use mathlib.Core.Bool.{Bool, true, false}
use mathlib.Core.Logic.{◌≢◌, ◌⊎◌, inl, inr}
use mathlib.Core.Path.{◌≡◌, refl, sym, ap, ◌∙◌}
use mathlib.Core.List.{List, [], ◌∷◌}
use borrow.Author.Tests.{ne_eqb}
use lib.Dec.{eqb, lit<, lit≤}
use lib.IntN.{ℤ, pos, negsuc, neg_ℤ, nat_abs, ◌+ℤ◌, ◌-ℤ◌, ◌*ℤ◌}
use lib.ListN.{get_or}
use lib.Signed.{◌≤ℤ◌, ◌<ℤ◌, ≤ℤ_refl}
use Rattle.rules.specs.Numbers.{InRange, max_coordinate, floor_div, nearest_third, half_up, weights, weight, moved}
use Rattle.rules.specs.Below.{bit}
use Rattle.rules.specs.Numbers.{limit, rounded}
use Rattle.rules.specs.Promises.{Nearest}
use Rattle.theory.proofs.Numbers.Differences.{above, below, Is, its, nat, add, neg, sub, scale, equal}
use Rattle.theory.proofs.Numbers.Differences.{at_most, ordered, at_most_gives, less, less_gives, near}
use Rattle.theory.proofs.Numbers.Differences.{near_gives}

-- q is z / m, rounded down: floor_div z m is, and nothing else.
pub record Floor (z : ℤ) (m : ℕ) (q : ℤ) : Type 0 where
  pub low : (pos m *ℤ q) ≤ℤ z
  pub high : z <ℤ (pos m *ℤ q +ℤ pos m)

floor_by : (z : ℤ) (m : ℕ) → 0 < m →
    let q = floor_div z m in
    (m * above q + below z ≤ above z + m * below q) × (above z + m * below q < m * above q + m + below z)
unfolding floor_div above below
floor_by (pos a) m h = omega (arith, div-mul-le_self a m, lt-div-mul-add {a = a} h)
floor_by (negsuc a) m h = omega (arith, div-mul-le_self a m, lt-div-mul-add {a = a} h)

pub floor : (z : ℤ) {m : ℕ} → 0 < m → Floor z m (floor_div z m)
floor z {m} h =
    let q = scale m (its (floor_div z m)) in
    let b = floor_by z m h in
    record { low = at_most q (its z) (omega arith); high = less (its z) (add q (nat m)) (omega arith) }

floor_mono : {y z q r : ℤ} {m : ℕ} → Floor y m q → Floor z m r → y ≤ℤ z → q ≤ℤ r
floor_mono {y} {z} {q} {r} {m} f g h =
    let l = at_most_gives (scale m (its q)) (its y) f.low in
    let k = less_gives (its z) (add (scale m (its r)) (nat m)) g.high in
    let times_m : m * (above q + below r) < m * (above r + below q + 1) = omega (arith, ordered h) in
    at_most (its q) (its r) (omega (arith, lt_of_mul-lt-mul_left m times_m))

pub floor_only : {z q : ℤ} {m : ℕ} → Floor z m q → q ≡ floor_div z m
floor_only {z} {q} {m} f =
    let l = at_most_gives (scale m (its q)) (its z) f.low in
    let h = less_gives (its z) (add (scale m (its q)) (nat m)) f.high in
    let g = floor z {m = m} (omega arith) in
    let below-it = ordered (floor_mono f g (≤ℤ_refl z)) in
    let above-it = ordered (floor_mono g f (≤ℤ_refl z)) in
    equal (its q) (its (floor_div z m)) (omega arith)

-- Three times the nearest third of s differs from s by at most 1, and no other number's triple does.
pub nearest_third_lem : (s : ℤ) → nat_abs (pos 3 *ℤ nearest_third s -ℤ s) ≤ 1
unfolding nearest_third
nearest_third_lem s =
    let q = its (nearest_third s) in
    let f = floor (s +ℤ pos 1) {m = 3} (lit< tt) in
    let l = at_most_gives (scale 3 q) (add (its s) (nat 1)) f.low in
    let h = less_gives (add (its s) (nat 1)) (add (scale 3 q) (nat 3)) f.high in
    near (sub (scale 3 q) (its s)) (omega arith) (omega arith)

pub nearest_third_only : (s q : ℤ) → nat_abs (pos 3 *ℤ q -ℤ s) ≤ 1 → q ≡ nearest_third s
unfolding nearest_third
nearest_third_only s q h =
    let n = near_gives (sub (scale 3 (its q)) (its s)) h in floor_only (record {
      low = at_most (scale 3 (its q)) (add (its s) (nat 1)) (omega arith);
      high = less (add (its s) (nat 1)) (add (scale 3 (its q)) (nat 3)) (omega arith);
    })

-- half_up n d is the q with 2 d q ≤ 2 n + d < 2 d q + 2 d: n / d is at least q - 1/2 and below q + 1/2.
pub half_up_lem : (n : ℤ) {d : ℕ} → 0 < d → Floor (pos 2 *ℤ n +ℤ pos d) (2 * d) (half_up n d)
unfolding half_up
half_up_lem n h = floor _ (omega arith)

-- ---- rounding by a rule

-- Half of d is added before n / d is rounded down; rule 2 adds a little less below zero, so that a half goes down
-- there.
unfoldable pub shy : ℕ → ℤ → ℕ
shy rule (pos a) = 0
shy rule (negsuc a) = bit (eqb rule 2)

abbrev pub Rounded : ℕ → ℤ → ℕ → ℤ → Type 0
Rounded rule n d q = Floor (pos 2 *ℤ n +ℤ pos d -ℤ pos (shy rule n)) (2 * d) q

-- What is added: a number below zero is told by `below`.
pub shy_is : (rule : ℕ) (n : ℤ) (d : ℕ)
    → Is (pos 2 *ℤ n +ℤ pos d -ℤ pos (shy rule n)) (2 * above n + d) (2 * below n + shy rule n)
shy_is rule n d = let z = sub (add (scale 2 (its n)) (nat d)) (nat (shy rule n)) in omega arith

pub shy_most : (rule : ℕ) (n : ℤ) → shy rule n ≤ 1
unfolding shy
shy_most rule (pos a) = omega arith
shy_most rule (negsuc a) = go (eqb rule 2)
  where
    go : (b : Bool) → bit b ≤ 1
    go true = omega arith
    go false = omega arith

pub shy_none : (rule : ℕ) (n : ℤ) → (rule ≢ 2) ⊎ (pos 0 ≤ℤ n) → shy rule n ≡ 0
unfolding shy above below
shy_none rule (pos a) h = refl
shy_none rule (negsuc a) (inl h) = rw (ne_eqb rule 2 h)
shy_none rule (negsuc a) (inr h) = absurd (omega (arith, ordered h))

pub shy_one : (rule : ℕ) (n : ℤ) → rule ≡ 2 → n <ℤ pos 0 → shy rule n ≡ 1
unfolding shy above below
shy_one rule (pos a) e h = absurd (omega (arith, less_gives (nat a) (nat 0) h))
shy_one rule (negsuc a) e h = rw e

-- Nothing taken off.
half_up_whole : (n : ℤ) {d : ℕ} → 0 < d → Floor (pos 2 *ℤ n +ℤ pos d -ℤ pos 0) (2 * d) (half_up n d)
half_up_whole n {d} h =
    let f = half_up_lem n h in
    let q = scale (2 * d) (its (half_up n d)) in
    let z = add (scale 2 (its n)) (nat d) in
    record {
      low = at_most q (sub z (nat 0)) (omega (arith, at_most_gives q z f.low));
      high = less (sub z (nat 0)) (add q (nat (2 * d))) (omega (arith, less_gives z (add q (nat (2 * d))) f.high));
    }

-- q is rounded rule n d exactly where it is so rounded.
rounded_is : (rule : ℕ) (n : ℤ) {d : ℕ} → 0 < d → Rounded rule n d (rounded rule n d)
unfolding rounded shy
rounded_is rule (pos a) h = half_up_whole (pos a) h
rounded_is rule (negsuc a) {d} h = go (eqb rule 2)
  where
    go : (b : Bool)
        → Floor (pos 2 *ℤ negsuc a +ℤ pos d -ℤ pos (bit b)) (2 * d)
        (elim b [ true ↦ neg_ℤ (half_up (pos (suc a)) d) | false ↦ half_up (negsuc a) d ])
    go true =
        let f = half_up_lem (pos (suc a)) h in
        let q = its (half_up (pos (suc a)) d) in
        let y = add (scale 2 (nat (suc a))) (nat d) in
        let z = sub (add (scale 2 (neg (nat (suc a)))) (nat d)) (nat 1) in
        let l = at_most_gives (scale (2 * d) q) y f.low in
        let k = less_gives y (add (scale (2 * d) q) (nat (2 * d))) f.high in
        record {
          low = at_most (scale (2 * d) (neg q)) z (omega arith);
          high = less z (add (scale (2 * d) (neg q)) (nat (2 * d))) (omega arith);
        }
    go false = half_up_whole (negsuc a) h

pub rounded_only : (rule : ℕ) (n q : ℤ) (d : ℕ) → 0 < d → Rounded rule n d q → q ≡ rounded rule n d
rounded_only rule n q d h f = floor_only f ∙ sym (floor_only (rounded_is rule n h))

shy_or : (rule : ℕ) (n : ℤ) → ((rule ≢ 2) ⊎ (pos 0 ≤ℤ n)) ⊎ ((rule ≡ 2) × (n <ℤ pos 0))
unfolding above below
shy_or rule (pos a) = inl (inr (at_most (nat 0) (nat a) (omega arith)))
shy_or rule (negsuc a) = go (ℕ_discrete rule 2)
  where
    go : Dec (rule ≡ 2) → ((rule ≢ 2) ⊎ (pos 0 ≤ℤ negsuc a)) ⊎ ((rule ≡ 2) × (negsuc a <ℤ pos 0))
    go (yes e) = inr (e, less (its (negsuc a)) (nat 0) (omega arith))
    go (no e) = inl (inl e)

-- Which is what the rules call nearest.
pub rounded_nearest : (rule : ℕ) (n : ℤ) {d : ℕ} → 0 < d → Nearest rule n d (rounded rule n d)
rounded_nearest rule n {d} h =
    let f = rounded_is rule n h in
    let q = scale (2 * d) (its (rounded rule n d)) in
    let e = shy_most rule n in
    let l = at_most_gives q (shy_is rule n d) f.low in
    let k = less_gives (shy_is rule n d) (add q (nat (2 * d))) f.high in
    let twice = scale 2 (its n) in
    record {
      low = at_most q (add twice (nat d)) (omega arith);
      high = at_most twice (add q (nat d)) (omega arith);
      up = λ u. less twice (add q (nat d)) (omega (arith, shy_none rule n u));
      away = λ two down. less q (add twice (nat d)) (omega (arith, shy_one rule n two down));
    }

nearest_rounded : (rule : ℕ) (n q : ℤ) (d : ℕ) → Nearest rule n d q → Rounded rule n d q
nearest_rounded rule n q d N = go (shy_or rule n)
  where
    by_q : Is (pos (2 * d) *ℤ q) (2 * d * above q) (2 * d * below q)
    by_q = scale (2 * d) (its q)

    twice : Is (pos 2 *ℤ n) (2 * above n) (2 * below n)
    twice = scale 2 (its n)

    rounded_by : 2 * d * above q + (2 * below n + shy rule n) ≤ 2 * above n + d + 2 * d * below q
        → 2 * above n + d + 2 * d * below q < 2 * d * above q + 2 * d + (2 * below n + shy rule n) → Rounded rule n d q
    rounded_by l k = record {
      low = at_most by_q (shy_is rule n d) l;
      high = less (shy_is rule n d) (add by_q (nat (2 * d))) (omega arith);
    }

    go : ((rule ≢ 2) ⊎ (pos 0 ≤ℤ n)) ⊎ ((rule ≡ 2) × (n <ℤ pos 0)) → Rounded rule n d q
    go (inl u) =
        let e = shy_none rule n u in
        let l = at_most_gives by_q (add twice (nat d)) N.low in
        let k = less_gives twice (add by_q (nat d)) (N.up u) in
        rounded_by (omega arith) (omega arith)
    go (inr (two, down)) =
        let e = shy_one rule n two down in
        let l = less_gives by_q (add twice (nat d)) (N.away two down) in
        let k = at_most_gives twice (add by_q (nat d)) N.high in
        rounded_by (omega arith) (omega arith)

pub nearest_only : (rule : ℕ) (n q : ℤ) (d : ℕ) → Nearest rule n d q → q ≡ rounded rule n d
nearest_only rule n q d N =
    let f = nearest_rounded rule n q d N in
    let by_q = scale (2 * d) (its q) in
    let l = at_most_gives by_q (shy_is rule n d) f.low in
    let k = less_gives (shy_is rule n d) (add by_q (nat (2 * d))) f.high in
    rounded_only rule n q d (omega arith) f

shy_mono : (rule : ℕ) {y z : ℤ} → y ≤ℤ z
    → 2 * above y + (2 * below z + shy rule z) ≤ 2 * above z + (2 * below y + shy rule y)
unfolding shy above below
shy_mono rule {y = pos a} {z = pos b} h = omega (arith, ordered h)
shy_mono rule {y = pos a} {z = negsuc b} h = absurd (omega (arith, ordered h))
shy_mono rule {y = negsuc a} {z = pos b} h = omega arith
shy_mono rule {y = negsuc a} {z = negsuc b} h = omega (arith, ordered h)

rounded_mono : (rule : ℕ) {y z : ℤ} {d : ℕ} → 0 < d → y ≤ℤ z → rounded rule y d ≤ℤ rounded rule z d
rounded_mono rule {y} {z} {d} h k =
    floor_mono (rounded_is rule y h) (rounded_is rule z h)
    (at_most (shy_is rule y d) (shy_is rule z d) (omega (arith, shy_mono rule k)))

-- A nearest third lies between the three numbers of its sum: it grows with them, and is theirs where they are equal.
third_mono : {x y z u v w : ℤ} → x ≤ℤ u → y ≤ℤ v → z ≤ℤ w → nearest_third (x +ℤ y +ℤ z) ≤ℤ nearest_third (u +ℤ v +ℤ w)
unfolding nearest_third
third_mono {x} {y} {z} {u} {v} {w} hx hy hz =
    floor_mono (floor (x +ℤ y +ℤ z +ℤ pos 1) {m = 3} (lit< tt)) (floor (u +ℤ v +ℤ w +ℤ pos 1) (lit< tt))
    (at_most (add (add (add (its x) (its y)) (its z)) (nat 1)) (add (add (add (its u) (its v)) (its w)) (nat 1))
    (omega (arith, ordered hx, ordered hy, ordered hz)))

third_same : (b : ℤ) → nearest_third (b +ℤ b +ℤ b) ≡ b
third_same b =
    let d = sub (scale 3 (its b)) (add (add (its b) (its b)) (its b)) in
    sym (nearest_third_only _ b (near d (omega arith) (omega arith)))

pub third_at_least : {lo x y z : ℤ} → lo ≤ℤ x → lo ≤ℤ y → lo ≤ℤ z → lo ≤ℤ nearest_third (x +ℤ y +ℤ z)
third_at_least {lo} h k l = rw (third_same lo) at (third_mono h k l)

pub third_at_most : {hi x y z : ℤ} → x ≤ℤ hi → y ≤ℤ hi → z ≤ℤ hi → nearest_third (x +ℤ y +ℤ z) ≤ℤ hi
third_at_most {hi} h k l = rw (third_same hi) at (third_mono h k l)

pub third_in_range : {x y z : ℤ} → InRange x → InRange y → InRange z → InRange (nearest_third (x +ℤ y +ℤ z))
third_in_range h k l = record {
  low = third_at_least h.low k.low l.low;
  high = third_at_most h.high k.high l.high;
}

-- No weight is above that of two entries, by one computed test of the table.
greatest : List ℕ → ℕ
greatest [] = 0
greatest (x ∷ xs) = max x (greatest xs)

entry_at_most : (xs : List ℕ) (i : ℕ) → get_or xs i 0 ≤ greatest xs
unfolding greatest
entry_at_most [] i = omega arith
entry_at_most (x ∷ xs) zero = omega arith
entry_at_most (x ∷ xs) (suc i) = omega (arith, entry_at_most xs i)

pub weight_at_most : (n : ℕ) → weight n ≤ 43691
unfolding weight weights greatest
weight_at_most n = le_trans (entry_at_most weights n) (lit≤ tt)

-- ---- means

-- The mean of a parts at p and of b parts at each of n places that add up to s, rounded by a rule.
unfoldable pub mean : ℕ → ℕ → ℕ → ℕ → ℤ → ℤ → ℤ
mean rule a b n p s = rounded rule (pos a *ℤ p +ℤ pos b *ℤ s) (a + b * n)

-- It lies between these places: it grows with them, and is theirs where they are one.
module _ (rule a b n : ℕ) (some : 0 < a + b * n) where
  mean_mono : {p q s t : ℤ} → p ≤ℤ q → s ≤ℤ t → mean rule a b n p s ≤ℤ mean rule a b n q t
  unfolding mean
  mean_mono {p} {q} {s} {t} h k =
      rounded_mono rule some
      (at_most (add (scale a (its p)) (scale b (its s))) (add (scale a (its q)) (scale b (its t)))
      (omega (arith, mul-le-mul_left a (ordered h), mul-le-mul_left b (ordered k))))

  mean_same : (x : ℤ) → mean rule a b n x (pos n *ℤ x) ≡ x
  unfolding mean
  mean_same x =
      let d = a + b * n in
      let z = pos a *ℤ x +ℤ pos b *ℤ (pos n *ℤ x) in
      let m = sub (add (scale 2 (add (scale a (its x)) (scale b (scale n (its x))))) (nat d)) (nat (shy rule z)) in
      let e = shy_most rule z in
      sym (rounded_only rule z x d some (record {
        low = at_most (scale (2 * d) (its x)) m (omega arith);
        high = less m (add (scale (2 * d) (its x)) (nat (2 * d))) (omega arith);
      }))

  pub mean_at_least : {lo p s : ℤ} → lo ≤ℤ p → (pos n *ℤ lo) ≤ℤ s → lo ≤ℤ mean rule a b n p s
  mean_at_least {lo} k l = rw (mean_same lo) at (mean_mono k l)

  pub mean_at_most : {hi p s : ℤ} → p ≤ℤ hi → s ≤ℤ (pos n *ℤ hi) → mean rule a b n p s ≤ℤ hi
  mean_at_most {hi} k l = rw (mean_same hi) at (mean_mono k l)

  pub mean_in_range : {p s : ℤ} → InRange p → neg_ℤ (pos (n * max_coordinate)) ≤ℤ s → s ≤ℤ pos (n * max_coordinate)
      → InRange (mean rule a b n p s)
  mean_in_range r k l = record { low = mean_at_least r.low k; high = mean_at_most r.high l }

-- The move of a vertex is a mean: of its 65536 n parts the vertex has n (65536 - w), and each of the n ring entries w.
pub parts_of_move : (n : ℕ) → n * (65536 - weight n) + weight n * n ≡ 65536 * n
parts_of_move n =
    let e : 65536 - weight n + weight n ≡ 65536 = omega (arith, weight_at_most n) in
    omega (arith, ap (λ t. n * t) e)

pub moved_is : (rule n : ℕ) (p s : ℤ) → moved rule n p s ≡ mean rule (n * (65536 - weight n)) (weight n) n p s
unfolding moved mean
moved_is rule n p s =
    let w = weight n in
    let h = weight_at_most n in
    let e : pos 65536 -ℤ pos w ≡ pos (65536 - w) = equal (sub (nat 65536) (nat w)) (nat _) (omega arith) in
    rw (e, parts_of_move n)

-- So is its limit: the vertex has 65536 n parts, and each ring entry 3 w.
pub limit_is : (rule n : ℕ) (p s : ℤ) → limit rule n p s ≡ mean rule (65536 * n) (3 * weight n) n p s
unfolding limit mean
limit_is rule n p s =
    let e : n * (65536 + 3 * weight n) ≡ 65536 * n + 3 * weight n * n = omega arith in
    rw e

-- Both lie in range where their vertex and the ring entries do.
module _ (rule : ℕ) {n : ℕ} {p s : ℤ} (h : 1 ≤ n) (r : InRange p) (k : neg_ℤ (pos (n * max_coordinate)) ≤ℤ s)
    (l : s ≤ℤ pos (n * max_coordinate)) where
  pub moved_in_range : InRange (moved rule n p s)
  moved_in_range =
      rw (moved_is rule n p s)
      (mean_in_range rule (n * (65536 - weight n)) (weight n) n (omega (arith, parts_of_move n)) r k l)

  pub limit_in_range : InRange (limit rule n p s)
  limit_in_range = rw (limit_is rule n p s) (mean_in_range rule (65536 * n) (3 * weight n) n (omega arith) r k l)
