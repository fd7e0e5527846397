-- The walk round a vertex: where it starts, that it meets no triangle twice, and where it ends.
use mathlib.Core.Path.{◌≡◌, refl, sym, ap, ◌∙◌, subst}
use mathlib.Core.Logic.{◌≢◌, ◌⊎◌, inl, inr}
use mathlib.Core.Bool.{Bool, true, false, not, ◌&&◌}
use mathlib.Core.List.{List, [], ◌∷◌}
use Prim.Native.Nat.{ℕ, zero, suc, ◌/◌, ◌≤◌, ◌<◌}
use native.Mathlib.Omega.{arith}
use native.Mathlib.Decide.{ℕ_discrete, dec_lt}
use lib.ListN.{length, get_or}
use lib.Dec.{eqb, ltb}
use Rattle.theory.proofs.Numbers.Decide.{Decides, Lowest, is_eq, is_lt, is_not, is_and, lowest_is}
use Rattle.theory.proofs.Links.Manifold.{Joined}
use Rattle.theory.proofs.Numbers.Pigeonhole.{Reached, no_more}
use Rattle.theory.proofs.Links.Sides.{previous_lt}
use Rattle.theory.proofs.Numbers.Sums.{total_const}
use Rattle.theory.proofs.Rings.Turning.{Glued, rotate_origin, rotate_injective, same_side}
use Rattle.rules.specs.Below.{lowest, count}
use Rattle.rules.specs.Ring.{first_side, fan_from, fan}
use Rattle.rules.specs.Sound.{Turns, here, turn}
use Rattle.rules.specs.Tables.{Topology, sides, previous, origin, boundary, link, rotate}

-- ---- the walk, as far as it goes

-- The side at place i of a walk.
abbrev pub side_at : List ℕ → ℕ → ℕ
side_at l i = get_or l i 0

-- The walk l meets side h.
abbrev pub Meets : List ℕ → ℕ → Type 0
Meets l h = Reached (length l) (side_at l) h

-- A turn from h leads to a side in use, and not back to s.
abbrev GoesOn : Topology → ℕ → ℕ → Type 0
GoesOn m s h = (rotate m h < sides m) × (¬ (rotate m h ≡ s))

-- A walk from h on that goes on until it is back at s, but for n sides at most.
record Begun (m : Topology) (s n h : ℕ) (l : List ℕ) : Type 0 where
  some : 0 < n → 0 < length l
  first : 0 < length l → side_at l 0 ≡ h
  goes : (i : ℕ) → suc i < length l → GoesOn m s (side_at l i) × (side_at l (suc i) ≡ rotate m (side_at l i))
  stops : (i : ℕ) → suc i ≡ length l → length l < n → ¬ GoesOn m s (side_at l i)

-- One side more.
begun_on : (m : Topology) (s n h : ℕ) (l : List ℕ) (b : Bool) → Decides b (GoesOn m s h) → Begun m s n (rotate m h) l
    → Begun m s (suc n) h (h ∷ elim b [ true ↦ l | false ↦ [] ])
begun_on m s n h l true d B = record {
  some = λ _. omega arith;
  first = λ _. refl;
  goes = goes';
  stops = stops';
}
  where
    goes' : (i : ℕ) → suc i < suc (length l)
        → GoesOn m s (side_at (h ∷ l) i) × (side_at l i ≡ rotate m (side_at (h ∷ l) i))
    goes' zero k = (d.holds tt, B.first (omega arith))
    goes' (suc i) k = B.goes i (omega arith)

    stops' : (i : ℕ) → suc i ≡ suc (length l) → suc (length l) < suc n → ¬ GoesOn m s (side_at (h ∷ l) i)
    stops' zero e k g = let x = B.some (omega arith) in omega arith
    stops' (suc i) e k g = B.stops i (omega arith) (omega arith) g
begun_on m s n h l false d B = record {
  some = λ _. omega arith;
  first = λ _. refl;
  goes = λ i k. absurd (omega arith);
  stops = stops';
}
  where
    stops' : (i : ℕ) → suc i ≡ 1 → 1 < suc n → ¬ GoesOn m s (side_at (h ∷ []) i)
    stops' zero e k g = d.passes g
    stops' (suc i) e k g = omega arith

begun : (m : Topology) (s n h : ℕ) → Begun m s n h (fan_from n m s h)
unfolding fan_from
begun m s zero h = record {
  some = λ x. x;
  first = λ x. absurd (omega arith);
  goes = λ i k. absurd (omega arith);
  stops = λ i e k g. omega arith;
}
begun m s (suc n) h =
    begun_on m s n h (fan_from n m s (rotate m h)) (ltb (rotate m h) (sides m) && not (eqb (rotate m h) s))
    (is_and (is_lt (rotate m h) (sides m)) (is_not (is_eq (rotate m h) s))) (begun m s n (rotate m h))

-- A walk that needs n sides is the same with room for one more.
same_on : (h n : ℕ) (l k : List ℕ) (b : Bool) → (length l ≤ n → l ≡ k)
    → suc (length {A = ℕ} (elim b [ true ↦ l | false ↦ [] ])) ≤ suc n
    → ◌≡◌ {A = List ℕ} (h ∷ elim b [ true ↦ l | false ↦ [] ]) (h ∷ elim b [ true ↦ k | false ↦ [] ])
same_on h n l k true f i = ap (λ (x : List ℕ). h ∷ x) (f (omega arith))
same_on h n l k false f i = refl

enough : (m : Topology) (s n h : ℕ) → length (fan_from (suc n) m s h) ≤ n → fan_from (suc n) m s h ≡ fan_from n m s h
unfolding fan_from
enough m s zero h i = absurd (omega arith)
enough m s (suc n) h i =
    same_on h n (fan_from (suc n) m s (rotate m h)) (fan_from n m s (rotate m h))
    (ltb (rotate m h) (sides m) && not (eqb (rotate m h) s))
    (enough m s n (rotate m h)) i

-- ---- the whole walk

-- The sides of l are met in this order by turning from s, up to the turn that leads back to s or to the boundary.
pub record Walked (m : Topology) (s : ℕ) (l : List ℕ) : Type 0 where
  pub some : 0 < length l
  pub first : side_at l 0 ≡ s
  pub turns : (i : ℕ) → suc i < length l → side_at l (suc i) ≡ rotate m (side_at l i)
  pub in_use : (i : ℕ) → i < length l → side_at l i < sides m
  pub out : (i : ℕ) → i < length l → origin m (side_at l i) ≡ origin m s
  -- No triangle twice, and so no side twice.
  pub once : (i j : ℕ) → i < length l → j < length l → side_at l i / 3 ≡ side_at l j / 3 → i ≡ j
  pub ends : (i : ℕ) → suc i ≡ length l → (rotate m (side_at l i) ≡ s) ⊎ (rotate m (side_at l i) ≡ boundary)
  pub met : {h : ℕ} → Turns m s h → Meets l h

module _ (m : Topology) (G : Glued m) (s : ℕ) (ls : s < sides m) (n : ℕ) (l : List ℕ) (B : Begun m s n s l) where
  in_use_lem : (i : ℕ) → i < length l → side_at l i < sides m
  in_use_lem zero k = rw (B.first k) ls
  in_use_lem (suc i) k = let x = B.goes i k in rw x.1 x.0.0

  out' : (i : ℕ) → i < length l → origin m (side_at l i) ≡ origin m s
  out' zero k = ap (λ (x : ℕ). origin m x) (B.first k)
  out' (suc i) k =
      let x = B.goes i k in
      ap (λ (y : ℕ). origin m y) x.1 ∙ rotate_origin m G (side_at l i) (in_use_lem i (omega arith)) x.0.0 ∙ out' i
      (omega arith)

  -- No side twice.
  later : (i j : ℕ) → i < j → j < length l → side_at l i ≢ side_at l j
  later i zero a k e = omega arith
  later zero (suc j) a k e = let x = B.goes j k in x.0.1 (sym x.1 ∙ sym e ∙ B.first (omega arith))
  later (suc i) (suc j) a k e =
      let x = B.goes i (omega arith) in
      let y = B.goes j k in
      later i j (omega arith) (omega arith)
      (rotate_injective m G (side_at l i) (side_at l j) (in_use_lem i (omega arith)) (in_use_lem j (omega arith)) x.0.0
      (sym x.1 ∙ e ∙ y.1))

  once' : (i j : ℕ) → i < length l → j < length l → side_at l i / 3 ≡ side_at l j / 3 → i ≡ j
  once' i j a k e = go (dec_lt i j) (dec_lt j i)
    where
      q : side_at l i ≡ side_at l j
      q = same_side m G (side_at l i) (side_at l j) (in_use_lem i a) (in_use_lem j k) e (out' i a ∙ sym (out' j k))

      go : Dec (i < j) → Dec (j < i) → i ≡ j
      go (yes x) d = absurd (later i j x k q)
      go (no x) (yes y) = absurd (later j i y a (sym q))
      go (no x) (no y) = omega arith

  -- A vertex has a side out of it at most once in each triangle.
  short : length l ≤ m.triangles
  short =
      let a : length l ≤ count m.triangles (λ t. true) =
      no_more m.triangles (length l) (λ i. side_at l i / 3) (λ t. true) (λ i k. let x = in_use_lem i k in omega arith)
      (λ i k. tt) once' in
      let b = total_const m.triangles 1 in
      omega arith

  ends' : length l < n → (i : ℕ) → suc i ≡ length l → (rotate m (side_at l i) ≡ s) ⊎ (rotate m (side_at l i) ≡ boundary)
  ends' k i e =
      go (ℕ_discrete (rotate m h) s) (G.joined (previous h) (previous_lt h m.triangles (in_use_lem i (omega arith))))
    where
      h : ℕ
      h = side_at l i

      go : Dec (rotate m h ≡ s) → Joined m (previous h) → (rotate m h ≡ s) ⊎ (rotate m h ≡ boundary)
      go (yes q) d = inl q
      go (no q) (inl x) = inr x
      go (no q) (inr M) = absurd (B.stops i e k (M.in_use, q))

  met_on : length l < n → (h k : ℕ) → rotate m h ≡ k → k < sides m → Meets l h → Meets l k
  met_on r h k e b x = go (ℕ_discrete (suc x.0) (length l))
    where
      i : ℕ
      i = x.0

      q : rotate m (side_at l i) ≡ k
      q = ap (λ (y : ℕ). rotate m y) x.2 ∙ e

      go : Dec (suc i ≡ length l) → Meets l k
      go (yes y) = elim (ends' r i y) [
        | inl z ↦ (0, omega arith, B.first (omega arith) ∙ sym z ∙ q)
        | inr z ↦ absurd (omega (arith, G.few, q))
      ]
      go (no y) = let j : suc i < length l = omega (arith, x.1) in (suc i, j, (B.goes i j).1 ∙ q)

  met' : length l < n → {h : ℕ} → Turns m s h → Meets l h
  met' r here = let x = B.some (omega arith) in (0, x, B.first x)
  met' r (turn {h} {k} p e b) = met_on r h k e b (met' r p)

  whole : length l < n → Walked m s l
  whole r = record {
    some = B.some (omega arith);
    first = B.first (B.some (omega arith));
    turns = λ i k. (B.goes i k).1;
    in_use = in_use_lem;
    out = out';
    once = once';
    ends = ends' r;
    met = met' r;
  }

-- As many sides as there are triangles are enough for a whole walk.
pub walk_walked : (m : Topology) → Glued m → (s : ℕ) → s < sides m → Walked m s (fan_from m.triangles m s s)
walk_walked m G s l =
    let n : ℕ = suc m.triangles in
    let B : Begun m s n s (fan_from n m s s) = begun m s n s in
    let k = short m G s l n (fan_from n m s s) B in
    subst (Walked m s) (enough m s m.triangles s k) (whole m G s l n (fan_from n m s s) B (omega arith))

-- ---- where the walk round v starts

-- No side out of v is on the boundary.
abbrev pub Inside : Topology → ℕ → Type 0
Inside m v = (h : ℕ) → h < sides m → origin m h ≡ v → link m h ≢ boundary

-- A side out of v from which a walk meets all of a fan: on the boundary if one is.
pub record Begins (m : Topology) (v s : ℕ) : Type 0 where
  pub in_use : s < sides m
  pub out : origin m s ≡ v
  pub best : (link m s ≡ boundary) ⊎ Inside m v

-- Such a side that is the lowest where none is on the boundary.
pub record Starts (m : Topology) (v s : ℕ) : Type 0 where
  pub begins : Begins m v s
  pub lowest : Inside m v → (h : ℕ) → h < sides m → origin m h ≡ v → s ≤ h

module _ (m : Topology) (v : ℕ) where
  out_boundary : ℕ → Bool
  out_boundary h = eqb (origin m h) v && eqb (link m h) boundary

  out_boundary_is : (h : ℕ) → Decides (out_boundary h) ((origin m h ≡ v) × (link m h ≡ boundary))
  unfolding out_boundary
  out_boundary_is h = is_and (is_eq (origin m h) v) (is_eq (link m h) boundary)

  out : ℕ → Bool
  out h = eqb (origin m h) v

  out_is : (h : ℕ) → Decides (out h) (origin m h ≡ v)
  unfolding out
  out_is h = is_eq (origin m h) v

  -- Of the lowest on the boundary and the lowest of all, the first that there is.
  pick : (a b : ℕ) (c : Bool) → Decides c (a < sides m) → Lowest (sides m) out_boundary a → Lowest (sides m) out b
      → (elim c [ true ↦ a | false ↦ b ]) < sides m → Starts m v (elim c [ true ↦ a | false ↦ b ])
  pick a b true d A B l =
      let x = (out_boundary_is a).holds (A.passes l) in
      record {
        begins = record { in_use = l; out = x.0; best = inl x.1 };
        lowest = λ n h i q. absurd (n a l x.0 x.1);
      }
  pick a b false d A B l = record {
    begins = record {
      in_use = l;
      out = (out_is b).holds (B.passes l);
      best = inr (λ h i q r. A.none h (omega (arith, d.passes)) ((out_boundary_is h).passes (q, r)));
    };
    lowest = λ n h i q. no_lower h q (dec_lt h b);
  }
    where
      no_lower : (h : ℕ) → origin m h ≡ v → Dec (h < b) → b ≤ h
      no_lower h q (yes r) = absurd (B.none h r ((out_is h).passes q))
      no_lower h q (no r) = omega arith

  pick_some : (a b : ℕ) (c : Bool) → Decides c (a < sides m) → Lowest (sides m) out b → (h : ℕ) → h < sides m
      → origin m h ≡ v
      → (elim c [ true ↦ a | false ↦ b ]) < sides m
  pick_some a b true d B h l o = d.holds tt
  pick_some a b false d B h l o = go (dec_lt b (sides m))
    where
      go : Dec (b < sides m) → b < sides m
      go (yes q) = q
      go (no q) = absurd (B.none h (omega arith) ((out_is h).passes o))

  pick_none : (a b : ℕ) (c : Bool) → Decides c (a < sides m) → Lowest (sides m) out_boundary a → Lowest (sides m) out b
      → ((h : ℕ) → h < sides m → origin m h ≢ v) → (elim c [ true ↦ a | false ↦ b ]) ≡ sides m
  pick_none a b true d A B n = let l = d.holds tt in absurd (n a l ((out_boundary_is a).holds (A.passes l)).0)
  pick_none a b false d A B n = go (dec_lt b (sides m))
    where
      go : Dec (b < sides m) → b ≡ sides m
      go (yes l) = absurd (n b l ((out_is b).holds (B.passes l)))
      go (no l) = omega (arith, B.most)

  -- The first side is such a start, where it is a side in use.
  pub first_side_lem : first_side m v < sides m → Starts m v (first_side m v)
  unfolding first_side out_boundary out
  first_side_lem =
      pick (lowest (sides m) out_boundary) (lowest (sides m) out) (ltb (lowest (sides m) out_boundary) (sides m))
      (is_lt (lowest (sides m) out_boundary) (sides m)) (lowest_is (sides m) out_boundary) (lowest_is (sides m) out)

  -- It is one where v has a side.
  pub first_in_use : (h : ℕ) → h < sides m → origin m h ≡ v → first_side m v < sides m
  unfolding first_side out_boundary out
  first_in_use =
      pick_some (lowest (sides m) out_boundary) (lowest (sides m) out) (ltb (lowest (sides m) out_boundary) (sides m))
      (is_lt (lowest (sides m) out_boundary) (sides m)) (lowest_is (sides m) out)

  -- It is past them where v has none.
  pub first_none : ((h : ℕ) → h < sides m → origin m h ≢ v) → first_side m v ≡ sides m
  unfolding first_side out_boundary out
  first_none =
      pick_none (lowest (sides m) out_boundary) (lowest (sides m) out) (ltb (lowest (sides m) out_boundary) (sides m))
      (is_lt (lowest (sides m) out_boundary) (sides m)) (lowest_is (sides m) out_boundary) (lowest_is (sides m) out)

  -- The sides out of v, in the order of its ring, are a whole walk.
  pub fan_walked : Glued m → first_side m v < sides m → Walked m (first_side m v) (fan m v)
  unfolding fan
  fan_walked G l = go (ltb (first_side m v) (sides m)) (is_lt (first_side m v) (sides m))
    where
      w : List ℕ
      w = fan_from m.triangles m (first_side m v) (first_side m v)

      go : (c : Bool) → Decides c (first_side m v < sides m)
          → Walked m (first_side m v) (elim c [ true ↦ w | false ↦ [] ])
      go true d = walk_walked m G (first_side m v) l
      go false d = absurd (d.passes l)

  pub fan_some : 0 < length (fan m v) → first_side m v < sides m
  unfolding fan
  fan_some = go (ltb (first_side m v) (sides m)) (is_lt (first_side m v) (sides m))
    where
      w : List ℕ
      w = fan_from m.triangles m (first_side m v) (first_side m v)

      go : (c : Bool) → Decides c (first_side m v < sides m) → 0 < length {A = ℕ} (elim c [ true ↦ w | false ↦ [] ])
          → first_side m v < sides m
      go true d k = d.holds tt
      go false d k = absurd (omega arith)
