-- The whole step on its way: what the children are and what they are linked to, and the next side settled.
use mathlib.Core.Path.{◌≡◌, sym, ap, ◌∙◌, subst}
use mathlib.Core.Logic.{◌≢◌}
use Prim.Native.Nat.{ℕ, suc, ◌+◌, ◌*◌, ◌/◌, ◌%◌, ◌≤◌, ◌<◌}
use native.Mathlib.Omega.{arith}
use native.Mathlib.Decide.{ℕ_discrete, dec_lt}
use Rattle.theory.proofs.Links.Manifold.{Base}
use Rattle.theory.proofs.Links.Sides.{previous_lt}
use Rattle.theory.proofs.Splits.Bases.{Settling, kept, flipped}
use Rattle.theory.proofs.Splits.FlipRead.{Flips, flip_name, flip_name_s, flip_name_u, flip_name_else}
use Rattle.theory.proofs.Steps.Children.{Mates, child_of, base_name, later, inward, slot_lt, slot_apart, slot_not}
use Rattle.theory.proofs.Steps.Children.{name_split, name_waits, name_lt, name_apart, name_base, inward_flipped}
use Rattle.theory.proofs.Steps.Children.{inward_waits, inward_same, later_mate, inward_lt, inward_apart}
use Rattle.theory.proofs.Steps.Children.{inward_not}
use Rattle.rules.specs.Tables.{Topology, sides, origin, link, generation, next, previous}

-- The first i triangles of d, all of generation g, are split, and the first n sides settled.
pub record Stage (g i n : ℕ) (d e : Topology) : Type 0 where
  pub triangles : e.triangles ≡ d.triangles + 2 * i
  pub waiting : (t : ℕ) → i ≤ t → t < d.triangles → generation e t ≡ g
  pub risen : (h : ℕ) → h < sides d → h / 3 < i → n ≤ later d h → generation e (child_of d h) ≡ suc g
  pub base : (h : ℕ) → h < sides d → n ≤ later d h → link e (base_name d i h) ≡ base_name d i (link d h)
  pub first : (h : ℕ) → h < sides d → h / 3 < i → origin e (3 * child_of d h) ≡ origin d h
  pub second : (h : ℕ) → h < sides d → h / 3 < i → later d h < n
      → origin e (3 * child_of d h + 1) ≡ d.vertices + link d h / 3
  pub third : (h : ℕ) → h < sides d → h / 3 < i → origin e (3 * child_of d h + 2) ≡ d.vertices + h / 3
  pub outward : (h : ℕ) → h < sides d → h / 3 < i → link e (3 * child_of d h + 2) ≡ inward d n (previous h)
  pub inwards : (h : ℕ) → h < sides d → h / 3 < i → link e (inward d n h) ≡ 3 * child_of d (next h) + 2
  pub across : (h : ℕ) → h < sides d → h / 3 < i → later d h < n
      → link e (3 * child_of d h + 1) ≡ 3 * child_of d (link d h) + 1

-- Side h is neither n nor its partner.
record Apart (d : Topology) (n h : ℕ) : Type 0 where
  later : later d h ≢ n
  one : h ≢ n
  two : h ≢ link d n
  mate : link d h ≢ n
  mates : link d h ≢ link d n

-- A fact of each side, by cases: n, its partner, or another.
by_pair : (d : Topology) → Mates d → (n : ℕ) (P : ℕ → Type 0) → n < sides d → P n → P (link d n)
    → ((h : ℕ) → h < sides d → Apart d n h → P h) → (h : ℕ) → h < sides d → P h
by_pair d M n P u p q r h l = go (ℕ_discrete h n) (ℕ_discrete h (link d n))
  where
    go : Dec (h ≡ n) → Dec (h ≡ link d n) → P h
    go (yes e) x = subst P (sym e) p
    go (no e) (yes x) = subst P (sym x) q
    go (no e) (no x) =
        let z : link d h ≢ n = λ y. x (sym (M.back h l) ∙ ap (λ (k : ℕ). link d k) y) in
        r h l (record {
          later = omega arith;
          one = e;
          two = x;
          mate = z;
          mates = λ y. e (sym (M.back h l) ∙ ap (λ (k : ℕ). link d k) y ∙ M.back n u);
        })

-- ---- the next side is settled: n, of the last triangle split

module _ (g i n : ℕ) (d e : Topology) (M : Mates d) (I : Stage g i n d e) (even : g % 2 ≡ 0) (few : i ≤ d.triangles)
    (split' : n / 3 + 1 ≡ i) where
  abbrev un : n < sides d
  un = omega arith

  abbrev ub : link d n < sides d
  ub = M.in_use n un

  abbrev s : ℕ
  s = child_of d n

  abbrev u : ℕ
  u = child_of d (link d n)

  -- Its partner is still to be split.
  settle_waits : i ≤ link d n / 3 → Stage g i (suc n) d e
  settle_waits w = record {
    triangles = I.triangles;
    waiting = I.waiting;
    risen = λ h l j q. I.risen h l j (omega arith);
    base = λ h l q. I.base h l (omega arith);
    first = I.first;
    second = λ h l j q. let ne = not_now h l in I.second h l j (omega arith);
    third = I.third;
    outward = λ h l j.
        I.outward h l j ∙ sym (inward_same d n (previous h) (not_now (previous h) (previous_lt h d.triangles l)));
    inwards = λ h l j. ap (λ (x : ℕ). link e x) (inward_same d n h (not_now h l)) ∙ I.inwards h l j;
    across = λ h l j q. let ne = not_now h l in I.across h l j (omega arith);
  }
    where
      not_now : (h : ℕ) → h < sides d → later d h ≢ n
      not_now =
          by_pair d M n (λ h. later d h ≢ n) un (omega arith) (let b = later_mate d M n un in omega arith)
          (λ h l A. A.later)

  module _ (e' : Topology) (before : link d n < n) (S : Flips s u e e') where
    abbrev su : n / 3 < i
    su = omega arith

    abbrev bu : link d n / 3 < i
    bu = omega arith

    abbrev last : later d n ≡ n
    last = omega arith

    abbrev last_mate : later d (link d n) ≡ n
    last_mate = later_mate d M n un ∙ last

    use_lt : (h : ℕ) → h < sides d → h / 3 < i → 3 * child_of d h + 2 < sides e
    use_lt h l j = omega (arith, slot_lt d h i l j, I.triangles)

    not_last : (h : ℕ) → h < sides d → suc n ≤ later d h → Apart d n h
    not_last = by_pair d M n (λ h. suc n ≤ later d h → Apart d n h) un (λ q. absurd (omega arith))
        (λ q. let z = last_mate in absurd (omega arith)) (λ h l A q. A)

    -- The link of another side is renamed.
    renamed : (h : ℕ) → h < sides d → Apart d n h → (k : ℕ) → k / 3 ≡ child_of d h → k < sides e
        → link e' k ≡ flip_name s u (link e k)
    renamed h l A k q j =
        let x = slot_apart d h n l un A.one in
        let y = slot_apart d h (link d n) l ub A.two in
        S.links k j (omega arith) (omega arith)

    cornered : (h : ℕ) → h < sides d → Apart d n h → (k : ℕ) → k / 3 ≡ child_of d h → origin e' k ≡ origin e k
    cornered h l A k q =
        let x = slot_apart d h n l un A.one in
        let y = slot_apart d h (link d n) l ub A.two in
        S.corners k (omega arith) (omega arith)

    flip_inward : (h : ℕ) → h < sides d → flip_name s u (inward d n h) ≡ inward d (suc n) h
    flip_inward =
        by_pair d M n (λ h. flip_name s u (inward d n h) ≡ inward d (suc n) h) un
        (ap (flip_name s u) (inward_waits d n n (omega arith)) ∙ flip_name_s s u
        ∙ sym (inward_flipped d (suc n) n (omega arith)))
        (ap (flip_name s u) (inward_waits d n (link d n) (let z = last_mate in omega arith))
        ∙ flip_name_u s u (slot_apart d n (link d n) un ub (omega arith))
        ∙ ap (λ (x : ℕ). 3 * child_of d x) (sym (M.back n un))
        ∙ sym (inward_flipped d (suc n) (link d n) (let z = last_mate in omega arith)))
        (λ h l A. flip_name_else s u (inward d n h) (inward_not d M n h n l un A.one)
        (inward_not d M n h (link d n) l ub A.two) ∙ sym (inward_same d n h A.later))

    -- The sides before n and before its partner are no part of the flip.
    before_n : later d (previous n) ≢ n
    before_n = let z = M.other (previous n) (previous_lt n d.triangles un) in omega arith

    before_mate : later d (previous (link d n)) ≢ n
    before_mate =
        let l : previous (link d n) < sides d = previous_lt (link d n) d.triangles ub in
        let z = M.other n un in
        let y = M.back (previous (link d n)) l in
        let x : link d (previous (link d n)) ≢ n = λ q.
        let w : link d n ≡ previous (link d n) = ap (λ (k : ℕ). link d k) (sym q) ∙ y in omega arith in
        omega arith

    settle_flips : Stage g i (suc n) d e'
    settle_flips = record {
      triangles = S.triangles ∙ I.triangles;
      waiting = λ t j l.
          let x = slot_not d n t l (omega arith) in
          let y = slot_not d (link d n) t l (omega arith) in
          S.generations t (λ q. x (sym q)) (λ q. y (sym q)) ∙ I.waiting t j l;
      risen = λ h l j q.
          let A = not_last h l q in
          S.generations (child_of d h) (slot_apart d h n l un A.one) (slot_apart d h (link d n) l ub A.two)
          ∙ I.risen h l j (omega arith);
      base = λ h l q.
          let A = not_last h l q in
          let k : link d h < sides d = M.in_use h l in
          S.links (base_name d i h) (omega (arith, name_lt d i h l, I.triangles))
          (name_apart d i h n l un su A.one) (name_apart d i h (link d n) l ub bu A.two)
          ∙ ap (flip_name s u) (I.base h l (omega arith))
          ∙ flip_name_else s u (base_name d i (link d h)) (name_base d i (link d h) n k un su)
          (name_base d i (link d h) (link d n) k ub bu);
      first = by_pair d M n (λ h. h / 3 < i → origin e' (3 * child_of d h) ≡ origin d h) un
          (λ j. S.corners_s.0 ∙ I.first n un su)
          (λ j. S.corners_u.0 ∙ I.first (link d n) ub bu)
          (λ h l A j. cornered h l A (3 * child_of d h) (omega arith) ∙ I.first h l j);
      second = by_pair d M n
          (λ h. h / 3 < i → later d h < suc n → origin e' (3 * child_of d h + 1) ≡ d.vertices + link d h / 3) un
          (λ j q. S.corners_s.1 ∙ I.third (link d n) ub bu)
          (λ j q. S.corners_u.1 ∙ I.third n un su ∙ ap (λ (x : ℕ). d.vertices + x / 3) (sym (M.back n un)))
          (λ h l A j q. let ne = A.later in
          cornered h l A (3 * child_of d h + 1) (omega arith) ∙ I.second h l j (omega arith));
      third = by_pair d M n (λ h. h / 3 < i → origin e' (3 * child_of d h + 2) ≡ d.vertices + h / 3) un
          (λ j. S.corners_s.2 ∙ I.third n un su)
          (λ j. S.corners_u.2 ∙ I.third (link d n) ub bu)
          (λ h l A j. cornered h l A (3 * child_of d h + 2) (omega arith) ∙ I.third h l j);
      outward = by_pair d M n (λ h. h / 3 < i → link e' (3 * child_of d h + 2) ≡ inward d (suc n) (previous h)) un
          (λ j. S.links_s.2 ∙ I.outward n un su ∙ sym (inward_same d n (previous n) before_n))
          (λ j. S.links_u.2 ∙ I.outward (link d n) ub bu ∙ sym (inward_same d n (previous (link d n)) before_mate))
          (λ h l A j. renamed h l A (3 * child_of d h + 2) (omega arith) (use_lt h l j)
          ∙ ap (flip_name s u) (I.outward h l j) ∙ flip_inward (previous h) (previous_lt h d.triangles l));
      inwards = by_pair d M n (λ h. h / 3 < i → link e' (inward d (suc n) h) ≡ 3 * child_of d (next h) + 2) un
          (λ j. ap (λ (x : ℕ). link e' x) (inward_flipped d (suc n) n (omega arith)) ∙ S.links_u.0
          ∙ ap (λ (x : ℕ). link e x) (sym (inward_waits d n n (omega arith))) ∙ I.inwards n un su)
          (λ j. let z = last_mate in
          ap (λ (x : ℕ). link e' x) (inward_flipped d (suc n) (link d n) (omega arith)
          ∙ ap (λ (x : ℕ). 3 * child_of d x) (M.back n un)) ∙ S.links_s.0
          ∙ ap (λ (x : ℕ). link e x) (sym (inward_waits d n (link d n) (omega arith))) ∙ I.inwards (link d n) ub bu)
          (λ h l A j. ap (λ (x : ℕ). link e' x) (inward_same d n h A.later)
          ∙ S.links (inward d n h) (omega (arith, inward_lt d M i n h (omega arith) l j, I.triangles))
          (inward_apart d M n h n l un A.one A.mate)
          (inward_apart d M n h (link d n) l ub A.two A.mates)
          ∙ ap (flip_name s u) (I.inwards h l j)
          ∙ flip_name_else s u (3 * child_of d (next h) + 2) (omega arith) (omega arith));
      across = by_pair d M n
          (λ h. h / 3 < i → later d h < suc n → link e' (3 * child_of d h + 1) ≡ 3 * child_of d (link d h) + 1) un
          (λ j q. S.links_s.1)
          (λ j q. S.links_u.1 ∙ ap (λ (x : ℕ). 3 * child_of d x + 1) (sym (M.back n un)))
          (λ h l A j q.
          let ne = A.later in
          let k : link d h < sides d = M.in_use h l in
          let x = slot_apart d (link d h) n k un A.mate in
          let y = slot_apart d (link d h) (link d n) k ub A.mates in
          renamed h l A (3 * child_of d h + 1) (omega arith) (omega (arith, use_lt h l j))
          ∙ ap (flip_name s u) (I.across h l j (omega arith))
          ∙ flip_name_else s u (3 * child_of d (link d h) + 1) (omega arith) (omega arith));
    }

  -- What the base of the child at n is linked to.
  meets : link e (3 * s) ≡ base_name d i (link d n)
  meets =
      ap (λ (x : ℕ). link e x) (sym (name_split d i n (omega arith))) ∙ I.base n un (omega arith)

  pub settle_stage : (e' : Topology) → Settling s e e' → Stage g i (suc n) d e'
  settle_stage e' (kept x) = go (dec_lt (link d n / 3) i)
    where
      go : Dec (link d n / 3 < i) → Stage g i (suc n) d e
      go (no w) = settle_waits (omega arith)
      go (yes w) =
          let z = later_mate d M n un in
          let q : link e (3 * s) ≡ 3 * u = meets ∙ name_split d i (link d n) w in
          let r : generation e u ≡ suc g = I.risen (link d n) ub w (omega arith) in
          let k : 3 * u / 3 ≡ u = omega arith in
          let b : Base e (3 * u) = (omega arith, ap (λ (y : ℕ). generation e y % 2) k ∙ omega arith) in
          absurd (x (subst (Base e) (sym q) b))
  settle_stage e' (flipped v B S) = go (dec_lt (link d n / 3) i)
    where
      go : Dec (link d n / 3 < i) → Stage g i (suc n) d e'
      go (no w) =
          let q : 3 * v ≡ link d n = sym B.meet ∙ meets ∙ name_waits d i (link d n) (omega arith) in
          let l = ub in
          let r = I.waiting v (omega arith) (omega arith) in
          absurd (omega (arith, B.odd, B.same))
      go (yes w) =
          let q : 3 * v ≡ 3 * u = sym B.meet ∙ meets ∙ name_split d i (link d n) w in
          let r : v ≡ u = omega arith in
          let z = M.other n un in
          settle_flips e' (omega arith) (subst (λ (y : ℕ). Flips s y e e') r S)
