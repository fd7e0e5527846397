-- Numbers put among others that rise.
use mathlib.Core.Path.{◌≡◌, refl, sym, ap, ◌∙◌}
use mathlib.Core.List.{List}
use mathlib.Core.Logic.{◌≢◌, ◌⊎◌, inl, inr}
use Prim.Native.Nat.{ℕ, zero, suc, ◌+◌, ◌-◌, ◌≤◌, ◌<◌}
use native.Mathlib.Decide.{ℕ_discrete, dec_lt}
use native.Mathlib.Omega.{arith}
use lib.ListN.{length, get_or, set, length-set, replicate, length-replicate, get_or-replicate}
use lib.Seq.{get_or-set_same, get_or-set_other}
use Rattle.rules.specs.Tables.{boundary}
use Rattle.noting.specs.Rising.{Rising, Among, Moved, Passed, Back, Adds}

-- ---- entries moved

pub moved_none : (l : List ℕ) (a : ℕ) → Moved l a a l
moved_none l a = record { before = λ i b. refl; moved = λ i b d. absurd (omega arith); after = λ i b. refl }

pub moved_one : (l : List ℕ) (a : ℕ) → 0 < a → a < length l → Moved l a (a + 1) (set l (a - 1) (get_or l a 0))
moved_one l a o r = record {
  before = λ i b. get_or-set_other l (a - 1) i (get_or l a 0) 0 (λ e. omega arith);
  moved = λ i b d.
      let e : i ≡ a - 1 = omega arith in
      let f : a ≡ suc i = omega arith in
      ap (λ (h : ℕ). get_or (set l (a - 1) (get_or l a 0)) h 0) e
      ∙ get_or-set_same l (a - 1) (get_or l a 0) 0 (omega arith) ∙ ap (λ (h : ℕ). get_or l h 0) f;
  after = λ i b. get_or-set_other l (a - 1) i (get_or l a 0) 0 (λ e. omega arith);
}

module _ {l k : List ℕ} {a b : ℕ} (M : Moved l a b k) where
  pub moved_on : {j : List ℕ} {c : ℕ} → a ≤ b → b ≤ c → Moved k b c j → Moved l a c j
  moved_on {j} {c} p q N = record {
    before = λ i d. N.before i (omega arith) ∙ M.before i d;
    moved = λ i d e. go i d e (dec_lt (suc i) b);
    after = λ i d. N.after i d ∙ M.after i (omega arith);
  }
    where
      go : (i : ℕ) → a ≤ suc i → suc i < c → Dec (suc i < b) → get_or j i 0 ≡ get_or l (suc i) 0
      go i d e (yes f) = N.before i f ∙ M.moved i d f
      go i d e (no f) = N.moved i (omega arith) e ∙ M.after (suc i) (omega arith)

  -- As far as they are to be moved back.
  pub moved_back : Back l a b k
  moved_back = record { moved = M.moved; after = λ i c d. M.after i d }

-- ---- numbers passed

-- None stands in an array that is filled with the boundary's number.
pub none_listed : Rising (replicate 40 boundary) 32
none_listed = record {
  within = omega arith;
  size = omega (arith, length-replicate 40 boundary);
  rises = λ i b d. absurd (omega arith);
  after = λ i b d. get_or-replicate 40 i boundary 0 (omega arith);
}

module _ {l : List ℕ} {a : ℕ} (R : Rising l a) where
  -- Where one is below x, so are those before it.
  all_below : {x : ℕ} (j i : ℕ) → a < i → i ≤ j → j ≤ 32 → get_or l j 0 < x → get_or l i 0 < x
  all_below zero i b d f e = absurd (omega arith)
  all_below {x} (suc j) i b d f e = go (ℕ_discrete i (suc j)) (λ c q. all_below j i b c (omega arith) q)
    where
      go : Dec (i ≡ suc j) → (i ≤ j → get_or l j 0 < x → get_or l i 0 < x) → get_or l i 0 < x
      go (yes q) g = rw q e
      go (no q) g = g (omega arith) (omega (arith, R.rises j (omega arith) (omega arith)))

  pub passed_none : (x : ℕ) → Passed l a x a l
  passed_none x = record {
    begins = omega arith;
    ends = R.within;
    moved = moved_none l a;
    below = λ i b d. absurd (omega arith);
  }

  -- An entry below x is none of those after the numbers.
  pub below_inside : {x b : ℕ} {k : List ℕ} → Passed l a x b k → (u : ℕ) → u < 5 → x ≤ boundary → get_or l (b + u) 0 < x
      → b + u ≤ 32
  below_inside {b = b} P u q y e = go (dec_lt 32 (b + u))
    where
      go : Dec (32 < b + u) → b + u ≤ 32
      go (yes c) = absurd (omega (arith, R.after (b + u) c (omega (arith, P.ends))))
      go (no c) = omega arith

  -- So many more are passed where the next after as many is below x.
  pub passed_on : {x b : ℕ} {k j : List ℕ} → Passed l a x b k → (u : ℕ) → u < 5 → x ≤ boundary
      → get_or l (b + u) 0 < x → Moved k b (b + u) j → Passed l a x (b + u) j
  passed_on {x} {b} P u q y e M =
      let few = below_inside P u q y e in record {
        begins = omega (arith, P.begins);
        ends = few;
        moved = moved_on P.moved P.begins (omega arith) M;
        below = λ i c d. go few i c d (dec_lt b i);
      }
    where
      go : b + u ≤ 32 → (i : ℕ) → a < i → i ≤ b + u → Dec (b < i) → get_or l i 0 < x
      go few i c d (yes f) = all_below (b + u) i c d few e
      go few i c d (no f) = P.below i c (omega arith)

-- ---- a number put in its place

module _ {l k : List ℕ} {a x p : ℕ} (R : Rising l a) (o : 0 < a) (s : x < boundary) (P : Passed l a x p k)
    (u : x ≤ get_or l (p + 1) 0) where
  -- It is there.
  pub found_there : {j : List ℕ} → get_or l (p + 1) 0 ≡ x → length j ≡ length l
      → ((i : ℕ) → a < i → get_or j i 0 ≡ get_or l i 0) → Adds l a (λ y. y ≡ x) j a
  found_there {j} e r f = record {
    rises = record {
      within = R.within;
      size = omega (arith, R.size);
      rises = λ i b d. omega (arith, f i b, f (suc i) (omega arith), R.rises i b d);
      after = λ i b d. f i (omega (arith, R.within)) ∙ R.after i b d;
    };
    kept = λ y m. (m.0, m.1, m.2, f m.0 m.1 ∙ m.3);
    added = λ y q.
        (p + 1, omega (arith, P.begins), inside (ℕ_discrete p 32), f (p + 1) (omega (arith, P.begins)) ∙ e ∙ sym q);
    only = λ y m. inl (m.0, m.1, m.2, sym (f m.0 m.1) ∙ m.3);
  }
    where
      inside : Dec (p ≡ 32) → p + 1 ≤ 32
      inside (yes q) = absurd (omega (arith, R.after (p + 1) (omega arith) (omega arith)))
      inside (no q) = omega (arith, P.ends)

  -- It is not, and is put there, with the last of those below it moved.
  module _ {j : List ℕ} (n : get_or l (p + 1) 0 ≢ x) (r : length j ≡ length l) (N : Moved k p (p + 1) j) where
    z : List ℕ
    z = set j p x

    M : Moved l a (p + 1) j
    M = moved_on P.moved P.begins (omega arith) N

    low : (i : ℕ) → a ≤ suc i → i < p → get_or z i 0 ≡ get_or l (suc i) 0
    unfolding z
    low i b d = get_or-set_other j p i x 0 (λ e. omega arith) ∙ M.moved i b (omega arith)

    here : get_or z p 0 ≡ x
    unfolding z
    here = get_or-set_same j p x 0 (omega (arith, P.ends, R.size))

    high : (i : ℕ) → p < i → get_or z i 0 ≡ get_or l i 0
    unfolding z
    high i b = get_or-set_other j p i x 0 (λ e. omega arith) ∙ M.after i (omega arith)

    rises_there : (i : ℕ) → a - 1 < i → i < 32 → get_or z i 0 < get_or z (suc i) 0
    rises_there i b d = go (dec_lt (suc i) p) (ℕ_discrete (suc i) p) (ℕ_discrete i p)
      where
        go : Dec (suc i < p) → Dec (suc i ≡ p) → Dec (i ≡ p) → get_or z i 0 < get_or z (suc i) 0
        go (yes c) _ _ =
            omega (
              arith,
              low i (omega arith) (omega arith),
              low (suc i) (omega arith) c,
              R.rises (suc i) (omega arith) (omega (arith, P.ends)),
            )
        go (no c) (yes e) _ =
            let w = ap (λ (h : ℕ). get_or z h 0) e in
            omega (arith, w, low i (omega arith) (omega arith), here, P.below (suc i) (omega arith) (omega arith))
        go (no c) (no e) (yes f) =
            let q : suc i ≡ p + 1 = omega arith in
            let w = ap (λ (h : ℕ). get_or z h 0) f in
            let v = ap (λ (h : ℕ). get_or l h 0) q in
            omega (arith, w, v, here, high (suc i) (omega arith), u, n)
        go (no c) (no e) (no f) =
            omega (arith, high i (omega arith), high (suc i) (omega arith), R.rises i (omega (arith, P.begins)) d)

    pub put_there : Adds l a (λ y. y ≡ x) (set j p x) (a - 1)
    unfolding z
    put_there = record {
      rises = record {
        within = omega (arith, R.within);
        size = omega (arith, R.size, length-set j p x);
        rises = rises_there;
        after = λ i b d. high i (omega (arith, P.ends)) ∙ R.after i b d;
      };
      kept = λ y m. keeps y m.0 m.1 m.2 m.3 (dec_lt p m.0);
      added = λ y e. (p, omega (arith, P.begins), P.ends, here ∙ sym e);
      only = λ y m. tells y m.0 m.1 m.2 m.3 (dec_lt m.0 p) (ℕ_discrete m.0 p);
    }
      where
        keeps : (y i : ℕ) → a < i → i ≤ 32 → get_or l i 0 ≡ y → Dec (p < i) → Among z (a - 1) y
        keeps y i b d e (yes c) = (i, omega arith, d, high i c ∙ e)
        keeps y i b d e (no c) =
            let f : suc (i - 1) ≡ i = omega arith in (
              i - 1,
              omega arith,
              omega arith,
              low (i - 1) (omega arith) (omega arith) ∙ ap (λ (h : ℕ). get_or l h 0) f ∙ e,
            )

        tells : (y i : ℕ) → a - 1 < i → i ≤ 32 → get_or z i 0 ≡ y → Dec (i < p) → Dec (i ≡ p) → Among l a y ⊎ (y ≡ x)
        tells y i b d e (yes c) _ =
            inl (suc i, omega arith, omega (arith, P.ends), sym (low i (omega arith) c) ∙ e)
        tells y i b d e (no c) (yes q) = inr (sym e ∙ ap (λ (h : ℕ). get_or z h 0) q ∙ here)
        tells y i b d e (no c) (no q) =
            inl (i, omega (arith, P.begins), d, sym (high i (omega arith)) ∙ e)

-- ---- one after the other

pub adds_none : {l : List ℕ} {n : ℕ} {P : ℕ → Type 0} → Rising l n → ((y : ℕ) → ¬ P y) → Adds l n P l n
adds_none R f = record {
  rises = R;
  kept = λ y a. a;
  added = λ y p. absurd (f y p);
  only = λ y a. inl a;
}

pub adds_as : {l k : List ℕ} {n r : ℕ} {P Q : ℕ → Type 0} → ((y : ℕ) → P y → Q y) → ((y : ℕ) → Q y → P y)
    → Adds l n P k r → Adds l n Q k r
adds_as {l} {k} {n} {r} {P} {Q} f g A = record {
  rises = A.rises;
  kept = A.kept;
  added = λ y q. A.added y (g y q);
  only = λ y a. go y (A.only y a);
}
  where
    go : (y : ℕ) → Among l n y ⊎ P y → Among l n y ⊎ Q y
    go y (inl a) = inl a
    go y (inr p) = inr (f y p)

pub adds_then : {l k j : List ℕ} {n a b : ℕ} {P Q : ℕ → Type 0} → Adds l n P k a → Adds k a Q j b
    → Adds l n (λ y. P y ⊎ Q y) j b
adds_then {l} {k} {j} {n} {a} {b} {P} {Q} A B = record {
  rises = B.rises;
  kept = λ y s. B.kept y (A.kept y s);
  added = λ y s. both y s;
  only = λ y s. go y (B.only y s);
}
  where
    both : (y : ℕ) → P y ⊎ Q y → Among j b y
    both y (inl p) = B.kept y (A.added y p)
    both y (inr q) = B.added y q

    first : (y : ℕ) → Among l n y ⊎ P y → Among l n y ⊎ (P y ⊎ Q y)
    first y (inl s) = inl s
    first y (inr p) = inr (inl p)

    go : (y : ℕ) → Among k a y ⊎ Q y → Among l n y ⊎ (P y ⊎ Q y)
    go y (inl s) = first y (A.only y s)
    go y (inr q) = inr (inr q)
