-- The base chain.
use mathlib.Core.Path.{◌≡◌, refl, sym, ◌∙◌, subst, ap}
use mathlib.Core.Logic.{◌≢◌, ◌⊎◌, inl, inr}
use Prim.Native.Nat.{ℕ, zero, suc, ◌+◌, ◌*◌, ◌/◌, ◌%◌, ◌≤◌, ◌<◌, min}
use native.Mathlib.Omega.{arith}
use native.Mathlib.Decide.{ℕ_discrete}
use borrow.Author.Tests.{ne_eqb}
use Rattle.theory.proofs.Splits.Cut.{CutResult}
use Rattle.theory.proofs.Numbers.Decide.{odd_test, even_test}
use Rattle.theory.proofs.Links.Manifold.{Partnered, Manifold, level, BasesMeetIn, level₀, partnered}
use Rattle.theory.proofs.Chains.Runs.{top_of, rim_of, not_splittable}
use Rattle.theory.proofs.Splits.Settled.{nowhere}
use Rattle.theory.proofs.Splits.Settling.{Follow}
use Rattle.rules.specs.Conditions.{EndsAtBoundary, stops, goes_on, OddInChain, at_even, at_boundary, onward}
use Rattle.rules.specs.Conditions.{Splittable, is_even, on_boundary}
use Rattle.rules.specs.Split.{chain_end_within, chain_odd_within}
use Rattle.rules.specs.Tables.{Topology, boundary, link, generation}

module _ (m : Topology) (F : Manifold m) (K : BasesMeetIn nowhere m) where
  -- Across a base stands an even triangle one generation below, or an odd one two below.
  pub falls : (t : ℕ) → t < m.triangles → generation m t % 2 ≡ 1 → link m (3 * t) ≢ boundary
      → (link m (3 * t) / 3 < m.triangles) × (top_of m (link m (3 * t) / 3) ≡ generation m t)
  falls t l o r =
      let M : Partnered m (3 * t) = partnered (F.linked (3 * t) (omega arith)) r in
      let k : ℕ = link m (3 * t) in
      let u : ℕ = k / 3 in
      let q : level m k ≡ (generation m u + min 1 (k % 3)) / 2 = refl in
      let a : level m k ≡ level m (3 * t) = M.level in
      let c : level m (3 * t) ≡ generation m t / 2 = level₀ m t in
      let e : 3 * t / 3 ≡ t = omega arith in (
        omega (arith, M.in_use),
        go (ℕ_discrete (k % 3) 0) (ℕ_discrete (generation m u % 2) 1) (sym q ∙ a ∙ c)
            (subst (λ (x : ℕ). generation m x % 2 ≡ 1) (sym e) o),
      )
    where
      go : Dec (link m (3 * t) % 3 ≡ 0) → Dec (generation m (link m (3 * t) / 3) % 2 ≡ 1)
          → (generation m (link m (3 * t) / 3) + min 1 (link m (3 * t) % 3)) / 2 ≡ generation m t / 2
          → generation m (3 * t / 3) % 2 ≡ 1
          → top_of m (link m (3 * t) / 3) ≡ generation m t
      go (yes x) (yes y) w z =
          elim (K (3 * t) (omega arith) (omega arith, z) (x, y)) [ inl a ↦ absurd a | inr a ↦ absurd a ]
      go (no x) (yes y) w z = omega arith
      go d (no y) w z = omega arith

-- From t, k odd triangles lead each across its base to the next, and the last to v, which may be split.
pub data Path (m : Topology) : ℕ → ℕ → ℕ → Type 0 where
  ends : {t : ℕ} → Splittable m t → Path m t t 0
  across : {t v k : ℕ} → generation m t % 2 ≡ 1 → link m (3 * t) ≢ boundary → Path m (link m (3 * t) / 3) v k
      → Path m t v (suc k)

pub path_odd : {m : Topology} {t v k : ℕ} → Path m t v (suc k) → generation m t % 2 ≡ 1
path_odd (across o r p) = o

pub path_meets : {m : Topology} {t v k : ℕ} → Path m t v (suc k) → link m (3 * t) ≢ boundary
path_meets (across o r p) = r

pub path_next : {m : Topology} {t v k : ℕ} → Path m t v (suc k) → Path m (link m (3 * t) / 3) v k
path_next (across o r p) = p

-- ---- the chain and its end

-- A triangle ends the chain, or the chain goes on from the next.
data Goes (m : Topology) (t : ℕ) : Type 0 where
  ends_here : Splittable m t → Goes m t
  further_on : generation m t % 2 ≡ 1 → link m (3 * t) ≢ boundary → Goes m t

goes : (m : Topology) (t : ℕ) → Goes m t
goes m t = go (ℕ_discrete (generation m t % 2) 1) (ℕ_discrete (link m (3 * t)) boundary)
  where
    go : Dec (generation m t % 2 ≡ 1) → Dec (link m (3 * t) ≡ boundary) → Goes m t
    go (no o) d = ends_here (is_even (omega arith))
    go (yes o) (yes e) = ends_here (on_boundary o e)
    go (yes o) (no e) = further_on o e

pub end_here : (n : ℕ) (m : Topology) (t : ℕ) → Splittable m t → chain_end_within n m t ≡ t
unfolding chain_end_within
end_here zero m t x = refl
end_here (suc n) m t (is_even e) = rw (even_test (generation m t) e, chain_end_within)
end_here (suc n) m t (on_boundary o e) = rw (odd_test (generation m t) o, e, chain_end_within)

end_on : (n : ℕ) (m : Topology) (t v : ℕ) → generation m t % 2 ≡ 1 → link m (3 * t) ≢ boundary
    → chain_end_within n m (link m (3 * t) / 3) ≡ v → chain_end_within (suc n) m t ≡ v
unfolding chain_end_within
end_on n m t v o r q = rw (odd_test (generation m t) o, ne_eqb (link m (3 * t)) boundary r, chain_end_within) q

zero_not_odd : {A : Type 0} (g : ℕ) → g ≤ 0 → g % 2 ≡ 1 → A
zero_not_odd g i o = absurd (omega arith)

less : (n g h : ℕ) → h + (1 + h % 2) ≡ g → g ≤ suc n → h ≤ n
less n g h e i = omega arith

pub path_end : {m : Topology} {t v k : ℕ} (n : ℕ) → Manifold m → BasesMeetIn nowhere m → t < m.triangles
    → generation m t ≤ n → Path m t v k → chain_end_within n m t ≡ v
path_end {m} n F K l i (ends {t = t} f) = end_here n m t f
path_end {m} zero F K l i (across {t = t} o r p) = zero_not_odd (generation m t) i o
path_end {m} (suc n) F K l i (across {t = t} {v = v} o r p) =
    end_on n m t v o r
    (path_end n F K (falls m F K t l o r).0
    (less n (generation m t) (generation m (link m (3 * t) / 3)) (falls m F K t l o r).1 i) p)

-- The end lies in use.
pub path_use : {m : Topology} {t v k : ℕ} → Manifold m → BasesMeetIn nowhere m → t < m.triangles → Path m t v k
    → v < m.triangles
path_use F K l (ends f) = l
path_use {m} F K l (across {t = t} o r p) = path_use F K (falls m F K t l o r).0 p

-- Its children are not above those that t would have, and not above t itself where t is not the end.
top_below : (a b g r : ℕ) → a ≤ b → b ≡ g → a ≤ g + r
top_below a b g r i e = omega arith

path_top : {m : Topology} {t v k : ℕ} → Manifold m → BasesMeetIn nowhere m → t < m.triangles → Path m t v k
    → top_of m v ≤ top_of m t
path_top F K l (ends f) = omega arith
path_top {m} {v = v} F K l (across {t = t} o r p) =
    top_below (top_of m v) (top_of m (link m (3 * t) / 3)) (generation m t) (1 + rim_of m t)
    (path_top F K (falls m F K t l o r).0 p) (falls m F K t l o r).1

pub path_high : {m : Topology} {t v k : ℕ} → Manifold m → BasesMeetIn nowhere m → t < m.triangles → Path m t v (suc k)
    → top_of m v ≤ generation m t
path_high {m} {v = v} F K l (across {t = t} o r p) =
    let f = falls m F K t l o r in
    let i = path_top F K f.0 p in
    omega (arith, f.1)

add_suc : (a b : ℕ) → suc (a + b) ≡ suc a + b
add_suc a b = omega arith

short_on : (k g h : ℕ) → h + (1 + h % 2) ≡ g → g % 2 ≡ 1 → 2 * k ≤ h + 1 → 2 * suc k ≤ g + 1
short_on k g h e o i = omega arith

pub path_short : {m : Topology} {t v k : ℕ} → Manifold m → BasesMeetIn nowhere m → t < m.triangles → Path m t v k
    → 2 * k ≤ generation m t + 1
path_short F K l (ends f) = omega arith
path_short {m} F K l (across {t = t} {k = k} o r p) =
    short_on k (generation m t) (generation m (link m (3 * t) / 3)) (falls m F K t l o r).1 o
    (path_short F K (falls m F K t l o r).0 p)

pub path_fit : {m : Topology} {t v k : ℕ} → Path m t v k → Splittable m v
path_fit (ends f) = f
path_fit (across o r p) = path_fit p

-- A path counts the odd triangles of the chain, but for the one at the boundary.
pub path_counts : {m : Topology} {t v k : ℕ} → Path m t v k → OddInChain m t (k + rim_of m v)
path_counts {m} (ends {t = t} (is_even e)) =
    let q : 0 ≡ 0 + rim_of m t = omega arith in
    subst (OddInChain m t) q (at_even e)
path_counts {m} (ends {t = t} (on_boundary o e)) =
    let q : 1 ≡ 0 + rim_of m t = omega arith in
    subst (OddInChain m t) q (at_boundary o e)
path_counts {m} {v = v} (across {k = k} o r p) =
    subst (OddInChain m _) (add_suc k (rim_of m v)) (onward o r (path_counts p))

-- The chain ends at the boundary exactly if the end of the path is odd.
pub path_outside : {m : Topology} {t v k : ℕ} → Path m t v k → generation m v % 2 ≡ 1 → EndsAtBoundary m t
path_outside (ends (is_even e)) q = absurd (omega arith)
path_outside (ends (on_boundary o e)) q = stops o e
path_outside (across o r p) q = goes_on o r (path_outside p q)

pub path_inside : {m : Topology} {t v k : ℕ} → Path m t v k → generation m v % 2 ≡ 0 → ¬ EndsAtBoundary m t
path_inside (ends f) q (stops o e) = omega arith
path_inside (ends f) q (goes_on o r x) = omega arith
path_inside (across o r p) q (stops o' e) = r e
path_inside (across o r p) q (goes_on o' r' x) = path_inside p q x

-- The base chain of t as a path, and the number of its odd triangles.
pub record Way (n : ℕ) (m : Topology) (t : ℕ) : Type 0 where
  pub steps : ℕ
  pub path : Path m t (chain_end_within n m t) steps
  pub counts : chain_odd_within n m t ≡ steps + rim_of m (chain_end_within n m t)

odd_here : (n : ℕ) (m : Topology) (t : ℕ) → Splittable m t → chain_odd_within (suc n) m t ≡ rim_of m t
unfolding chain_odd_within
odd_here n m t (is_even e) = rw (even_test (generation m t) e, chain_odd_within) (sym e)
odd_here n m t (on_boundary o e) = rw (odd_test (generation m t) o, e, chain_odd_within) (sym o)

pub way : (n : ℕ) (m : Topology) → Manifold m → BasesMeetIn nowhere m → (t : ℕ) → t < m.triangles
    → generation m t ≤ n → Way n m t
unfolding chain_odd_within chain_end_within
way zero m F K t l i =
    let e : generation m t % 2 ≡ 0 = omega arith in
    record { steps = 0; path = ends {t = t} (is_even e); counts = omega arith }
way (suc n) m F K t l i = go (goes m t) (way n m F K (link m (3 * t) / 3))
  where
    go : Goes m t
        → (link m (3 * t) / 3 < m.triangles → generation m (link m (3 * t) / 3) ≤ n → Way n m (link m (3 * t) / 3))
        → Way (suc n) m t
    go (ends_here x) w =
        let end : chain_end_within (suc n) m t ≡ t = end_here (suc n) m t x in
        record { steps = 0; path = rw end (ends x); counts = rw end (omega (arith, odd_here n m t x)) }
    go (further_on o e) w =
        let f = falls m F K t l o e in
        let W = w f.0 (omega (arith, f.1)) in
        let end : chain_end_within (suc n) m t ≡ chain_end_within n m (link m (3 * t) / 3) = end_on n m t _ o e refl in
        record {
          steps = suc W.steps;
          path = rw end (across {t = t} o e W.path);
          counts = rw (end, odd_test (generation m t) o, ne_eqb (link m (3 * t)) boundary e, chain_odd_within)
              (ap suc W.counts ∙ add_suc W.steps _);
        }

-- ---- one step, seen from the chain

-- Chains of none or one rise; longer ones are one shorter and end at an even triangle.
abbrev pub Shorter : Topology → Topology → ℕ → ℕ → Type 0
Shorter m n x zero = generation m x < generation n x
Shorter m n x (suc zero) = generation n x ≡ suc (generation m x)
Shorter m n x (suc (suc j)) =
    (generation n x ≡ generation m x) × ((w : ℕ) × (generation n w % 2 ≡ 0) × Path n x w (suc j))

module _ (v g p r : ℕ) (m n : Topology) (F : Manifold m) (K : BasesMeetIn nowhere m) (b : v < m.triangles)
    (fit : Splittable m v) (S : CutResult v g p r m n) where
  -- A base chain does not go on from v.
  pub not_v : (x : ℕ) → generation m x % 2 ≡ 1 → link m (3 * x) ≢ boundary → x ≢ v
  not_v x o q e = not_splittable (subst (Splittable m) (sym e) fit) o q

  -- x and its base's partner are left: the base goes on meeting it.
  pub stays : (x : ℕ) → x < m.triangles → link m (3 * x) ≢ boundary → generation n x ≡ generation m x
      → generation n (link m (3 * x) / 3) ≡ generation m (link m (3 * x) / 3) → link n (3 * x) ≡ link m (3 * x)
  stays x l q e f =
      let M : Partnered m (3 * x) = partnered (F.linked (3 * x) (omega arith)) q in
      let z : 3 * x / 3 ≡ x = omega arith in
      S.still.links (3 * x) (omega arith) (rw z e) (inr (M.in_use, f))

  -- x is left and its base's partner u flipped: then the base of x meets an even triangle.
  lands : (x : ℕ) → x < m.triangles → generation m x % 2 ≡ 1 → link m (3 * x) ≢ boundary
      → generation n x ≡ generation m x → generation n (link m (3 * x) / 3) ≢ generation m (link m (3 * x) / 3)
      → (w : ℕ) × (generation n w % 2 ≡ 0) × Path n x w 1
  lands x l o q e d =
      let u : ℕ = link m (3 * x) / 3 in
      let f = falls m F K x l o q in
      let f₀ = f.0 in
      let f₁ = f.1 in
      let uv : u ≢ v = λ z. omega (arith, S.turns x l (not_v x o q) o q z) in
      let w = S.moved u f₀ uv d in
      let w₂ = w.2 in
      let w₃ = w.3 in
      let od = S.odd in
      let A : Follow x u n = S.follow x u l (omega arith) (q, inl refl) in
      (link n (3 * x) / 3, even A.1 w₃, across {t = x} (omega arith) A.0 (ends (is_even (even A.1 w₃))))
    where
      even : (link n (3 * x) / 3 ≡ link m (3 * x) / 3) ⊎ (generation n (link n (3 * x) / 3) % 2 ≡ 0)
          → generation n (link m (3 * x) / 3) ≡ suc g → generation n (link n (3 * x) / 3) % 2 ≡ 0
      even (inr z) w = z
      even (inl z) w = rw z (omega (arith, S.odd))

  -- The base of a flipped triangle met v.
  hit : (x : ℕ) → x < m.triangles → generation m x % 2 ≡ 1 → link m (3 * x) ≢ boundary
      → generation n x ≢ generation m x → link m (3 * x) / 3 ≡ v
  hit x l o q d = (S.moved x l (not_v x o q) d).1

  -- A triangle further up is left.
  pub left : (x : ℕ) → x < m.triangles → generation m x % 2 ≡ 1 → link m (3 * x) ≢ boundary
      → link m (3 * x) / 3 ≢ v → generation n x ≡ generation m x
  left x l o q ne = go (ℕ_discrete (generation n x) (generation m x))
    where
      go : Dec (generation n x ≡ generation m x) → generation n x ≡ generation m x
      go (yes e) = e
      go (no d) = absurd (ne (hit x l o q d))

  -- Where the next is left too, the chain goes on from it.
  pub further_on_lem : {w k : ℕ} (x : ℕ) → x < m.triangles → generation m x % 2 ≡ 1 → link m (3 * x) ≢ boundary
      → link m (3 * x) / 3 ≢ v → generation n (link m (3 * x) / 3) ≡ generation m (link m (3 * x) / 3)
      → Path n (link m (3 * x) / 3) w k → (generation n x ≡ generation m x) × Path n x w (suc k)
  further_on_lem {w} {k} x l o q ne f a =
      let e : generation n x ≡ generation m x = left x l o q ne in
      let s : link n (3 * x) ≡ link m (3 * x) = stays x l q e f in
      (e, across {t = x} (omega arith) (λ z. q (sym s ∙ z)) (subst (λ (h : ℕ). Path n (h / 3) w k) (sym s) a))

  shorter_on : (x k : ℕ) → x < m.triangles → generation m x % 2 ≡ 1 → link m (3 * x) ≢ boundary
      → link m (3 * x) / 3 ≢ v → Shorter m n (link m (3 * x) / 3) (suc k) → Shorter m n x (suc (suc k))
  shorter_on x zero l o q ne a =
      let e : generation n x ≡ generation m x = left x l o q ne in
      (e, lands x l o q e (λ z. omega arith))
  shorter_on x (suc k) l o q ne a =
      let b = further_on_lem x l o q ne a.0 a.1.2 in
      (b.0, (a.1.0, a.1.1, b.1))

  rises_itself : (x : ℕ) → x ≡ v → generation m x < generation n x
  rises_itself x e = rw e S.own

  rises_by_one : (x : ℕ) → x < m.triangles → generation m x % 2 ≡ 1 → link m (3 * x) ≢ boundary
      → link m (3 * x) / 3 ≡ v → generation n x ≡ suc (generation m x)
  rises_by_one x l o q e = S.turns x l (not_v x o q) o q e

  pub shortens : {x w k : ℕ} → x < m.triangles → w ≡ v → Path m x w k → Shorter m n x k
  shortens {x} l e (ends f) = rises_itself x e
  shortens {x} l e (across o q p) = shortens_on x l o q e refl p
    where
      shortens_on : {u w k : ℕ} (x : ℕ) → x < m.triangles → generation m x % 2 ≡ 1 → link m (3 * x) ≢ boundary
          → w ≡ v → link m (3 * x) / 3 ≡ u → Path m u w k → Shorter m n x (suc k)
      shortens_on x l o q e i (ends f) = rises_by_one x l o q (i ∙ e)
      shortens_on x l o q e i (across {t = u} {k = k} o' q' p) =
          shorter_on x k l o q (λ z. not_v u o' q' (sym i ∙ z))
          (subst (λ (y : ℕ). Shorter m n y (suc k)) (sym i)
          (shortens_on u (subst (λ (y : ℕ). y < m.triangles) i (falls m F K x l o q).0) o' q' e refl p))
