-- The loop of refine.
use mathlib.Core.Path.{◌≡◌, refl, sym, ap, ◌∙◌, subst}
use mathlib.Core.Logic.{◌≢◌, ◌⊎◌, inl, inr}
use Prim.Native.Nat.{ℕ, zero, suc, ◌+◌, ◌*◌, ◌%◌, ◌≤◌, ◌<◌}
use native.Mathlib.Omega.{arith}
use lib.ListN.{length}
use borrow.Author.Tests.{lt-ltb, le-ltb}
use Rattle.theory.proofs.Splits.Reported.{Telling, telling_on}
use Rattle.theory.proofs.Splits.Bases.{reached}
use Rattle.theory.proofs.Chains.Chain.{Path, ends, path_end, path_odd, path_meets, path_use, path_high, path_fit}
use Rattle.theory.proofs.Chains.Chain.{shortens}
use Rattle.theory.proofs.Splits.Cut.{CutResult, Spread}
use Rattle.theory.proofs.Splits.Edges.{boundary_sides}
use Rattle.theory.proofs.Splits.Splitting.{Room, room_fewer}
use Rattle.theory.proofs.Links.Manifold.{Manifold, BasesMeetIn}
use Rattle.theory.proofs.Links.Past.{Past, past_on}
use Rattle.theory.proofs.Splits.Places.{Places, places_on}
use Rattle.theory.proofs.Chains.Runs.{top_of, rim_of, not_splittable, split_splitting}
use Rattle.theory.proofs.Splits.Settled.{nowhere, still_on}
use Rattle.rules.specs.Conditions.{Splittable}
use Rattle.rules.specs.Promises.{RisesBy, Still, odds}
use Rattle.rules.specs.Split.{Work, split_at, chain_end_within, raise}
use Rattle.rules.specs.Tables.{Topology, boundary, link, generation}

pub raise_stops : (n g t : ℕ) (d : Work) → g < generation (reached d) t → raise n g t d ≡ d
unfolding raise
raise_stops zero g t d l = refl
raise_stops (suc n) g t d l = rw (lt-ltb g (generation (reached d) t) l, raise)

pub raise_splits : (n g t v : ℕ) (d : Work) → generation (reached d) t ≤ g
    → chain_end_within (generation (reached d) t) (reached d) t ≡ v → raise (suc n) g t d ≡ raise n g t (split_at v d)
unfolding raise
raise_splits n g t v d l e =
    rw (le-ltb g (generation (reached d) t) l, raise) (ap (λ (y : ℕ). raise n g t (split_at y d)) e)

-- An odd triangle whose base is not on the boundary rises by one.
rises_by_flip : {t : ℕ} {m n : Topology} → generation m t % 2 ≡ 1 → link m (3 * t) ≢ boundary
    → generation n t ≡ suc (generation m t) → RisesBy t m n
rises_by_flip o r e = record {
  even = λ q. absurd (omega arith);
  odd = λ _ _. omega arith;
  at_boundary = λ _ q. absurd (r q);
}

-- A triangle that is split itself.
rises_by_split : {v p r : ℕ} {m n : Topology} → Splittable m v → v < n.triangles → CutResult v (top_of m v) p r m n
    → RisesBy v m n
rises_by_split {v} {m = m} {n = n} x l S = record {
  even = λ e. go 1 (omega arith) (S.spread v l);
  odd = λ o r. not_splittable x o r;
  at_boundary = λ o _. go 2 (omega arith) (S.spread v l);
}
  where
    go : (k : ℕ) → top_of m v ≡ generation m v + k → Spread v (top_of m v) m n v
        → (generation n v ≡ generation m v + k) ⊎ (generation n v ≡ generation m v + (k + 1))
    go k e (inl s) = absurd (s.1 refl)
    go k e (inr (inl s)) = inl (s ∙ e)
    go k e (inr (inr s)) = inr (omega arith)

-- s splits, q of them rim splits, no child above top.
pub record Raised (t top s q : ℕ) (d e : Work) : Type 0 where
  pub manifold : Manifold (reached e)
  pub bases_meet : BasesMeetIn nowhere (reached e)
  pub rises : generation (reached d) t < generation (reached e) t
  pub rises_by : RisesBy t (reached d) (reached e)
  pub splits : e.splits ≡ d.splits + s
  pub vertices : (reached e).vertices ≡ (reached d).vertices + s + q
  pub triangles : (reached e).triangles ≡ (reached d).triangles + 2 * s
  pub corner_room : length (reached e).corners ≡ length (reached d).corners
  pub link_room : length (reached e).links ≡ length (reached d).links
  pub generation_room : length (reached e).generations ≡ length (reached d).generations
  pub boundary_count : boundary_sides (reached e) ≡ boundary_sides (reached d) + 2 * q
  pub most : (g : ℕ) → ((x : ℕ) → x < (reached d).triangles → generation (reached d) x ≤ g) → suc top ≤ g → (x : ℕ)
      → x < (reached e).triangles → generation (reached e) x ≤ g
  pub still : Still (reached d) (reached e)
  pub past : (b : ℕ) → (reached e).triangles ≤ b → Past b (reached d) (reached e)
  pub odd : 2 * e.flips + odds (reached e) + 2 * q ≡ 2 * d.flips + odds (reached d) + 3 * s
  pub places : Places d.mesh e.mesh
  pub telling : Telling d e

module _ (t top v : ℕ) (d : Work) (x : Splittable (reached d) v) (F : Manifold (reached d))
    (K : BasesMeetIn nowhere (reached d)) (b : v < (reached d).triangles) (high : top_of (reached d) v ≤ top) where
  one_split : Room 1 (reached d) → generation (reached d) t < generation (reached (split_at v d)) t
      → RisesBy t (reached d) (reached (split_at v d))
      → Raised t top 1 (rim_of (reached d) v) d (split_at v d)
  one_split R up one =
      let X = split_splitting v d x F b R in
      let S = X.result in
      record {
        manifold = S.manifold;
        bases_meet = S.bases_meet K;
        rises = up;
        rises_by = one;
        splits = omega (arith, X.splits);
        vertices = omega (arith, S.vertices);
        triangles = omega (arith, S.triangles);
        corner_room = S.corners;
        link_room = S.links;
        generation_room = S.generations;
        boundary_count = S.boundary_count;
        most = λ g G i. S.most g G (omega arith);
        still = S.still;
        past = S.past;
        odd = X.odd;
        places = X.places;
        telling = X.telling;
      }

  split_first_lem : (s : ℕ) (e : Work) → Room 1 (reached d)
      → generation (reached (split_at v d)) t ≡ generation (reached d) t → RisesBy t (reached d) (reached e)
      → Raised t top s 0 (split_at v d) e
      → Raised t top (suc s) (rim_of (reached d) v) d e
  split_first_lem s e R same by I =
      let X = split_splitting v d x F b R in
      let S = X.result in
      record {
        manifold = I.manifold;
        bases_meet = I.bases_meet;
        rises = omega (arith, I.rises);
        rises_by = by;
        splits = omega (arith, X.splits, I.splits);
        vertices = omega (arith, S.vertices, I.vertices);
        triangles = omega (arith, S.triangles, I.triangles);
        corner_room = I.corner_room ∙ S.corners;
        link_room = I.link_room ∙ S.links;
        generation_room = I.generation_room ∙ S.generations;
        boundary_count = omega (arith, S.boundary_count, I.boundary_count);
        most = λ g G i. I.most g (S.most g G (omega arith)) i;
        still = still_on (reached d) (reached (split_at v d)) (reached e) S.still I.still;
        past = λ b i. past_on (S.past b (omega (arith, I.triangles))) (I.past b i);
        odd = omega (arith, X.odd, I.odd);
        places = places_on X.places I.places;
        telling = telling_on X.telling I.telling;
      }

pub room_rest : (s v g p r : ℕ) (m n : Topology) → CutResult v g p r m n → Room (suc s) m → Room s n
room_rest s v g p r m n S R = record {
  corners = omega (arith, R.corners, S.triangles, S.corners);
  links = omega (arith, R.links, S.triangles, S.links);
  generations = omega (arith, R.generations, S.triangles, S.generations);
}

as_suc : {a b : ℕ} → a ≡ b + 1 → a ≡ suc b
as_suc e = omega arith

odd_as : {a b : ℕ} → a ≡ b → b % 2 ≡ 1 → a % 2 ≡ 1
odd_as e o = omega arith

pub raise_chain : (k n t v : ℕ) (d : Work) → Manifold (reached d)
    → BasesMeetIn nowhere (reached d) → t < (reached d).triangles → Path (reached d) t v (suc k) → suc k ≤ n
    → Room (suc k) (reached d)
    → Raised t (generation (reached d) t) (suc k) (rim_of (reached d) v) d (raise n (generation (reached d) t)
    t d)
raise_chain k zero t v d F K l p i R = absurd (omega arith)
raise_chain zero (suc n) t v d F K l p i R =
    let x = path_fit p in
    let b = path_use F K l p in
    let S = (split_splitting v d x F b R).result in
    let one : generation (reached (split_at v d)) t ≡ suc (generation (reached d) t) =
    shortens v (top_of (reached d) v) (1 + rim_of (reached d) v) (2 * rim_of (reached d) v) (reached d)
    (reached (split_at v d)) F K b x S l refl p in
    let up : generation (reached d) t < generation (reached (split_at v d)) t = omega arith in
    let e : raise (suc n) (generation (reached d) t) t d ≡ split_at v d =
    raise_splits n (generation (reached d) t) t v d (omega arith)
    (path_end (generation (reached d) t) F K l (omega arith) p) ∙ raise_stops n (generation (reached d) t) t
    (split_at v d) up in
    subst (λ (y : Work). Raised t (generation (reached d) t) 1 (rim_of (reached d) v) d y) (sym e)
    (one_split t (generation (reached d) t) v d x F K b (path_high F K l p) R up
    (rises_by_flip (path_odd p) (path_meets p) one))
raise_chain (suc k) (suc n) t v d F K l p i R =
    let x = path_fit p in
    let b = path_use F K l p in
    let R₁ : Room 1 (reached d) = room_fewer (suc (suc k)) 1 (reached d) R (omega arith) in
    let S = (split_splitting v d x F b R₁).result in
    let m : Topology = reached d in
    let N : Topology = reached (split_at v d) in
    let a = shortens v (top_of m v) (1 + rim_of m v) (2 * rim_of m v) m N F K b x S l refl p in
    let same : generation N t ≡ generation m t = a.0 in
    let e : raise (suc n) (generation m t) t d ≡ raise n (generation m t) t (split_at v d) =
    raise_splits n (generation m t) t v d (omega arith) (path_end (generation m t) F K l (omega arith) p) in
    let I : Raised t (generation N t) (suc k) 0 (split_at v d) (raise n (generation N t) t (split_at v d)) =
    subst (λ (q : ℕ). Raised t (generation N t) (suc k) q (split_at v d) (raise n (generation N t) t (split_at v d)))
    a.1.1
    (raise_chain k n t a.1.0 (split_at v d) S.manifold (S.bases_meet K)
    (omega (arith, S.triangles)) a.1.2 (omega arith)
    (room_rest (suc k) v (top_of m v) (1 + rim_of m v) (2 * rim_of m v) m N S R)) in
    subst (λ (y : Work). Raised t (generation m t) (suc (suc k)) (rim_of m v) d y) (sym e)
    (split_first_lem t (generation m t) v d x F K b (path_high F K l p) (suc k)
    (raise n (generation m t) t (split_at v d)) R₁ same
    (rises_by_flip (path_odd p) (path_meets p)
    (subst (λ (y : ℕ). generation (reached (raise n y t (split_at v d))) t ≡ suc y) same
    (as_suc (I.rises_by.odd (odd_as same (path_odd p)) (path_meets a.1.2)))))
    (subst (λ (y : ℕ). Raised t y (suc k) 0 (split_at v d) (raise n y t (split_at v d))) same I))

-- ---- a triangle that may be split itself

pub raise_cuts : (n t : ℕ) (d : Work) (x : Splittable (reached d) t) → Manifold (reached d)
    → BasesMeetIn nowhere (reached d) → t < (reached d).triangles → Room 1 (reached d)
    → raise (suc n) (generation (reached d) t) t d ≡ split_at t d
raise_cuts n t d x F K l R =
    raise_splits n (generation (reached d) t) t t d (omega arith)
    (path_end (generation (reached d) t) F K l (omega arith) (ends x))
    ∙ raise_stops n (generation (reached d) t) t (split_at t d) (split_splitting t d x F l R).result.own

pub raise_own : (n t : ℕ) (d : Work) (x : Splittable (reached d) t) → Manifold (reached d)
    → BasesMeetIn nowhere (reached d) → t < (reached d).triangles → Room 1 (reached d)
    → Raised t (top_of (reached d) t) 1 (rim_of (reached d) t) d (raise (suc n) (generation (reached d) t) t d)
raise_own n t d x F K l R =
    subst (λ (y : Work). Raised t (top_of (reached d) t) 1 (rim_of (reached d) t) d y)
    (sym (raise_cuts n t d x F K l R))
    (one_split t (top_of (reached d) t) t d x F K l (omega arith) R (split_splitting t d x F l R).result.own
    (rises_by_split x (omega (arith, (split_splitting t d x F l R).result.triangles))
    (split_splitting t d x F l R).result))
