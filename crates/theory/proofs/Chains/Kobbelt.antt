-- Kobbelt's recursive split of a triangle, and that refine makes the same splits.
use mathlib.Core.Path.{◌≡◌, refl, sym, ap, ◌∙◌, subst, subst₂}
use mathlib.Core.Logic.{◌≢◌}
use Prim.Native.Nat.{ℕ, zero, suc, ◌+◌, ◌*◌, ◌/◌, ◌%◌, ◌≤◌, ◌<◌, max}
use native.Mathlib.Omega.{arith}
use borrow.Author.Tests.{eq-eqb, ne_eqb, lt-ltb, le-ltb}
use Rattle.theory.proofs.Splits.Bases.{reached}
use Rattle.theory.proofs.Chains.Chain.{Path, ends, across, falls, path_end, path_use, path_fit, Shorter, stays}
use Rattle.theory.proofs.Chains.Chain.{shortens}
use Rattle.theory.proofs.Numbers.Decide.{odd_test, even_test}
use Rattle.theory.proofs.Splits.Splitting.{Room, room_fewer}
use Rattle.theory.proofs.Links.Manifold.{Manifold, BasesMeetIn}
use Rattle.theory.proofs.Chains.Raise.{raise_stops, raise_splits, room_rest, raise_cuts}
use Rattle.theory.proofs.Chains.Refine.{sound_room, chain_path, chain_bound}
use Rattle.theory.proofs.Soundness.Relaxed.{sound_manifold, sound_bases}
use Rattle.theory.proofs.Chains.Runs.{split_even, split_odd, split_splitting}
use Rattle.theory.proofs.Splits.Settled.{nowhere}
use Rattle.rules.specs.Calls.{splits_of, vertices_of, triangles_of}
use Rattle.rules.specs.Conditions.{RoomFor}
use Rattle.rules.specs.Conditions.{Splittable, is_even, on_boundary}
use Rattle.rules.specs.Promises.{mate, kobbelt}
use Rattle.rules.specs.Sound.{Sound}
use Rattle.rules.specs.Split.{Work, at_first, split_at, raise, refine}
use Rattle.rules.specs.Tables.{Topology, Mesh, boundary, link, generation}

-- Where t ends its base chain it is split.
kobbelt_ends : (n t : ℕ) (w : Work) → 0 < n → Splittable (reached w) t → split_at t w ≡ kobbelt n t w
unfolding kobbelt
kobbelt_ends zero t w i x = absurd (omega arith)
kobbelt_ends (suc n) t w i (is_even e) = split_even t w e ∙ sym (rw (even_test _ e, kobbelt))
kobbelt_ends (suc n) t w i (on_boundary o e) = split_odd t w o ∙ sym (rw (odd_test _ o, e, kobbelt))

module _ (n t : ℕ) (w : Work) (o : generation (reached w) t % 2 ≡ 1) where
  module _ (r : link (reached w) (3 * t) ≢ boundary) where
    kobbelt_near : generation (reached w) (mate t w) + 2 ≢ generation (reached w) t
        → kobbelt (suc n) t w ≡ kobbelt n (mate t w) w
    unfolding kobbelt
    kobbelt_near d =
        let g : ℕ = generation (reached w) t in
        let same : g ≤ g = omega arith in
        rw (odd_test _ o, ne_eqb _ _ r, ne_eqb _ _ d, le-ltb g g same, ne_eqb _ _ d, kobbelt)

    module _ (y : Work) (e : generation (reached w) (mate t w) + 2 ≡ generation (reached w) t)
        (q : y ≡ kobbelt n (mate t w) w) where
      -- The mate is raised and t left: the mate is split.
      kobbelt_far : generation (reached y) t ≡ generation (reached w) t → kobbelt (suc n) t w ≡ kobbelt n (mate t y) y
      unfolding kobbelt
      kobbelt_far same =
          let a : generation (reached (kobbelt n (mate t w) w)) t ≤ generation (reached w) t = rw q at (le same) in
          rw (odd_test _ o, ne_eqb _ _ r, eq-eqb _ _ e, le-ltb _ _ a, eq-eqb _ _ e, q, kobbelt)
        where
          le : {a b : ℕ} → a ≡ b → a ≤ b
          le z = omega arith

      -- The mate is raised and t flipped with that.
      kobbelt_flipped : generation (reached w) t < generation (reached y) t → kobbelt (suc n) t w ≡ y
      unfolding kobbelt
      kobbelt_flipped up =
          let a : generation (reached w) t < generation (reached (kobbelt n (mate t w) w)) t = rw q at up in
          rw (odd_test _ o, ne_eqb _ _ r, eq-eqb _ _ e, lt-ltb _ _ a, eq-eqb _ _ e, q, kobbelt)

-- ---- the loop of refine, seen from a triangle and its mate

-- y is w with the mate of t split, while t is of generation g.
record MateSplit (t g : ℕ) (w y : Work) : Type 0 where
  even : generation (reached w) (mate t w) % 2 ≡ 0
  waits : generation (reached w) t ≡ g
  split : y ≡ split_at (mate t w) w

-- Where the mate of t may be split, raising t is splitting the mate.
raise_near : (j t g : ℕ) (w : Work) → Manifold (reached w) → BasesMeetIn nowhere (reached w) → t < (reached w).triangles
    → generation (reached w) t ≡ g → generation (reached w) t % 2 ≡ 1 → link (reached w) (3 * t) ≢ boundary
    → Splittable (reached w) (mate t w) → Room 1 (reached w)
    → (raise (suc j) g t w ≡ split_at (mate t w) w) × (g < generation (reached (split_at (mate t w) w)) t)
raise_near j t g w F K l q o r x R =
    let m : Topology = reached w in
    let u : ℕ = mate t w in
    let n : Topology = reached (split_at u w) in
    let b = (falls m F K t l o r).0 in
    let p : Path m t u 1 = across {t = t} o r (ends x) in
    let up : generation n t ≡ suc (generation m t) =
    shortens u _ _ _ m n F K b x (split_splitting u w x F b R).result l refl p in
    let first = raise_splits j g t u w (omega arith) (path_end (generation m t) F K l (omega arith) p) in
    (first ∙ raise_stops j g t (split_at u w) (omega arith), omega arith)

-- Before the last k + 1 splits that raise t, u is its mate, of generation h; before the very last, u has risen above h
-- and the mate is even.
abbrev Mated : Work → ℕ → ℕ → ℕ → ℕ → Type 0
Mated w t u h zero = (h < generation (reached w) u) × (generation (reached w) (mate t w) % 2 ≡ 0)
Mated w t u h (suc k) = (mate t w ≡ u) × (generation (reached w) u ≡ h)

-- A path of one odd triangle leads to its mate.
next_even : {m : Topology} {t v : ℕ} → Path m t v 1 → generation m v % 2 ≡ 0 → generation m (link m (3 * t) / 3) % 2 ≡ 0
next_even (across o r (ends x)) e = e

mated_on : {v : ℕ} (k t u h : ℕ) (w y : Work) → Shorter (reached w) (reached y) u (suc k)
    → generation (reached w) u ≡ h
    → Path (reached y) t v (suc k) → generation (reached y) v % 2 ≡ 0
    → (generation (reached y) u ≡ generation (reached w) u → mate t y ≡ u) → Mated y t u h k
mated_on zero t u h w y a e p even s = (omega arith, next_even p even)
mated_on (suc k) t u h w y a e p even s = (s a.0, a.0 ∙ e)

-- Where the mate u of t is odd, raising t is raising u, as both chains have one end until then, and splitting the
-- mate that t has then.
raise_far : {v : ℕ} (k j t u g h : ℕ) (w : Work) → Manifold (reached w) → BasesMeetIn nowhere (reached w)
    → t < (reached w).triangles
    → generation (reached w) t ≡ g → Mated w t u h k → Path (reached w) t v (suc k) → k ≤ j → Room (suc k) (reached w)
    → MateSplit t g (raise j h u w) (raise (suc j) g t w)
raise_far zero j t u g h w F K l q M (across o r p) i R =
    subst (λ (y : Work). MateSplit t g y (raise (suc j) g t w)) (sym (raise_stops j h u w M.0))
    (record { even = M.1; waits = q; split = (raise_near j t g w F K l q o r (is_even M.1) R).0 })
raise_far (suc k) zero t u g h w F K l q M p i R = absurd (omega arith)
raise_far {v} (suc k) (suc j) t u g h w F K l q M (across o r p) i R =
    let m : Topology = reached w in
    let s : ℕ = mate t w in
    let a : Path m t v (suc (suc k)) = across {t = t} o r p in
    let x = path_fit p in
    let y : Work = split_at v w in
    let c = (falls m F K t l o r).0 in
    let b = path_use F K c p in
    let S = (split_splitting v w x F b (room_fewer (suc (suc k)) 1 m R (omega arith))).result in
    let e : generation m s ≡ h = ap (generation m) M.0 ∙ M.1 in
    let A = shortens v _ _ _ m (reached y) F K b x S l refl a in
    let B = shortens v _ _ _ m (reached y) F K b x S c refl p in
    let N =
    mated_on k t s h w y B e A.1.2 A.1.1
    (λ z. ap (λ (side : ℕ). side / 3) (stays v _ _ _ m (reached y) F K b x S t l r A.0 z)) in
    subst (λ (u' : ℕ). MateSplit t g (raise (suc j) h u' w) (raise (suc (suc j)) g t w)) M.0
    (subst₂ (MateSplit t g)
    (sym (raise_splits j h s v w (omega arith) (path_end (generation m s) F K c (omega arith) p)))
    (sym (raise_splits (suc j) g t v w (omega arith) (path_end (generation m t) F K l (omega arith) a)))
    (raise_far {v = A.1.0} k j t s g h y S.manifold (S.bases_meet K) (omega (arith, S.triangles)) (A.0 ∙ q) N A.1.2
    (omega arith)
    (room_rest (suc k) v _ _ _ m (reached y) S R)))

module _ (s : ℕ) (w : Work) (F : Manifold (reached w)) (K : BasesMeetIn nowhere (reached w))
    (R : Room s (reached w)) where
  -- By the length k of the base chain of t, which ends at v.
  raise_kobbelt : (n j t : ℕ) {v k : ℕ} → t < (reached w).triangles → Path (reached w) t v k → k < n → k < j
      → max 1 k ≤ s
      → raise j (generation (reached w) t) t w ≡ kobbelt n t w
  raise_kobbelt zero j t l p a b i = absurd (omega arith)
  raise_kobbelt (suc n) zero t l p a b i = absurd (omega arith)
  raise_kobbelt (suc n) (suc j) t l (ends x) a b i =
      raise_cuts j t w x F K l (room_fewer s 1 (reached w) R i) ∙ kobbelt_ends (suc n) t w (omega arith) x
  raise_kobbelt (suc n) (suc j) t l (across o r (ends (is_even e))) a b i =
      let f = (falls (reached w) F K t l o r).1 in
      let L = raise_near j t (generation (reached w) t) w F K l refl o r (is_even e) (room_fewer s 1 (reached w) R i) in
      L.0 ∙ kobbelt_ends n (mate t w) w (omega arith) (is_even e) ∙ sym (kobbelt_near n t w o r (λ z. omega arith))
  raise_kobbelt (suc n) (suc j) t l (across o r (ends (on_boundary o' e))) a b i =
      let f = (falls (reached w) F K t l o r).1 in
      let x : Splittable (reached w) (mate t w) = on_boundary o' e in
      let L = raise_near j t (generation (reached w) t) w F K l refl o r x (room_fewer s 1 (reached w) R i) in
      L.0
      ∙ sym (kobbelt_flipped n t w o r (split_at (mate t w) w) (omega arith)
      (kobbelt_ends n (mate t w) w (omega arith) x) L.1)
  raise_kobbelt (suc n) (suc j) t l (across o r (across {v = v} {k = k} o' r' p)) a b i =
      let u : ℕ = mate t w in
      let f = falls (reached w) F K t l o r in
      let q : Path (reached w) u v (suc k) = across {t = u} o' r' p in
      let I = raise_kobbelt n j u f.0 q (omega arith) (omega arith) (omega arith) in
      let y : Work = raise j (generation (reached w) u) u w in
      let R' = room_fewer s (suc (suc k)) (reached w) R (omega arith) in
      let L : MateSplit t (generation (reached w) t) y _ =
      raise_far (suc k) j t u _ _ w F K l refl (refl, refl) (across {t = t} o r q) (omega arith) R' in
      L.split ∙ kobbelt_ends n (mate t y) y (omega arith) (is_even L.even)
      ∙ sym (kobbelt_far n t w o r y (omega (arith, f.1)) I L.waits)

-- Where there is room, refine is Kobbelt's procedure to any depth above the generation.
pub refine_is_kobbelt : (t n : ℕ) (m : Mesh) → Sound m → t < m.topology.triangles
    → RoomFor (vertices_of m.topology t) (triangles_of m.topology t) m
    → generation m.topology t < n
    → refine t (at_first m) ≡ kobbelt n t (at_first m)
unfolding refine
refine_is_kobbelt t n m S l R i =
    let g : ℕ = generation m.topology t in
    let F = sound_manifold S in
    let K = sound_bases S in
    let short = chain_bound t m S l in
    let s : ℕ = splits_of m.topology t in
    raise_kobbelt s (at_first m) F K (sound_room s S.tables R) n (suc g) t l (chain_path t m S l)
    (omega arith) (omega arith) (omega arith)
