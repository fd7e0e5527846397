-- The ring of a vertex of a sound mesh: what its walk meets, where it ends, and how many entries it has.
use mathlib.Core.Path.{◌≡◌, refl, sym, ap, ◌∙◌}
use mathlib.Core.Logic.{◌⊎◌, inl, inr}
use mathlib.Core.Bool.{Bool, true, false}
use mathlib.Core.List.{List, [], ◌∷◌}
use Prim.Native.Nat.{ℕ, zero, suc, ◌+◌, ◌-◌, ◌<◌}
use native.Mathlib.Omega.{arith}
use native.Mathlib.Decide.{ℕ_discrete}
use lib.ListN.{length, get_or}
use lib.Dec.{eqb}
use Rattle.theory.proofs.Numbers.Decide.{is_eq, bit_yes, bit_no}
use Rattle.theory.proofs.Rings.FanTest.{MeetsAll, last, all_counted, fan_met}
use Rattle.theory.proofs.Rings.Fans.{Walked, Inside, Begins, Starts, side_at, Meets, first_side_lem, fan_walked}
use Rattle.theory.proofs.Soundness.Relaxed.{sound_manifold}
use Rattle.theory.proofs.Rings.Turning.{Glued, manifold_glued, rotate_inner, before}
use Rattle.rules.specs.Below.{bit}
use Rattle.rules.specs.Promises.{RingMakes}
use Rattle.rules.specs.Ring.{OnBoundary, triangle_count, first_side, fan, neighbours, ring}
use Rattle.rules.specs.Sound.{OneFan, Sound}
use Rattle.rules.specs.Tables.{Topology, Mesh, sides, previous, origin, target, boundary, link, rotate}

-- ---- the neighbours along a walk

neighbours_at : (m : Topology) (l : List ℕ) (i : ℕ) → i < length l → get_or (neighbours m l) i 0 ≡ target m (side_at l i)
unfolding neighbours
neighbours_at m [] i k = absurd (omega arith)
neighbours_at m (h ∷ []) zero k = refl
neighbours_at m (h ∷ []) (suc i) k = absurd (omega arith)
neighbours_at m (h ∷ g ∷ l) zero k = refl
neighbours_at m (h ∷ g ∷ l) (suc i) k = neighbours_at m (g ∷ l) i (omega arith)

neighbours_last : (m : Topology) (l : List ℕ) (i : ℕ) → suc i ≡ length l → rotate m (side_at l i) ≡ boundary
    → get_or (neighbours m l) (suc i) 0 ≡ origin m (previous (side_at l i))
unfolding neighbours
neighbours_last m [] i e r = absurd (omega arith)
neighbours_last m (h ∷ []) zero e r = rw (r, neighbours)
neighbours_last m (h ∷ []) (suc i) e r = absurd (omega arith)
neighbours_last m (h ∷ g ∷ l) zero e r = absurd (omega arith)
neighbours_last m (h ∷ g ∷ l) (suc i) e r = neighbours_last m (g ∷ l) i (omega arith) r

neighbours_length : (m : Topology) (l : List ℕ) (i : ℕ) → suc i ≡ length l
    → length (neighbours m l) ≡ length l + bit (eqb (rotate m (side_at l i)) boundary)
unfolding neighbours
neighbours_length m [] i e = absurd (omega arith)
neighbours_length m (h ∷ []) zero e = go (eqb (rotate m h) boundary)
  where
    go : (b : Bool) → suc (length {A = ℕ} (elim b [ true ↦ origin m (previous h) ∷ [] | false ↦ [] ])) ≡ 1 + bit b
    go true = refl
    go false = refl
neighbours_length m (h ∷ []) (suc i) e = absurd (omega arith)
neighbours_length m (h ∷ k ∷ l) zero e = absurd (omega arith)
neighbours_length m (h ∷ k ∷ l) (suc i) e = let x = neighbours_length m (k ∷ l) i (omega arith) in omega arith

-- A walk that meets every side out of v.
module _ (m : Topology) (G : Glued m) (v s : ℕ) (l : List ℕ) (S : Begins m v s) (W : Walked m s l)
    (met : (h : ℕ) → h < sides m → origin m h ≡ v → Meets l h) where
  to_boundary : (i : ℕ) → suc i ≡ length l → rotate m (side_at l i) ≡ boundary → OnBoundary m v
  to_boundary i e r = go (ℕ_discrete (link m s) boundary)
    where
      go : Dec (link m s ≡ boundary) → OnBoundary m v
      go (yes q) = (s, S.in_use, S.out, q)
      go (no q) =
          let (p, u, o, x) = before m G s S.in_use q in
          let (j, f, y) = last m s l W p (met p u (o ∙ S.out)) x in
          let a : i ≡ j = omega arith in
          let z : boundary ≡ s = sym r ∙ ap (λ (k : ℕ). rotate m (side_at l k)) a ∙ ap (λ (h : ℕ). rotate m h) y ∙ x in
          absurd (omega (arith, G.few, S.in_use))

  of_boundary : (i : ℕ) → suc i ≡ length l → OnBoundary m v → rotate m (side_at l i) ≡ boundary
  of_boundary i e (h, u, o, b) = go S.best (W.ends i e)
    where
      go : (link m s ≡ boundary) ⊎ Inside m v
          → (rotate m (side_at l i) ≡ s) ⊎ (rotate m (side_at l i) ≡ boundary) → rotate m (side_at l i) ≡ boundary
      go x (inr y) = y
      go (inr n) (inl y) = absurd (n h u o b)
      go (inl q) (inl y) = absurd (rotate_inner m G (side_at l i) s (W.in_use i (omega arith)) S.in_use y q)

  neighbours_count : (i : ℕ) → suc i ≡ length l
      → length (neighbours m l) ≡ triangle_count m v + bit (eqb (rotate m (side_at l i)) boundary)
  neighbours_count i e = let a = neighbours_length m l i e in let b = all_counted m s l W v S.out met in omega arith

  last_side : suc (length l - 1) ≡ length l
  last_side = omega (arith, W.some)

  inner_length : ¬ OnBoundary m v → length (neighbours m l) ≡ triangle_count m v
  inner_length n =
      let a = neighbours_count (length l - 1) last_side in
      let b =
      bit_no (is_eq (rotate m (side_at l (length l - 1))) boundary) (λ q. n (to_boundary (length l - 1) last_side q)) in
      omega arith

  outer_length : OnBoundary m v → length (neighbours m l) ≡ triangle_count m v + 1
  outer_length x =
      let a = neighbours_count (length l - 1) last_side in
      let b = bit_yes (is_eq (rotate m (side_at l (length l - 1))) boundary) (of_boundary (length l - 1) last_side x) in
      omega arith

pub ring_of_lem : (m : Topology) → Glued m → (v : ℕ) → OneFan m v → RingMakes m v
unfolding ring
ring_of_lem m G v f =
    let M : MeetsAll m v = fan_met m G v f in
    let s : ℕ = first_side m v in
    let F : Starts m v s = first_side_lem m v M.start in
    let S : Begins m v s = F.begins in
    let W : Walked m s (fan m v) = fan_walked m v G M.start in
    record {
      some = W.some;
      first = W.first;
      starts_out = S.out;
      start = (
        λ (h, u, o, b). elim S.best [ inl e ↦ e | inr n ↦ absurd (n h u o b) ],
        λ n. F.lowest (λ h u o b. n (h, u, o, b)),
      );
      in_use = W.in_use;
      turns = W.turns;
      ends = W.ends;
      ends_at_boundary = λ i e.
          (to_boundary m G v s (fan m v) S W M.all i e, of_boundary m G v s (fan m v) S W M.all i e);
      meets = M.all;
      once = W.once;
      entries = neighbours_at m (fan m v);
      inner = inner_length m G v s (fan m v) S W M.all;
      outer = outer_length m G v s (fan m v) S W M.all;
      last_entry = λ b i e. neighbours_last m (fan m v) i e (of_boundary m G v s (fan m v) S W M.all i e b);
    }

-- Every vertex of a sound mesh has such a ring.
pub ring_makes : {m : Mesh} → Sound m → (v : ℕ) → v < m.topology.vertices → RingMakes m.topology v
ring_makes {m} S v l = ring_of_lem m.topology (manifold_glued (sound_manifold S)) v (S.fans v l)
