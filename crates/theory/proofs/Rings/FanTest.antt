-- The test for one fan says whether a vertex has one.
use mathlib.Core.Path.{◌≡◌, sym, ap, ◌∙◌, subst, subst₂}
use mathlib.Core.Logic.{◌⊎◌, inl, inr}
use mathlib.Core.List.{List}
use Prim.Native.Nat.{ℕ, zero, suc, ◌/◌, ◌≤◌, ◌<◌}
use native.Mathlib.Omega.{arith}
use native.Mathlib.Decide.{ℕ_discrete, dec_le}
use lib.ListN.{length}
use lib.Dec.{T, eqb}
use Rattle.theory.proofs.Numbers.Decide.{Decides, is_eq, is_lt, is_iff, is_and}
use Rattle.theory.proofs.Rings.Fans.{Walked, Inside, Begins, Starts, side_at, Meets, walk_walked, first_side_lem}
use Rattle.theory.proofs.Rings.Fans.{first_in_use, fan_walked, fan_some}
use Rattle.theory.proofs.Numbers.Pigeonhole.{no_more, each_reached, as_many}
use Rattle.theory.proofs.Links.Renaming.{turns_trans}
use Rattle.theory.proofs.Rings.Turning.{Glued, rotate_inner, before}
use Rattle.rules.specs.Ring.{triangle_count, first_side, fan_from, fan}
use Rattle.rules.specs.Sound.{OneFan, Turns, here, turn, has_one_fan}
use Rattle.rules.specs.Tables.{Topology, sides, origin, boundary, link, rotate}

-- ---- facts of one walk

module _ (m : Topology) (s : ℕ) (l : List ℕ) (W : Walked m s l) where
  -- Turning leads from each side of a walk to the later ones.
  ahead : (i j : ℕ) → i ≤ j → j < length l → Turns m (side_at l i) (side_at l j)
  ahead i zero a k = let e : i ≡ 0 = omega arith in rw e here
  ahead i (suc j) a k = go (ℕ_discrete i (suc j)) (ahead i j)
    where
      go : Dec (i ≡ suc j) → (i ≤ j → j < length l → Turns m (side_at l i) (side_at l j))
          → Turns m (side_at l i) (side_at l (suc j))
      go (yes e) ih = rw e here
      go (no e) ih = turn (ih (omega arith) (omega arith)) (sym (W.turns j k)) (W.in_use (suc j) k)

  -- Where the walk comes back, it leads from each to each.
  around : (z : ℕ) → suc z ≡ length l → rotate m (side_at l z) ≡ s
      → (i j : ℕ) → i < length l → j < length l → Turns m (side_at l i) (side_at l j)
  around z e r i j a b = go (dec_le i j)
    where
      go : Dec (i ≤ j) → Turns m (side_at l i) (side_at l j)
      go (yes q) = ahead i j q b
      go (no q) =
          let c : Turns m (side_at l i) (side_at l z) = ahead i z (omega arith) (omega arith) in
          turns_trans (turn c (r ∙ sym W.first) (W.in_use 0 W.some)) (ahead 0 j (omega arith) b)

  -- The side that turns into the start is the last.
  pub last : (k : ℕ) → Meets l k → rotate m k ≡ s → (i : ℕ) × (suc i ≡ length l) × (side_at l i ≡ k)
  last k x e = go (ℕ_discrete (suc x.0) (length l))
    where
      go : Dec (suc x.0 ≡ length l) → (i : ℕ) × (suc i ≡ length l) × (side_at l i ≡ k)
      go (yes q) = (x.0, q, x.2)
      go (no q) =
          let j : suc x.0 < length l = omega (arith, x.1) in
          let y : side_at l (suc x.0) ≡ side_at l 0 =
          W.turns x.0 j ∙ ap (λ (z : ℕ). rotate m z) x.2 ∙ e ∙ sym W.first in
          let z = W.once (suc x.0) 0 j W.some (ap (λ (z : ℕ). z / 3) y) in
          absurd (omega arith)

  -- A side on the boundary is the first.
  boundary_first : Glued m → (h : ℕ) → Meets l h → link m h ≡ boundary → s ≡ h
  boundary_first G h x e = go x.0 x.1 x.2
    where
      go : (i : ℕ) → i < length l → side_at l i ≡ h → s ≡ h
      go zero a q = sym W.first ∙ q
      go (suc i) a q =
          absurd
          (rotate_inner m G (side_at l i) (side_at l (suc i)) (W.in_use i (omega arith)) (W.in_use (suc i) a)
          (sym (W.turns i a))
          (ap (λ (k : ℕ). link m k) q ∙ e))

  module _ (v : ℕ) (o : origin m s ≡ v) where
    differ : (i j : ℕ) → i < length l → j < length l → side_at l i ≡ side_at l j → i ≡ j
    differ i j a k e = W.once i j a k (ap (λ (x : ℕ). x / 3) e)

    passes : (i : ℕ) → i < length l → T (eqb (origin m (side_at l i)) v)
    passes i k = (is_eq (origin m (side_at l i)) v).passes (W.out i k ∙ o)

    -- A walk meets no more sides than go out of v.
    pub no_more_met : length l ≤ triangle_count m v
    no_more_met = no_more (sides m) (length l) (side_at l) (λ h. eqb (origin m h) v) W.in_use passes differ

    -- A walk that meets as many meets each.
    pub all_met : length l ≡ triangle_count m v → (h : ℕ) → h < sides m → origin m h ≡ v → Meets l h
    all_met e h b q =
        each_reached (sides m) (length l) (side_at l) (λ h. eqb (origin m h) v) W.in_use passes differ e h b
        ((is_eq (origin m h) v).passes q)

    -- The sides that a walk meets are one fan where it meets each.
    pub met_fan : ((h : ℕ) → h < sides m → origin m h ≡ v → Meets l h) → OneFan m v
    met_fan r = record { first = s; in_use = rw W.first at (W.in_use 0 W.some); out = o; all = reach }
      where
        reach : (h : ℕ) → h < sides m → origin m h ≡ v → Turns m s h
        reach h b q =
            let x = r h b q in
            subst (λ (k : ℕ). Turns m k h) W.first (rw x.2 at (ahead 0 x.0 (omega arith) x.1))

    pub all_counted : ((h : ℕ) → h < sides m → origin m h ≡ v → Meets l h) → length l ≡ triangle_count m v
    all_counted r = as_many (sides m) (length l) (side_at l) (λ h. eqb (origin m h) v) W.in_use passes differ
        (λ h b t. r h b ((is_eq (origin m h) v).holds t))

-- ---- a fan and the walk

-- The walk round v has a start, and it meets every side out of v.
pub record MeetsAll (m : Topology) (v : ℕ) : Type 0 where
  pub start : first_side m v < sides m
  pub all : (h : ℕ) → h < sides m → origin m h ≡ v → Meets (fan m v) h

module _ (m : Topology) (G : Glued m) (v : ℕ) where
  module _ (f : OneFan m v) where
    l : List ℕ
    l = fan_from m.triangles m f.first f.first

    W : Walked m f.first l
    unfolding l
    W = walk_walked m G f.first f.in_use

    at : (h : ℕ) → h < sides m → origin m h ≡ v → Meets l h
    at h b o = W.met (f.all h b o)

    -- In one fan turning leads to all from a side on the boundary, and from any side out of v where none is.
    pub reach : (s : ℕ) → Begins m v s → (h : ℕ) → h < sides m → origin m h ≡ v → Turns m s h
    reach s S h b o = go S.best
      where
        x : Meets l s
        x = at s S.in_use S.out

        y : Meets l h
        y = at h b o

        go : (link m s ≡ boundary) ⊎ Inside m v → Turns m s h
        go (inl e) = rw (boundary_first m f.first l W G s x e) at (f.all h b o)
        go (inr n) =
            let p = before m G f.first f.in_use (n f.first f.in_use f.out) in
            let z = last m f.first l W p.0 (at p.0 p.1 (p.2 ∙ f.out)) p.3 in
            let r : rotate m (side_at l z.0) ≡ f.first = ap (λ (k : ℕ). rotate m k) z.2 ∙ p.3 in
            subst₂ (Turns m) x.2 y.2 (around m f.first l W z.0 z.1 r x.0 y.0 x.1 y.1)

    -- It has one start.
    pub one_start : (s r : ℕ) → Starts m v s → Starts m v r → s ≡ r
    one_start s r S R = go A.best B.best
      where
        A : Begins m v s
        A = S.begins

        B : Begins m v r
        B = R.begins

        first : (k : ℕ) → Begins m v k → link m k ≡ boundary → f.first ≡ k
        first k K = boundary_first m f.first l W G k (at k K.in_use K.out)

        go : (link m s ≡ boundary) ⊎ Inside m v → (link m r ≡ boundary) ⊎ Inside m v → s ≡ r
        go (inl a) (inl b) = sym (first s A a) ∙ first r B b
        go (inl a) (inr n) = absurd (n s A.in_use A.out a)
        go (inr n) (inl b) = absurd (n r B.in_use B.out b)
        go (inr n) (inr _) =
            omega (arith, S.lowest n r B.in_use B.out, R.lowest n s A.in_use A.out)

  pub fan_met : OneFan m v → MeetsAll m v
  fan_met f =
      let i : first_side m v < sides m = first_in_use m v f.first f.in_use f.out in
      let B = (first_side_lem m v i).begins in
      record { start = i; all = λ h b o. (fan_walked m v G i).met (reach f (first_side m v) B h b o) }

  -- The test says whether v has one fan.
  pub one_fan_is : Decides (has_one_fan m v) (OneFan m v)
  unfolding has_one_fan
  one_fan_is = is_iff to_fan of_fan (is_and (is_lt 0 (length (fan m v))) (is_eq (length (fan m v)) (triangle_count m v)))
    where
      to_fan : (0 < length (fan m v)) × (length (fan m v) ≡ triangle_count m v) → OneFan m v
      to_fan x =
          let i : first_side m v < sides m = fan_some m v x.0 in
          let W = fan_walked m v G i in
          let o = (first_side_lem m v i).begins.out in
          met_fan m (first_side m v) (fan m v) W v o (all_met m (first_side m v) (fan m v) W v o x.1)

      of_fan : OneFan m v → (0 < length (fan m v)) × (length (fan m v) ≡ triangle_count m v)
      of_fan f =
          let M = fan_met f in
          let W = fan_walked m v G M.start in
          let o = (first_side_lem m v M.start).begins.out in
          (W.some, all_counted m (first_side m v) (fan m v) W v o M.all)
