-- What agrees on the numbers in use has the same tests, searches and fans.
use mathlib.Core.Path.{◌≡◌, refl, sym, ap, ap₂, ◌∙◌}
use mathlib.Core.Bool.{Bool, true, false, not, ◌&&◌}
use mathlib.Core.List.{List, [], ◌∷◌}
use Prim.Native.Nat.{ℕ, zero, suc, ◌*◌, ◌<◌}
use native.Mathlib.Omega.{arith}
use lib.Dec.{T, eqb, ltb, ltb→lt}
use lib.ListN.{length}
use Rattle.theory.proofs.Numbers.Decide.{is_self, is_lt, is_and}
use Rattle.theory.proofs.Links.Sides.{next_lt, previous_lt}
use Rattle.theory.proofs.Numbers.Sums.{total_same}
use Rattle.rules.specs.Below.{all, any, lowest, bit, count}
use Rattle.rules.specs.Cage.{Cage, opposite, parallel, partner, corners_fit, sides_differ, turns_back}
use Rattle.rules.specs.Conditions.{InnerOfTwo}
use Rattle.rules.specs.Ring.{triangle_count, first_side, fan_from, fan}
use Rattle.rules.specs.Sound.{has_one_fan}
use Rattle.rules.specs.Tables.{Topology, sides, next, previous, origin, link, rotate, boundary}

-- ---- functions that agree below n

pub all_same : (n : ℕ) (p q : ℕ → Bool) → ((h : ℕ) → h < n → p h ≡ q h) → all n p ≡ all n q
unfolding all
all_same zero p q e = refl
all_same (suc n) p q e = ap₂ (λ (x y : Bool). x && y) (all_same n p q (λ h l. e h (omega arith))) (e n (omega arith))

pub lowest_same : (n : ℕ) (p q : ℕ → Bool) → ((h : ℕ) → h < n → p h ≡ q h) → lowest n p ≡ lowest n q
unfolding lowest
lowest_same zero p q e = refl
lowest_same (suc n) p q e =
    ap₂ (λ (k : ℕ) (b : Bool). elim (ltb k n) [ true ↦ k | false ↦ elim b [ true ↦ n | false ↦ suc n ] ])
    (lowest_same n p q (λ h l. e h (omega arith))) (e n (omega arith))

any_same : (n : ℕ) (p q : ℕ → Bool) → ((h : ℕ) → h < n → p h ≡ q h) → any n p ≡ any n q
unfolding any
any_same n p q e = ap (λ (k : ℕ). ltb k n) (lowest_same n p q e)

-- ---- cages with the same corners

pub record SameCorners (c d : Cage) : Type 0 where
  pub vertices : c.vertices ≡ d.vertices
  pub triangles : c.triangles ≡ d.triangles
  pub corner : (h : ℕ) → h < 3 * c.triangles → c.corner h ≡ d.corner h

module _ {c d : Cage} (S : SameCorners c d) where
  after : (h : ℕ) → h < 3 * c.triangles → c.corner (next h) ≡ d.corner (next h)
  after h l = S.corner (next h) (next_lt h c.triangles l)

  pub corners_fit_same : corners_fit c ≡ corners_fit d
  unfolding corners_fit
  corners_fit_same =
      all_same (3 * c.triangles) _ _ (λ h l. rw (S.corner h l, after h l))
      ∙ ap₂
      (λ (v f : ℕ). all (3 * f) (λ h. ltb (d.corner h) v && not (eqb (d.corner h) (d.corner (next h)))))
      S.vertices S.triangles

  pub sides_differ_same : sides_differ c ≡ sides_differ d
  unfolding sides_differ
  sides_differ_same =
      all_same (3 * c.triangles) _ _ (λ h l.
      all_same h _ _ (λ k i. rw (S.corner h l, after h l, S.corner k (omega arith), after k (omega arith))))
      ∙ ap (λ (f : ℕ). all (3 * f) (λ h. all h (λ k. not (parallel d h k)))) S.triangles

  pub partner_same : (h : ℕ) → h < 3 * c.triangles → partner c h ≡ partner d h
  unfolding partner
  partner_same h l =
      ap₂ (λ (k f : ℕ). elim (ltb k (3 * f)) [ true ↦ k | false ↦ boundary ])
      (lowest_same (3 * c.triangles) _ _ (λ k i. rw (S.corner h l, after h l, S.corner k i, after k i))
      ∙ ap (λ (f : ℕ). lowest (3 * f) (opposite d h)) S.triangles)
      S.triangles

-- ---- topologies with the same corners and links

pub record SameSides (m n : Topology) : Type 0 where
  pub triangles : m.triangles ≡ n.triangles
  pub corner : (h : ℕ) → h < sides m → origin m h ≡ origin n h
  pub link : (h : ℕ) → h < sides m → link m h ≡ link n h

only_if : (b : Bool) (x y : List ℕ) → (T b → x ≡ y)
    → ◌≡◌ {A = List ℕ} (elim b [ true ↦ x | false ↦ [] ]) (elim b [ true ↦ y | false ↦ [] ])
only_if true x y e = e tt
only_if false x y e = refl

both_if : (b p q : Bool) → (T b → p ≡ q) → b && p ≡ b && q
both_if true p q e = e tt
both_if false p q e = refl

-- The lowest side out of v on the boundary.
abbrev on_boundary : Topology → ℕ → ℕ
on_boundary m v = lowest (sides m) (λ k. eqb (origin m k) v && eqb (link m k) boundary)

module _ {m n : Topology} (S : SameSides m n) where
  turn_same : (h : ℕ) → h < sides m → rotate m h ≡ rotate n h
  turn_same h l = S.link (previous h) (previous_lt h m.triangles l)

  -- The lowest side that a test of its origin and its link finds.
  side_same : (p : ℕ → ℕ → Bool)
      → lowest (sides m) (λ k. p (origin m k) (link m k)) ≡ lowest (sides n) (λ k. p (origin n k) (link n k))
  side_same p =
      lowest_same (sides m) _ _ (λ k l. rw (S.corner k l, S.link k l))
      ∙ ap (λ (f : ℕ). lowest (3 * f) (λ k. p (origin n k) (link n k))) S.triangles

  first_same : (v : ℕ) → first_side m v ≡ first_side n v
  unfolding first_side
  first_same v =
      ap₂ (λ (h k : ℕ). elim (ltb h (sides m)) [ true ↦ h | false ↦ k ])
      (side_same (λ x k. eqb x v && eqb k boundary)) (side_same (λ x k. eqb x v))
      ∙ ap (λ (f : ℕ). elim (ltb (on_boundary n v) (3 * f))
      [ true ↦ on_boundary n v | false ↦ lowest (sides n) (λ k. eqb (origin n k) v) ])
      S.triangles

  walk_same : (k s h : ℕ) → h < sides m → fan_from k m s h ≡ fan_from k n s h
  unfolding fan_from
  walk_same zero s h l = refl
  walk_same (suc k) s h l =
      let x : ℕ = rotate m h in
      ap (λ (l : List ℕ). h ∷ l)
      (only_if (ltb x (sides m) && not (eqb x s)) (fan_from k m s x) (fan_from k n s x)
      (λ t. walk_same k s x ((is_and (is_lt x (sides m)) (is_self (not (eqb x s)))).holds t).0)
      ∙ ap₂ (λ (x f : ℕ). elim (ltb x (3 * f) && not (eqb x s)) [ true ↦ fan_from k n s x | false ↦ [] ])
      (turn_same h l) S.triangles)

  fan_same : (v : ℕ) → fan m v ≡ fan n v
  unfolding fan
  fan_same v =
      let s : ℕ = first_side m v in
      only_if (ltb s (sides m)) (fan_from m.triangles m s s) (fan_from m.triangles n s s)
      (λ t. walk_same m.triangles s s (ltb→lt s (sides m) t))
      ∙ ap₂ (λ (s f : ℕ). elim (ltb s (3 * f)) [ true ↦ fan_from f n s s | false ↦ [] ]) (first_same v) S.triangles

  count_same : (v : ℕ) → triangle_count m v ≡ triangle_count n v
  count_same v =
      total_same (sides m) (λ h. bit (eqb (origin m h) v)) (λ h. bit (eqb (origin n h) v)) (λ h l. rw (S.corner h l))
      ∙ ap (λ (f : ℕ). count (3 * f) (λ h. eqb (origin n h) v)) S.triangles

  pub one_fan_same : (v : ℕ) → has_one_fan m v ≡ has_one_fan n v
  unfolding has_one_fan
  one_fan_same v =
      ap₂ (λ (l : List ℕ) (k : ℕ). ltb 0 (length l) && eqb (length l) k) (fan_same v) (count_same v)

  -- ---- vertices off the boundary that have two triangles

  turns_back_same : (h : ℕ) → h < sides m → turns_back m h ≡ turns_back n h
  turns_back_same h l =
      let x : ℕ = rotate m h in
      both_if (ltb x (sides m)) (eqb (rotate m x) h) (eqb (rotate n x) h)
      (λ t. ap (λ (y : ℕ). eqb y h) (turn_same x (ltb→lt x (sides m) t)))
      ∙ ap₂ (λ (x f : ℕ). ltb x (3 * f) && eqb (rotate n x) h) (turn_same h l) S.triangles

  pub some_turns_back_same : any (sides m) (turns_back m) ≡ any (sides n) (turns_back n)
  some_turns_back_same =
      any_same (sides m) (turns_back m) (turns_back n) turns_back_same
      ∙ ap (λ (f : ℕ). any (3 * f) (turns_back n)) S.triangles

  pub inner_of_two_same : (v : ℕ) → InnerOfTwo n v → InnerOfTwo m v
  inner_of_two_same v (inner, two) = (
    λ (h, l, o, b). inner (h, rw S.triangles at l, sym (S.corner h l) ∙ o, sym (S.link h l) ∙ b),
    count_same v ∙ two,
  )
