-- The number of odd triangles: a face split makes three, a rim split two of one, and a flip takes two away.
use mathlib.Core.Path.{◌≡◌, sym, ap, ◌∙◌}
use Prim.Native.Nat.{ℕ, suc, ◌+◌, ◌*◌, ◌%◌, ◌<◌}
use native.Mathlib.Omega.{arith}
use Rattle.theory.proofs.Splits.Bases.{Settling, kept, flipped, flips_of}
use Rattle.theory.proofs.Splits.FlipKeeps.{BasesMeet}
use Rattle.theory.proofs.Splits.FlipRead.{Flips}
use Rattle.theory.proofs.Splits.Parts.{Parts, Parted, face_parts, rim_parts}
use Rattle.theory.proofs.Numbers.Sums.{total_change, total_change₂, total_two}
use Rattle.rules.specs.Below.{total}
use Rattle.rules.specs.Promises.{odds}
use Rattle.rules.specs.Tables.{Topology, generation}

-- The three triangles in the place of t count for it.
parted_odds : (t : ℕ) (p : Parts) (m n : Topology) → t < m.triangles → Parted t p m n
    → odds n + generation m t % 2
    ≡ odds m + (p.own.generation % 2 + p.second.generation % 2 + p.third.generation % 2)
unfolding odds
parted_odds t p m n b S =
    let f : ℕ = m.triangles in
    let g : ℕ → ℕ = λ x. generation n x % 2 in
    let c : total f g + generation m t % 2 ≡ total f (λ x. generation m x % 2) + generation n t % 2 =
    total_change f t (λ x. generation m x % 2) g b (λ x l i. sym (ap (λ (y : ℕ). y % 2) (S.generations x l i))) in
    let d : total n.triangles g ≡ total f g + generation n f % 2 + generation n (f + 1) % 2 =
    ap (λ (x : ℕ). total x g) S.triangles ∙ total_two f g in
    sum _ _ _ _ _ _ _ c d (ap (λ (y : ℕ). y % 2) S.own.generation) (ap (λ (y : ℕ). y % 2) S.second.generation)
    (ap (λ (y : ℕ). y % 2) S.third.generation)
  where
    sum : (n x t o y f e : ℕ) {y' f' e' : ℕ} → x + t ≡ o + y → n ≡ x + f + e → y ≡ y' → f ≡ f' → e ≡ e'
        → n + t ≡ o + (y' + f' + e')
    sum n x t o y f e a b p q r = omega arith

-- What they count, by the generation g of t.
odd_three : (n o g : ℕ) → n + g % 2 ≡ o + (suc g % 2 + suc g % 2 + suc g % 2) → g % 2 ≡ 0 → n + 0 ≡ o + 3
odd_three n o g e i = omega arith

pub split_odds : (t : ℕ) (m n : Topology) → t < m.triangles → generation m t % 2 ≡ 0 → Parted t (face_parts t m) m n
    → odds n + 0 ≡ odds m + 3
split_odds t m n b even S =
    odd_three (odds n) (odds m) (generation m t) (parted_odds t (face_parts t m) m n b S) even

odd_two : (n o g : ℕ) → n + g % 2 ≡ o + ((g + 2) % 2 + (g + 3) % 2 + (g + 2) % 2) → g % 2 ≡ 1 → n + 2 ≡ o + 3
odd_two n o g e i = omega arith

pub rim_odds : (t : ℕ) (m n : Topology) → t < m.triangles → generation m t % 2 ≡ 1 → Parted t (rim_parts t m) m n
    → odds n + 2 ≡ odds m + 3
rim_odds t m n b odd S =
    odd_two (odds n) (odds m) (generation m t) (parted_odds t (rim_parts t m) m n b S) odd

pub flip_odds : (s u : ℕ) (m n : Topology) → BasesMeet s u m → Flips s u m n → odds n + 2 ≡ odds m
unfolding odds
flip_odds s u m n B S =
    let c : total m.triangles (λ x. generation n x % 2) + generation m s % 2 + generation m u % 2
    ≡ total m.triangles (λ x. generation m x % 2) + generation n s % 2 + generation n u % 2 =
    total_change₂ m.triangles s u (λ x. generation m x % 2) (λ x. generation n x % 2) B.use_s B.use_u B.differ
    (λ x l i j. sym (ap (λ (y : ℕ). y % 2) (S.generations x i j))) in
    let d : total n.triangles (λ x. generation n x % 2) ≡ total m.triangles (λ x. generation n x % 2) =
    ap (λ (x : ℕ). total x (λ y. generation n y % 2)) S.triangles in
    omega (arith, B.odd, B.same, S.generation_s, S.generation_u)

pub settling_odds : {c : ℕ} {m n : Topology} (S : Settling c m n) → 2 * flips_of S + odds n ≡ odds m
settling_odds (kept x) = omega arith
settling_odds {c} {m} {n} (flipped u B S) = omega (arith, flip_odds c u m n B S)
