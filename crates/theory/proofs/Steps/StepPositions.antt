-- The positions of the whole step: all old vertices moved at once, and in range.
use mathlib.Core.Logic.{◌≢◌}
use mathlib.Core.Path.{◌≡◌, refl, ap, ◌∙◌}
use mathlib.Core.List.{List, [], ◌∷◌}
use Prim.Native.Nat.{ℕ, zero, suc, ◌+◌, ◌*◌, ◌/◌, ◌≤◌, ◌<◌}
use native.Mathlib.Omega.{arith}
use native.Mathlib.Decide.{ℕ_discrete}
use lib.ListN.{length, get_or, set, drop, length-set}
use lib.Seq.{set_comm}
use lib.IntN.{ℤ, pos, neg_ℤ, ◌+ℤ◌}
use lib.Signed.{◌≤ℤ◌}
use Rattle.theory.proofs.Numbers.Differences.{its, nat, add, neg, at_most, at_most_gives}
use Rattle.theory.proofs.Numbers.Entries.{Each}
use Rattle.theory.proofs.Links.Past.{drop_put}
use Rattle.theory.proofs.Numbers.Rounding.{moved_in_range, limit_in_range}
use Rattle.theory.proofs.Links.Sides.{length_put, put_else, put_at_lem}
use Rattle.rules.specs.Numbers.{InRange, max_coordinate}
use Rattle.rules.specs.Ring.{ring}
use Rattle.rules.specs.Step.{sum_over, moved_coordinate, move_vertices, limit_coordinate}
use Rattle.rules.specs.Tables.{Mesh, coordinate, put_three}

pub length_move : (n : ℕ) (m : Mesh) (l : List ℤ) → length (move_vertices n m l) ≡ length l
unfolding move_vertices
length_move zero m l = refl
length_move (suc v) m l = length_move v m _ ∙ length_put l v _ _ _ (pos 0)

-- Entries of later vertices stay.
pub move_else : (n : ℕ) (m : Mesh) (l : List ℤ) (i : ℕ) → n ≤ i / 3
    → get_or (move_vertices n m l) i (pos 0) ≡ get_or l i (pos 0)
unfolding move_vertices
move_else zero m l i k = refl
move_else (suc v) m l i k = move_else v m _ i (omega arith) ∙ put_else l v _ _ _ (pos 0) i (omega arith)

pub move_past : (n : ℕ) (m : Mesh) (l : List ℤ) (b : ℕ) → n ≤ b → drop (3 * b) (move_vertices n m l) ≡ drop (3 * b) l
unfolding move_vertices
move_past zero m l b k = refl
move_past (suc v) m l b k = move_past v m _ b (omega arith) ∙ drop_put l v b _ k

-- Writes to two slots change places.
module _ {A : Type 0} (t : ℕ) (x : A × A × A) where
  put_set : (l : List A) (i : ℕ) (a : A) → i / 3 ≢ t → put_three t x (set l i a) ≡ set (put_three t x l) i a
  put_set l i a n =
      let n₀ : i ≢ 3 * t = omega arith in
      let n₁ : i ≢ 3 * t + 1 = omega arith in
      let n₂ : i ≢ 3 * t + 2 = omega arith in
      rw (
        set_comm l i (3 * t) a x.0 n₀,
        set_comm (set l (3 * t) x.0) i (3 * t + 1) a x.1 n₁,
        set_comm (set (set l (3 * t) x.0) (3 * t + 1) x.1) i (3 * t + 2) a x.2 n₂,
      )

  put_put : (l : List A) (v : ℕ) (a b c : A) → v ≢ t
      → put_three t x (put_three v (a, b, c) l) ≡ put_three v (a, b, c) (put_three t x l)
  put_put l v a b c n =
      put_set (set (set l (3 * v) a) (3 * v + 1) b) (3 * v + 2) c (omega arith)
      ∙ ap (λ (k : List A). set k (3 * v + 2) c) (put_set (set l (3 * v) a) (3 * v + 1) b (omega arith))
      ∙ ap (λ (k : List A). set (set k (3 * v + 1) b) (3 * v + 2) c) (put_set l (3 * v) a (omega arith))

move_put : (n : ℕ) (m : Mesh) (l : List ℤ) (v : ℕ) (a b c : ℤ) → n ≤ v
    → move_vertices n m (put_three v (a, b, c) l) ≡ put_three v (a, b, c) (move_vertices n m l)
unfolding move_vertices
move_put zero m l v a b c k = refl
move_put (suc n) m l v a b c k =
    ap (move_vertices n m) (put_put n _ l v a b c (omega arith)) ∙ move_put n m _ v a b c (omega arith)

-- Vertex v moved after those below it.
pub move_next : (v : ℕ) (m : Mesh) (l : List ℤ)
    → move_vertices (suc v) m l
    ≡ put_three v (moved_coordinate m v 0, moved_coordinate m v 1, moved_coordinate m v 2) (move_vertices v m l)
unfolding move_vertices
move_next v m l = move_put v m l v _ _ _ (omega arith)

-- The first n vertices stand where they move to.
module _ (m : Mesh) (v k : ℕ) (three : k < 3) where
  pub move_at : (n : ℕ) (l : List ℤ) → 3 * n ≤ length l → v < n
      → get_or (move_vertices n m l) (3 * v + k) (pos 0) ≡ moved_coordinate m v k
  unfolding move_vertices
  move_at zero l r i = absurd (omega arith)
  move_at (suc n) l r i = go (ℕ_discrete v n) (move_at n put fits)
    where
      put : List ℤ
      put = put_three n (moved_coordinate m n 0, moved_coordinate m n 1, moved_coordinate m n 2) l

      fits : 3 * n ≤ length put
      fits = simp length-set (omega arith)

      go : Dec (v ≡ n) → (v < n → get_or (move_vertices n m put) (3 * v + k) (pos 0) ≡ moved_coordinate m v k)
          → get_or (move_vertices n m put) (3 * v + k) (pos 0) ≡ moved_coordinate m v k
      go (yes e) ih =
          move_else n m put (3 * v + k) (omega arith)
          ∙ rw e (put_at_lem l n (moved_coordinate m n) (pos 0) (omega arith) k three)
      go (no e) ih = ih (omega arith)

-- ---- sums over a ring

-- A sum of coordinates in range lies between the limits, as many times as there are summands.
sum_range : (m : Mesh) (k : ℕ) (vs : List ℕ) → Each (λ v. InRange (coordinate m v k)) vs
    → (neg_ℤ (pos (length vs * max_coordinate)) ≤ℤ sum_over m k vs) × (sum_over m k vs ≤ℤ pos (length vs * max_coordinate))
unfolding sum_over
sum_range m k [] a = (at_most (neg (nat 0)) (nat 0) (omega arith), at_most (nat 0) (nat 0) (omega arith))
sum_range m k (v ∷ vs) a = go a.0 (sum_range m k vs a.1)
  where
    go : InRange (coordinate m v k)
        → (neg_ℤ (pos (length vs * max_coordinate)) ≤ℤ sum_over m k vs)
        × (sum_over m k vs ≤ℤ pos (length vs * max_coordinate))
        → (neg_ℤ (pos (suc (length vs) * max_coordinate)) ≤ℤ (coordinate m v k +ℤ sum_over m k vs))
        × ((coordinate m v k +ℤ sum_over m k vs) ≤ℤ pos (suc (length vs) * max_coordinate))
    go r s =
        let c = its (coordinate m v k) in
        let t = its (sum_over m k vs) in
        let a₀ = at_most_gives (neg (nat max_coordinate)) c r.low in
        let a₁ = at_most_gives c (nat max_coordinate) r.high in
        let b₀ = at_most_gives (neg (nat (length vs * max_coordinate))) t s.0 in
        let b₁ = at_most_gives t (nat (length vs * max_coordinate)) s.1 in (
          at_most (neg (nat (suc (length vs) * max_coordinate))) (add c t) (omega arith),
          at_most (add c t) (nat (suc (length vs) * max_coordinate)) (omega arith),
        )

-- A vertex in range whose ring entries are in range moves to a place in range, and has its limit in range.
module _ (m : Mesh) (v k : ℕ) (p : InRange (coordinate m v k))
    (a : Each (λ u. InRange (coordinate m u k)) (ring m.topology v)) (n : 1 ≤ length (ring m.topology v)) where
  pub moved_coordinate_in_range : InRange (moved_coordinate m v k)
  unfolding moved_coordinate
  moved_coordinate_in_range =
      let s = sum_range m k (ring m.topology v) a in
      moved_in_range m.rule n p s.0 s.1

  pub limit_coordinate_in_range : InRange (limit_coordinate m v k)
  unfolding limit_coordinate
  limit_coordinate_in_range =
      let s = sum_range m k (ring m.topology v) a in
      limit_in_range m.rule n p s.0 s.1
