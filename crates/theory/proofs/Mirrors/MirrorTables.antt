-- Mirrored tables of coordinates, read and written.
use Prim.Native.Nat.{ℕ, zero, suc, ◌+◌, ◌*◌, ◌%◌, ◌<◌}
use native.Mathlib.Omega.{arith}
use native.Mathlib.Decide.{ℕ_discrete, dec_lt}
use mathlib.Core.List.{List}
use mathlib.Core.Path.{◌≡◌, refl}
use lib.IntN.{ℤ, pos}
use lib.ListN.{length, get_or, set, length-set, get_or-eq_default}
use lib.Seq.{ext_get_or, get_or-set_same, get_or-set_other}
use Rattle.theory.proofs.Mirrors.Opposites.{mirror_zero}
use Rattle.theory.proofs.Numbers.Fill.{length_fill, get_or_fill}
use Rattle.rules.specs.Below.{fill}
use Rattle.rules.specs.Mirror.{mirror_at, mirror_table, mirror}
use Rattle.rules.specs.Tables.{Mesh, coordinate, put_three}

module _ (k : ℕ) where
  pub length_mirror : (l : List ℤ) → length (mirror_table k l) ≡ length l
  unfolding mirror_table
  length_mirror l = length_fill (length l) _ l

  -- Past the end both are zero.
  pub get_or_mirror : (l : List ℤ) (i : ℕ)
      → get_or (mirror_table k l) i (pos 0) ≡ mirror_at k (i % 3) (get_or l i (pos 0))
  unfolding mirror_table
  get_or_mirror l i = go (dec_lt i (length l))
    where
      go : Dec (i < length l) → get_or (mirror_table k l) i (pos 0) ≡ mirror_at k (i % 3) (get_or l i (pos 0))
      go (yes b) = get_or_fill (length l) _ l i (pos 0) (omega arith) b
      go (no b) =
          rw (get_or-eq_default l (pos 0) {n = i} (omega arith), mirror_zero)
          (get_or-eq_default (mirror_table k l) (pos 0) (omega (arith, length_mirror l)))

  set_mirror : (l : List ℤ) (i : ℕ) (x : ℤ)
      → mirror_table k (set l i x) ≡ set (mirror_table k l) i (mirror_at k (i % 3) x)
  set_mirror l i x =
      ext_get_or (pos 0) _ _ (simp (length-set, length_mirror))
      (λ h b. go h (simp (length_mirror, length-set) at b) (ℕ_discrete h i))
    where
      go : (h : ℕ) → h < length l → Dec (h ≡ i)
          → get_or (mirror_table k (set l i x)) h (pos 0) ≡ get_or (set (mirror_table k l) i (mirror_at k (i % 3) x)) h (pos 0)
      go h b (yes e) =
          let i₀ : i < length l = omega arith in
          let i₁ : i < length (mirror_table k l) = omega (arith, length_mirror l) in
          rw e (simp (get_or_mirror, get_or-set_same))
      go h b (no n) = simp (get_or_mirror, get_or-set_other)

  -- Slot v written.
  pub put_mirror : (l : List ℤ) (v : ℕ) (f g : ℕ → ℤ) → ((j : ℕ) → j < 3 → g j ≡ mirror_at k j (f j))
      → put_three v (g 0, g 1, g 2) (mirror_table k l) ≡ mirror_table k (put_three v (f 0, f 1, f 2) l)
  put_mirror l v f g e =
      let r₀ : 3 * v % 3 ≡ 0 = omega arith in
      let r₁ : (3 * v + 1) % 3 ≡ 1 = omega arith in
      let r₂ : (3 * v + 2) % 3 ≡ 2 = omega arith in
      simp (set_mirror, r₀, r₁, r₂, e 0 (omega arith), e 1 (omega arith), e 2 (omega arith))

  -- The first n entries written.
  pub fill_mirror : (n : ℕ) (f g : ℕ → ℤ) (l : List ℤ) → ((i : ℕ) → i < n → g i ≡ mirror_at k (i % 3) (f i))
      → fill n g (mirror_table k l) ≡ mirror_table k (fill n f l)
  unfolding fill
  fill_mirror zero f g l e = refl
  fill_mirror (suc n) f g l e = rw (fill_mirror n f g l (λ i b. e i (omega arith)), e n (omega arith), set_mirror)

  pub coordinate_mirror : (m : Mesh) (v j : ℕ) → j < 3 → coordinate (mirror k m) v j ≡ mirror_at k j (coordinate m v j)
  coordinate_mirror m v j b = let e : (3 * v + j) % 3 ≡ j = omega arith in rw (get_or_mirror, e)
