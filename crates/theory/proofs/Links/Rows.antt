-- Tables whose rows of three entries are written one after the other, read back.
use mathlib.Core.Path.{◌≡◌, refl, sym, ap, ◌∙◌, subst}
use mathlib.Core.Logic.{◌≢◌}
use mathlib.Core.List.{List}
use Prim.Native.Nat.{ℕ, zero, suc, ◌+◌, ◌-◌, ◌*◌, ◌/◌, ◌≤◌, ◌<◌}
use native.Mathlib.Numerals.{add-one}
use native.Mathlib.Omega.{arith}
use native.Mathlib.Decide.{ℕ_discrete, dec_lt}
use lib.ListN.{length, get_or, drop}
use lib.Seq.{ext_get_or, get_or-drop}
use Rattle.theory.proofs.Links.Sides.{by_triangle, length_put, put_else, Row, put_row, row_else}
use Rattle.rules.specs.Tables.{put_three}

-- Rows 0 to n - 1, each in its slot.
unfoldable pub put_rows : {A : Type 0} → ℕ → (ℕ → ℕ) → (ℕ → A × A × A) → List A → List A
put_rows zero slot row l = l
put_rows (suc n) slot row l = put_three (slot n) (row n) (put_rows n slot row l)

module _ {A : Type 0} (z : A) (slot : ℕ → ℕ) (row : ℕ → A × A × A) (l : List A) where
  pub length_rows : (n : ℕ) → length (put_rows n slot row l) ≡ length l
  unfolding put_rows
  length_rows zero = refl
  length_rows (suc n) = length_put (put_rows n slot row l) (slot n) _ _ _ z ∙ length_rows n

  -- An entry that is left.
  pub rows_else : (n k : ℕ) → ((h : ℕ) → h < n → slot h ≢ k / 3) → get_or (put_rows n slot row l) k z ≡ get_or l k z
  unfolding put_rows
  rows_else zero k o = refl
  rows_else (suc n) k o =
      put_else (put_rows n slot row l) (slot n) _ _ _ z k (λ e. o n (omega arith) (sym e))
      ∙ rows_else n k (λ h i. o h (omega arith))

  pub rows_more : (n : ℕ) → put_three (slot n) (row n) (put_rows n slot row l) ≡ put_rows (n + 1) slot row l
  unfolding put_rows
  rows_more n = rw (add-one n, put_rows)

  -- A row that is written, where no two have one slot.
  module _ (m : ℕ) (apart : (h k : ℕ) → h < m → k < m → h ≢ k → slot h ≢ slot k)
      (room : (h : ℕ) → h < m → 3 * slot h + 3 ≤ length l) where
    pub rows_at : (n : ℕ) → n ≤ m → (h : ℕ) → h < n
        → Row (put_rows n slot row l) z (slot h) (row h).0 (row h).1 (row h).2
    unfolding put_rows
    rows_at zero i h j = absurd (omega arith)
    rows_at (suc n) i h j = go (ℕ_discrete h n) (rows_at n (omega arith) h)
      where
        go : Dec (h ≡ n) → (h < n → Row (put_rows n slot row l) z (slot h) (row h).0 (row h).1 (row h).2)
            → Row (put_three (slot n) (row n) (put_rows n slot row l)) z (slot h) (row h).0 (row h).1 (row h).2
        go (yes e) ih =
            rw e (put_row (put_rows n slot row l) (slot n) (row n).0 (row n).1 (row n).2 z
            (omega (arith, room n (omega arith), length_rows n)))
        go (no e) ih =
            row_else (put_rows n slot row l) (slot n) (row n).0 (row n).1 (row n).2 z (slot h) (row h).0 (row h).1
            (row h).2 (apart h n (omega arith) (omega arith) e) (ih (omega arith))

    -- A table that has these rows in its first slots, and past them the old entries, is the one so written.
    pub rows_same : (a : List A) (b : ℕ) → length a ≡ length l → drop (3 * b) a ≡ drop (3 * b) l
        → ((h : ℕ) → h < m → Row a z (slot h) (row h).0 (row h).1 (row h).2)
        → ((h : ℕ) → h < m → slot h < b) → ((x : ℕ) → x < b → (h : ℕ) × (h < m) × (slot h ≡ x))
        → a ≡ put_rows m slot row l
    rows_same a b size past rows below onto =
        ext_get_or z a (put_rows m slot row l) (size ∙ sym (length_rows m)) (λ k _. go k (dec_lt (k / 3) b))
      where
        both : (x : ℕ) {p q r : A} → Row a z x p q r → Row (put_rows m slot row l) z x p q r
            → (k : ℕ) → k / 3 ≡ x → get_or a k z ≡ get_or (put_rows m slot row l) k z
        both x R S = by_triangle (λ k. k / 3 ≡ x → get_or a k z ≡ get_or (put_rows m slot row l) k z) x
            (λ _. R.0 ∙ sym S.0) (λ _. R.1 ∙ sym S.1) (λ _. R.2 ∙ sym S.2) (λ h n q. absurd (n q))

        written : (k : ℕ) → (h : ℕ) × (h < m) × (slot h ≡ k / 3) → get_or a k z ≡ get_or (put_rows m slot row l) k z
        written k (h, i, e) = both (slot h) (rows h i) (rows_at m (omega arith) h i) k (sym e)

        go : (k : ℕ) → Dec (k / 3 < b) → get_or a k z ≡ get_or (put_rows m slot row l) k z
        go k (yes i) = written k (onto (k / 3) i)
        go k (no i) =
            let y : ℕ = k - 3 * b in
            let e : 3 * b + y ≡ k = omega arith in
            let x : get_or a (3 * b + y) z ≡ get_or l (3 * b + y) z =
            sym (get_or-drop (3 * b) a y z) ∙ ap (λ (t : List A). get_or t y z) past ∙ get_or-drop (3 * b) l y z in
            subst (λ (j : ℕ). get_or a j z ≡ get_or l j z) e x
            ∙ sym (rows_else m k (λ h j q. omega (arith, below h j)))
