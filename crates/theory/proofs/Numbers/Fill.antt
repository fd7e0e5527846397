-- Lists whose first n entries are written from a function, read back.
use mathlib.Core.Path.{◌≡◌, refl, sym, ap, ◌∙◌, subst}
use mathlib.Core.List.{List}
use Prim.Native.Nat.{ℕ, zero, suc, ◌+◌, ◌-◌, ◌*◌, ◌≤◌, ◌<◌}
use native.Mathlib.Numerals.{add-one}
use native.Mathlib.Omega.{arith}
use native.Mathlib.Decide.{ℕ_discrete, dec_lt}
use lib.ListN.{length, get_or, set, drop, length-set}
use lib.Seq.{get_or-set_same, get_or-set_other, drop-set-lt, set-set, set_comm, ext_get_or, get_or-drop}
use Rattle.rules.specs.Below.{fill}
use Rattle.rules.specs.Tables.{put_three}

module _ {A : Type 0} where
  pub length_fill : (n : ℕ) (f : ℕ → A) (l : List A) → length (fill n f l) ≡ length l
  unfolding fill
  length_fill zero f l = refl
  length_fill (suc n) f l = length-set (fill n f l) n (f n) ∙ length_fill n f l

  -- An entry that is written.
  pub get_or_fill : (n : ℕ) (f : ℕ → A) (l : List A) (i : ℕ) (d : A) → n ≤ length l → i < n → get_or (fill n f l) i d ≡ f i
  unfolding fill
  get_or_fill zero f l i d r b = absurd (omega arith)
  get_or_fill (suc n) f l i d r b = go (ℕ_discrete i n) (get_or_fill n f l i d (omega arith))
    where
      go : Dec (i ≡ n) → (i < n → get_or (fill n f l) i d ≡ f i) → get_or (set (fill n f l) n (f n)) i d ≡ f i
      go (yes e) ih = rw e (get_or-set_same (fill n f l) n (f n) d (omega (arith, length_fill n f l)))
      go (no e) ih = get_or-set_other (fill n f l) n i (f n) d e ∙ ih (omega arith)

  -- The entries that are left, from b on.
  pub drop_fill : (n : ℕ) (f : ℕ → A) (l : List A) (b : ℕ) → n ≤ b → drop b (fill n f l) ≡ drop b l
  unfolding fill
  drop_fill zero f l b i = refl
  drop_fill (suc n) f l b i = drop-set-lt b (fill n f l) n (f n) i ∙ drop_fill n f l b (omega arith)

  -- One entry more.
  pub fill_more : (n : ℕ) (f : ℕ → A) (l : List A) {k : List A} {x : A} → k ≡ fill n f l → x ≡ f n
      → set k n x ≡ fill (n + 1) f l
  unfolding fill
  fill_more n f l e v = rw (add-one, fill, e, v)

  pub fill_same : (n : ℕ) (f g : ℕ → A) (l : List A) → ((h : ℕ) → h < n → f h ≡ g h) → fill n f l ≡ fill n g l
  unfolding fill
  fill_same zero f g l e = refl
  fill_same (suc n) f g l e = rw (fill_same n f g l (λ h i. e h (omega arith)), e n (omega arith))

  -- Written twice is written once.
  fill_past : (n i : ℕ) (f : ℕ → A) (l : List A) (x : A) → n ≤ i → fill n f (set l i x) ≡ set (fill n f l) i x
  unfolding fill
  fill_past zero i f l x b = refl
  fill_past (suc n) i f l x b =
      rw (fill_past n i f l x (omega arith)) (set_comm (fill n f l) i n x (f n) (omega arith))

  pub fill_again : (n : ℕ) (f : ℕ → A) (l : List A) → fill n f (fill n f l) ≡ fill n f l
  unfolding fill
  fill_again zero f l = refl
  fill_again (suc n) f l =
      rw (fill_past n n f (fill n f l) (f n) (omega arith), fill_again n f l) (set-set (fill n f l) n (f n) (f n))

  -- Three entries more.
  pub fill_three : (v : ℕ) (f : ℕ → A) (l : List A)
      → fill (3 * (v + 1)) f l ≡ put_three v (f (3 * v + 0), f (3 * v + 1), f (3 * v + 2)) (fill (3 * v) f l)
  unfolding fill
  fill_three v f l =
      let e : 3 * (v + 1) ≡ suc (suc (suc (3 * v))) = omega arith in
      let a : 3 * v + 0 ≡ 3 * v = omega arith in
      let b : 3 * v + 1 ≡ suc (3 * v) = omega arith in
      let c : 3 * v + 2 ≡ suc (suc (3 * v)) = omega arith in
      rw (e, a, b, c) refl

  -- A list that has these entries first, and past them the old ones, is the one so written.
  pub fill_is : (d : A) (n : ℕ) (f : ℕ → A) (l a : List A) → length a ≡ length l → n ≤ length l
      → drop n a ≡ drop n l → ((i : ℕ) → i < n → get_or a i d ≡ f i) → a ≡ fill n f l
  fill_is d n f l a size room past first =
      ext_get_or d a (fill n f l) (size ∙ sym (length_fill n f l)) (λ i _. go i (dec_lt i n))
    where
      go : (i : ℕ) → Dec (i < n) → get_or a i d ≡ get_or (fill n f l) i d
      go i (yes q) = first i q ∙ sym (get_or_fill n f l i d room q)
      go i (no q) =
          let e : n + (i - n) ≡ i = omega arith in
          subst (λ (j : ℕ). get_or a j d ≡ get_or (fill n f l) j d) e
          (sym (get_or-drop n a (i - n) d)
          ∙ ap (λ (t : List A). get_or t (i - n) d) (past ∙ sym (drop_fill n f l n (omega arith)))
          ∙ get_or-drop n (fill n f l) (i - n) d)
