-- Numbers of sides, and tables written and read back by triangles.
use mathlib.Core.Path.{◌≡◌, refl, sym, ap, ◌∙◌, subst}
use mathlib.Core.Logic.{◌≢◌, ◌⊎◌, inl, inr}
use mathlib.Core.List.{List}
use Prim.Native.Nat.{ℕ, zero, suc, ◌+◌, ◌*◌, ◌/◌, ◌%◌, ◌≤◌, ◌<◌}
use native.Mathlib.Omega.{arith}
use native.Mathlib.Decide.{ℕ_discrete}
use native.Mathlib.Nat.{add-zero}
use lib.ListN.{length, get_or, set, length-set}
use lib.Seq.{get_or-set_same, get_or-set_other}
use borrow.Author.Tests.{eq-eqb, ne_eqb}
use Rattle.rules.specs.Actions.{rename_two}
use Rattle.rules.specs.Tables.{next, previous, boundary, put_three}

pub next_previous : (h : ℕ) → next (previous h) ≡ h
next_previous h = omega arith

pub previous_next : (h : ℕ) → previous (next h) ≡ h
previous_next h = omega arith

pub next_0 : (t : ℕ) → next (3 * t) ≡ 3 * t + 1
next_0 t = omega arith

pub next_1 : (t : ℕ) → next (3 * t + 1) ≡ 3 * t + 2
next_1 t = omega arith

pub next_2 : (t : ℕ) → next (3 * t + 2) ≡ 3 * t
next_2 t = omega arith

pub same_triangle : (h k : ℕ) → k / 3 ≡ h / 3 → k ≢ h → k ≢ next h → k ≡ next (next h)
same_triangle h k e x y = omega arith

pub next_lt : (h f : ℕ) → h < 3 * f → next h < 3 * f
next_lt h f l = omega arith

pub previous_lt : (h f : ℕ) → h < 3 * f → previous h < 3 * f
previous_lt h f l = omega arith

-- ---- two names that change

module _ (a a' b b' : ℕ) where
  pub rename_a : rename_two a a' b b' a ≡ a'
  unfolding rename_two
  rename_a = rw (eq-eqb a a refl, rename_two)

  pub rename_b : a ≢ b → rename_two a a' b b' b ≡ b'
  unfolding rename_two
  rename_b n = let n' : b ≢ a = λ e. n (sym e) in rw (ne_eqb b a n', eq-eqb b b refl, rename_two)

  pub rename_else : (h : ℕ) → h ≢ a → h ≢ b → rename_two a a' b b' h ≡ h
  unfolding rename_two
  rename_else h n k = rw (ne_eqb h a n, ne_eqb h b k, rename_two)

  -- A fact of the new name of h, by cases.
  pub by_rename : (P : ℕ → Type 0) → a ≢ b → (h : ℕ) → (h ≡ a → P a') → (h ≡ b → P b') → (h ≢ a → h ≢ b → P h)
      → P (rename_two a a' b b' h)
  by_rename P n h x y z = go (ℕ_discrete h a) (ℕ_discrete h b)
    where
      go : Dec (h ≡ a) → Dec (h ≡ b) → P (rename_two a a' b b' h)
      go (yes e) d = subst P (sym (ap (rename_two a a' b b') e ∙ rename_a)) (x e)
      go (no e) (yes f) = subst P (sym (ap (rename_two a a' b b') f ∙ rename_b n)) (y f)
      go (no e) (no f) = subst P (sym (rename_else h e f)) (z e f)

-- ---- links renamed

-- Links that are mutual, and two sides a and b whose names change: writing the new names at their partners renames
-- every link.
abbrev pub Mutual : List ℕ → ℕ → Type 0
Mutual l n = (h : ℕ) → h < n → (get_or l h 0 ≡ boundary) ⊎ ((get_or l h 0 < n) × (get_or l (get_or l h 0) 0 ≡ h))

module _ (l : List ℕ) (n : ℕ) (mutual' : Mutual l n) (room : n ≤ length l) (few : n ≤ boundary) where
  back : (h k : ℕ) → h < n → k < n → get_or l h 0 ≡ k → get_or l k 0 ≡ h
  back h k b c e = go (mutual' h b)
    where
      go : (get_or l h 0 ≡ boundary) ⊎ ((get_or l h 0 < n) × (get_or l (get_or l h 0) 0 ≡ h)) → get_or l k 0 ≡ h
      go (inl x) = absurd (omega arith)
      go (inr x) = rw e at x.1

  pub relinked : (a a' b b' h : ℕ) → a < n → b < n → a ≢ b → h < n
      → get_or (set (set l (get_or l a 0) a') (get_or l b 0) b') h 0 ≡ rename_two a a' b b' (get_or l h 0)
  relinked a a' b b' h la lb ne lh = go (ℕ_discrete (get_or l h 0) a) (ℕ_discrete (get_or l h 0) b)
    where
      go : Dec (get_or l h 0 ≡ a) → Dec (get_or l h 0 ≡ b)
          → get_or (set (set l (get_or l a 0) a') (get_or l b 0) b') h 0 ≡ rename_two a a' b b' (get_or l h 0)
      go (yes e) d =
          let x : get_or l a 0 ≡ h = back h a lh la e in
          let y : h ≢ get_or l b 0 = λ q. ne (sym e ∙ back b h lb lh (sym q)) in
          let z : h < length l = omega arith in
          rw (get_or-set_other (set l (get_or l a 0) a') (get_or l b 0) h b' 0 y, x, get_or-set_same l h a' 0 z, e, rename_a)
      go (no e) (yes f) =
          let x : get_or l b 0 ≡ h = back h b lh lb f in
          let z : h < length (set l (get_or l a 0) a') = rw length-set (omega arith) in
          rw (x, get_or-set_same (set l (get_or l a 0) a') h b' 0 z, f, rename_b a a' b b' ne)
      go (no e) (no f) =
          let y : h ≢ get_or l a 0 = λ q. e (back a h la lh (sym q)) in
          let z : h ≢ get_or l b 0 = λ q. f (back b h lb lh (sym q)) in
          get_or-set_other (set l (get_or l a 0) a') (get_or l b 0) h b' 0 z
          ∙ get_or-set_other l (get_or l a 0) h a' 0 y
          ∙ sym (rename_else a a' b b' (get_or l h 0) e f)

-- A fact on sides, by cases: one of the three of triangle t, or of another triangle.
pub by_triangle : (P : ℕ → Type 0) (t : ℕ) → P (3 * t) → P (3 * t + 1) → P (3 * t + 2) → ((h : ℕ) → h / 3 ≢ t → P h)
    → (h : ℕ) → P h
by_triangle P t p₀ p₁ p₂ q h = go (ℕ_discrete (h / 3) t) (ℕ_discrete (h % 3) 0) (ℕ_discrete (h % 3) 1)
  where
    go : Dec (h / 3 ≡ t) → Dec (h % 3 ≡ 0) → Dec (h % 3 ≡ 1) → P h
    go (no n) d e = q h n
    go (yes i) (yes j) e = let x : 3 * t ≡ h = omega arith in subst P x p₀
    go (yes i) (no j) (yes k) = let x : 3 * t + 1 ≡ h = omega arith in subst P x p₁
    go (yes i) (no j) (no k) = let x : 3 * t + 2 ≡ h = omega arith in subst P x p₂

-- ---- triangles written and read back

module _ {A : Type 0} (l : List A) (t : ℕ) (a b c d : A) where
  pub length_put : length (put_three t (a, b, c) l) ≡ length l
  length_put = simp length-set

  pub put_else : (h : ℕ) → h / 3 ≢ t → get_or (put_three t (a, b, c) l) h d ≡ get_or l h d
  put_else h n =
      let n₀ : h ≢ 3 * t = omega arith in
      let n₁ : h ≢ 3 * t + 1 = omega arith in
      let n₂ : h ≢ 3 * t + 2 = omega arith in
      simp get_or-set_other

  put_0 : 3 * t < length l → get_or (put_three t (a, b, c) l) (3 * t) d ≡ a
  put_0 n =
      let n₁ : 3 * t ≢ 3 * t + 1 = omega arith in
      let n₂ : 3 * t ≢ 3 * t + 2 = omega arith in
      simp (get_or-set_other, get_or-set_same)

  put_1 : 3 * t + 1 < length l → get_or (put_three t (a, b, c) l) (3 * t + 1) d ≡ b
  put_1 n =
      let n₂ : 3 * t + 1 ≢ 3 * t + 2 = omega arith in
      search (get_or-set_other, get_or-set_same, length-set, arith)

  put_2 : 3 * t + 2 < length l → get_or (put_three t (a, b, c) l) (3 * t + 2) d ≡ c
  put_2 n = search (get_or-set_same, length-set, arith)

-- The three entries of triangle t.
abbrev pub Row : {A : Type 0} → List A → A → ℕ → A → A → A → Type 0
Row l d t a b c = (get_or l (3 * t) d ≡ a) × (get_or l (3 * t + 1) d ≡ b) × (get_or l (3 * t + 2) d ≡ c)

pub put_row : {A : Type 0} (l : List A) (t : ℕ) (a b c d : A) → 3 * t + 3 ≤ length l
    → Row (put_three t (a, b, c) l) d t a b c
put_row l t a b c d n =
    (put_0 l t a b c d (omega arith), put_1 l t a b c d (omega arith), put_2 l t a b c d (omega arith))

-- What holds of each of the three holds of the entry at each of their places.
pub row_each : {A : Type 0} (P : A → Type 0) (l : List A) (d : A) (t : ℕ) (a b c : A) → Row l d t a b c → P a → P b
    → P c
    → (i : ℕ) → i / 3 ≡ t → P (get_or l i d)
row_each P l d t a b c r x y z i e = by_triangle (λ j. j / 3 ≡ t → P (get_or l j d)) t
    (λ _. rw r.0 x) (λ _. rw r.1 y) (λ _. rw r.2 z) (λ h n q. absurd (n q)) i e

-- The three entries of triangle t, by their place.
pub put_at_lem : {A : Type 0} (l : List A) (t : ℕ) (f : ℕ → A) (d : A) → 3 * t + 3 ≤ length l → (k : ℕ) → k < 3
    → get_or (put_three t (f 0, f 1, f 2) l) (3 * t + k) d ≡ f k
put_at_lem l t f d r zero i = rw add-zero (put_row l t (f 0) (f 1) (f 2) d r).0
put_at_lem l t f d r (suc zero) i = (put_row l t (f 0) (f 1) (f 2) d r).1
put_at_lem l t f d r (suc (suc zero)) i = (put_row l t (f 0) (f 1) (f 2) d r).2
put_at_lem l t f d r (suc (suc (suc k))) i = absurd (omega arith)

-- A row that a write to another triangle leaves.
pub row_else : {A : Type 0} (l : List A) (t : ℕ) (a b c d : A) (u : ℕ) (x y z : A) → u ≢ t → Row l d u x y z
    → Row (put_three t (a, b, c) l) d u x y z
row_else l t a b c d u x y z n r = (
  put_else l t a b c d (3 * u) (omega arith) ∙ r.0,
  put_else l t a b c d (3 * u + 1) (omega arith) ∙ r.1,
  put_else l t a b c d (3 * u + 2) (omega arith) ∙ r.2,
)

-- A fact of each slot: v, the two new ones, or another.
pub by_slot : (v f n : ℕ) (P : ℕ → Type 0) → n ≡ f + 2 → P v → P f → P (f + 1) → ((x : ℕ) → x < f → x ≢ v → P x)
    → (x : ℕ) → x < n → P x
by_slot v f n P e p q r o x l = go (ℕ_discrete x v) (ℕ_discrete x f) (ℕ_discrete x (f + 1))
  where
    go : Dec (x ≡ v) → Dec (x ≡ f) → Dec (x ≡ f + 1) → P x
    go (yes a) b c = subst P (sym a) p
    go (no a) (yes b) c = subst P (sym b) q
    go (no a) (no b) (yes c) = subst P (sym c) r
    go (no a) (no b) (no c) = o x (omega arith) a

-- A fact of each side: of triangle t, of one of the two new ones f and f + 1, or of another.
pub by_side : (t f n : ℕ) (P : ℕ → Type 0) → n ≡ f + 2
    → (P (3 * t) × P (3 * t + 1) × P (3 * t + 2))
    → (P (3 * f) × P (3 * f + 1) × P (3 * f + 2))
    → (P (3 * (f + 1)) × P (3 * (f + 1) + 1) × P (3 * (f + 1) + 2))
    → ((h : ℕ) → h < 3 * f → h / 3 ≢ t → P h) → (k : ℕ) → k < 3 * n → P k
by_side t f n P w x y z q =
    by_triangle (λ k. k < 3 * n → P k) t (λ _. x.0) (λ _. x.1) (λ _. x.2) (λ h i.
    by_triangle (λ k. k / 3 ≢ t → k < 3 * n → P k) f (λ _ _. y.0) (λ _ _. y.1) (λ _ _. y.2) (λ h j.
    by_triangle (λ k. k / 3 ≢ f → k / 3 ≢ t → k < 3 * n → P k) (f + 1) (λ _ _ _. z.0) (λ _ _ _. z.1)
    (λ _ _ _. z.2)
    (λ h u v w' l. q h (omega arith) w') h j) h i)
