-- Tables into which the first entries of another one are copied.
use mathlib.Core.Path.{◌≡◌, refl, sym, ap, ◌∙◌, subst}
use mathlib.Core.Logic.{◌≢◌}
use mathlib.Core.List.{List}
use Prim.Native.Nat.{ℕ, suc, ◌+◌, ◌-◌, ◌*◌, ◌≤◌, ◌<◌, max}
use native.Mathlib.Omega.{arith}
use native.Mathlib.Decide.{ℕ_discrete, dec_lt}
use lib.ListN.{length, get_or, set, take, drop, length-set, drop_of_length-le}
use lib.Seq.{get_or-set_same, get_or-set_other, set_out, get_or-take, get_or-drop, ext_get_or, length-take-le}
use Rattle.theory.proofs.Numbers.Fill.{length_fill, get_or_fill, drop_fill, fill_same}
use Rattle.theory.proofs.Numbers.Take.{drop_take_same}
use Rattle.rules.specs.Below.{fill}
use Rattle.rules.specs.Tables.{put_three}

-- k is s with the first n entries of l, of which P holds, copied into it. l is as long as r; what is read past an end
-- is d.
pub record Copy {A : Type 0} (P : A → Type 0) (d : A) (n : ℕ) (r s l k : List A) : Type 0 where
  pub size : length l ≡ length r
  pub copy_size : length k ≡ length s
  pub used : (i : ℕ) → i < n → (get_or k i d ≡ get_or l i d) × P (get_or l i d)
  pub past : (i : ℕ) → n ≤ i → get_or k i d ≡ get_or s i d

module _ {A : Type 0} where
  -- Lists that are the same from n on have the same entries there.
  pub entry_past : (n i : ℕ) (k l : List A) (d : A) → n ≤ i → drop n k ≡ drop n l → get_or k i d ≡ get_or l i d
  entry_past n i k l d b e =
      let j : n + (i - n) ≡ i = omega arith in
      rw j at (sym (get_or-drop n k (i - n) d) ∙ ap (λ (x : List A). get_or x (i - n) d) e ∙ get_or-drop n l (i - n) d)

  -- What has the first n entries of l and goes on as s does is what `fill` makes.
  pub front_is : (d : A) (n : ℕ) (s l k : List A) → n ≤ length s → length k ≡ length s
      → ((i : ℕ) → i < n → get_or k i d ≡ get_or l i d) → ((i : ℕ) → n ≤ i → get_or k i d ≡ get_or s i d)
      → k ≡ fill n (λ i. get_or l i d) s
  front_is d n s l k r e f p = ext_get_or d k _ (e ∙ sym (length_fill n _ s)) (λ i _. go i (dec_lt i n))
    where
      go : (i : ℕ) → Dec (i < n) → get_or k i d ≡ get_or (fill n (λ i. get_or l i d) s) i d
      go i (yes b) = f i b ∙ sym (get_or_fill n _ s i d r b)
      go i (no b) = p i (omega arith) ∙ sym (entry_past n i _ s d (omega arith) (drop_fill n _ s n (omega arith)))

  module _ {P : A → Type 0} {d : A} {n : ℕ} {r s l : List A} where
    pub copy_is : {k : List A} → n ≤ length s → Copy P d n r s l k → k ≡ fill n (λ i. get_or l i d) s
    copy_is {k} u C = front_is d n s l k u C.copy_size (λ i b. (C.used i b).0) C.past

    pub copy_of : n ≤ length s → length l ≡ length r → ((i : ℕ) → i < n → P (get_or l i d))
        → Copy P d n r s l (fill n (λ i. get_or l i d) s)
    copy_of u e f = record {
      size = e;
      copy_size = length_fill n _ s;
      used = λ i b. (get_or_fill n _ s i d u b, f i b);
      past = λ i b. entry_past n i _ s d b (drop_fill n _ s n (omega arith));
    }

    module _ {k : List A} (C : Copy P d n r s l k) where
      pub copy_wider : {Q : A → Type 0} → ((x : A) → P x → Q x) → Copy Q d n r s l k
      copy_wider f = record {
        size = C.size;
        copy_size = C.copy_size;
        used = λ i b. ((C.used i b).0, f _ (C.used i b).1);
        past = C.past;
      }

      -- An entry that is written into both: one of the first n, or one more.
      pub copy_set : (i : ℕ) (x : A) → i ≤ n → i < length r → i < length s → P x
          → Copy P d (max n (suc i)) r s (set l i x) (set k i x)
      copy_set i x b u v p = record {
        size = length-set l i x ∙ C.size;
        copy_size = length-set k i x ∙ C.copy_size;
        used = λ j c. go j (ℕ_discrete j i) (λ e. C.used j (omega arith));
        past = λ j c. get_or-set_other k i j x d (omega arith) ∙ C.past j (omega arith);
      }
        where
          go : (j : ℕ) → Dec (j ≡ i) → (j ≢ i → (get_or k j d ≡ get_or l j d) × P (get_or l j d))
              → (get_or (set k i x) j d ≡ get_or (set l i x) j d) × P (get_or (set l i x) j d)
          go j (no e) f = rw (get_or-set_other k i j x d e, get_or-set_other l i j x d e) (f e)
          go j (yes e) f =
              rw (
                e,
                get_or-set_same k i x d (omega (arith, C.copy_size)),
                get_or-set_same l i x d (omega (arith, C.size)),
              ) (refl, p)

      -- One past the end of both.
      pub copy_out : (i : ℕ) (x : A) → length r ≤ i → length s ≤ i → Copy P d n r s (set l i x) (set k i x)
      copy_out i x b c =
          rw (set_out k i x (omega (arith, C.copy_size)), set_out l i x (omega (arith, C.size))) C

  -- Three entries, of slot i.
  pub copy_three : {P : A → Type 0} {d : A} {n : ℕ} {r s l k : List A} → Copy P d (3 * n) r s l k → (i : ℕ)
      (x : A × A × A) → i ≤ n → 3 * i + 2 < length r → 3 * i + 2 < length s → P x.0 × P x.1 × P x.2
      → Copy P d (3 * max n (suc i)) r s (put_three i x l) (put_three i x k)
  copy_three {P} {d} {n} {r} {s} {l} {k} C i x b u v p =
      let e : max (max (max (3 * n) (suc (3 * i))) (suc (3 * i + 1))) (suc (3 * i + 2)) ≡ 3 * max n (suc i) =
      omega arith in
      subst (λ (j : ℕ). Copy P d j r s (put_three i x l) (put_three i x k)) e
      (copy_set
      (copy_set
      (copy_set C (3 * i) x.0 (omega arith) (omega arith) (omega arith) p.0)
      (3 * i + 1) x.1 (omega arith) (omega arith) (omega arith) p.1)
      (3 * i + 2) x.2 (omega arith) u v p.2)

  -- Where l goes on as s does, its first entries make l of s.
  pub copied_over : (d : A) (n : ℕ) (s l : List A) → n ≤ length l → length l ≡ length s → drop n l ≡ drop n s
      → fill n (λ i. get_or l i d) s ≡ l
  copied_over d n s l r e q = sym (front_is d n s l l (omega arith) e (λ i b. refl) (λ i b. entry_past n i l s d b q))

  -- The first j entries of s and of l, which goes on as s does: the first n of l make the one of the other.
  pub copied_part : (d : A) (n j : ℕ) (s l : List A) → n ≤ j → j ≤ length l → length l ≡ length s
      → drop n l ≡ drop n s → fill n (λ i. get_or l i d) (take j s) ≡ take j l
  copied_part d n j s l a b e q =
      let x = length-take-le j l b in
      let y = length-take-le j s (omega arith) in
      fill_same n _ (λ i. get_or (take j l) i d) (take j s) (λ i c. sym (get_or-take j l i d (omega arith)))
      ∙ copied_over d n (take j s) (take j l) (omega arith) (x ∙ sym y) (drop_take_same n j l s q)

  -- Its own first entries leave l as it is.
  pub copied_self : (d : A) (n : ℕ) (f : ℕ → A) (l : List A) → n ≤ length l → ((i : ℕ) → i < n → get_or l i d ≡ f i)
      → fill n f l ≡ l
  copied_self d n f l b e =
      fill_same n f (λ i. get_or l i d) l (λ i c. sym (e i c)) ∙ copied_over d n l l b refl refl

  pub copied_same : (d : A) (n j : ℕ) (l : List A) → n ≤ j → n ≤ length l
      → fill n (λ i. get_or (take j l) i d) l ≡ l
  copied_same d n j l a b = copied_self d n _ l b (λ i c. sym (get_or-take j l i d (omega arith)))

  -- A list of n entries with the first n of l copied into it.
  pub copied_all : (d : A) (n : ℕ) (s l : List A) → n ≤ length l → length s ≡ n
      → fill n (λ i. get_or l i d) s ≡ take n l
  copied_all d n s l b e =
      let x = length-take-le n l b in
      fill_same n _ (λ i. get_or (take n l) i d) s (λ i c. sym (get_or-take n l i d c))
      ∙ copied_over d n s (take n l) (omega arith) (x ∙ sym e)
      (drop_of_length-le (take n l) {i = n} (omega arith) ∙ sym (drop_of_length-le s {i = n} (omega arith)))
