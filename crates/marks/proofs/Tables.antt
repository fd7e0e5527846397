-- Tables of marks: one mark put, two levels kept, and the lowest mark found.
use mathlib.Core.Path.{◌≡◌, refl, sym, subst, ap, ap₂, ◌∙◌}
use mathlib.Core.Bool.{Bool, true, false, not, cond}
use mathlib.Core.List.{List}
use Prim.Native.Nat.{ℕ, zero, suc, ◌+◌, ◌*◌, ◌/◌, ◌%◌, ◌^◌, ◌≤◌, ◌<◌}
use native.Mathlib.Decide.{ℕ_discrete, dec_lt}
use native.Mathlib.Omega.{arith}
use borrow.Author.Tests.{eqb-true, eqb-false, ltb-false, not-true, not-false, eq-eqb, ne_eqb}
use lib.Count.{count_trailing_zeros}
use lib.Dec.{T, eqb, ltb}
use lib.ListN.{length, get_or, set, replicate, length-set, get_or-eq_default}
use lib.Seq.{get_or-set_same, get_or-set_other}
use Rattle.std.specs.Prelude.{Option, Some, None, position}
use Rattle.std.specs.List.{position_or_len}
use Rattle.std.proofs.lemmas.List.Quantifiers.{position-Some}
use Rattle.std.proofs.lemmas.List.Sums.{fails_before_first, position_or_len_is}
use Rattle.theory.proofs.Numbers.Decide.{is_eq, is_iff, is_same, lowest_is}
use Rattle.rules.specs.Below.{lowest}
use Rattle.marks.proofs.Bits.{LowestBit, lowest_bit, bit_none}
use Rattle.marks.specs.Marks.{bit_at, marked, Levels, MarkPut}

-- The mark of j, by its word.
in_word : (table : List ℕ) (j k : ℕ) → j / 64 ≡ k → marked table j ≡ bit_at (get_or table k 0) (j % 64)
unfolding marked
in_word table j k e = rw e

-- No number of a word that is 0 is marked.
word_none : (table : List ℕ) (j : ℕ) → get_or table (j / 64) 0 ≡ 0 → marked table j ≡ false
word_none table j e = rw (in_word table j (j / 64) refl, e) (bit_none (j % 64))

-- ---- one mark put

-- The word of i replaced by x, which is that word with bit i % 64 on or off.
module _ (table : List ℕ) (i x : ℕ) (on : Bool) (fits : i < 64 * length table)
    (put : (j : ℕ) → bit_at x j ≡ elim (eqb j (i % 64)) [ true ↦ on | false ↦ bit_at (get_or table (i / 64) 0) j ]) where
  -- Numbers of one word are equal where their bits are.
  same_bit : (j : ℕ) → j / 64 ≡ i / 64 → eqb (j % 64) (i % 64) ≡ eqb j i
  same_bit j e = is_same (is_iff (λ q. omega arith) (λ q. omega arith) (is_eq (j % 64) (i % 64))) (is_eq j i)

  mark_of : (j : ℕ) → Dec (j / 64 ≡ i / 64)
      → marked (set table (i / 64) x) j ≡ elim (eqb j i) [ true ↦ on | false ↦ marked table j ]
  mark_of j (yes e) =
      in_word (set table (i / 64) x) j (i / 64) e
      ∙ ap (λ (w : ℕ). bit_at w (j % 64)) (get_or-set_same table (i / 64) x 0 (omega arith)) ∙ put (j % 64)
      ∙ ap₂ (λ (c b : Bool). elim c [ true ↦ on | false ↦ b ]) (same_bit j e) (sym (in_word table j (i / 64) e))
  mark_of j (no n) =
      in_word (set table (i / 64) x) j (j / 64) refl
      ∙ ap (λ (w : ℕ). bit_at w (j % 64)) (get_or-set_other table (i / 64) (j / 64) x 0 n)
      ∙ ap₂ (λ (c b : Bool). elim c [ true ↦ on | false ↦ b ])
      (sym (ne_eqb j i (λ e. n (omega arith)))) (sym (in_word table j (j / 64) refl))

  pub mark_put : MarkPut i on table (set table (i / 64) x)
  mark_put = record {
    marks = λ j. mark_of j (ℕ_discrete (j / 64) (i / 64));
    others = λ k n. get_or-set_other table (i / 64) k x 0 n;
    size = length-set table (i / 64) x;
  }

-- ---- two levels

-- The entries of an array of zeros, and past it.
pub zeros : (n k : ℕ) → get_or {A = ℕ} (replicate n 0) k 0 ≡ 0
zeros zero k = refl
zeros (suc n) zero = refl
zeros (suc n) (suc k) = zeros n k

-- A table of zeros marks nothing.
pub none_marked : (table : List ℕ) → ((k : ℕ) → get_or table k 0 ≡ 0) → (i : ℕ) → marked table i ≡ false
none_marked table z i = word_none table i (z (i / 64))

-- Two tables of zeros are levels.
pub levels_begin : (bits words : List ℕ) → ((k : ℕ) → get_or bits k 0 ≡ 0) → ((k : ℕ) → get_or words k 0 ≡ 0)
    → length bits ≤ 64 * length words → Levels bits words
levels_begin bits words zb zw r = record { above = λ i. rw (none_marked words zw i, zb i) refl; room = r }

-- Levels stay levels where a mark is put below and that of its word above.
pub levels_keep : {i : ℕ} {on : Bool} (bits words bits' words' : List ℕ) → Levels bits words → MarkPut i on bits bits'
    → MarkPut (i / 64) (not (eqb (get_or bits' (i / 64) 0) 0)) words words' → Levels bits' words'
levels_keep {i} bits words bits' words' L B W = record {
  above = λ k. go k (ℕ_discrete k (i / 64));
  room = omega (arith, L.room, B.size, W.size);
}
  where
    go : (k : ℕ) → Dec (k ≡ i / 64) → marked words' k ≡ not (eqb (get_or bits' k 0) 0)
    go k (yes e) = rw (W.marks k, eq-eqb k (i / 64) e, e) refl
    go k (no n) = rw (W.marks k, ne_eqb k (i / 64) n, B.others k n) (L.above k)

-- ---- the lowest mark

-- A number that passes, or n, is the lowest where none below it passes.
pub lowest_at : (n k : ℕ) (p : ℕ → Bool) → k ≤ n → (k < n → p k ≡ true) → ((j : ℕ) → j < k → p j ≡ false)
    → lowest n p ≡ k
lowest_at n k p m e f =
    let L = lowest_is n p in
    let a : ¬ (lowest n p < k) = λ l. subst T (f (lowest n p) l) (L.passes (omega arith)) in
    let b : ¬ (k < lowest n p) = λ l. L.none k l (subst T (sym (e (omega (arith, L.most)))) tt) in
    omega arith

-- The lowest number that word k of a table marks.
abbrev pub lowest_in : List ℕ → ℕ → ℕ
lowest_in table k = 64 * k + count_trailing_zeros 64 (get_or table k 0)

-- Word k is the first that is not 0.
pub record FirstWord (table : List ℕ) (k : ℕ) : Type 0 where
  pub past : (m : ℕ) → m < k → get_or table m 0 ≡ 0
  pub some : ¬ (get_or table k 0 ≡ 0)
  pub fits : get_or table k 0 < 2 ^ 64

-- What the search for it gives.
abbrev pub first_word : List ℕ → Option ℕ
first_word table = position (λ w. not (eqb w 0)) table

-- The search gives the first word that is not 0, by those before it, and none where all are 0.
pub first_at : (table : List ℕ) (k : ℕ) → k ≤ length table → ((m : ℕ) → m < k → get_or table m 0 ≡ 0)
    → (k < length table → ¬ (get_or table k 0 ≡ 0)) → first_word table ≡ cond (ltb k (length table)) (Some k) None
first_at table k l past some =
    rw (position_or_len_is (λ w. not (eqb w 0)) table k 0 l (λ m h. ap not (eq-eqb _ _ (past m h)))
    (λ h. ap not (ne_eqb _ _ (some h)))) refl

pub first_found : (table : List ℕ) (k : ℕ) → Some k ≡ first_word table → get_or table k 0 < 2 ^ 64 → FirstWord table k
first_found table k e l =
    let (in_table, some, past) = position-Some (λ w. not (eqb w 0)) table k 0 (sym e) in
    record {
      past = λ m h. eqb-true _ _ (not-false _ (past m h));
      some = eqb-false _ _ (not-true _ some);
      fits = l;
    }

pub none_found : (table : List ℕ) → None ≡ first_word table → (m : ℕ) → m < length table → get_or table m 0 ≡ 0
none_found table e m l = go (ltb n (length table)) refl e
  where
    n : ℕ
    n = position_or_len (λ w. not (eqb w 0)) table

    go : (b : Bool) → ltb n (length table) ≡ b → None ≡ cond b (Some n) None → get_or table m 0 ≡ 0
    go true t h = absurd (cc h)
    go false t h =
        let past : length table ≤ n = ltb-false _ _ t in
        eqb-true _ _ (not-false _ (fails_before_first (λ w. not (eqb w 0)) table m 0 (omega arith)))

module _ (table : List ℕ) (k : ℕ) (F : FirstWord table k) where
  bit_found : LowestBit (get_or table k 0) (count_trailing_zeros 64 (get_or table k 0)) × (count_trailing_zeros 64 (get_or table k 0) < 64)
  bit_found = lowest_bit 64 (get_or table k 0) F.fits F.some

  first_marked : marked table (lowest_in table k) ≡ true
  first_marked =
      let e : lowest_in table k % 64 ≡ count_trailing_zeros 64 (get_or table k 0) = omega (arith, bit_found.1) in
      rw (in_word table (lowest_in table k) k (omega (arith, bit_found.1)), e) bit_found.0.set

  none_before : (j : ℕ) → j < lowest_in table k → marked table j ≡ false
  none_before j l = go (ℕ_discrete (j / 64) k)
    where
      go : Dec (j / 64 ≡ k) → marked table j ≡ false
      go (yes e) = rw (in_word table j k e) (bit_found.0.none (j % 64) (omega arith))
      go (no n) = word_none table j (F.past (j / 64) (omega (arith, bit_found.1)))

module _ (bits words : List ℕ) (L : Levels bits words) where
  -- What the upper table says of word i.
  word_marked : (i : ℕ) → marked words i ≡ true → ¬ (get_or bits i 0 ≡ 0)
  word_marked i e = eqb-false (get_or bits i 0) 0 (not-true (eqb (get_or bits i 0) 0) (sym (L.above i) ∙ e))

  word_unmarked : (i : ℕ) → marked words i ≡ false → get_or bits i 0 ≡ 0
  word_unmarked i e = eqb-true (get_or bits i 0) 0 (not-false (eqb (get_or bits i 0) 0) (sym (L.above i) ∙ e))

  in_table : (i : ℕ) → ¬ (get_or bits i 0 ≡ 0) → i < length bits
  in_table i n = go (dec_lt i (length bits))
    where
      go : Dec (i < length bits) → i < length bits
      go (yes l) = l
      go (no m) = absurd (n (get_or-eq_default bits 0 (omega arith)))

  -- Every word above is 0.
  pub lowest_none : ((m : ℕ) → m < length words → get_or words m 0 ≡ 0)
      → lowest (64 * length bits) (marked bits) ≡ 64 * length bits
  lowest_none z =
      lowest_at (64 * length bits) (64 * length bits) (marked bits) (omega arith) (λ l. absurd (omega arith))
      (λ j l. word_none bits j (word_unmarked (j / 64)
      (word_none words (j / 64) (z (j / 64 / 64) (omega (arith, L.room))))))

  -- The first word above that is not 0 marks the first word below that is not 0.
  module _ (k : ℕ) (F : FirstWord words k) where
    pub word_found : lowest_in words k < length bits
    word_found = in_table (lowest_in words k) (word_marked (lowest_in words k) (first_marked words k F))

    pub lowest_found : get_or bits (lowest_in words k) 0 < 2 ^ 64
        → lowest (64 * length bits) (marked bits) ≡ lowest_in bits (lowest_in words k)
    lowest_found f =
        let i = lowest_in words k in
        let G : FirstWord bits i = record {
          past = λ m l. word_unmarked m (none_before words k F m l);
          some = word_marked i (first_marked words k F);
          fits = f;
        } in
        lowest_at (64 * length bits) (lowest_in bits i) (marked bits) (omega (arith, word_found, (bit_found bits i G).1))
        (λ l. first_marked bits i G) (none_before bits i G)
