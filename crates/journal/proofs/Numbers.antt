-- Numbers of four bytes, back and forth, and in parts of lists.
use Prim.Native.Nat.{ℕ, zero, suc, ◌+◌, ◌-◌, ◌*◌, ◌/◌, ◌%◌, ◌≤◌, ◌<◌}
use native.Mathlib.Omega.{arith}
use borrow.Author.Tests.{ltb-true, ltb-false, lt-ltb, le-ltb}
use mathlib.Core.Bool.{Bool, true, false, cond}
use mathlib.Core.List.{List, [], ◌∷◌, ◌++◌}
use mathlib.Core.Logic.{◌⊎◌, ⊎_elim}
use mathlib.Core.Path.{◌≡◌, refl, ap, sym, ◌∙◌}
use lib.Dec.{ltb}
use lib.IntN.{ℤ, pos, negsuc, ◌-ℤ◌}
use lib.ListN.{length, get_or, take, drop, set, length-append, length-drop, get_or-append}
use lib.Seq.{get_or-append-add, get_or-drop, get_or-take, get_or-set_other, take-add, drop_at}
use Rattle.crc.proofs.Bytes.{drop_bytes}
use Rattle.crc.specs.Bytes.{AreBytes}
use Rattle.rules.specs.Numbers.{number_at, signed}
use Rattle.journal.specs.Journal.{four_bytes, bytes_of, numbers_in, unsigned}
use Rattle.journal.specs.Recording.{AreNumbers, IsCoordinate}

-- ---- in parts of lists

-- A number is made of the bytes from its place on.
pub same_entries : (xs ys : List ℕ) (i j : ℕ)
    → ((k : ℕ) → k < 4 → get_or xs (i + k) 0 ≡ get_or ys (j + k) 0)
    → number_at xs i ≡ number_at ys j
unfolding number_at
same_entries xs ys i j e =
    let a : i + 0 ≡ i = omega arith in
    let b : j + 0 ≡ j = omega arith in
    let z : get_or xs i 0 ≡ get_or ys j 0 = rw (a, b) at (e 0 (omega arith)) in
    rw (z, e 1 (omega arith), e 2 (omega arith), e 3 (omega arith)) refl

-- In the later part of a list, in the earlier one, after a cut, before a cut, beside a change.
pub number_later : (xs ys : List ℕ) (i : ℕ) → number_at (xs ++ ys) (length xs + i) ≡ number_at ys i
number_later xs ys i =
    same_entries (xs ++ ys) ys (length xs + i) i (λ k h.
    let a : length xs + i + k ≡ length xs + (i + k) = omega arith in
    rw a (get_or-append-add xs ys (i + k) 0))

pub number_earlier : (xs ys : List ℕ) (i : ℕ) → i + 4 ≤ length xs → number_at (xs ++ ys) i ≡ number_at xs i
number_earlier xs ys i l =
    same_entries (xs ++ ys) xs i i (λ k h. get_or-append xs ys 0 (i + k) (omega arith))

pub number_drop : (n : ℕ) (xs : List ℕ) (i : ℕ) → number_at (drop n xs) i ≡ number_at xs (n + i)
number_drop n xs i =
    same_entries (drop n xs) xs i (n + i) (λ k h.
    let a : n + i + k ≡ n + (i + k) = omega arith in
    rw a (get_or-drop n xs (i + k) 0))

pub number_take : (n : ℕ) (xs : List ℕ) (i : ℕ) → i + 4 ≤ n → number_at (take n xs) i ≡ number_at xs i
number_take n xs i l = same_entries (take n xs) xs i i (λ k h. get_or-take n xs (i + k) 0 (omega arith))

pub number_apart : (l : List ℕ) (i j v : ℕ) → (i < j) ⊎ (j + 4 ≤ i) → number_at (set l i v) j ≡ number_at l j
number_apart l i j v o =
    same_entries (set l i v) l j j (λ k h.
    get_or-set_other l i (j + k) v 0 (λ (e : j + k ≡ i).
    ⊎_elim (λ (x : i < j). omega arith) (λ (x : j + 4 ≤ i). omega arith) o))

-- ---- what is written is read

pub length_four : (n : ℕ) → length (four_bytes n) ≡ 4
unfolding four_bytes
length_four n = refl

pub number_written : (n : ℕ) (rest : List ℕ) → n < 4294967296 → number_at (four_bytes n ++ rest) 0 ≡ n
unfolding number_at four_bytes
number_written n rest h =
    let a : n / 65536 ≡ n / 256 / 256 = omega arith in
    let b : n / 16777216 ≡ n / 65536 / 256 = omega arith in
    let c : n / 16777216 % 256 ≡ n / 16777216 = omega arith in
    rw (c, a) (omega arith)

pub number_alone : (n : ℕ) → n < 4294967296 → number_at (four_bytes n) 0 ≡ n
unfolding four_bytes
number_alone n h = number_written n [] h

-- A number written after some entries.
pub number_after : (xs : List ℕ) (n i : ℕ) (rest : List ℕ) → length xs ≡ i → n < 4294967296
    → number_at (xs ++ (four_bytes n ++ rest)) i ≡ n
number_after xs n i rest e h =
    let q : i ≡ length xs + 0 = omega arith in
    rw q (number_later xs (four_bytes n ++ rest) 0 ∙ number_written n rest h)

pub length_bytes : (l : List ℕ) → length (bytes_of l) ≡ 4 * length l
unfolding bytes_of
length_bytes [] = refl
length_bytes (n ∷ l) = let e = length_bytes l in simp (length-append, length_four) (omega arith)

pub numbers_written : (l : List ℕ) → AreNumbers l → numbers_in (length l) (bytes_of l) ≡ l
unfolding numbers_in bytes_of
numbers_written [] h = refl
numbers_written (n ∷ l) h =
    rw (
      number_written n (bytes_of l) (h 0),
      drop_at (four_bytes n) (bytes_of l) 4 (length_four n),
      numbers_written l (λ i. h (suc i)),
    ) refl

-- ---- what is read was written

take_four : (l : List ℕ) → 4 ≤ length l → take 4 l ≡ get_or l 0 0 ∷ get_or l 1 0 ∷ get_or l 2 0 ∷ get_or l 3 0 ∷ []
take_four [] h = absurd (omega arith)
take_four (a ∷ []) h = absurd (omega arith)
take_four (a ∷ b ∷ []) h = absurd (omega arith)
take_four (a ∷ b ∷ c ∷ []) h = absurd (omega arith)
take_four (a ∷ b ∷ c ∷ d ∷ l) h = refl

low_byte : (a r : ℕ) → a < 256 → (a + 256 * r) % 256 ≡ a
low_byte a r h = omega arith

digits : (a b c d n : ℕ) → a < 256 → b < 256 → c < 256 → d < 256 → n ≡ a + 256 * b + 65536 * c + 16777216 * d
    → four_bytes n ≡ a ∷ b ∷ c ∷ d ∷ []
unfolding four_bytes
digits a b c d n ha hb hc hd e =
    let x : n / 256 ≡ b + 256 * (c + 256 * d) = omega arith in
    let y : n / 65536 ≡ c + 256 * d = omega arith in
    let z : n / 16777216 ≡ d = omega arith in
    let p : n % 256 ≡ a = omega arith in
    let q : n / 256 % 256 ≡ b = rw x (low_byte b (c + 256 * d) hb) in
    let r : n / 65536 % 256 ≡ c = rw y (low_byte c d hc) in
    let s : n / 16777216 % 256 ≡ d = rw z (omega arith) in
    rw (p, q, r, s) refl

pub four_read : (l : List ℕ) → AreBytes l → 4 ≤ length l → four_bytes (number_at l 0) ≡ take 4 l
unfolding number_at
four_read l a h = digits _ _ _ _ _ (a 0) (a 1) (a 2) (a 3) refl ∙ sym (take_four l h)

pub four_at : (l : List ℕ) (i : ℕ) → AreBytes l → i + 4 ≤ length l → four_bytes (number_at l i) ≡ take 4 (drop i l)
four_at l i a h =
    let z : i + 0 ≡ i = omega arith in
    let e : number_at (drop i l) 0 ≡ number_at l i = number_drop i l 0 ∙ ap (number_at l) z in
    ap four_bytes (sym e) ∙ four_read (drop i l) (drop_bytes i l a) (simp length-drop (omega arith))

pub number_fits : (l : List ℕ) (i : ℕ) → AreBytes l → number_at l i < 4294967296
unfolding number_at
number_fits l i a = omega (arith, a i, a (i + 1), a (i + 2), a (i + 3))

pub numbers_read : (n : ℕ) (l : List ℕ) → AreBytes l → 4 * n ≤ length l → bytes_of (numbers_in n l) ≡ take (4 * n) l
unfolding numbers_in bytes_of
numbers_read zero l a h = refl
numbers_read (suc n) l a h =
    let e : 4 * suc n ≡ 4 + 4 * n = omega arith in
    rw (
      e,
      four_read l a (omega arith),
      numbers_read n (drop 4 l) (drop_bytes 4 l a) (simp length-drop (omega arith)),
      take-add 4 (4 * n) l,
    ) refl

-- Two equal numbers have equal bytes.
pub number_bytes : (l n : List ℕ) (j k : ℕ) → AreBytes l → AreBytes n → j + 4 ≤ length l → j + 4 ≤ length n → k < 4
    → number_at l j ≡ number_at n j → get_or l (j + k) 0 ≡ get_or n (j + k) 0
number_bytes l n j k x y h m q e =
    let t : take 4 (drop j l) ≡ take 4 (drop j n) = sym (four_at l j x h) ∙ ap four_bytes e ∙ four_at n j y m in
    sym (get_or-drop j l k 0) ∙ sym (get_or-take 4 (drop j l) k 0 q)
    ∙ ap (λ (z : List ℕ). get_or z k 0) t
    ∙ get_or-take 4 (drop j n) k 0 q
    ∙ get_or-drop j n k 0

-- ---- signed numbers

-- Below zero: n - 2^32.
low_signed : (n : ℕ) → n < 4294967296 → pos n -ℤ pos 4294967296 ≡ negsuc (4294967295 - n)
low_signed n h =
    ap (λ (t : Bool). cond t (negsuc (4294967296 - suc n)) (pos (n - 4294967296))) (lt-ltb n 4294967296 h)
    ∙ ap negsuc (omega arith)

signed_if : (n : ℕ) (t : Bool) → ltb n 2147483648 ≡ t → n < 4294967296
    → unsigned (elim t [ true ↦ pos n | false ↦ pos n -ℤ pos 4294967296 ]) ≡ n
signed_if n true e h = refl
signed_if n false e h = rw (low_signed n h) (omega arith)

pub unsigned_signed : (n : ℕ) → n < 4294967296 → unsigned (signed n) ≡ n
unfolding signed
unsigned_signed n h = signed_if n (ltb n 2147483648) refl h

signed_of : (n : ℕ) (t : Bool) → ltb n 2147483648 ≡ t
    → signed n ≡ elim t [ true ↦ pos n | false ↦ pos n -ℤ pos 4294967296 ]
unfolding signed
signed_of n t e = ap (λ (b : Bool). elim b [ true ↦ pos n | false ↦ pos n -ℤ pos 4294967296 ]) e

pub signed_unsigned : (z : ℤ) → IsCoordinate z → signed (unsigned z) ≡ z
signed_unsigned (pos a) h = signed_of a true (lt-ltb a 2147483648 h)
signed_unsigned (negsuc a) h =
    let n = 4294967295 - a in
    let e : 4294967295 - n ≡ a = omega arith in
    signed_of n false (le-ltb n 2147483648 (omega arith)) ∙ low_signed n (omega arith) ∙ ap negsuc e

pub signed_fits : (n : ℕ) → n < 4294967296 → IsCoordinate (signed n)
signed_fits n h = go (ltb n 2147483648) refl
  where
    go : (t : Bool) → ltb n 2147483648 ≡ t → IsCoordinate (signed n)
    go true e = rw (signed_of n true e) (ltb-true n 2147483648 e)
    go false e = rw (signed_of n false e, low_signed n h) (omega (arith, ltb-false n 2147483648 e))

pub unsigned_fits : (z : ℤ) → IsCoordinate z → unsigned z < 4294967296
unsigned_fits (pos a) h = omega arith
unsigned_fits (negsuc a) h = omega arith
