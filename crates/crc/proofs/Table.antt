-- A byte is taken in by one entry of a table.
use Prim.Native.Nat.{ℕ, zero, suc, ◌+◌, ◌*◌, ◌/◌, ◌%◌, ◌^◌, ◌≤◌, ◌<◌}
use native.Mathlib.Nat.{pow-suc, mul_assoc, mul-one, add-zero}
use native.Mathlib.Numerals.{add-one}
use native.Mathlib.Omega.{arith}
use mathlib.Core.Bool.{Bool, true, ◌&&◌}
use mathlib.Core.List.{List, [], ◌∷◌}
use mathlib.Core.Path.{◌≡◌, refl, sym, ap, ap₂, ◌∙◌}
use lib.Bits.{bit_xor, xor_shr, xor_mod, xor_shifted, xor_zero_r}
use lib.Dec.{T, eqb, eqb→eq}
use lib.Ieee.Fits.{and_l, and_r}
use lib.ListN.{length, get_or, drop, drop_of_length-le}
use lib.Seq.{drop-cons}
use Rattle.crc.specs.Crc.{crc_bit, crc_byte, crc_from}
use Rattle.crc.specs.Table.{ByteTable}
use Rattle.std.specs.Int.Bits.{xor_assoc}

-- Some bits shifted out.
unfoldable pub shifts : ℕ → ℕ → ℕ
shifts zero c = c
shifts (suc n) c = shifts n (crc_bit c)

pub byte_shifts : (c b : ℕ) → crc_byte c b ≡ shifts 8 (bit_xor c b)
unfolding crc_byte shifts
byte_shifts c b = refl

-- What stands above the bit that is shifted out only moves down.
bit_above : (h c : ℕ) → crc_bit (bit_xor (h * 2) c) ≡ bit_xor h (crc_bit c)
unfolding crc_bit
bit_above h c =
    let half : h * 2 / 2 ≡ h = omega arith in
    let even : h * 2 % 2 ≡ 0 = omega arith in
    rw (xor_shr (h * 2) c 1, xor_mod (h * 2) c 1, half, even) (xor_assoc h (c / 2) (3988292384 * (c % 2)))

shifts_above : (n h c : ℕ) → shifts n (bit_xor (h * 2 ^ n) c) ≡ bit_xor h (shifts n c)
unfolding shifts
shifts_above zero h c = ap (λ (x : ℕ). bit_xor x c) (mul-one h)
shifts_above (suc n) h c =
    ap (λ (x : ℕ). shifts n (crc_bit (bit_xor x c))) (ap (◌*◌ h) (pow-suc 2 n) ∙ sym (mul_assoc h (2 ^ n) 2))
    ∙ ap (shifts n) (bit_above (h * 2 ^ n) c) ∙ shifts_above n h (crc_bit c)

pub by_table : (c b : ℕ) → b < 256 → bit_xor (c / 256) (crc_byte 0 (bit_xor c b % 256)) ≡ crc_byte c b
by_table c b h =
    let x = bit_xor c b in
    let e : bit_xor (x / 256 * 256) (x % 256) ≡ x = xor_shifted (x / 256) 8 (x % 256) (omega arith) ∙ omega arith in
    let q : x / 256 ≡ c / 256 =
    xor_shr c b 8 ∙ ap (bit_xor (c / 256)) (omega arith) ∙ xor_zero_r (c / 256) in
    ap₂ bit_xor (sym q) (byte_shifts 0 (x % 256)) ∙ sym (shifts_above 8 (x / 256) (x % 256)) ∙ ap (shifts 8) e
    ∙ sym (byte_shifts c b)

-- ---- the table

-- Whether each entry is the state that its place, counted from i, makes of state 0.
unfoldable pub are_right : ℕ → List ℕ → Bool
are_right i [] = true
are_right i (x ∷ table) = eqb x (crc_byte 0 i) && are_right (suc i) table

entry_from : (i : ℕ) (table : List ℕ) → T (are_right i table) → (k : ℕ) → k < length table
    → get_or table k 0 ≡ crc_byte 0 (i + k)
unfolding are_right
entry_from i [] t k h = absurd (omega arith)
entry_from i (x ∷ table) t zero h =
    eqb→eq x (crc_byte 0 i) (and_l (eqb x (crc_byte 0 i)) (are_right (suc i) table) t) ∙ ap (crc_byte 0) (sym (add-zero i))
entry_from i (x ∷ table) t (suc k) h =
    entry_from (suc i) table (and_r (eqb x (crc_byte 0 i)) (are_right (suc i) table) t) k (omega arith)
    ∙ ap (crc_byte 0) (omega arith)

pub byte_table : (table : List ℕ) → length table ≡ 256 → T (are_right 0 table) → ByteTable table
byte_table table e t = record { entry = λ k h. entry_from 0 table t k (omega arith) ∙ ap (crc_byte 0) (omega arith) }

-- ---- the loop

-- The next state, as the code has it.
abbrev pub next : List ℕ → ℕ → ℕ → ℕ
next table c b = bit_xor (c / 256) (get_or table (bit_xor c b % 256) 0)

module _ (table bytes : List ℕ) (t : ByteTable table) where
  looked_up : (c b : ℕ) → b < 256 → next table c b ≡ crc_byte c b
  looked_up c b h = ap (bit_xor (c / 256)) (t.entry (bit_xor c b % 256) (omega arith)) ∙ by_table c b h

  pub one_taken : (i c : ℕ) → i < length bytes → get_or bytes i 0 < 256
      → crc_from c (drop i bytes) ≡ crc_from 4294967295 bytes
      → crc_from (next table c (get_or bytes i 0)) (drop (i + 1) bytes) ≡ crc_from 4294967295 bytes
  unfolding crc_from
  one_taken i c h k e = rw (looked_up c (get_or bytes i 0) k, add-one) (rw (drop-cons bytes i 0 h) at e)

pub all_taken : (bytes : List ℕ) (i c : ℕ) → length bytes ≤ i → crc_from c (drop i bytes) ≡ crc_from 4294967295 bytes
    → c ≡ crc_from 4294967295 bytes
unfolding crc_from
all_taken bytes i c h e = rw (drop_of_length-le bytes h) at e
