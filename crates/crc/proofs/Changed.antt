-- A checksum fits four bytes, and one changed byte changes it.
use Prim.Native.Nat.{ℕ, zero, suc, ◌*◌, ◌/◌, ◌%◌, ◌<◌}
use native.Mathlib.Omega.{arith}
use mathlib.Core.List.{List, [], ◌∷◌, ◌++◌}
use mathlib.Core.Logic.{◌≢◌}
use mathlib.Core.Path.{◌≡◌, refl, ap, sym, ◌∙◌}
use lib.Bits.{bit_xor, xor_comm, xor_shr, xor_lt}
use lib.ListN.{length, get_or, take, drop, set}
use lib.Seq.{set_split, split_at}
use Rattle.crc.specs.Bytes.{AreBytes}
use Rattle.crc.specs.Crc.{crc_bit, crc_byte, crc_from, crc32}
use Rattle.crc.proofs.Bits.{whole_of, xor_cancel}
use Rattle.crc.proofs.Bytes.{take_bytes, drop_bytes}
use Rattle.crc.proofs.Table.{shifts, byte_shifts}

-- The bytes of "123456789": CBF43926 in hexadecimal.
check_value : crc32 (49 ∷ 50 ∷ 51 ∷ 52 ∷ 53 ∷ 54 ∷ 55 ∷ 56 ∷ 57 ∷ []) ≡ 3421780262
unfolding crc32 crc_from crc_byte crc_bit
check_value = refl

-- ---- it fits

xor_fits : (a b : ℕ) → a < 4294967296 → b < 4294967296 → bit_xor a b < 4294967296
xor_fits = xor_lt 32

bit_fits : (c : ℕ) → c < 4294967296 → crc_bit c < 4294967296
unfolding crc_bit
bit_fits c h = xor_fits (c / 2) (3988292384 * (c % 2)) (omega arith) (omega arith)

shifts_fits : (n c : ℕ) → c < 4294967296 → shifts n c < 4294967296
unfolding shifts
shifts_fits zero c h = h
shifts_fits (suc n) c h = shifts_fits n (crc_bit c) (bit_fits c h)

pub byte_fits : (c b : ℕ) → c < 4294967296 → b < 256 → crc_byte c b < 4294967296
byte_fits c b h k = rw (byte_shifts c b) (shifts_fits 8 (bit_xor c b) (xor_fits c b h (omega arith)))

from_fits : (c : ℕ) (bytes : List ℕ) → c < 4294967296 → AreBytes bytes → crc_from c bytes < 4294967296
unfolding crc_from
from_fits c [] h k = h
from_fits c (b ∷ bytes) h k = from_fits (crc_byte c b) bytes (byte_fits c b h (k 0)) (λ i. k (suc i))

pub crc_fits : (bytes : List ℕ) → AreBytes bytes → crc32 bytes < 4294967296
unfolding crc32
crc_fits bytes k = xor_fits _ 4294967295 (from_fits 4294967295 bytes (omega arith) k) (omega arith)

-- ---- it tells one byte from another

-- The bit shifted out comes back at the top.
top_bit : (c : ℕ) → c < 4294967296 → crc_bit c / 2147483648 ≡ c % 2
unfolding crc_bit
top_bit c h =
    let a : c / 2 / 2147483648 ≡ 0 = omega arith in
    let b : 3988292384 * (c % 2) / 2147483648 ≡ c % 2 = omega arith in
    xor_shr (c / 2) (3988292384 * (c % 2)) 31 ∙ rw (a, b) refl

bit_same : (c d : ℕ) → c < 4294967296 → d < 4294967296 → crc_bit c ≡ crc_bit d → c ≡ d
unfolding crc_bit
bit_same c d h k e =
    let t : c % 2 ≡ d % 2 = sym (top_bit c h) ∙ ap (λ (x : ℕ). x / 2147483648) e ∙ top_bit d k in
    whole_of c d (xor_cancel (c / 2) (d / 2) (3988292384 * (d % 2)) (rw t at e)) t

shifts_same : (n c d : ℕ) → c < 4294967296 → d < 4294967296 → shifts n c ≡ shifts n d → c ≡ d
unfolding shifts
shifts_same zero c d h k e = e
shifts_same (suc n) c d h k e =
    bit_same c d h k (shifts_same n (crc_bit c) (crc_bit d) (bit_fits c h) (bit_fits d k) e)

-- Two states that take in a byte each become the same one only where state and byte have the same exclusive or.
byte_same : (c d a b : ℕ) → c < 4294967296 → d < 4294967296 → a < 256 → b < 256 → crc_byte c a ≡ crc_byte d b
    → bit_xor c a ≡ bit_xor d b
byte_same c d a b h k l m e =
    shifts_same 8 (bit_xor c a) (bit_xor d b) (xor_fits c a h (omega arith)) (xor_fits d b k (omega arith))
    (sym (byte_shifts c a) ∙ e ∙ byte_shifts d b)

same_from : (c d : ℕ) (l : List ℕ) → c < 4294967296 → d < 4294967296 → AreBytes l → crc_from c l ≡ crc_from d l → c ≡ d
unfolding crc_from
same_from c d [] h k x e = e
same_from c d (b ∷ l) h k x e =
    xor_cancel c d b (byte_same c d b b h k (x 0) (x 0)
    (same_from (crc_byte c b) (crc_byte d b) l (byte_fits c b h (x 0)) (byte_fits d b k (x 0)) (λ i. x (suc i)) e))

-- Two lists that differ in one byte.
module _ (a b : ℕ) (k : a < 256) (l : b < 256) (ys : List ℕ) (y : AreBytes ys) where
  one_byte : (c : ℕ) (xs : List ℕ) → c < 4294967296 → AreBytes xs
      → crc_from c (xs ++ a ∷ ys) ≡ crc_from c (xs ++ b ∷ ys) → a ≡ b
  unfolding crc_from
  one_byte c [] h x e =
      let f : crc_byte c a ≡ crc_byte c b =
      same_from (crc_byte c a) (crc_byte c b) ys (byte_fits c a h k) (byte_fits c b h l) y e in
      xor_cancel a b c (xor_comm a c ∙ byte_same c c a b h h k l f ∙ xor_comm c b)
  one_byte c (z ∷ xs) h x e = one_byte (crc_byte c z) xs (byte_fits c z h (x 0)) (λ i. x (suc i)) e

-- Another byte at one place makes another checksum.
pub changed_found : (l : List ℕ) (i v : ℕ) → AreBytes l → i < length l → v < 256 → v ≢ get_or l i 0
    → crc32 (set l i v) ≢ crc32 l
unfolding crc32
changed_found l i v x h k n e =
    let xs = take i l in
    let ys = drop (suc i) l in
    let w = get_or l i 0 in
    let f : crc_from 4294967295 (xs ++ v ∷ ys) ≡ crc_from 4294967295 (xs ++ w ∷ ys) =
    ap (crc_from 4294967295) (sym (set_split l i v h)) ∙ xor_cancel _ _ 4294967295 e
    ∙ ap (crc_from 4294967295) (split_at l i 0 h) in
    n (one_byte v w k (x i) ys (drop_bytes (suc i) l x) 4294967295 xs (omega arith) (take_bytes i l x) f)
