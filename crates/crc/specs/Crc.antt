-- CRC-32 as zlib, gzip and PNG compute it.
use Rattle.std.specs.Prelude.{ℕ, ◌*◌, ◌/◌, ◌%◌, List, [], ◌∷◌}
use Rattle.std.specs.Int.Bits.{bit_xor}

-- One bit shifted out, lowest first; where it is 1, the polynomial is added.
unfoldable pub crc_bit : ℕ → ℕ
crc_bit c = bit_xor (c / 2) (3988292384 * (c % 2))

-- One byte taken in.
unfoldable pub crc_byte : ℕ → ℕ → ℕ
crc_byte c b = crc_bit (crc_bit (crc_bit (crc_bit (crc_bit (crc_bit (crc_bit (crc_bit (bit_xor c b))))))))

-- Some bytes taken in.
unfoldable pub crc_from : ℕ → List ℕ → ℕ
crc_from c [] = c
crc_from c (b ∷ bytes) = crc_from (crc_byte c b) bytes

-- The checksum of some bytes.
unfoldable pub crc32 : List ℕ → ℕ
crc32 bytes = bit_xor (crc_from 4294967295 bytes) 4294967295
