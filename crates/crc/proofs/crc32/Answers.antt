-- `crc::crc32` meets its contract: each entry of the table is computed and compared.
use mathlib.Core.Path.{refl, ap}
use Prim.Native.Nat.{ℕ}
use lib.Bits.{bit_xor}
use Rattle.crc.specs.Crc.{crc_bit, crc_byte, crc32}
use Rattle.crc.proofs.Table.{are_right, byte_table}
use Rattle.crc.proofs.crc32.Goals as goal

pub taken_in-requires : goal.taken_in-requires
unfolding are_right crc_byte crc_bit
taken_in-requires c =
    byte_table _ refl tt

pub returns : goal.returns
unfolding crc32
returns c =
    ap (λ (n : ℕ). bit_xor n 4294967295) c.taken_in.ensures
