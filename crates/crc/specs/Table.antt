-- The table by which bytes are taken in.
use Rattle.std.specs.Prelude.{ℕ, ◌<◌, List, ◌≡◌, get_or}
use Rattle.crc.specs.Crc.{crc_byte}

-- The state that each byte makes of state 0.
pub record ByteTable (table : List ℕ) : Type 0 where
  pub entry : (k : ℕ) → k < 256 → get_or table k 0 ≡ crc_byte 0 k
