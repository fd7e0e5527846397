-- `journal::stops::sealed_at` meets its contract.
use Rattle.std.proofs.Common.{refl}
use Rattle.journal.proofs.Stopping.{is_torn, is_other}
use Rattle.journal.proofs.stops.sealed_at.Goals as goal

pub returns-then-bytes-end : goal.returns-then-bytes-end
returns-then-bytes-end c = is_torn refl c.if-bytes-end.true

pub returns-then-number_at-crc32 : goal.returns-then-number_at-crc32
returns-then-number_at-crc32 c =
    is_other _ _ _ c.if-bytes-end.false c.number_at.ensures c.crc32.ensures c.if-number_at-crc32.true
