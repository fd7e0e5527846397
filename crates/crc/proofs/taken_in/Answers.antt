-- `crc::taken_in` meets its contract.
use Rattle.crc.proofs.Table.{one_taken, all_taken}
use Rattle.crc.proofs.taken_in.Goals as goal

pub loop-byte-preserved : goal.loop-byte-preserved
loop-byte-preserved c =
    rw c.from.ensures
    (one_taken _ _ c.requires c.loop-byte.byte-index c.loop-byte.c c.loop-byte-test.true
    (c.type_inv.bytes c.loop-byte.byte-index).fits c.loop-byte.invariant)

pub returns : goal.returns
returns c = all_taken _ _ _ c.loop-byte-test.false c.loop-byte.invariant
