-- `journal::append::record` meets its contract: its head, and its body with a checksum.
use Rattle.std.proofs.Common.{◌+◌, ◌*◌, length, refl, sym, ◌∙◌, arith}
use Rattle.journal.proofs.Numbers.{length_bytes}
use Rattle.journal.proofs.Appending.{bytes_two, put_on, seal_on, Room, room_found, too_long, no_record, record_written}
use Rattle.journal.proofs.Appending.{length_body}
use Rattle.journal.proofs.append.record.Goals as goal

pub returns-then-list-gt1073741823 : goal.returns-then-list-gt1073741823
returns-then-list-gt1073741823 c =
    no_record _ _ _ _ (length_body _ _)
    (too_long (16 + (4 * length c.args.list.now + length c.args.bytes.now)) _ (omega arith))

pub returns-then-not-fits : goal.returns-then-not-fits
returns-then-not-fits c = no_record _ _ _ _ (length_body _ _) (sym c.fits.ensures ∙ c.if-not-fits.true)

pub returns : goal.returns
returns c =
    let n = 4 * length c.args.list.now + length c.args.bytes.now in
    let room : Room (16 + n) (length c.args.buffer.now) = room_found _ _ c.if-not-fits.false c.fits.ensures in
    let size = length_body c.args.list.now c.args.bytes.now in
    let body = put_on (rw length_bytes refl) c.put_numbers.ensures c.put_bytes.ensures in
    record_written _ _ _ size room.is (rw (bytes_two, c.from.ensures) at c.put_sealed.ensures)
    (seal_on (rw size refl) (omega arith) body c.seal.ensures)
