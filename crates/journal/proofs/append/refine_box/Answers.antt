-- `journal::append::refine_box` meets its contract.
use Rattle.std.proofs.Common.{◌≡◌, arith, to_z-of_z}
use Rattle.journal.specs.Journal.{unsigned}
use Rattle.journal.proofs.Appending.{bits_are}
use Rattle.journal.proofs.append.refine_box.Goals as goal

pub returns : goal.returns
returns c =
    let a : c.cast_unsigned.result ≡ unsigned c.args.low.x = grind (arith, to_z-of_z, bits_are) in
    let b : c.cast_unsigned-2.result ≡ unsigned c.args.low.y = grind (arith, to_z-of_z, bits_are) in
    let d : c.cast_unsigned-3.result ≡ unsigned c.args.low.z = grind (arith, to_z-of_z, bits_are) in
    let e : c.cast_unsigned-4.result ≡ unsigned c.args.high.x = grind (arith, to_z-of_z, bits_are) in
    let f : c.cast_unsigned-5.result ≡ unsigned c.args.high.y = grind (arith, to_z-of_z, bits_are) in
    let g : c.cast_unsigned-6.result ≡ unsigned c.args.high.z = grind (arith, to_z-of_z, bits_are) in
    rw (a, b, d, e, f, g) at c.numbers.ensures
