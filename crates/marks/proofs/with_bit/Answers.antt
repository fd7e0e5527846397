-- `marks::with_bit` meets its contract.
use Rattle.marks.proofs.Bits.{bit_on, bit_off}
use Rattle.marks.proofs.with_bit.Goals as goal

pub returns-then-on : goal.returns-then-on
returns-then-on c = λ j. bit_on c.args.word c.args.b j c.args.on c.requires c.if-on.true

pub returns-else-on : goal.returns-else-on
returns-else-on c = λ j. bit_off c.args.word c.args.b j c.args.on c.requires c.ranges.word.fits c.if-on.false
