use Rattle.std.proofs.Common.{◌≡◌, take}
use Rattle.journal.specs.Journal.{numbers_in}
use Rattle.making.proofs.numbers_in.Given as goal

abbrev pub invariant-loop-i : goal.invariant-loop-i
invariant-loop-i l = take l.i l.table ≡ numbers_in l.i l.body
