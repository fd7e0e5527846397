use Rattle.std.proofs.Common.{take}
use Rattle.journal.specs.Appending.{Put}
use Rattle.journal.specs.Journal.{bytes_of}
use Rattle.journal.proofs.append.put_numbers.Given as goal

abbrev pub invariant-loop-i : goal.invariant-loop-i
invariant-loop-i l =
    Put l.initial.buffer l.at (bytes_of (take l.i l.list)) l.buffer
