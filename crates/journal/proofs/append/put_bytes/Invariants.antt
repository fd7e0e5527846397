use Rattle.std.proofs.Common.{take}
use Rattle.journal.specs.Appending.{Put}
use Rattle.journal.proofs.append.put_bytes.Given as goal

abbrev pub invariant-loop-i : goal.invariant-loop-i
invariant-loop-i l =
    Put l.initial.buffer l.at (take l.i l.bytes) l.buffer
