-- `noting::copy_four` meets its contract.
use native.Mathlib.Omega.{arith}
use lib.ListN.{length-set}
use Rattle.noting.proofs.Writing.{four_written}
use Rattle.noting.proofs.copy_four.Goals as goal

pub bounds-note-at-2 : goal.bounds-note-at-2
bounds-note-at-2 c =
    simp length-set (omega (arith, c.requires.1))

pub bounds-note-at-3 : goal.bounds-note-at-3
bounds-note-at-3 c =
    simp length-set (omega (arith, c.requires.1))

pub returns : goal.returns
returns c =
    four_written c.args.at c.args.first c.args.table.now c.args.note.now
