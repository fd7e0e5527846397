-- `noting::write_head` meets its contract.
use native.Mathlib.Omega.{arith}
use lib.ListN.{length-set}
use Rattle.noting.proofs.Writing.{head_written}
use Rattle.noting.proofs.write_head.Goals as goal

pub bounds-note-1 : goal.bounds-note-1
bounds-note-1 c =
    simp length-set (omega (arith, c.requires.1))

pub bounds-note-2 : goal.bounds-note-2
bounds-note-2 c =
    simp length-set (omega (arith, c.requires.1))

pub returns : goal.returns
returns c =
    head_written c.args.t c.args.counts.vertices c.args.counts.triangles c.args.k c.args.note.now
