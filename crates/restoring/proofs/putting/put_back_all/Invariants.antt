use Rattle.restoring.proofs.SlotsBack.{PutUpTo}
use Rattle.restoring.proofs.putting.put_back_all.Given as goal

abbrev pub invariant-loop-i : goal.invariant-loop-i
invariant-loop-i l = PutUpTo l.note l.i l.initial.tables l.tables
