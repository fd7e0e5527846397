use Rattle.decoding.specs.Decoded.{decoded}
use Rattle.pairing.specs.Pairing.{Threads}
use Rattle.pairing.proofs.thread.Given as goal

abbrev pub invariant-loop-h : goal.invariant-loop-h
invariant-loop-h l = Threads (decoded l.vertices l.triangles l.corners) l.h l.heads l.nexts
