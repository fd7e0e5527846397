use Rattle.pairing.specs.Threaded.{threaded}
use Rattle.pairing.proofs.Pairs.{Pairing}
use Rattle.pairing.proofs.threaded.Threaded.join_all.Given as goal

abbrev pub invariant-loop-v : goal.invariant-loop-v
invariant-loop-v l = Pairing (threaded l.self) l.v l.slots l.links
