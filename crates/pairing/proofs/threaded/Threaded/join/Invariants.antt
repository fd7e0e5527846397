use Rattle.pairing.specs.Pairing.{Linking}
use Rattle.pairing.specs.Threaded.{threaded}
use Rattle.pairing.proofs.Stamps.{Cursor}
use Rattle.pairing.proofs.threaded.Threaded.join.Given as goal

abbrev pub invariant-loop-p : goal.invariant-loop-p
invariant-loop-p l = Cursor (threaded l.self) l.v l.p × Linking (threaded l.self) l.v l.p l.links

abbrev pub decreases-loop-p : goal.decreases-loop-p
decreases-loop-p l = l.p
