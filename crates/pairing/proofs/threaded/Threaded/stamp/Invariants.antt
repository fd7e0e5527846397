use Rattle.pairing.specs.Pairing.{Stamping}
use Rattle.pairing.specs.Threaded.{threaded}
use Rattle.pairing.proofs.Stamps.{Cursor}
use Rattle.pairing.proofs.threaded.Threaded.stamp.Given as goal

abbrev pub invariant-loop-p : goal.invariant-loop-p
invariant-loop-p l = Cursor (threaded l.self) l.v l.p × Stamping (threaded l.self) l.v l.p l.slots

abbrev pub decreases-loop-p : goal.decreases-loop-p
decreases-loop-p l = l.p
