use Rattle.std.proofs.Common.{ℕ, List, length}
use Rattle.rules.specs.Tables.{next, target, topology_of}
use Rattle.rim.specs.Traced.{OnRimSide}
use Rattle.rim.proofs.TurningBack.{At, turns_back}
use Rattle.rim.proofs.onward.Given as goal

abbrev pub invariant-loop-across : goal.invariant-loop-across
invariant-loop-across l =
    (v f : ℕ) (c g : List ℕ) →
    let m = topology_of v f c l.links g in
    OnRimSide m l.h → (i : ℕ) × At m (target m l.h) (next l.k) i

abbrev pub decreases-loop-across : goal.decreases-loop-across
decreases-loop-across l =
    turns_back (length l.links) l.links (next l.k)
