use Rattle.std.proofs.Common.{ℕ, ◌-◌, List, length}
use Rattle.rules.specs.Tables.{topology_of}
use Rattle.rim.specs.Traced.{OnRimSide}
use Rattle.rim.proofs.Tracing.{Tracing}
use Rattle.rim.proofs.trace_rim.Given as goal

abbrev pub invariant-loop-first : goal.invariant-loop-first
invariant-loop-first l =
    (v f : ℕ) (c g : List ℕ) → let m = topology_of v f c l.links g in OnRimSide m l.first → Tracing m l.first l.n l.h

abbrev pub decreases-loop-first : goal.decreases-loop-first
decreases-loop-first l =
    length l.links - l.n
