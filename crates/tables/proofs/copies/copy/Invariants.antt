use mathlib.Core.Path.{◌≡◌}
use lib.ListN.{get_or}
use Rattle.rules.specs.Below.{fill}
use Rattle.tables.proofs.copies.copy.Given as goal

abbrev pub invariant-loop-i : goal.invariant-loop-i
invariant-loop-i g l = (none : g.row.T.Denot) → l.to ≡ fill l.i (λ k. get_or l.from k none) l.initial.to
