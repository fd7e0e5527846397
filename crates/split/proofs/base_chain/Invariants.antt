use Prim.Native.Nat.{ℕ, ◌-◌}
use mathlib.Core.List.{List}
use mathlib.Core.Path.{◌≡◌}
use lib.ListN.{length}
use Rattle.tables.specs.declared.Counts.{Counts}
use Rattle.tables.specs.Lent.{topology_now}
use Rattle.split.proofs.Walk.{Walking}
use Rattle.split.proofs.base_chain.Given as goal

abbrev pub invariant-loop-step : goal.invariant-loop-step
invariant-loop-step l =
    ((n : Counts) (c : List ℕ) → Walking (topology_now n c l.view.links.now l.view.generations.now) l.t l.odd l.end (l.steps - l._step) l.slots)
    × (l.odd ≡ l._step) × (length l.slots ≡ 20)
