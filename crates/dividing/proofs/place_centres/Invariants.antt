use Prim.Native.Nat.{ℕ}
use mathlib.Core.List.{List}
use mathlib.Core.Path.{◌≡◌}
use Rattle.theory.proofs.Steps.Closed.{with_centres}
use Rattle.rules.specs.Tables.{topology_of, mesh_of}
use Rattle.dividing.proofs.place_centres.Given as goal

abbrev pub invariant-loop-t : goal.invariant-loop-t
invariant-loop-t l =
    (ls g k : List ℕ) (rule : ℕ) →
    l.positions ≡ with_centres l.t (mesh_of (topology_of l.v l.t-end l.corners ls g) l.initial.positions k rule)
