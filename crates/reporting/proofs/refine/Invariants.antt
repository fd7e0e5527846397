use Prim.Native.Nat.{ℕ, ◌-◌}
use mathlib.Core.List.{List}
use Rattle.tables.specs.Lent.{held, mesh_with, SameTables}
use Rattle.split.specs.Made.{work_now}
use Rattle.reporting.proofs.Turns.{Turned, Next}
use Rattle.reporting.proofs.refine.Given as goal

-- The tables are the same; with one split fewer left than the counter says, the work of so many is made and told, and the next is known.
abbrev pub invariant-loop-left : goal.invariant-loop-left
invariant-loop-left l =
    let m = mesh_with l.fn.counts (held l.fn.tables) in
    let w = λ (report : List ℕ). work_now l.fn.counts.rule report l.work (held l.tables) in
    SameTables l.tables l.fn.tables
    × (report : List ℕ)
    × Turned l.t m l.slots l.telling l.fn.report l.at (l.left - 1) (w report) l.report l.told
    × Next l.t l.slots (l.left - 1) (w report)
