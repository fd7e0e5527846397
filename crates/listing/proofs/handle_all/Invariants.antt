use Rattle.rules.specs.Spares.{Spares}
use Rattle.rules.specs.Tables.{Mesh}
use Rattle.tables.specs.Lent.{mesh_with, held, SameTables}
use Rattle.refining.specs.Batches.{Begins}
use Rattle.refining.proofs.Batching.{DoingTold}
use Rattle.listing.proofs.handle_all.Given as goal

abbrev pub invariant-loop-at : goal.invariant-loop-at
invariant-loop-at l =
    ((m : Mesh) (s : Spares) → Begins m s l.start (mesh_with l.counts (held l.fn.tables))
    → DoingTold m s l.list l.at l.splits l.flips l.fn.report l.report (mesh_with l.reached (held l.tables)))
    × SameTables l.tables l.fn.tables
