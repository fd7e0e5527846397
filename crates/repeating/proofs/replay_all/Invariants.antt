use Rattle.std.proofs.Common.{◌+◌, ◌-◌, length}
use Rattle.tables.specs.Lent.{held, mesh_with, SameTables}
use Rattle.tables.specs.Refusals.{refused}
use Rattle.redoing.specs.Replaying.{stop_of, told}
use Rattle.redoing.proofs.Going.{Reached}
use Rattle.repeating.proofs.replay_all.Given as goal

abbrev pub invariant-loop-known : goal.invariant-loop-known
invariant-loop-known l = record {
  reached : Reached (record { spares = held l.initial.spares; numbers = length l.initial.numbers }) l.bytes
      (mesh_with l.initial.state.counts (held l.initial.tables)) (told l.state)
      (mesh_with l.state.counts (held l.tables)) (refused l.known);
  lent : SameTables l.tables l.initial.tables;
  spares_lent : SameTables l.spares l.initial.spares;
}

abbrev pub decreases-loop-known : goal.decreases-loop-known
decreases-loop-known l = length l.bytes - l.state.end + (1 - stop_of l.state.next)
