-- The corners before h are written.
use Rattle.std.proofs.Common.{◌*◌, length, ◌≡◌}
use Rattle.rules.specs.Below.{fill}
use Rattle.viewer.specs.View.{entry_of}
use Rattle.viewer.proofs.write_corners.Given as goal

abbrev pub invariant-loop-h : goal.invariant-loop-h
invariant-loop-h l = record {
  size : length l.table ≡ length l.initial.table;
  written : l.table ≡ fill (3 * l.h) (entry_of l.positions l.corners) l.initial.table;
}
