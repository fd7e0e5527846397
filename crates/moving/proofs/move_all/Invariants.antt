use mathlib.Core.Path.{◌≡◌}
use Rattle.rules.specs.Step.{move_vertices}
use Rattle.rules.specs.Tables.{Mesh}
use Rattle.moving.specs.Moves.{Movable}
use Rattle.moving.proofs.move_all.Given as goal

abbrev pub invariant-loop-v : goal.invariant-loop-v
invariant-loop-v l =
    (m : Mesh) → Movable l.fn.counts.vertices l.fn.counts.rule m l.initial.positions l.rings → l.positions ≡ move_vertices l.v m l.initial.positions
