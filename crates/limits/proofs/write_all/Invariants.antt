use Prim.Native.Nat.{ℕ, ◌*◌, ◌/◌, ◌%◌}
use mathlib.Core.Path.{◌≡◌}
use lib.IntN.{ℤ}
use Rattle.rules.specs.Below.{fill}
use Rattle.rules.specs.Step.{limit_coordinate}
use Rattle.rules.specs.Tables.{Mesh}
use Rattle.moving.specs.Moves.{Movable}
use Rattle.limits.proofs.write_all.Given as goal

-- The limits as the table has them.
abbrev pub limit_at : Mesh → ℕ → ℤ
limit_at m i = limit_coordinate m (i / 3) (i % 3)

abbrev pub invariant-loop-v : goal.invariant-loop-v
invariant-loop-v l =
    (m : Mesh) → Movable l.fn.counts.vertices l.fn.counts.rule m l.positions l.rings → l.table ≡ fill (3 * l.v) (limit_at m) l.initial.table
