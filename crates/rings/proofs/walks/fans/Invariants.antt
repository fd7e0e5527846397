use Prim.Native.Nat.{ℕ, ◌*◌, ◌≤◌}
use mathlib.Core.Bool.{true}
use mathlib.Core.List.{List}
use mathlib.Core.Path.{◌≡◌}
use Rattle.rules.specs.Below.{all, total}
use Rattle.rules.specs.Tables.{topology_of}
use Rattle.rings.proofs.walks.Told.{has_start, length_from}
use Rattle.rings.proofs.walks.fans.Given as goal

abbrev pub invariant-loop-s : goal.invariant-loop-s
invariant-loop-s l =
    (l.met ≤ 65536 * l.s-index) × (all l.s-index (has_start l.starts) ≡ true)
    × ((c g : List ℕ) → l.met ≡ total l.s-index (length_from (topology_of l.vertices l.triangles c l.links g) l.starts))
