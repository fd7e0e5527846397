-- `tables::View::copy_mesh` meets its contract.
use Prim.Native.Nat.{ℕ, ◌*◌}
use mathlib.Core.List.{List}
use mathlib.Core.Path.{◌≡◌, refl}
use lib.IntN.{ℤ, pos}
use lib.ListN.{get_or}
use Rattle.rules.specs.Below.{fill}
use Rattle.rules.specs.Spares.{Spares, copied}
use Rattle.rules.specs.Tables.{Mesh, sides}
use Rattle.tables.specs.Lent.{spares_now}
use Rattle.tables.proofs.View.copy_mesh.Goals as goal

-- The copy, table by table.
each_copied : (m : Mesh) (s : Spares) {p : List ℤ} {c l g k : List ℕ}
    → p ≡ fill (3 * m.topology.vertices) (λ i. get_or m.positions i (pos 0)) s.positions
    → c ≡ fill (sides m.topology) (λ i. get_or m.topology.corners i 0) s.corners
    → l ≡ fill (sides m.topology) (λ i. get_or m.topology.links i 0) s.links
    → g ≡ fill m.topology.triangles (λ i. get_or m.topology.generations i 0) s.generations
    → k ≡ fill m.topology.triangles (λ i. get_or m.locks i 0) s.locks
    → spares_now p c l g k ≡ copied m s
unfolding copied
each_copied m s a b c d e = rw (a, b, c, d, e) refl

pub returns-clause-copied : goal.returns-clause-copied
returns-clause-copied c =
    each_copied _ _ (c.copy.ensures (pos 0)) (c.copy-2.ensures 0) (c.copy-3.ensures 0)
    (c.copy-4.ensures 0) (c.copy-5.ensures 0)
