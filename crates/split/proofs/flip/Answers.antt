-- `split::flip` meets its contract.
use native.Mathlib.Omega.{arith}
use mathlib.Core.Path.{ap}
use Rattle.tables.specs.declared.Counts.{Counts}
use Rattle.split.proofs.Steps.{flip_steps}
use Rattle.split.proofs.flip.Goals as goal

none : Counts
none = record { vertices = 0; triangles = 0; rule = 0 }

pub flipped-pair-requires : goal.flipped-pair-requires
flipped-pair-requires c =
    omega (arith, c.requires, ap (λ x. x.generation) (c.triangle_at-x.ensures none))

pub store-requires : goal.store-requires
store-requires c =
    omega (arith, c.requires, c.relink.ensures.rest, c.relink-2.ensures.rest)

pub store-requires-2 : goal.store-requires-2
store-requires-2 c =
    omega (arith, c.requires, c.relink.ensures.rest, c.relink-2.ensures.rest, c.store.ensures.rest)

pub returns-clause-flipped : goal.returns-clause-flipped
returns-clause-flipped c n =
    flip_steps _ _ _ _ _ _ _ _ _ _ _ (c.triangle_at-x.ensures n)
    (c.triangle_at-y.ensures n) c.flipped-pair.ensures
    (c.relink.ensures.linked n) (c.relink-2.ensures.linked n)
    (c.store.ensures.stored n) (c.store-2.ensures.stored n)
