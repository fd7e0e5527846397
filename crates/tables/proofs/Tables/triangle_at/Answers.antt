-- `tables::Tables::triangle_at` meets its contract.
use mathlib.Core.Path.{ap, ◌∙◌}
use Rattle.tables.specs.Lent.{topology_with, triangle_at}
use Rattle.tables.proofs.Tables.triangle_at.Goals as goal

pub returns : goal.returns
returns c n =
    c.triangle_at.ensures n ∙ ap (λ s. triangle_at (topology_with n s) c.args.t) c.view.ensures.same
