-- `wanting::in_box` meets its contract.
use mathlib.Core.Path.{ap, ◌∙◌}
use Rattle.points.specs.Axes.{in_box}
use Rattle.wanting.proofs.in_box.Goals as goal

pub returns : goal.returns
returns c =
    c.in_box.ensures ∙ ap (in_box c.args.low c.args.high) c.point_in-p.ensures
