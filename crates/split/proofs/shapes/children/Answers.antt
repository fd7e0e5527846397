-- `split::shapes::children` meets its contract.
use native.Mathlib.Numerals.{add-one}
use Rattle.split.proofs.shapes.children.Goals as goal

pub returns : goal.returns
returns c =
    rw (add-one c.args.x.generation)
