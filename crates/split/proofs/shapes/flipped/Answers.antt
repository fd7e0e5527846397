-- `split::shapes::flipped` meets its contract.
use native.Mathlib.Numerals.{add-one}
use Rattle.split.proofs.shapes.flipped.Goals as goal

pub returns : goal.returns
returns c =
    rw (add-one
    c.args.x.generation)
