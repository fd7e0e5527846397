-- `split::settle_two` meets its contract.
use native.Mathlib.Omega.{arith}
use mathlib.Core.List.{[]}
use mathlib.Core.Path.{ap, ◌∙◌}
use Rattle.rules.specs.Split as rules
use Rattle.split.proofs.Bounds.{settle_low}
use Rattle.split.proofs.settle_two.Goals as goal

pub settle-requires : goal.settle-requires
settle-requires c =
    let low =
    settle_low c.args.t c.args.e 22 _ _ (omega (arith, c.requires)) (omega (arith, c.requires))
    (c.settle-one.ensures.settled 0 []).1 in
    omega (arith, c.requires, c.settle-one.ensures.lent, low)

pub returns-clause-settled : goal.returns-clause-settled
returns-clause-settled c rule report =
    let (k, one) = c.settle-one.ensures.settled rule report in
    let (more, two) = c.settle.ensures.settled rule k in
    (more, two ∙ ap (rules.settle c.args.e) one)
