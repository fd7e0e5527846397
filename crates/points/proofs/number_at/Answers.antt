-- `points::number_at` meets its contract.
use borrow.Author.Rules.{rules}
use Rattle.rules.specs.Numbers.{number_at}
use Rattle.points.proofs.number_at.Goals as goal

pub returns : goal.returns
unfolding number_at
returns c =
    search rules
