-- `tables::copies::copy` meets its contract: the first i entries are copied.
use native.Mathlib.Omega.{arith}
use mathlib.Core.Path.{◌≡◌, refl, ◌∙◌}
use Rattle.std.proofs.lemmas.List.{get_or_default}
use Rattle.theory.proofs.Numbers.Fill.{fill_more}
use Rattle.rules.specs.Below.{fill}
use Rattle.tables.proofs.copies.copy.Goals as goal

pub loop-i-init : goal.loop-i-init
unfolding fill
loop-i-init g c none = refl

pub loop-i-preserved : goal.loop-i-preserved
loop-i-preserved g c none = fill_more _ _ _ (c.loop-i.invariant none)
    (c.index-from-i.is ∙ get_or_default c.args.from.now c.loop-i.i _ none (omega arith))

pub returns : goal.returns
returns g c none =
    let e : c.loop-i.i ≡ c.args.count = omega arith in
    rw e at (c.loop-i.invariant none)
