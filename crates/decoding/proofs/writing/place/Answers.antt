-- `decoding::writing::place` meets its contract: the first i coordinates are placed.
use borrow.Author.Rules.{rules}
use native.Mathlib.Omega.{arith}
use mathlib.Core.Path.{◌≡◌}
use mir.Syntax.{w32}
use Rattle.points.proofs.Signed.{returned}
use Rattle.theory.proofs.Numbers.Fill.{fill_more}
use Rattle.rules.specs.Below.{fill}
use Rattle.decoding.proofs.writing.place.Goals as goal

pub loop-i-init : goal.loop-i-init
unfolding fill
loop-i-init c =
    search rules

pub loop-i-preserved : goal.loop-i-preserved
loop-i-preserved c =
    fill_more _ _ _ c.loop-i.invariant (returned w32 c.signed_at.type_inv c.signed_at.ensures)

pub returns : goal.returns
returns c =
    let e : c.loop-i.i ≡ c.args.count = omega arith in
    rw e at c.loop-i.invariant
