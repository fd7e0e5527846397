-- `decoding::coordinates_fit` meets its contract: the first i coordinates are in range.
use borrow.Author.Rules.{rules}
use Prim.Native.Nat.{ℕ, ◌+◌, ◌*◌}
use native.Mathlib.Omega.{arith}
use mathlib.Core.Bool.{Bool}
use mathlib.Core.List.{List}
use mathlib.Core.Path.{◌≡◌, ap, ◌∙◌}
use mir.Syntax.{w32}
use Rattle.points.proofs.Signed.{returned}
use Rattle.theory.proofs.Numbers.Decide.{all_and}
use Rattle.rules.specs.Below.{all}
use Rattle.rules.specs.Numbers.{number_at, signed, in_range}
use Rattle.decoding.proofs.coordinates_fit.Goals as goal

abbrev coordinate_fits : List ℕ → ℕ → Bool
coordinate_fits bytes i = in_range (signed (number_at bytes (8 + 4 * i)))

pub loop-i-init : goal.loop-i-init
unfolding all
loop-i-init c =
    search rules

pub loop-i-preserved : goal.loop-i-preserved
loop-i-preserved c =
    let fits = coordinate_fits c.args.cage.now in
    all_and _ fits c.loop-i.invariant
    (c.in_range-fit.ensures ∙ ap in_range (returned w32 c.signed_at.type_inv c.signed_at.ensures))

pub returns : goal.returns
returns c =
    let e : c.loop-i.i ≡ c.args.count = omega arith in
    rw e at c.loop-i.invariant
