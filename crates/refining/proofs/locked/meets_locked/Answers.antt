-- `refining::locked::meets_locked` meets its contract.
use native.Mathlib.Omega.{arith}
use mathlib.Core.Path.{◌≡◌, sym}
use Rattle.theory.proofs.Numbers.Decide.{any_none, any_more}
use Rattle.refining.proofs.locked.meets_locked.Goals as goal

pub loop-i-init : goal.loop-i-init
loop-i-init c = λ n. sym (any_none _)

pub loop-i-preserved : goal.loop-i-preserved
loop-i-preserved c =
    λ n. rw (any_more, c.loop-i.invariant n, c.is_locked_base-some.ensures n)

pub returns : goal.returns
returns c n =
    let e : c.loop-i.i ≡ 3 = omega arith in
    rw e at (c.loop-i.invariant n)
