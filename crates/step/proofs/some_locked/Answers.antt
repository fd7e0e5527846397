-- `step::some_locked` meets its contract.
use Prim.Native.Nat.{◌<◌}
use native.Mathlib.Omega.{arith}
use Rattle.std.proofs.lemmas.List.{length-take, get_or-take}
use Rattle.theory.proofs.Numbers.Decide.{any_more}
use Rattle.step.proofs.some_locked.Goals as goal

pub loop-lock-preserved : goal.loop-lock-preserved
loop-lock-preserved c =
    let in_use : c.loop-lock.lock-index < c.args.triangles = omega (arith, length-take c.args.triangles c.args.locks.now) in
    rw (any_more, c.loop-lock.invariant, get_or-take c.args.triangles c.args.locks.now c.loop-lock.lock-index 0 in_use)
