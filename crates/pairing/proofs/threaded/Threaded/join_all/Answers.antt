-- `pairing::threaded::Threaded::join_all` meets its contract: the sides of the vertices below v are done.
use mathlib.Core.Path.{◌≡◌}
use native.Mathlib.Omega.{arith}
use Rattle.pairing.proofs.Pairs.{pairing_more, all_matched}
use Rattle.pairing.proofs.threaded.Threaded.join_all.Goals as goal

pub loop-v-preserved : goal.loop-v-preserved
loop-v-preserved c =
    let stamped = rw c.if-not-stamp.false at c.stamp.ensures in
    pairing_more c.loop-v.invariant stamped c.join.ensures

pub returns : goal.returns
returns c =
    let e : c.loop-v.v ≡ c.args.self.now.vertices = omega arith in
    all_matched c.args.self.now.readable.corner (rw e at c.loop-v.invariant)
