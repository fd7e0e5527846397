-- `pairing::threaded::Threaded::join` meets its contract: the sides into v whose next side is p or later are linked.
use mathlib.Core.Path.{refl}
use Prim.Native.Nat.{◌-◌}
use native.Mathlib.Omega.{arith}
use Rattle.theory.proofs.Links.Sides.{previous_lt}
use Rattle.pairing.proofs.Links.{matches, linking_more}
use Rattle.pairing.proofs.Stamps.{corner_read, cursor, goes_on, stamp_most}
use Rattle.pairing.proofs.threaded.Threaded.join.Goals as goal

pub stamped_at-requires-clause-side_in_bounds : goal.stamped_at-requires-clause-side_in_bounds
stamped_at-requires-clause-side_in_bounds c =
    let side = previous_lt (c.loop-p.p - 1) c.args.self.now.triangles (omega arith) in
    let (origin, known) = corner_read c.args.self.now.readable side c.previous-k.ensures in
    omega (arith, stamp_most c.requires.stamping.stamps _ known)

pub loop-p-preserved : goal.loop-p-preserved
loop-p-preserved c =
    let h = c.loop-p.p - 1 in
    let side = previous_lt h c.args.self.now.triangles (omega arith) in
    let (origin, known) = corner_read c.args.self.now.readable side c.previous-k.ensures in
    let last = goes_on h c.args.self.now.threads c.loop-p.invariant.0 (omega arith) refl in
    let matching =
    matches h c.loop-p.invariant.0 (omega arith) c.requires.stamping origin known c.stamped_at.ensures in (
      cursor (omega arith) last,
      rw c.previous-k.ensures
          (linking_more h c.loop-p.invariant.0 (omega arith) c.loop-p.invariant.1 last matching),
    )
