-- `pairing::threaded::Threaded::stamp` meets its contract: of the sides out of v, those from p on are stamped.
use mathlib.Core.Path.{refl}
use Prim.Native.Nat.{◌-◌}
use native.Mathlib.Omega.{arith}
use Rattle.theory.proofs.Links.Sides.{next_lt}
use Rattle.pairing.proofs.Stamps.{corner_read, cursor, starts, goes_on, stamp_most, stamping_none, twice}
use Rattle.pairing.proofs.Stamps.{stamping_more, is_taken, is_free}
use Rattle.pairing.proofs.threaded.Threaded.stamp.Goals as goal

pub loop-p-init : goal.loop-p-init
loop-p-init c =
    let first = starts c.args.self.now.threads c.requires.v_in_use refl in
    (cursor (omega arith) first, stamping_none first c.requires.stamps)

pub stamped_at-requires-clause-side_in_bounds : goal.stamped_at-requires-clause-side_in_bounds
stamped_at-requires-clause-side_in_bounds c =
    let side = next_lt (c.loop-p.p - 1) c.args.self.now.triangles (omega arith) in
    let (target, known) = corner_read c.args.self.now.readable side c.next.ensures in
    omega (arith, stamp_most c.loop-p.invariant.1.stamps _ known)

pub returns-then-stamped_at : goal.returns-then-stamped_at
returns-then-stamped_at c =
    let side = next_lt (c.loop-p.p - 1) c.args.self.now.triangles (omega arith) in
    let (target, known) = corner_read c.args.self.now.readable side c.next.ensures in
    let (k, stamped, from) = is_taken c.stamped_at.ensures c.if-stamped_at.true in
    twice (c.loop-p.p - 1) c.loop-p.invariant.1 c.loop-p.invariant.0 (omega arith) target known stamped from

pub loop-p-preserved : goal.loop-p-preserved
loop-p-preserved c =
    let h = c.loop-p.p - 1 in
    let side = next_lt h c.args.self.now.triangles (omega arith) in
    let (target, known) = corner_read c.args.self.now.readable side c.next.ensures in
    let last = goes_on h c.args.self.now.threads c.loop-p.invariant.0 (omega arith) refl in
    let most = stamp_most c.loop-p.invariant.1.stamps _ known in (
      cursor (omega arith) last,
      stamping_more h c.loop-p.invariant.1 c.loop-p.invariant.0 (omega arith) target known
          (is_free c.stamped_at.ensures c.if-stamped_at.false (omega arith)) last,
    )
