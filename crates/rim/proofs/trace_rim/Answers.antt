-- `rim::trace_rim` meets its contract: it goes on until it is back at its first side.
use Rattle.std.proofs.Common.{arith}
use Rattle.rim.proofs.Tracing.{traced_on_rim, tracing_begins, tracing_ends, tracing_on, tracing_short}
use Rattle.rim.proofs.trace_rim.Goals as goal

pub loop-first-init : goal.loop-first-init
loop-first-init c v f p g R = tracing_begins _ R

pub onward-k-requires : goal.onward-k-requires
onward-k-requires c =
    let (v, f, p, g, R) = c.requires in
    (v, f, p, g, traced_on_rim _ R (c.loop-first.invariant v f p g R))

pub overflow_add-n : goal.overflow_add-n
overflow_add-n c =
    let (v, f, p, g, R) = c.requires in
    let T = tracing_on _ R (c.loop-first.invariant v f p g R) (c.onward-k.ensures v f p g) c.if-k-first.false in
    omega (arith, tracing_short _ R T, R.manifold.link_slots)

pub loop-first-smaller : goal.loop-first-smaller
loop-first-smaller c =
    let (v, f, p, g, R) = c.requires in
    let T = tracing_on _ R (c.loop-first.invariant v f p g R) (c.onward-k.ensures v f p g) c.if-k-first.false in
    omega (arith, tracing_short _ R T)

pub loop-first-preserved : goal.loop-first-preserved
loop-first-preserved c v f p g R =
    tracing_on _ R (c.loop-first.invariant v f p g R) (c.onward-k.ensures v f p g) c.if-k-first.false

pub returns-then-k-first : goal.returns-then-k-first
returns-then-k-first c v f p g R =
    tracing_ends _ R (c.loop-first.invariant v f p g R) (c.onward-k.ensures v f p g) c.if-k-first.true
