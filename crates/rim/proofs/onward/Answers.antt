-- `rim::onward` meets its contract: it turns back about the vertex until it is at the boundary.
use Rattle.std.proofs.Common.{arith, sym, ◌∙◌}
use Rattle.rim.proofs.TurningBack.{begins, side_small, at_read, sought_at_boundary, at_before}
use Rattle.rim.proofs.TurningBack.{turns_to_place}
use Rattle.rim.proofs.onward.Goals as goal

pub loop-across-init : goal.loop-across-init
loop-across-init c v f p g R = begins _ R

pub across_next-across-requires : goal.across_next-across-requires
across_next-across-requires c =
    let (v, f, p, g, R) = c.requires in
    let A = (c.loop-across.invariant v f p g R).1 in
    (at_read _ R A, side_small _ R A)

pub loop-across-smaller : goal.loop-across-smaller
loop-across-smaller c =
    let (v, f, p, g, R) = c.requires in
    let (i, A) = c.loop-across.invariant v f p g R in
    let (j, e, B) = at_before _ R i A (λ e. c.if-across.false (c.across_next-across.ensures ∙ e)) in
    rw c.across_next-across.ensures (omega (arith, turns_to_place _ R A, turns_to_place _ R B))

pub loop-across-preserved : goal.loop-across-preserved
loop-across-preserved c v f p g R =
    let (i, A) = c.loop-across.invariant v f p g R in
    let (j, e, B) = at_before _ R i A (λ e. c.if-across.false (c.across_next-across.ensures ∙ e)) in
    rw c.across_next-across.ensures (j, B)

pub returns : goal.returns
returns c v f p g R =
    c.next.ensures
    ∙ sought_at_boundary _ R (c.loop-across.invariant v f p g R).1
    (sym c.across_next-across.ensures ∙ c.if-across.true)
