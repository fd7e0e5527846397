-- `wanting::mark_inside` meets its contract: the vertices before v are marked where they lie in the box.
use native.Mathlib.Omega.{arith}
use Rattle.wanting.proofs.Marking.{seen_begins, seen_put, seen_past, seen_ends}
use Rattle.wanting.proofs.mark_inside.Goals as goal
use Rattle.wanting.proofs.mark_inside.Goals.{then-in_box, else-in_box}

pub loop-v-init : goal.loop-v-init
loop-v-init c =
    (omega arith, λ l. omega arith, seen_begins c.requires.2)

pub in_box-requires : goal.in_box-requires
in_box-requires c =
    omega (arith, c.requires.0, c.loop-v-test.true)

pub put-requires : goal.put-requires
put-requires c =
    omega (arith, c.requires.1, c.loop-v-test.true)

pub loop-v-preserved : goal.loop-v-preserved
loop-v-preserved c =
    let (l, past, S) = c.loop-v.invariant in
    elim c.if-in_box.branch [
      | then-in_box w ↦ rw w.inside-is (
        omega arith,
        λ q. omega (arith, c.loop-v-test.true),
        seen_put l S (rw w.if-in_box.true at c.in_box.ensures) w.put.ensures,
      )
      | else-in_box w ↦ rw w.inside-is (
        omega arith,
        λ q. omega (arith, c.loop-v-test.true),
        seen_past l S (rw w.if-in_box.false at c.in_box.ensures),
      )
    ]

pub returns : goal.returns
returns c =
    let (l, past, S) = c.loop-v.invariant in
    seen_ends S (omega (arith, c.loop-v-test.false)) past
