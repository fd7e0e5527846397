-- `wanting::mend` meets its contract: the marks of the first i listed slots are right.
use native.Mathlib.Omega.{arith}
use Rattle.wanting.proofs.Marking.{fit_for, slot_used, has_mark, mark_right}
use Rattle.wanting.proofs.Marking.{mended_begins, mended_on, mended_past, mended_ends}
use Rattle.wanting.proofs.mend.Goals as goal
use Rattle.wanting.proofs.mend.Goals.{then-t-triangles, else-t-triangles}

pub loop-t-init : goal.loop-t-init
loop-t-init c =
    let (_, _, Y, F, _) = c.requires in
    λ b m X e. mended_begins (fit_for X Y F)

pub is_wanted-on-requires : goal.is_wanted-on-requires
is_wanted-on-requires c =
    let (b, m, X, _, e) = c.requires in
    (b, m, X, omega (arith, c.if-t-triangles.true))

pub mark-requires : goal.mark-requires
mark-requires c =
    let (b, m, X, _, e) = c.requires in
    let F = (c.loop-t.invariant b m X e).fit in
    (F.levels, has_mark X F (omega (arith, c.if-t-triangles.true)))

pub loop-t-preserved : goal.loop-t-preserved
loop-t-preserved c b m X e =
    let M = c.loop-t.invariant b m X e in
    elim c.if-t-triangles.branch [
      | then-t-triangles w ↦
          let u = slot_used e w.if-t-triangles.true in
          rw (w.bits-is, w.words-is)
          (mended_on M (mark_right M.fit u (w.is_wanted-on.ensures b m X u) w.mark.ensures))
      | else-t-triangles w ↦ rw (w.bits-is, w.words-is)
          (mended_past M (omega (arith, w.if-t-triangles.false)))
    ]

pub returns : goal.returns
returns c b m X e =
    mended_ends (c.loop-t.invariant b m X e) c.loop-t-test.false
