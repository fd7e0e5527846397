-- `wanting::mark_from` meets its contract: the slots before t are marked where they are wanted.
use native.Mathlib.Omega.{arith}
use Rattle.wanting.proofs.Marking.{fit_for, slot_used, has_mark, mark_right, off_right}
use Rattle.wanting.proofs.Marking.{marked_begins, marked_on, marked_ends}
use Rattle.wanting.proofs.mark_from.Goals as goal
use Rattle.wanting.proofs.mark_from.Goals.{then-is_wanted, else-is_wanted}

pub loop-t-init : goal.loop-t-init
loop-t-init c =
    let ((_, _, Y, F, _), off) = c.requires in
    λ b m X e. marked_begins (fit_for X Y F) off

pub is_wanted-requires : goal.is_wanted-requires
is_wanted-requires c =
    let ((b, m, X, _, e), _) = c.requires in
    (b, m, X, omega (arith, c.loop-t-test.true))

pub mark-requires : goal.mark-requires
mark-requires c =
    let ((b, m, X, _, e), _) = c.requires in
    let F = (c.loop-t.invariant b m X e).fit in
    (F.levels, has_mark X F (omega (arith, c.loop-t-test.true)))

pub loop-t-preserved : goal.loop-t-preserved
loop-t-preserved c b m X e =
    let M = c.loop-t.invariant b m X e in
    let u = slot_used e c.loop-t-test.true in
    elim c.if-is_wanted.branch [
      | then-is_wanted w ↦ rw (w.bits-is, w.words-is)
          (marked_on M (mark_right M.fit u (rw w.if-is_wanted.true at (c.is_wanted.ensures b m X u)) w.mark.ensures))
      | else-is_wanted w ↦ rw (w.bits-is, w.words-is)
          (marked_on M
          (off_right M.fit u (M.off _ (omega arith)) (rw w.if-is_wanted.false at (c.is_wanted.ensures b m X u))))
    ]

pub returns : goal.returns
returns c b m X e =
    marked_ends (c.loop-t.invariant b m X e) (omega (arith, c.loop-t-test.false))
