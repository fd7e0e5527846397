-- `wanting::mend_after` meets its contract: the new slots first, then those that were in use.
use mathlib.Core.Path.{subst}
use Prim.Native.Nat.{ℕ, ◌≤◌}
use Rattle.wanting.proofs.Marking.{mended_ends}
use Rattle.wanting.proofs.Turn.{none_past, marks_right, fit_after, near_long}
use Rattle.wanting.proofs.mend_after.Goals as goal

pub mark_from-requires : goal.mark_from-requires
mark_from-requires c =
    let (b, t, x, y, X, K, e, f) = c.requires in (
      (b, y, K, fit_after X.refines X.marks.fit, f),
      λ j i. none_past X.marks j (subst (λ (k : ℕ). k ≤ j) e i),
    )

pub mend-requires : goal.mend-requires
mend-requires c =
    let (b, t, x, y, X, K, e, f) = c.requires in
    (b, y, K, (c.mark_from.ensures b y K f).fit, f)

pub mend-requires-2 : goal.mend-requires-2
mend-requires-2 c =
    let (b, t, x, y, X, K, e, f) = c.requires in
    (b, y, K, (c.mend.ensures b y K f).fit, f)

pub returns : goal.returns
returns c b t x y X K e f =
    let A = c.mark_from.ensures b y K f in
    let near = mended_ends (c.mend.ensures b y K f) (near_long x.topology _ X.near_is) in
    marks_right X (rw e at A) near (c.mend-2.ensures b y K f)
