-- `journal::kinds::Kind::takes` meets its contract: each kind has its test of the size.
use Rattle.std.proofs.Common.{inl, inr}
use mathlib.Core.Bool.{and-true, and-false, or-false}
use Rattle.journal.specs.Journal.{is_kind}
use Rattle.journal.proofs.kinds.Kind.takes.Goals as goal

pub returns-in-Load : goal.returns-in-Load
unfolding is_kind
returns-in-Load c = rw c.in-Load.is (simp (and-false, or-false))

pub returns-in-Refine : goal.returns-in-Refine
unfolding is_kind
returns-in-Refine c = elim c.in-Refine.is [
  | inl e ↦ rw e (simp (and-true, and-false, or-false))
  | inr (inl e) ↦ rw e (simp (and-true, and-false, or-false))
  | inr (inr e) ↦ rw e (simp (and-true, and-false, or-false))
]

pub returns-in-WholeStep : goal.returns-in-WholeStep
unfolding is_kind
returns-in-WholeStep c = rw c.in-WholeStep.is (simp (and-true, and-false, or-false))

pub returns-in-RefineList : goal.returns-in-RefineList
unfolding is_kind
returns-in-RefineList c = elim c.in-RefineList.is [
  | inl e ↦ rw e (simp (and-true, and-false, or-false))
  | inr e ↦ rw e (simp (and-true, and-false, or-false))
]

pub returns-in-RefineBox : goal.returns-in-RefineBox
unfolding is_kind
returns-in-RefineBox c = rw c.in-RefineBox.is (simp (and-true, and-false, or-false))
