-- `making::numbers_of` meets its contract.
use Rattle.std.proofs.Common.{ap, inl, inr}
use Rattle.journal.specs.Kinds.{number_of}
use Rattle.making.proofs.Calling.{many_numbers, no_numbers}
use Rattle.making.proofs.numbers_of.Goals as goal

pub returns-in-RefineList : goal.returns-in-RefineList
returns-in-RefineList c body l = elim c.in-RefineList.is [
  | inl e ↦ many_numbers _ body _ (inl (ap number_of e)) l
  | inr e ↦ many_numbers _ body _ (inr (ap number_of e)) l
]

pub returns-in_default : goal.returns-in_default
returns-in_default c body l = no_numbers _ body c.in_default.not-RefineList c.in_default.not-TakeBack
