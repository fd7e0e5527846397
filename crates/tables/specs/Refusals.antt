-- Refusals by their numbers in the paper, and 0 for none.
use Rattle.std.specs.Prelude.{ℕ, Result, Ok, Err}
use Rattle.tables.specs.declared.refusals.Refusal.{Refusal}
use Rattle.tables.specs.declared.refusals.Refusal.TheVariants.{TablesDisagree, Sizes, Corners, Coordinates, SideTwice}
use Rattle.tables.specs.declared.refusals.Refusal.TheVariants.{Fans, NotSound, NotInUse, Generation, NoSlots}
use Rattle.tables.specs.declared.refusals.Refusal.TheVariants.{NotUniform, RingLong, BufferShort, TableLength, Rule}
use Rattle.tables.specs.declared.refusals.Refusal.TheVariants.{SpareSizes, BoxUnfit, Locked, ViewShort, Note}
use Rattle.tables.specs.declared.refusals.Refusal.TheVariants.{NoteShort, ReportShort, NotOnRim, CurveShort}

abbrev pub number : Refusal → ℕ
number TablesDisagree = 1
number Sizes = 2
number Corners = 3
number Coordinates = 4
number SideTwice = 5
number Fans = 6
number NotSound = 7
number NotInUse = 8
number Generation = 9
number NoSlots = 11
number NotUniform = 12
number RingLong = 13
number BufferShort = 14
number TableLength = 15
number Rule = 16
number SpareSizes = 17
number BoxUnfit = 18
number Locked = 19
number ViewShort = 20
number Note = 21
number NoteShort = 22
number ReportShort = 23
number NotOnRim = 24
number CurveShort = 25

-- What an outcome is refused with.
abbrev pub refused : {A : Type 0} → Result A Refusal → ℕ
refused (Ok _) = 0
refused (Err r) = number r
