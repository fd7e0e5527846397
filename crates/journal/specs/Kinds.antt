-- Kinds of changes and reasons to stop, by the numbers that stand in a record and that C reads.
use Rattle.std.specs.Prelude.{ℕ, ◌≡◌, ◌⊎◌, ◌<◌, Result, MatchResult}
use Rattle.journal.specs.declared.kinds.Kind.{Kind}
use Rattle.journal.specs.declared.kinds.Kind.TheVariants.{Load, Refine, WholeStep, RefineList, RefineBox, Lock, Unlock, TakeBack}
use Rattle.journal.specs.declared.stops.Stop.{Stop}
use Rattle.journal.specs.declared.stops.Stop.TheVariants.{End, Torn, Checksum, NoKind, Refused, Slots, Numbers}

-- The number of a kind.
abbrev pub number_of : Kind → ℕ
number_of Load = 1
number_of Refine = 2
number_of WholeStep = 3
number_of RefineList = 4
number_of RefineBox = 5
number_of Lock = 6
number_of Unlock = 7
number_of TakeBack = 8

-- The number of a reason to stop, and the refusal of the call that is refused; else 0.
abbrev pub stop_number : Stop → ℕ
stop_number End = 1
stop_number Torn = 2
stop_number Checksum = 3
stop_number NoKind = 4
stop_number (Refused n) = 5
stop_number Slots = 6
stop_number Numbers = 7

abbrev pub stop_refusal : Stop → ℕ
stop_refusal End = 0
stop_refusal Torn = 0
stop_refusal Checksum = 0
stop_refusal NoKind = 0
stop_refusal (Refused n) = n
stop_refusal Slots = 0
stop_refusal Numbers = 0

-- The kind with this number, or that there is none.
abbrev pub IsKindOf : ℕ → Result Kind Stop → Type 0
IsKindOf n r = MatchResult r (λ k. number_of k ≡ n) (λ s. (s ≡ NoKind) × ((n < 1) ⊎ (8 < n)))
