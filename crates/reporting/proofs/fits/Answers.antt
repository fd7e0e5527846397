-- `reporting::fits` meets its contract.
use mathlib.Core.Path.{ap}
use Prim.Native.Nat.{ℕ}
use native.Mathlib.Omega.{arith}
use lib.Dec.{leb}
use Rattle.reporting.proofs.Telling.{always_fits, never_fits}
use Rattle.reporting.proofs.fits.Goals as goal

pub returns-then-entries-ge-LONGEST : goal.returns-then-entries-ge-LONGEST
returns-then-entries-ge-LONGEST c t n p k l R C =
    always_fits R c.if-entries-ge-LONGEST.true

pub returns-then-entries-splits : goal.returns-then-entries-splits
returns-then-entries-splits c t n p k l R C =
    never_fits R (omega (arith, c.if-entries-splits.true, c.splits.ensures, C.odd, C.rim))

pub returns : goal.returns
returns c t n p k l R C =
    ap (λ (l : ℕ). leb l c.args.entries)
    (c.report_length.ensures t n p k l R C)
