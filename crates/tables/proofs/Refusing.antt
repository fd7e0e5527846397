-- What a refusal that is passed on says.
use native.Mathlib.Omega.{arith}
use mathlib.Core.Logic.{◌≢◌}
use mathlib.Core.Path.{◌≡◌, sym, ap, ◌∙◌}
use Rattle.std.specs.Prelude.{Result, Err}
use Rattle.std.specs.Result.{IsErrAnd}
use Rattle.std.proofs.lemmas.Result.{err_from_is_err_and}
use Rattle.tables.specs.declared.refusals.Refusal.{Refusal}
use Rattle.tables.specs.declared.refusals.Refusal.TheVariants.{TablesDisagree, Sizes, Corners, Coordinates, SideTwice}
use Rattle.tables.specs.declared.refusals.Refusal.TheVariants.{Fans, NotSound, NotInUse, Generation, NoSlots}
use Rattle.tables.specs.declared.refusals.Refusal.TheVariants.{NotUniform, RingLong, BufferShort, TableLength, Rule}
use Rattle.tables.specs.declared.refusals.Refusal.TheVariants.{SpareSizes, BoxUnfit, Locked, ViewShort, Note}
use Rattle.tables.specs.declared.refusals.Refusal.TheVariants.{NoteShort, ReportShort, NotOnRim, CurveShort}
use Rattle.tables.specs.Refusals.{number, refused}

pub number_some : (r : Refusal) → number r ≢ 0
number_some TablesDisagree e = absurd (omega arith)
number_some Sizes e = absurd (omega arith)
number_some Corners e = absurd (omega arith)
number_some Coordinates e = absurd (omega arith)
number_some SideTwice e = absurd (omega arith)
number_some Fans e = absurd (omega arith)
number_some NotSound e = absurd (omega arith)
number_some NotInUse e = absurd (omega arith)
number_some Generation e = absurd (omega arith)
number_some NoSlots e = absurd (omega arith)
number_some NotUniform e = absurd (omega arith)
number_some RingLong e = absurd (omega arith)
number_some BufferShort e = absurd (omega arith)
number_some TableLength e = absurd (omega arith)
number_some Rule e = absurd (omega arith)
number_some SpareSizes e = absurd (omega arith)
number_some BoxUnfit e = absurd (omega arith)
number_some Locked e = absurd (omega arith)
number_some ViewShort e = absurd (omega arith)
number_some Note e = absurd (omega arith)
number_some NoteShort e = absurd (omega arith)
number_some ReportShort e = absurd (omega arith)
number_some NotOnRim e = absurd (omega arith)
number_some CurveShort e = absurd (omega arith)

pub refused_some : {A : Type 0} {s : Result A Refusal} {x : Refusal} → s ≡ Err x → refused s ≢ 0
refused_some {x = x} e z = number_some x (sym (ap refused e) ∙ z)

-- What `?` answers is refused as what it met.
pub passed_on : {A B : Type 0} (r : Result A Refusal) {s : Result B Refusal} {x : Refusal} → s ≡ Err x
    → IsErrAnd r (λ y. y ≡ x) → refused r ≡ refused s
passed_on r {x = x} e q =
    let (y, is, same) = err_from_is_err_and r q in
    ap refused is ∙ ap number same ∙ sym (ap refused e)
