-- What the answer of a call, once it is branched on, says of the test that it is equal to.
use borrow.Author.Tests.{not-true, not-false}
use mathlib.Core.Bool.{Bool, true, false, not, true≢false}
use mathlib.Core.Path.{◌≡◌, sym, ◌∙◌}

pub refused : {r b : Bool} → r ≡ b → not r ≡ true → b ≡ false
refused e n = sym e ∙ not-true _ n

pub passed : {r b : Bool} → r ≡ b → not r ≡ false → b ≡ true
passed e n = sym e ∙ not-false _ n

-- What a call leaves where it answers yes, it need not leave where it answers no.
pub never : {A : Type 0} → false ≡ true → A
never e = absurd (true≢false (sym e))
