-- `marks::first_word` meets its contract: the words before each one that is looked at are 0.
use borrow.Author.Count.{below_more}
use borrow.Author.Tests.{lt-ltb, le-ltb}
use native.Mathlib.Omega.{arith}
use mathlib.Core.Path.{refl}
use Rattle.marks.proofs.Tables.{first_at}
use Rattle.marks.proofs.first_word.Goals as goal

pub returns-then-words-k-ne0 : goal.returns-then-words-k-ne0
returns-then-words-k-ne0 c =
    rw (first_at c.args.words.now c.loop-k.k (omega arith) c.loop-k.invariant (λ _. c.if-words-k-ne0.true), lt-ltb _ _ c.loop-k-test.true) refl

pub loop-k-preserved : goal.loop-k-preserved
loop-k-preserved c = below_more _ _ c.loop-k.invariant c.if-words-k-ne0.false

pub returns : goal.returns
returns c =
    rw (first_at c.args.words.now c.loop-k.k (omega arith) c.loop-k.invariant (λ h. absurd (omega arith)), le-ltb _ _ c.loop-k-test.false) refl
