-- `noting::rising::insert` meets its contract.
use mathlib.Core.Path.{◌≡◌, sym, ◌∙◌}
use Prim.Native.Nat.{◌+◌, ◌≤◌}
use native.Mathlib.Omega.{arith}
use lib.ListN.{length, get_or, length-set}
use Rattle.noting.specs.Rising.{Passed}
use Rattle.noting.proofs.Inserting.{moved_back, moved_one, found_there, put_there}
use Rattle.noting.proofs.rising.insert.Goals.{After-pass_some-at}
use Rattle.noting.proofs.rising.insert.Goals as goal

passed : (c : After-pass_some-at)
    → Passed c.args.numbers.now c.args.from c.args.x c.pass_some-at.result c.pass_some-at.new.numbers
    × (c.args.x ≤ get_or c.args.numbers.now (c.pass_some-at.result + 1) 0)
passed c =
    let (P, b) = c.pass_fours-fours.ensures in
    let (Q, d) = c.pass_some-two.ensures _ _ c.requires.0 P b in
    c.pass_some-at.ensures _ _ c.requires.0 Q d

size : (c : After-pass_some-at) → length c.pass_some-at.new.numbers ≡ length c.args.numbers.now
size c = c.pass_some-at.auto.numbers ∙ c.pass_some-two.auto.numbers ∙ c.pass_fours-fours.auto.numbers

next : (c : After-pass_some-at)
    → get_or c.pass_some-at.new.numbers (c.pass_some-at.result + 1) 0
    ≡ get_or c.args.numbers.now (c.pass_some-at.result + 1) 0
next c = (passed c).0.moved.after (c.pass_some-at.result + 1) (omega arith)

pub returns-then-numbers-at : goal.returns-then-numbers-at
returns-then-numbers-at c =
    let at = (goal.at.returns-then-numbers-at c).After-pass_some-at in
    let (P, b) = passed at in (
      found_there c.requires.0 (omega (arith, c.requires.1)) c.requires.2 P b
          (sym (next at) ∙ c.if-numbers-at.true) (c.move_back.auto.numbers ∙ size at)
          (c.move_back.ensures _ (moved_back P.moved)),
      omega arith,
    )

pub returns : goal.returns
returns c =
    let at = (goal.at.returns c).After-pass_some-at in
    let (P, b) = passed at in (
      put_there c.requires.0 (omega (arith, c.requires.1)) c.requires.2 P b
          (λ q. c.if-numbers-at.false (next at ∙ q)) (simp length-set (size at))
          (moved_one c.pass_some-at.new.numbers c.pass_some-at.result (omega (arith, P.begins, c.requires.1)) (omega (arith, P.ends, size at, c.requires.0.size))),
      omega (arith, c.requires.1),
    )
