-- `split::split_in` meets its contract.
use borrow.Author.Rules.{rules}
use native.Mathlib.Omega.{arith}
use mathlib.Core.List.{[]}
use mathlib.Core.Path.{◌∙◌}
use Rattle.split.proofs.split_in.Goals as goal

pub settle_three-requires : goal.settle_three-requires
settle_three-requires c =
    omega (arith, c.requires, (c.face_cut-cut.ensures.cut 0 []).1, c.face_cut-cut.ensures.lent)

pub settle_two-requires : goal.settle_two-requires
settle_two-requires c =
    omega (arith, c.requires, (c.rim_cut-cut.ensures.cut 0 []).1, c.rim_cut-cut.ensures.lent)

pub returns-then-generation_at-eq0 : goal.returns-then-generation_at-eq0
returns-then-generation_at-eq0 c rule report =
    let (k, H) = c.face_cut-cut.ensures.cut rule report in
    let (more, e) = c.settle_three.ensures.settled rule k in
    let done = e ∙ H.settled in
    (more, search rules)

pub returns-else-generation_at-eq0 : goal.returns-else-generation_at-eq0
returns-else-generation_at-eq0 c rule report =
    let (k, H) = c.rim_cut-cut.ensures.cut rule report in
    let (more, e) = c.settle_two.ensures.settled rule k in
    let done = e ∙ H.settled in
    (more, search rules)
