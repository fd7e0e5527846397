-- `split::settle_three` meets its contract.
use Prim.Native.Nat.{ℕ, ◌+◌, ◌≤◌, ◌<◌}
use native.Mathlib.Omega.{arith}
use mathlib.Core.List.{[]}
use mathlib.Core.Path.{ap, ◌∙◌}
use lib.ListN.{get_or}
use Rattle.rules.specs.Split as rules
use Rattle.split.proofs.Bounds.{settle_low}
use Rattle.split.proofs.settle_three.Goals as goal

pub settle-two-requires : goal.settle-two-requires
settle-two-requires c =
    let low : (x : ℕ) → get_or c.args.tables.now.generations.now x 0 < 23
    → (get_or c.settle-one.new.tables.generations.now x 0 ≤ 23) × (c.settle-one.result.flips ≤ c.args.work.flips + 1) = λ x i. settle_low c.args.t x 22 _ _ (omega (arith, c.requires)) (omega arith) (c.settle-one.ensures.settled 0 []).1 in
    let low_f : (get_or c.settle-one.new.tables.generations.now c.args.f 0 ≤ 23)
    × (c.settle-one.result.flips ≤ c.args.work.flips + 1) = low c.args.f (omega (arith, c.requires)) in
    omega (arith, c.requires, c.settle-one.ensures.lent, low_f)

pub settle-requires : goal.settle-requires
settle-requires c =
    let low : (x : ℕ) → get_or c.args.tables.now.generations.now x 0 < 23
    → (get_or c.settle-one.new.tables.generations.now x 0 ≤ 23) × (c.settle-one.result.flips ≤ c.args.work.flips + 1) = λ x i. settle_low c.args.t x 22 _ _ (omega (arith, c.requires)) (omega arith) (c.settle-one.ensures.settled 0 []).1 in
    let low_f : (get_or c.settle-one.new.tables.generations.now c.args.f 0 ≤ 23)
    × (c.settle-one.result.flips ≤ c.args.work.flips + 1) = low c.args.f (omega (arith, c.requires)) in
    let one = low_f in
    let two =
    settle_low c.args.f c.args.e 23 _ _ one.0 (low c.args.e (omega (arith, c.requires))).0
    (c.settle-two.ensures.settled 0 []).1 in
    omega (arith, c.requires, c.settle-one.ensures.lent, c.settle-two.ensures.lent, one, two)

pub returns-clause-settled : goal.returns-clause-settled
returns-clause-settled c rule report =
    let (k, one) = c.settle-one.ensures.settled rule report in
    let (l, two) = c.settle-two.ensures.settled rule k in
    let (more, three) = c.settle.ensures.settled rule l in
    (more, three ∙ ap (rules.settle c.args.e) (two ∙ ap (rules.settle c.args.f) one))
