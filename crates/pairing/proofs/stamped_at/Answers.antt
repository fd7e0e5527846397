-- `pairing::stamped_at` meets its contract.
use Prim.Native.Nat.{◌-◌}
use mathlib.Core.Path.{ap, ◌∙◌}
use native.Mathlib.Omega.{arith}
use lib.ListN.{get_or}
use Rattle.pairing.specs.Pairing.{taken, free}
use Rattle.pairing.proofs.stamped_at.Goals as goal

pub returns-then-s-eq0 : goal.returns-then-s-eq0
returns-then-s-eq0 c = free (λ k e. absurd (omega arith))

pub returns-then-corners-k : goal.returns-then-corners-k
returns-then-corners-k c = taken {k = get_or c.args.slots.now c.args.w 0 - 1} (omega arith) c.if-corners-k.true

pub returns-else-corners-k : goal.returns-else-corners-k
returns-else-corners-k c =
    free (λ k e f. c.if-corners-k.false (ap (λ i. get_or c.args.corners.now i 0) (omega arith) ∙ f))
