-- `dividing::unlock_new` meets its contract.
use Prim.Native.Nat.{ℕ, ◌+◌, ◌*◌}
use native.Mathlib.Numerals.{add-one}
use mathlib.Core.List.{List}
use mathlib.Core.Path.{◌≡◌, refl}
use Rattle.theory.proofs.Steps.Closed.{unlocked_new}
use Rattle.rules.specs.Split.{new_unlocked}
use Rattle.dividing.proofs.unlock_new.Goals as goal

one_more : (t f : ℕ) (l : List ℕ) {k k' : List ℕ} → k ≡ unlocked_new t f l → k' ≡ new_unlocked (f + 2 * t) k
    → k' ≡ unlocked_new (t + 1) f l
unfolding unlocked_new
one_more t f l e d = rw (add-one, d, e, unlocked_new)

pub loop-t-init : goal.loop-t-init
unfolding unlocked_new
loop-t-init c =
    refl

pub loop-t-preserved : goal.loop-t-preserved
loop-t-preserved c =
    one_more _ _ _ c.loop-t.invariant c.unlock_two.ensures
