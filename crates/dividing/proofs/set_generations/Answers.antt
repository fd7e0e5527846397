-- `dividing::set_generations` meets its contract.
use Prim.Native.Nat.{ℕ, zero, suc, ◌≤◌}
use native.Mathlib.Numerals.{add-one}
use native.Mathlib.Omega.{arith}
use mathlib.Core.List.{List, ◌++◌}
use mathlib.Core.Path.{◌≡◌, sym, ap, ◌∙◌}
use lib.ListN.{length, set, drop, replicate}
use Rattle.std.proofs.lemmas.List.{length-take-le}
use Rattle.std.proofs.lemmas.List.Edits.{fill_none, fill_more}
use Rattle.rules.specs.Below.{fill}
use Rattle.dividing.proofs.set_generations.Goals as goal

-- The first n entries x, and the later ones as they were.
filled : (n x : ℕ) (l : List ℕ) → n ≤ length l → replicate n x ++ drop n l ≡ fill n (λ _. x) l
unfolding fill
filled zero x l b = sym (fill_none l x)
filled (suc n) x l b =
    rw add-one at (sym (fill_more n x l (omega arith))) ∙ ap (λ (k : List ℕ). set k n x) (filled n x l (omega arith))

pub returns : goal.returns
returns c =
    rw (c.fill.ensures.after (λ y e. e), length-take-le c.args.n c.args.generations.now c.requires)
    (filled c.args.n c.args.g c.args.generations.now c.requires)
