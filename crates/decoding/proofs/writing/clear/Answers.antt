-- `decoding::writing::clear` meets its contract: the part that is filled is zeros.
use borrow.Author.Rules.{rules}
use Prim.Native.Nat.{ℕ, zero, suc, ◌≤◌}
use native.Mathlib.Numerals.{add-one}
use native.Mathlib.Omega.{arith}
use mathlib.Core.List.{List, ◌++◌}
use mathlib.Core.Path.{◌≡◌, refl}
use lib.ListN.{length, drop, replicate}
use Rattle.std.proofs.lemmas.List.{length-take-le}
use Rattle.std.proofs.lemmas.List.Edits.{fill_more}
use Rattle.rules.specs.Below.{fill}
use Rattle.decoding.proofs.writing.clear.Goals as goal

zeros : (n : ℕ) (l : List ℕ) → n ≤ length l → fill n (λ i. 0) l ≡ replicate n 0 ++ drop n l
unfolding fill
zeros zero l h = refl
zeros (suc n) l h = rw (zeros n l (omega arith)) (simp add-one at (fill_more n 0 l (omega arith)))

pub returns : goal.returns
returns c =
    let e = c.fill.ensures.after (λ y k. search rules) in
    let l = length-take-le c.args.count c.args.table.now c.requires in
    rw (zeros c.args.count c.args.table.now c.requires, e, l) refl
