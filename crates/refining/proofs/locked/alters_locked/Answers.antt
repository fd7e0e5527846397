-- `refining::locked::alters_locked` meets its contract.
use lib.Dec.{eqb}
use lib.ListN.{get_or}
use native.Mathlib.Omega.{arith}
use mathlib.Core.Path.{◌≡◌, refl, sym, ◌∙◌}
use Rattle.rules.specs.Below.{any}
use Rattle.refining.proofs.Locking.{front_locked, alters_by_tests}
use Rattle.refining.proofs.locked.alters_locked.Goals.{After-some_locked}
use Rattle.refining.proofs.locked.alters_locked.Goals as goal

chain_told : (c : After-some_locked)
    → any c.args.chain.odd (λ i. eqb (get_or c.args.view.now.locks.now (get_or c.args.chain.slots i 0) 0) 1)
    ≡ c.some_locked.result
chain_told c =
    sym (c.some_locked.ensures ∙ front_locked c.args.chain.odd c.args.chain.slots c.args.view.now.locks.now (omega (arith, c.requires.few)))

pub returns-then-some_locked : goal.returns-then-some_locked
returns-then-some_locked c n p k t C =
    alters_by_tests t _ C (chain_told (goal.at.returns-then-some_locked c).After-some_locked ∙ c.if-some_locked.true)
    refl refl

pub returns-then-is_locked : goal.returns-then-is_locked
returns-then-is_locked c n p k t C =
    alters_by_tests t _ C (chain_told (goal.at.returns-then-is_locked c).After-some_locked ∙ c.if-some_locked.false)
    (sym c.is_locked.ensures ∙ c.if-is_locked.true) refl

pub returns : goal.returns
returns c n p k t C =
    alters_by_tests t _ C (chain_told (goal.at.returns c).After-some_locked ∙ c.if-some_locked.false)
    (sym c.is_locked.ensures ∙ c.if-is_locked.false) (sym (c.meets_locked.ensures n))
