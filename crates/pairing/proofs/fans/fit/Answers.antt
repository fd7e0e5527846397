-- `pairing::fans::fit` meets its contract.
use mathlib.Core.List.{[]}
use Rattle.theory.proofs.Numbers.Decide.{when_true, when_false}
use Rattle.pairing.proofs.fans.Fits.{threads_begin, two_found, none_found}
use Rattle.pairing.proofs.fans.fit.Goals as goal

pub returns-then-some_inner_of_two : goal.returns-then-some_inner_of_two
returns-then-some_inner_of_two c G =
    two_found _ G _ (when_true c.some_inner_of_two.ensures c.if-some_inner_of_two.true)

pub returns : goal.returns
returns c G =
    none_found _ G _ c.requires.readable.0.corner (when_false c.some_inner_of_two.ensures c.if-some_inner_of_two.false)
    (c.fans.ensures _ c.requires.readable.0.corner c.begin_at_boundary.ensures [] G)

pub begin_at_boundary-requires-clause-all_begun : goal.begin_at_boundary-requires-clause-all_begun
begin_at_boundary-requires-clause-all_begun c = threads_begin c.requires.threads
