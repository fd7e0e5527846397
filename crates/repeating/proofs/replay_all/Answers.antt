-- `repeating::replay_all` meets its contract: what is left to replay shrinks record by record.
use Rattle.std.proofs.Common.{length, sym, ◌∙◌}
use Rattle.tables.specs.Lent.{held}
use Rattle.tables.proofs.Lending.{same_on}
use Rattle.journal.specs.Recording.{LentAlike}
use Rattle.redoing.proofs.Going.{none_told, stop_told, ready, reached_on, comes_nearer, ends}
use Rattle.repeating.proofs.replay_all.Goals as goal

pub loop-known-smaller : goal.loop-known-smaller
loop-known-smaller c =
    let z = none_told _ (sym c.is_ok.ensures.value ∙ c.loop-known-test.true) in
    comes_nearer (ready c.loop-known.invariant.reached z) z c.one_more-state.ensures.makes

pub loop-known-preserved : goal.loop-known-preserved
loop-known-preserved c =
    let z = none_told _ (sym c.is_ok.ensures.value ∙ c.loop-known-test.true) in
    let same = c.loop-known.invariant.spares_lent.sizes in
    let alike : LentAlike (record { spares = held c.args.spares.now; numbers = length c.args.numbers.now })
    (record { spares = held c.loop-known.spares; numbers = length c.loop-known.numbers }) = record {
      spares = record {
        positions = sym same.positions;
        corners = sym same.corners;
        links = sym same.links;
        generations = sym same.generations;
        locks = sym same.locks;
      };
      numbers = sym c.loop-known.auto.numbers;
    } in
    record {
      reached = reached_on alike c.loop-known.invariant.reached z _ _ c.one_more-state.ensures.makes;
      lent = same_on c.one_more-state.ensures.lent c.loop-known.invariant.lent;
      spares_lent = same_on c.one_more-state.ensures.spares_lent c.loop-known.invariant.spares_lent;
    }

pub returns-clause-replayed : goal.returns-clause-replayed
returns-clause-replayed c =
    let x = stop_told _ (sym c.is_ok.ensures.value ∙ c.loop-known-test.false) in
    rw c.told.ensures (ends c.loop-known.invariant.reached x)
