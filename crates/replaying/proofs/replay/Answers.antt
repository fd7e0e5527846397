-- `replaying::replay` meets its contract: its header, the place to begin at, and the records from there on.
use Rattle.std.proofs.Common.{◌<◌, ◌^◌, length, arith}
use Rattle.redoing.proofs.Going.{header_stops, nothing_from, ends_below, records_from}
use Rattle.replaying.proofs.replay.Goals as goal

pub returns-in-Err-clause-replayed : goal.returns-in-Err-clause-replayed
returns-in-Err-clause-replayed c =
    let v = c.view-view.ensures.sizes in
    rw c.told.ensures (header_stops _ _ _ _ _ (rw (v.positions, v.generations) at c.in-Err.ensures))

pub returns-then-bytes-start-clause-replayed : goal.returns-then-bytes-start-clause-replayed
returns-then-bytes-start-clause-replayed c =
    let v = c.view-view.ensures.sizes in
    rw c.told-then-bytes-start.ensures
    (nothing_from _ _ _ _ _ (rw (v.positions, v.generations) at c.in_default.ensures) c.first_record-start.ensures
    c.if-bytes-start.true)

pub overflow_add-result : goal.overflow_add-result
overflow_add-result c =
    let bytes_fit : length c.args.bytes.now < 2 ^ 64 = omega arith in
    record {
      fits = ends_below _ _ _ _ _ c.replay_all-all.result _ bytes_fit c.if-bytes-start.false
          c.replay_all-all.ensures.replayed;
    }

pub returns-clause-replayed : goal.returns-clause-replayed
returns-clause-replayed c =
    let v = c.view-view.ensures.sizes in
    records_from _ _ _ _ _ (rw (v.positions, v.generations) at c.in_default.ensures) c.first_record-start.ensures
    c.replay_all-all.result _ c.replay_all-all.ensures.replayed
