-- `judging::judge` meets its contract: each test decides its condition, in their order.
use mathlib.Core.Path.{sym, ◌∙◌}
use Rattle.judging.proofs.Refusals.{decode_read, decode_fits, refuses_3, refuses_4, readable, refuses_5}
use Rattle.judging.proofs.Refusals.{holds, refuses_6, refuses_none}
use Rattle.judging.proofs.judge.Goals as goal

pub returns-then-not-corners_fit-clause-refuses : goal.returns-then-not-corners_fit-clause-refuses
returns-then-not-corners_fit-clause-refuses c =
    refuses_3 (decode_read _ c.requires.sized c.requires.working_room.origin_room c.decode.ensures)
    (sym c.corners_fit.ensures ∙ c.if-not-corners_fit.true)

pub returns-then-not-coordinates_fit-clause-refuses : goal.returns-then-not-coordinates_fit-clause-refuses
returns-then-not-coordinates_fit-clause-refuses c =
    refuses_4 (decode_read _ c.requires.sized c.requires.working_room.origin_room c.decode.ensures)
    (sym c.corners_fit.ensures ∙ c.if-not-corners_fit.false)
    (sym c.coordinates_fit.ensures ∙ c.if-not-coordinates_fit.true)

pub pair-requires-clause-readable : goal.pair-requires-clause-readable
pair-requires-clause-readable c =
    readable
    (decode_fits _ c.requires.sized c.requires.working_room.origin_room c.decode.ensures c.corners_fit.ensures
    c.if-not-corners_fit.false c.coordinates_fit.ensures c.if-not-coordinates_fit.false)

pub returns-then-not-pair-clause-refuses : goal.returns-then-not-pair-clause-refuses
returns-then-not-pair-clause-refuses c =
    let fit =
    decode_fits _ c.requires.sized c.requires.working_room.origin_room c.decode.ensures c.corners_fit.ensures
    c.if-not-corners_fit.false c.coordinates_fit.ensures c.if-not-coordinates_fit.false in
    refuses_5 fit (rw c.if-not-pair.true at c.pair.ensures.paired)

pub fit-requires : goal.fit-requires
fit-requires c =
    let fit =
    decode_fits _ c.requires.sized c.requires.working_room.origin_room c.decode.ensures c.corners_fit.ensures
    c.if-not-corners_fit.false c.coordinates_fit.ensures c.if-not-coordinates_fit.false in
    let matched = rw c.if-not-pair.false at c.pair.ensures.paired in
    record {
      readable = (readable fit, fit.read.sized.few_vertices);
      triangles_in_bounds = matched.room;
      threads = c.pair.ensures.threads;
    }

pub returns-then-not-fit-clause-refuses : goal.returns-then-not-fit-clause-refuses
returns-then-not-fit-clause-refuses c =
    let fit =
    decode_fits _ c.requires.sized c.requires.working_room.origin_room c.decode.ensures c.corners_fit.ensures
    c.if-not-corners_fit.false c.coordinates_fit.ensures c.if-not-coordinates_fit.false in
    let matched = rw c.if-not-pair.false at c.pair.ensures.paired in
    refuses_6 fit matched (rw c.if-not-fit.true at c.fit.ensures)

pub returns : goal.returns
returns c =
    let fit =
    decode_fits _ c.requires.sized c.requires.working_room.origin_room c.decode.ensures c.corners_fit.ensures
    c.if-not-corners_fit.false c.coordinates_fit.ensures c.if-not-coordinates_fit.false in
    let matched = rw c.if-not-pair.false at c.pair.ensures.paired in
    record {
      refuses = refuses_none fit matched (rw c.if-not-fit.false at c.fit.ensures);
      holds = holds fit matched;
    }
