-- `rim::find_rim` meets its contract: each test tells a refusal, or what the next ones need.
use Rattle.std.proofs.Common.{sym}
use Rattle.rim.proofs.Finding.{finds_one, finds_seven, finds_eight, first_read, finds_twenty_four, first_on_rim}
use Rattle.rim.proofs.Finding.{finds_twenty_five, finds}
use Rattle.rim.proofs.find_rim.Goals as goal

pub returns-then-not-tables_agree : goal.returns-then-not-tables_agree
returns-then-not-tables_agree c = finds_one _ _ _ (sym (c.if-not-tables_agree.ensures c.args.counts))

pub returns-in_default : goal.returns-in_default
returns-in_default c =
    finds_seven _ _ _ (sym (c.if-not-tables_agree.ensures c.args.counts)) c.in_default.ensures

pub returns-then-counts-v : goal.returns-then-counts-v
returns-then-counts-v c =
    finds_eight _ _ _ (sym (c.if-not-tables_agree.ensures c.args.counts)) c.in-Some.ensures
    c.if-counts-v.true

pub bounds-view-first : goal.bounds-view-first
bounds-view-first c =
    first_read _ c.args.room _ (sym (c.if-not-tables_agree.ensures c.args.counts)) c.in-Some.ensures
    c.if-counts-v.false

pub returns-then-view-first : goal.returns-then-view-first
returns-then-view-first c =
    finds_twenty_four _ _ _ (sym (c.if-not-tables_agree.ensures c.args.counts)) c.in-Some.ensures
    c.if-counts-v.false c.if-view-first.true

pub trace_rim-trace-requires : goal.trace_rim-trace-requires
trace_rim-trace-requires c = (
  c.args.counts.vertices,
  c.args.counts.triangles,
  c.args.view.now.corners.now,
  c.args.view.now.generations.now,
  first_on_rim _ c.args.room _ (sym (c.if-not-tables_agree.ensures c.args.counts)) c.in-Some.ensures
      c.if-counts-v.false c.if-view-first.false,
)

pub returns-then-room-trace : goal.returns-then-room-trace
returns-then-room-trace c =
    finds_twenty_five _ _ _ (sym (c.if-not-tables_agree.ensures c.args.counts)) c.in-Some.ensures
    c.if-counts-v.false c.if-view-first.false (c.trace_rim-trace.ensures _ _ _ _) c.if-room-trace.true

pub returns : goal.returns
returns c =
    finds _ _ _ (sym (c.if-not-tables_agree.ensures c.args.counts)) c.in-Some.ensures
    c.if-counts-v.false c.if-view-first.false (c.trace_rim-trace.ensures _ _ _ _) c.if-room-trace.false
