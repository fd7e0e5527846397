-- `reading::find_ring` meets its contract: each test tells a refusal, or what the next ones need.
use Rattle.std.proofs.Common.{sym}
use Rattle.reading.proofs.FindRing.{finds_one, finds_seven, finds_eight, walkable, finds_fourteen, finds}
use Rattle.reading.proofs.find_ring.Goals as goal

pub returns-then-not-tables_agree : goal.returns-then-not-tables_agree
returns-then-not-tables_agree c =
    finds_one _ _ _ (sym (c.if-not-tables_agree.ensures c.args.counts))

pub returns-in_default : goal.returns-in_default
returns-in_default c = finds_seven _ _ _ (sym (c.if-not-tables_agree.ensures c.args.counts)) c.in_default.ensures

pub returns-then-counts-v : goal.returns-then-counts-v
returns-then-counts-v c =
    finds_eight _ _ _ (sym (c.if-not-tables_agree.ensures c.args.counts))
    c.in-Some.ensures c.if-counts-v.true

pub ring_length-length-requires : goal.ring_length-length-requires
ring_length-length-requires c =
    walkable _ c.args.room _ (sym (c.if-not-tables_agree.ensures c.args.counts))
    c.in-Some.ensures c.if-counts-v.false

pub returns-then-room-length : goal.returns-then-room-length
returns-then-room-length c =
    finds_fourteen _ _ _ (sym (c.if-not-tables_agree.ensures c.args.counts))
    c.in-Some.ensures c.if-counts-v.false (c.ring_length-length.ensures.1 _ _ _) c.if-room-length.true

pub returns : goal.returns
returns c =
    finds _ _ _ (sym (c.if-not-tables_agree.ensures c.args.counts))
    c.in-Some.ensures c.if-counts-v.false (c.ring_length-length.ensures.1 _ _ _) c.if-room-length.false
