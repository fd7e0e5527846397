-- `redoing::one_more` meets its contract: the next record is replayed, or stops the replay.
use Rattle.std.proofs.Common.{◌<◌, ◌^◌, length, refl, arith}
use Rattle.redoing.proofs.Going.{room, lent_kind, lent_room, numbers_exceed, refused_next, carried_next, read_told}
use Rattle.redoing.proofs.one_more.Goals as goal

pub returns-then-numbers-numbers_of-clause-makes : goal.returns-then-numbers-numbers_of-clause-makes
returns-then-numbers-numbers_of-clause-makes c =
    let next = c.record_at-next.ensures in
    numbers_exceed c.requires.ready _ _ _ next.size next.kind c.numbers_of.ensures _ _ _ _
    c.if-numbers-numbers_of.true refl refl refl refl refl

pub overflow_add-last : goal.overflow_add-last
overflow_add-last c =
    let bytes_fit : length c.args.bytes.now < 2 ^ 64 = omega arith in
    let l = room c.requires.ready in
    let e = c.record_at-next.ensures.size in
    omega arith

pub slice_bounds-body-end : goal.slice_bounds-body-end
slice_bounds-body-end c =
    let l = room c.requires.ready in
    let e = c.record_at-next.ensures.size in
    omega arith

pub make-requires-clause-body_value : goal.make-requires-clause-body_value
make-requires-clause-body_value c =
    let next = c.record_at-next.ensures in (
      lent_kind c.requires.ready _ _ _ next.size next.kind c.numbers_of.ensures,
      lent_room c.requires.ready _ _ _ next.size next.kind c.numbers_of.ensures _ c.if-numbers-numbers_of.false,
    )

pub returns-in-Err-clause-makes : goal.returns-in-Err-clause-makes
returns-in-Err-clause-makes c =
    let next = c.record_at-next.ensures in
    refused_next c.requires.ready _ _ _ next.size next.kind c.numbers_of.ensures _ _ _ _
    c.if-numbers-numbers_of.false c.in-Err.ensures.makes refl refl refl refl

pub slice_bounds-read_record-count : goal.slice_bounds-read_record-count
slice_bounds-read_record-count c =
    let l = room c.requires.ready in
    let e = c.record_at-next.ensures.size in
    omega arith

pub slice_bounds-read_record-start : goal.slice_bounds-read_record-start
slice_bounds-read_record-start c =
    let l = room c.requires.ready in
    let e = c.record_at-next.ensures.size in
    omega arith

pub returns-in-Ok-clause-makes : goal.returns-in-Ok-clause-makes
returns-in-Ok-clause-makes c =
    let next = c.record_at-next.ensures in
    let after = read_told _ _ c.read_record.ensures in
    carried_next c.requires.ready _ _ _ next.size next.kind c.numbers_of.ensures _ _ _ _
    c.if-numbers-numbers_of.false c.in-Ok.ensures.makes refl refl after.0 after.1
