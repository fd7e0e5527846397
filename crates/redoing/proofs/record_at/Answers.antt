-- `redoing::record_at` meets its contract: the two numbers that it reads are there, and the first is of a kind.
use Rattle.std.proofs.Common.{◌<◌, ◌^◌, length, arith}
use Rattle.redoing.proofs.Going.{long_at, kind_read, record_read}
use Rattle.redoing.proofs.record_at.Goals as goal

pub number_at-size-requires : goal.number_at-size-requires
number_at-size-requires c =
    let l = long_at c.args.at c.args.bytes.now c.requires in
    omega arith

pub overflow_add-at : goal.overflow_add-at
overflow_add-at c =
    let bytes_fit : length c.args.bytes.now < 2 ^ 64 = omega arith in
    let l = long_at c.args.at c.args.bytes.now c.requires in
    record { fits = omega arith }

pub number_at-requires : goal.number_at-requires
number_at-requires c =
    let l = long_at c.args.at c.args.bytes.now c.requires in
    omega arith

pub unwrap-kind-requires : goal.unwrap-kind-requires
unwrap-kind-requires c = kind_read _ _ c.requires _ _ c.number_at.ensures c.try_from.ensures

pub returns : goal.returns
returns c =
    record_read _ _ c.requires _ _ _ _ c.number_at.ensures c.try_from.ensures c.unwrap-kind.ensures
    c.number_at-size.ensures
