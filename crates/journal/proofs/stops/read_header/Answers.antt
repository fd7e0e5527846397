-- `journal::stops::read_header` meets its contract: its tests come in the order of `header_stop`.
use Rattle.std.proofs.Common.{sym, ◌∙◌, rules, ◌≢◌, length, ◌≡◌}
use Rattle.std.proofs.lemmas.Result.{err_from_is_err_and}
use Rattle.journal.proofs.Stopping.{header_empty, header_part, header_name, header_slots, header_none}
use Rattle.journal.proofs.stops.read_header.Goals as goal

pub returns-then-is_empty : goal.returns-then-is_empty
returns-then-is_empty c =
    let e : length c.args.bytes.now ≡ 0 = search rules in
    header_empty _ _ _ e

pub returns-in_err-sealed_at : goal.returns-in_err-sealed_at
returns-in_err-sealed_at c =
    let x : length c.args.bytes.now ≢ 0 = search rules in
    let p = err_from_is_err_and c.from_residual.result c.from_residual.ensures.1 in
    rw (p.1, p.2) (header_part _ _ _ x c.in_err-sealed_at.ensures)

pub returns-then-not-are_numbers : goal.returns-then-not-are_numbers
returns-then-not-are_numbers c =
    header_name _ _ _ c.in_ok-sealed_at.ensures (sym c.are_numbers.ensures ∙ c.if-not-are_numbers.true)

pub returns-then-not-are_numbers-2 : goal.returns-then-not-are_numbers-2
returns-then-not-are_numbers-2 c =
    header_slots _ _ _ c.in_ok-sealed_at.ensures (sym c.are_numbers.ensures ∙ c.if-not-are_numbers.false)
    (sym c.are_numbers-2.ensures ∙ c.if-not-are_numbers-2.true)

pub returns : goal.returns
returns c =
    header_none _ _ _ c.in_ok-sealed_at.ensures (sym c.are_numbers.ensures ∙ c.if-not-are_numbers.false)
    (sym c.are_numbers-2.ensures ∙ c.if-not-are_numbers-2.false)
