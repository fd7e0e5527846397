-- `journal::stops::read_record` meets its contract: its tests come in the order of `stop_at`.
use Rattle.std.proofs.Common.{sym, ◌∙◌, rules, ◌≢◌, length, ◌≡◌}
use Rattle.std.proofs.lemmas.Result.{err_from_is_err_and}
use Rattle.journal.proofs.Stopping.{no_kind, stop_empty, stop_head, stop_body, stop_kind, stop_none}
use Rattle.journal.proofs.stops.read_record.Goals as goal

pub returns-then-is_empty : goal.returns-then-is_empty
returns-then-is_empty c =
    let e : length c.args.bytes.now ≡ 0 = search rules in
    stop_empty _ e

pub returns-in_err-sealed_at : goal.returns-in_err-sealed_at
returns-in_err-sealed_at c =
    let x : length c.args.bytes.now ≢ 0 = search rules in
    let p = err_from_is_err_and c.from_residual.result c.from_residual.ensures.1 in
    rw (p.1, p.2) (stop_head _ x c.in_err-sealed_at.ensures)

pub returns-in_err-sealed_at-2 : goal.returns-in_err-sealed_at-2
returns-in_err-sealed_at-2 c =
    let p = err_from_is_err_and c.from_residual-in_err-sealed_at-2.result c.from_residual-in_err-sealed_at-2.ensures.1 in
    rw (p.1, p.2) (stop_body _ c.in_ok-sealed_at.ensures _ c.number_at-size.ensures c.in_err-sealed_at-2.ensures)

pub returns-in_err-kind : goal.returns-in_err-kind
returns-in_err-kind c =
    let p = err_from_is_err_and c.from_residual-in_err-kind.result c.from_residual-in_err-kind.ensures.1 in
    let none = c.in_err-kind.ensures in
    rw (p.1, p.2, none.0)
    (stop_kind _ c.in_ok-sealed_at.ensures _ c.number_at-size.ensures c.in_ok-sealed_at-2.ensures _ c.number_at.ensures
    (no_kind _ _ none.1))

pub returns-then-not-takes : goal.returns-then-not-takes
returns-then-not-takes c =
    stop_kind _ c.in_ok-sealed_at.ensures _ c.number_at-size.ensures c.in_ok-sealed_at-2.ensures _
    (c.in_ok-kind.ensures ∙ c.number_at.ensures) (sym c.takes.ensures ∙ c.if-not-takes.true)

pub returns : goal.returns
returns c =
    let kind = c.in_ok-kind.ensures ∙ c.number_at.ensures in
    record {
      whole = stop_none _ c.in_ok-sealed_at.ensures _ c.number_at-size.ensures c.in_ok-sealed_at-2.ensures _ kind
          (sym c.takes.ensures ∙ c.if-not-takes.false);
      kind = kind;
      size = c.number_at-size.ensures;
    }
