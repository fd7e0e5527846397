-- `split::replace` meets its contract.
use native.Mathlib.Omega.{arith}
use Rattle.tables.specs.Lent.{held, topology_with}
use Rattle.split.proofs.Steps.{replace_steps}
use Rattle.split.proofs.replace.Goals as goal

pub store-requires-3 : goal.store-requires-3
store-requires-3 c =
    omega (
      arith,
      c.requires,
      c.relink.ensures.rest,
      c.relink-2.ensures.rest,
      c.store.ensures.rest,
      c.store-2.ensures.rest,
    )

pub returns-clause-replaced : goal.returns-clause-replaced
returns-clause-replaced c n =
    let m = topology_with n (held c.args.tables.now) in
    replace_steps c.args.t c.args.f c.args.to_1 c.args.to_2 m _ _ _ _ _ c.args.x c.args.three
    (c.relink.ensures.linked n) (c.relink-2.ensures.linked n)
    (c.store.ensures.stored n) (c.store-2.ensures.stored n) (c.store-3.ensures.stored n)
