-- `noting::changed::add_mets` meets its contract.
use native.Mathlib.Omega.{arith}
use Rattle.noting.proofs.Listing.{met_base, joins_then, one_by_one, all_meet}
use Rattle.noting.proofs.changed.add_mets.Goals as goal

pub add_met-met-requires : goal.add_met-met-requires
add_met-met-requires c =
    (omega (arith, c.requires.0), met_base c.args.v c.requires.1)

pub add_met-met_1-requires : goal.add_met-met_1-requires
add_met-met_1-requires c = (
  omega (arith, c.add_met-met.ensures.1, c.add_met-met.auto.odd, c.requires.0),
  c.requires.1 1 (omega arith),
)

pub add_met-requires : goal.add_met-requires
add_met-requires c = (
  omega (
    arith,
    c.add_met-met_1.ensures.1,
    c.add_met-met_1.auto.odd,
    c.add_met-met.ensures.1,
    c.requires.0,
  ),
  c.requires.1 2 (omega arith),
)

pub returns : goal.returns
returns c = (
  one_by_one c.args.links.now c.args.generations.now c.args.v
      (joins_then (joins_then c.add_met-met.ensures.0 c.add_met-met_1.ensures.0)
      c.add_met.ensures.0),
  omega (arith, c.add_met-met.ensures.1, c.add_met-met_1.ensures.1, c.add_met.ensures.1),
  λ z. all_meet c.args.links.now c.args.generations.now c.args.v
      (c.add_met-met.ensures.2 (omega (arith, c.add_met-met_1.ensures.1, c.add_met.ensures.1)))
      (c.add_met-met_1.ensures.2 (omega (arith, c.add_met-met.ensures.1, c.add_met.ensures.1)))
      (c.add_met.ensures.2 (omega (arith, c.add_met-met.ensures.1, c.add_met-met_1.ensures.1))),
)
