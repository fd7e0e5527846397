-- `noting::changed::add_met` meets its contract.
use native.Mathlib.Omega.{arith}
use Rattle.noting.proofs.Listing.{MeetsWhen, meets_told, joins_none, joins_as, joins_one}
use Rattle.noting.proofs.changed.add_met.Goals as goal

pub returns-then-not-is_base : goal.returns-then-not-is_base
returns-then-not-is_base c =
    let told : MeetsWhen c.args.links.now c.args.generations.now c.args.h c.is_base.result = meets_told c.args.links.now c.args.generations.now c.args.h
    (c.is_base.ensures (record { vertices = 0; triangles = 0; rule = 0 }) c.args.links.now c.args.links.now) in
    let n = told.none c.if-not-is_base.true in
    (joins_none (λ y z. n z.0), omega arith, λ z. absurd (omega arith))

pub returns : goal.returns
returns c =
    let told : MeetsWhen c.args.links.now c.args.generations.now c.args.h c.is_base.result = meets_told c.args.links.now c.args.generations.now c.args.h
    (c.is_base.ensures (record { vertices = 0; triangles = 0; rule = 0 }) c.args.links.now c.args.links.now) in
    let M = told.meets c.if-not-is_base.false in (
      joins_as (λ y N. (M, N)) (λ y z. z.1)
          (joins_one c.args.links.now c.args.odd.now c.args.n _ c.requires.0
          (omega (arith, c.type_inv.links c.args.h)) (c.requires.1.first M)),
      omega arith,
      λ z. M,
    )
