-- `noting::changed::list_unmet` meets its contract.
use native.Mathlib.Omega.{arith}
use Rattle.noting.proofs.Inserting.{adds_none, adds_as}
use Rattle.noting.proofs.Listing.{MeetsWhen, meets_told}
use Rattle.noting.proofs.changed.list_unmet.Goals as goal

pub returns-then-across : goal.returns-then-across
returns-then-across c =
    (adds_none c.requires.0 (λ y z. z.0.0 c.if-across.true), omega arith)

pub returns-then-is_base : goal.returns-then-is_base
returns-then-is_base c =
    let told : MeetsWhen c.args.links.now c.args.generations.now c.args.h c.is_base.result = meets_told c.args.links.now c.args.generations.now c.args.h
    (c.is_base.ensures (record { vertices = 0; triangles = 0; rule = 0 }) c.args.links.now c.args.links.now) in
    let M = told.meets c.if-is_base.true in
    (adds_none c.requires.0 (λ y z. z.1 M), omega arith)

pub insert-requires : goal.insert-requires
insert-requires c = (
  c.requires.0,
  c.requires.1,
  omega (arith, c.type_inv.links c.args.h),
)

pub returns : goal.returns
returns c =
    let told : MeetsWhen c.args.links.now c.args.generations.now c.args.h c.is_base.result = meets_told c.args.links.now c.args.generations.now c.args.h
    (c.is_base.ensures (record { vertices = 0; triangles = 0; rule = 0 }) c.args.links.now c.args.links.now) in
    let o = told.none c.if-is_base.false in
    let (A, b) = c.insert.ensures in
    (adds_as (λ y e. ((c.if-across.false, e), o)) (λ y z. z.0.1) A, b)
