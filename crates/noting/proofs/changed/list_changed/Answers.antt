-- `noting::changed::list_changed` meets its contract.
use Prim.Native.Nat.{◌-◌, ◌≤◌}
use mathlib.Core.List.{[]}
use lib.ListN.{length, take}
use mathlib.Core.Path.{sym}
use native.Mathlib.Omega.{arith}
use Rattle.noting.specs.Changed.{NearMets, NearOne, Joins}
use Rattle.noting.specs.Rising.{Adds}
use Rattle.noting.proofs.Inserting.{adds_then}
use Rattle.noting.proofs.Listing.{end_alone, all_listed, end_slot, end_entries, met_entries, place_entries}
use Rattle.noting.proofs.Listing.{few_places, front_size, front_near, front_sides}
use Rattle.noting.proofs.changed.list_changed.Goals.{After-add_mets-n, After-list_all-near}
use Rattle.noting.proofs.changed.list_changed.Goals as goal

few : (c : After-add_mets-n) → c.add_mets-n.result ≤ 13
few c =
    let (t, n, p, k, l, G) = c.requires.1 in
    omega (arith, c.add_mets-n.ensures.1, c.saturating_sub-before.ensures, few_places G)

inside : (c : After-add_mets-n) → c.add_mets-n.result ≤ length c.add_mets-n.new.odd
inside c = omega (arith, few c, c.add_mets-n.auto.odd)

few_listed : (c : After-add_mets-n) → length (take c.add_mets-n.result c.add_mets-n.new.odd) ≤ 13
few_listed c = omega (arith, front_size [] c.add_mets-n.new.odd c.add_mets-n.result (inside c), few c)

joined : (c : After-add_mets-n) →
    Joins c.args.view.now.links.now c.args.chain.slots (c.args.chain.odd - 1)
    (NearMets c.args.view.now.links.now c.args.view.now.generations.now c.args.chain.end) c.add_mets-n.new.odd c.add_mets-n.result
joined c = rw c.saturating_sub-before.ensures at c.add_mets-n.ensures.0

pub add_mets-n-requires : goal.add_mets-n-requires
add_mets-n-requires c =
    let (t, n, p, k, l, G) = c.requires.1 in
    (omega (arith, few_places G, c.saturating_sub-before.ensures), met_entries G)

pub slice_bounds-odd-end : goal.slice_bounds-odd-end
slice_bounds-odd-end c = inside (goal.at.slice_bounds-odd-end c).After-add_mets-n

pub slice_bounds-list_all-end : goal.slice_bounds-list_all-end
slice_bounds-list_all-end c =
    sym (front_size [] c.add_mets-n.new.odd c.add_mets-n.result
    (inside (goal.at.slice_bounds-list_all-end c).After-add_mets-n))

pub list_all-near-requires : goal.list_all-near-requires
list_all-near-requires c =
    let start = (goal.at.list_all-near-requires c).After-add_mets-n in
    let (t, n, p, k, l, G) = c.requires.1 in (
      c.requires.0,
      omega (arith, few_listed start),
      front_sides c.args.view.now.links.now c.add_mets-n.new.odd c.add_mets-n.result (inside start)
          ((joined start).sides (λ i b. place_entries G i (omega arith))),
    )

pub insert-own-requires : goal.insert-own-requires
insert-own-requires c =
    let start = (goal.at.insert-own-requires c).After-add_mets-n in
    let (t, n, p, k, l, G) = c.requires.1 in
    (c.list_all-near.ensures.0.rises, omega (arith, few_listed start, c.list_all-near.ensures.1), end_slot G)

near : (c : After-list_all-near) → c.add_mets-n.result ≤ length c.add_mets-n.new.odd →
    Adds c.args.slots.now 32 (NearOne c.args.view.now.links.now c.add_mets-n.new.odd c.add_mets-n.result)
    c.list_all-near.new.slots c.list_all-near.result
near c i = front_near c.args.view.now.links.now c.add_mets-n.new.odd c.add_mets-n.result i c.list_all-near.ensures.0

pub returns-then-n-before : goal.returns-then-n-before
returns-then-n-before c =
    let start = (goal.at.returns-then-n-before c).After-add_mets-n in
    let listed = near (goal.at.returns-then-n-before c).After-list_all-near (inside start) in
    let alone = end_alone c.args.view.now.links.now c.args.view.now.generations.now c.args.chain.end
    (c.add_mets-n.ensures.2 c.if-n-before.true) c.insert-own.ensures.0 in (
      c.insert-own.ensures.0.rises.within,
      λ t n p k l G. all_listed G (joined start) (adds_then listed alone),
    )

pub list_beside-requires : goal.list_beside-requires
list_beside-requires c =
    let start = (goal.at.list_beside-requires c).After-add_mets-n in
    let (t, n, p, k, l, G) = c.requires.1 in (
      c.insert-own.ensures.0.rises,
      omega (arith, c.insert-own.ensures.1, few_listed start, c.list_all-near.ensures.1),
      end_entries G,
    )

pub returns : goal.returns
returns c =
    let start = (goal.at.returns c).After-add_mets-n in
    let listed = near (goal.at.returns c).After-list_all-near (inside start) in
    let end = adds_then c.insert-own.ensures.0 c.list_beside.ensures in (
      c.list_beside.ensures.rises.within,
      λ t n p k l G. all_listed G (joined start) (adds_then listed end),
    )
