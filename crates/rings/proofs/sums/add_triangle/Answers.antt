-- `rings::sums::add_triangle` meets its contract.
use mathlib.Core.Path.{sym, subst}
use lib.Dec.{T}
use Rattle.rings.proofs.sums.Sides.{first_fits, first_done, second_fits, second_done}
use Rattle.rings.proofs.sums.Sides.{third_fits, third_done}
use Rattle.rings.proofs.sums.add_triangle.Goals as goal

pub add_side-requires : goal.add_side-requires
add_side-requires c =
    first_fits c.requires.0 c.args.t c.requires.1 c.requires.2

pub returns-then-not-add_side : goal.returns-then-not-add_side
returns-then-not-add_side c =
    let one = first_done c.requires.0 c.args.t c.requires.1 c.requires.2 c.add_side.ensures in
    record { whole = λ e. absurd (subst T (sym e) tt); crowded = λ _. one.crowded c.if-not-add_side.true }

pub add_side-requires-2 : goal.add_side-requires-2
add_side-requires-2 c =
    let one = first_done c.requires.0 c.args.t c.requires.1 c.requires.2 c.add_side.ensures in
    second_fits c.requires.0 c.args.t c.requires.1 (one.whole c.if-not-add_side.false)

pub returns-then-not-add_side-2 : goal.returns-then-not-add_side-2
returns-then-not-add_side-2 c =
    let one = first_done c.requires.0 c.args.t c.requires.1 c.requires.2 c.add_side.ensures in
    let S = one.whole c.if-not-add_side.false in
    let two = second_done c.requires.0 c.args.t c.requires.1 S c.add_side-2.ensures in
    record { whole = λ e. absurd (subst T (sym e) tt); crowded = λ _. two.crowded c.if-not-add_side-2.true }

pub add_side-requires-3 : goal.add_side-requires-3
add_side-requires-3 c =
    let one = first_done c.requires.0 c.args.t c.requires.1 c.requires.2 c.add_side.ensures in
    let S = one.whole c.if-not-add_side.false in
    let two = second_done c.requires.0 c.args.t c.requires.1 S c.add_side-2.ensures in
    third_fits c.requires.0 c.args.t c.requires.1 (two.whole c.if-not-add_side-2.false)

pub returns : goal.returns
returns c =
    let one = first_done c.requires.0 c.args.t c.requires.1 c.requires.2 c.add_side.ensures in
    let S = one.whole c.if-not-add_side.false in
    let two = second_done c.requires.0 c.args.t c.requires.1 S c.add_side-2.ensures in
    third_done c.requires.0 c.args.t c.requires.1 (two.whole c.if-not-add_side-2.false) c.add_side-3.ensures
