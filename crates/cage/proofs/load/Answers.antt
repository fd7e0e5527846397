-- `cage::load` meets its contract.
use native.Mathlib.Omega.{arith}
use mathlib.Core.Path.{refl, sym}
use Rattle.theory.proofs.Calls.Carried.{load_found}
use Rattle.theory.proofs.Loads.LoadTests.{load_refused, load_carried}
use Rattle.tables.proofs.Refusing.{number_some}
use Rattle.cage.proofs.Sizes.{sized}
use Rattle.cage.proofs.Written.{written}
use Rattle.cage.proofs.load.Goals as goal

pub returns-in-Err-clause-loaded : goal.returns-in-Err-clause-loaded
returns-in-Err-clause-loaded c =
    let sides = c.in-Err.ensures.sides in
    let same = sides.left.refused (number_some c.in-Err.refusal) in
    rw (c.refused.ensures, sides.positions, same.0, same.1, sides.generations, sides.locks)
    (load_refused _ _ _ (c.in-Err.ensures.value c.args.counts) (number_some c.in-Err.refusal))

pub number_at-v-requires : goal.number_at-v-requires
number_at-v-requires c =
    let found = load_found _ _ _ (sym (c.in_default.ensures.value c.args.counts)) in
    omega (arith, found.sizes.header)

pub number_at-f-requires : goal.number_at-f-requires
number_at-f-requires c =
    let found = load_found _ _ _ (sym (c.in_default.ensures.value c.args.counts)) in
    omega (arith, found.sizes.header)

pub place-requires : goal.place-requires
place-requires c =
    let found = load_found _ _ _ (sym (c.in_default.ensures.value c.args.counts)) in
    let sizes = sized c.number_at-v.ensures c.number_at-f.ensures found.agree found.sizes in
    record {
      coordinates_in_cage = omega (arith, sizes.size);
      position_room =
          omega (arith, found.sizes.vertex_room, sizes.vertices, c.load_sides.ensures.lent.sizes.positions);
    }

pub clear-requires : goal.clear-requires
clear-requires c =
    let found = load_found _ _ _ (sym (c.in_default.ensures.value c.args.counts)) in
    let sizes = sized c.number_at-v.ensures c.number_at-f.ensures found.agree found.sizes in
    omega (arith, found.sizes.triangle_room, sizes.triangles, c.load_sides.ensures.lent.sizes.generations)

pub clear-requires-2 : goal.clear-requires-2
clear-requires-2 c =
    let found = load_found _ _ _ (sym (c.in_default.ensures.value c.args.counts)) in
    let sizes = sized c.number_at-v.ensures c.number_at-f.ensures found.agree found.sizes in
    omega (arith, found.agree.locks, found.sizes.triangle_room, sizes.triangles, c.load_sides.ensures.lent.sizes.locks)

pub returns-clause-loaded : goal.returns-clause-loaded
returns-clause-loaded c =
    let sides = c.in_default.ensures.sides in
    rw c.done.ensures
    (load_carried _ _ _ (c.in_default.ensures.value c.args.counts)
    (written _ _ _ _ _ _ _ _ refl c.number_at-v.ensures c.number_at-f.ensures sides.left
    (rw sides.positions at c.place.ensures) (rw sides.generations at c.clear.ensures)
    (rw sides.locks at c.clear-2.ensures)))
