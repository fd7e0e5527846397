-- `undoing::take_back` meets its contract.
use borrow.Author.Rules.{rules}
use native.Mathlib.Omega.{arith}
use mathlib.Core.Path.{refl}
use Rattle.rules.specs.Spares.{Spares}
use Rattle.tables.specs.Lent.{spares_now}
use Rattle.tables.proofs.Refusing.{number_some}
use Rattle.undoing.proofs.TakingBack.{back_refused, may_put, back_carried, sound_room, put_restored}
use Rattle.undoing.proofs.take_back.Goals as goal

pub returns-in-Err : goal.returns-in-Err
returns-in-Err c = rw c.refused.ensures (back_refused _ _ _ c.in-Err.ensures (number_some c.in-Err.refusal))

pub put_back_all-requires-clause-note_fits : goal.put_back_all-requires-clause-note_fits
put_back_all-requires-clause-note_fits c = (may_put _ _ _ c.in_default.ensures refl).1

pub put_back_all-requires-clause-slot_room : goal.put_back_all-requires-clause-slot_room
put_back_all-requires-clause-slot_room c =
    let (sound, _, in_use) = may_put _ _ _ c.in_default.ensures refl in sound_room _ _ sound in_use

pub bounds-note-1 : goal.bounds-note-1
bounds-note-1 c = omega (arith, (may_put _ _ _ c.in_default.ensures refl).1.long)

pub bounds-note-2 : goal.bounds-note-2
bounds-note-2 c = omega (arith, (may_put _ _ _ c.in_default.ensures refl).1.long)

pub returns : goal.returns
returns c =
    let lent : Spares =
    spares_now c.args.positions.now c.args.corners.now c.args.links.now c.args.generations.now c.args.locks.now in
    let e =
    back_carried _ _ _ c.in_default.ensures refl
    (put_restored c.args.counts lent c.args.note.now (λ o. c.put_back_all.ensures.over o c.args.positions.now)) in
    rw c.done.ensures (search rules)
