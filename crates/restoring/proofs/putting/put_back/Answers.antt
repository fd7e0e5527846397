-- `restoring::putting::put_back` meets its contract.
use mathlib.Core.Path.{refl}
use Rattle.tables.specs.Lent.{mesh_with, mesh_over, held}
use Rattle.restoring.proofs.SlotsBack.{one_put}
use Rattle.restoring.proofs.putting.put_back.Goals as goal

pub returns-clause-put : goal.returns-clause-put
returns-clause-put c n =
    rw (c.store.ensures.rest.positions, c.store.ensures.rest.locks)
    (one_put c.args.note.now c.args.i (mesh_with n (held c.args.tables.now)) c.triangle_of.ensures refl
    (c.store.ensures.stored n))

pub returns-clause-over : goal.returns-clause-over
returns-clause-over c n p =
    rw c.store.ensures.rest.locks
    (one_put c.args.note.now c.args.i (mesh_over n p (held c.args.tables.now)) c.triangle_of.ensures refl
    (c.store.ensures.stored n))
