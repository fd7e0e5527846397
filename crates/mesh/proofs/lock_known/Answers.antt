-- `mesh::lock_known` meets its contract.
use mathlib.Core.Path.{refl}
use Rattle.tables.proofs.Refusing.{number_some}
use Rattle.mesh.proofs.Refusing.{lock_refused, lock_carried, lock_room}
use Rattle.mesh.proofs.lock_known.Goals as goal

pub returns-in-Err : goal.returns-in-Err
returns-in-Err c =
    rw c.refused.ensures (lock_refused _ _ _ _ (c.in-Err.ensures _ c.requires) (number_some c.in-Err.refusal))

pub bounds-locks-t : goal.bounds-locks-t
bounds-locks-t c = lock_room c.args.on _ _ _ (c.in_default.ensures _ c.requires) refl

pub returns : goal.returns
returns c = rw (c.into.ensures, c.done.ensures) (lock_carried _ _ _ _ (c.in_default.ensures _ c.requires) refl)
