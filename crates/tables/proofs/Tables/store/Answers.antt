-- `tables::Tables::store` meets its contract.
use mathlib.Core.Path.{refl}
use Rattle.tables.proofs.Tables.store.Goals as goal

pub returns-clause-stored : goal.returns-clause-stored
returns-clause-stored c n = rw (c.store_three.ensures 0, c.store_three-2.ensures 0) refl
