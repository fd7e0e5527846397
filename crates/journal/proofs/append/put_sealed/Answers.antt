-- `journal::append::put_sealed` meets its contract.
use native.Mathlib.Omega.{arith}
use mathlib.Core.Path.{refl}
use Rattle.journal.proofs.Numbers.{length_bytes}
use Rattle.journal.proofs.Appending.{seal_on}
use Rattle.journal.proofs.append.put_sealed.Goals as goal

pub returns : goal.returns
returns c =
    seal_on (rw length_bytes refl) (omega arith) c.put_numbers.ensures c.seal.ensures
