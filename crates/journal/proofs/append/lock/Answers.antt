-- `journal::append::lock` meets its contract.
use Rattle.journal.proofs.Appending.{bytes_one}
use Rattle.journal.proofs.append.lock.Goals as goal
use Rattle.journal.proofs.append.lock.Goals.{then-on, else-on}

pub returns : goal.returns
returns c =
    let written = rw bytes_one at c.numbers.ensures in
    elim c.if-on.branch [
      | then-on w ↦ rw w.if-on.true (rw w.kind-is at written)
      | else-on w ↦ rw w.if-on.false (rw w.kind-is at written)
    ]
