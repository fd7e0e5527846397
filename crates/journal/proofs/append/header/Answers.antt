-- `journal::append::header` meets its contract.
use Rattle.journal.proofs.Appending.{no_header, header_written}
use Rattle.journal.proofs.append.header.Goals as goal

pub returns-then-buffer-lt20 : goal.returns-then-buffer-lt20
returns-then-buffer-lt20 c =
    no_header _ _ _ c.if-buffer-lt20.true

pub returns : goal.returns
returns c =
    header_written _ _ c.if-buffer-lt20.false c.put_sealed.ensures
