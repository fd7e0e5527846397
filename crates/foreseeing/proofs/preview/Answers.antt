-- `foreseeing::preview` meets its contract.
use Rattle.refining.proofs.Batching.{list_made}
use Rattle.foreseeing.proofs.Foreseeing.{foreseen_is}
use Rattle.foreseeing.proofs.preview.Goals as goal

pub returns-clause-foreseen : goal.returns-clause-foreseen
returns-clause-foreseen c =
    foreseen_is c.args.counts c.work_in_spares-made.result c.foresee.ensures
    (list_made _ c.requires c.work_in_spares-made.ensures.worked.0)
