-- `listing::refine_list` meets its contract.
use Rattle.rules.specs.Lists.{refine_each}
use Rattle.tables.specs.Lent.{mesh_with, held, seen}
use Rattle.refining.specs.Batches.{Made}
use Rattle.listing.proofs.Seen.{made_seen}
use Rattle.listing.proofs.refine_list.Goals.{After-view-2}
use Rattle.listing.proofs.refine_list.Goals as goal

made : (c : After-view-2) →
    let m = mesh_with c.args.counts (held c.args.tables.now) in
    Made (refine_each c.args.list.now m) (held c.args.spares.now) m c.work_in_spares-made.result
    (mesh_with c.work_in_spares-made.result.counts (seen c.view-2.result))
made c =
    made_seen c.args.list.now c.args.counts c.work_in_spares-made.result c.view.ensures.same c.view-2.ensures.same
    c.requires c.work_in_spares-made.ensures.worked.0

pub carry_back-requires : goal.carry_back-requires
carry_back-requires c = (_, _, made (goal.at.carry_back-requires c).After-view-2)

pub returns-clause-refined : goal.returns-clause-refined
returns-clause-refined c =
    rw c.view-2.ensures.same at
    (c.carry_back.ensures.carried _ _ (made (goal.at.returns-clause-refined c).After-view-2))
