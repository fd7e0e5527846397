-- `listing::work_in_spares` meets its contract.
use Rattle.refining.proofs.Batching.{slots_there, may_begin}
use Rattle.listing.proofs.work_in_spares.Goals as goal

pub copy_mesh-requires : goal.copy_mesh-requires
copy_mesh-requires c =
    let (own, spare) = slots_there c.args.counts c.requires in
    record { own_slots = own; spare_slots = spare }

pub handle_all-requires : goal.handle_all-requires
handle_all-requires c = (_, _, may_begin c.requires c.copy_mesh.ensures.copied)

pub returns-clause-worked : goal.returns-clause-worked
returns-clause-worked c = c.handle_all.ensures.handled _ _ (may_begin c.requires c.copy_mesh.ensures.copied)
