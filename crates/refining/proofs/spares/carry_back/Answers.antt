-- `refining::spares::carry_back` meets its contract.
use Rattle.theory.proofs.Lists.Holding.{failed_is, copied_is}
use Rattle.refining.proofs.Batching.{slots_back}
use Rattle.refining.proofs.spares.carry_back.Goals as goal

pub returns-then-made-ne0-clause-carried : goal.returns-then-made-ne0-clause-carried
returns-then-made-ne0-clause-carried c p s M =
    failed_is _ M.done c.if-made-ne0.true

pub copy_mesh-requires : goal.copy_mesh-requires
copy_mesh-requires c =
    let (p, s, M) = c.requires in
    let (there, back) = slots_back c.args.counts _ M.sizes M.going M.done in
    record { own_slots = there; spare_slots = back }

pub returns-clause-carried : goal.returns-clause-carried
returns-clause-carried c p s M =
    copied_is M.sizes M.going (rw c.if-made-ne0.false at M.done) c.copy_mesh.ensures.copied
