-- `boxing::work_in_spares` meets its contract.
use native.Mathlib.Omega.{arith}
use Rattle.refining.proofs.Batching.{slots_there, may_begin}
use Rattle.wanting.proofs.Begins.{begins_sound}
use Rattle.boxing.proofs.work_in_spares.Goals as goal

pub copy_mesh-requires : goal.copy_mesh-requires
copy_mesh-requires c =
    let (there, spare) = slots_there c.args.counts c.requires in
    record { own_slots = there; spare_slots = spare }

pub refine_within-requires-clause-begins : goal.refine_within-requires-clause-begins
refine_within-requires-clause-begins c = (_, _, may_begin c.requires c.copy_mesh.ensures.copied)

pub returns-then-spares-le6144-clause-boxed : goal.returns-then-spares-le6144-clause-boxed
returns-then-spares-le6144-clause-boxed c =
    (c.refine_within.ensures.boxed _ _ (may_begin c.requires c.copy_mesh.ensures.copied)).0

pub returns-then-spares-le6144-clause-told : goal.returns-then-spares-le6144-clause-told
returns-then-spares-le6144-clause-told c =
    (c.refine_within.ensures.boxed _ _ (may_begin c.requires c.copy_mesh.ensures.copied)).1

pub refine_within-requires-2-clause-begins : goal.refine_within-requires-2-clause-begins
refine_within-requires-2-clause-begins c = (_, _, may_begin c.requires c.copy_mesh.ensures.copied)

pub refine_within-requires-2-clause-vertices : goal.refine_within-requires-2-clause-vertices
refine_within-requires-2-clause-vertices c =
    omega (arith, (begins_sound (may_begin c.requires c.copy_mesh.ensures.copied)).tables.few_vertices)

pub refine_within-requires-2-clause-triangles : goal.refine_within-requires-2-clause-triangles
refine_within-requires-2-clause-triangles c =
    omega (arith, (begins_sound (may_begin c.requires c.copy_mesh.ensures.copied)).tables.few_triangles)

pub returns-clause-boxed : goal.returns-clause-boxed
returns-clause-boxed c = (c.refine_within-2.ensures.boxed _ _ (may_begin c.requires c.copy_mesh.ensures.copied)).0

pub returns-clause-told : goal.returns-clause-told
returns-clause-told c = (c.refine_within-2.ensures.boxed _ _ (may_begin c.requires c.copy_mesh.ensures.copied)).1
