-- `split::face_cut` meets its contract.
use native.Mathlib.Omega.{arith}
use mathlib.Core.Path.{ap, ◌∙◌}
use Rattle.rules.specs.Split.{Work, new_unlocked}
use Rattle.tables.specs.Lent.{held}
use Rattle.split.specs.Made.{counts_of, work_now}
use Rattle.split.proofs.Bounds.{face_hands}
use Rattle.split.proofs.Steps.{face_cut_steps}
use Rattle.split.proofs.face_cut.Goals as goal

pub children-three-requires : goal.children-three-requires
children-three-requires c =
    let n = counts_of 0 c.args.work in
    omega (arith, c.requires, ap (λ x. x.generation) (c.triangle_at-x.ensures n))

pub replace-requires : goal.replace-requires
replace-requires c =
    omega (arith, c.requires, c.store_point.auto)

pub unlock_two-requires : goal.unlock_two-requires
unlock_two-requires c =
    omega (arith, c.requires, c.replace.ensures.rest)

pub returns-clause-cut : goal.returns-clause-cut
returns-clause-cut c rule report =
    let n = counts_of rule c.args.work in
    let w : Work =
    work_now rule report c.args.work (held c.args.tables.now) in (
      _,
      face_hands _ w _ c.requires.0.2.young
          (face_cut_steps _ w _ _ _ _ _ _
          (c.third_of-centre.ensures n)
          (c.replace.ensures.rest.positions ∙ c.store_point.ensures) (c.triangle_at-x.ensures n) c.children-three.ensures
          (c.replace.ensures.replaced n) (c.unlock_two.ensures ∙ ap (new_unlocked c.args.work.triangles) c.replace.ensures.rest.locks)) c.requires.1,
    )
