-- `boxing::refine_box` meets its contract.
use mathlib.Core.Path.{sym, ap, ◌∙◌}
use Rattle.rules.specs.Spares.{Spares}
use Rattle.tables.specs.Lent.{held}
use Rattle.refining.specs.Batches.{batch_outcome}
use Rattle.boxing.proofs.Seen.{made_of}
use Rattle.boxing.proofs.refine_box.Goals as goal

pub carry_back-requires : goal.carry_back-requires
carry_back-requires c =
    (_, _, made_of _ _ c.view.ensures.same c.work_in_spares-made.result c.requires c.work_in_spares-made.ensures.boxed c.view-2.ensures.same)

pub returns-clause-boxed : goal.returns-clause-boxed
returns-clause-boxed c =
    ap (λ (s : Spares). batch_outcome c.carry_back.result (held c.carry_back.new.tables) s) (sym c.view-2.ensures.same)
    ∙ c.carry_back.ensures.carried _ _
    (made_of _ _ c.view.ensures.same c.work_in_spares-made.result c.requires c.work_in_spares-made.ensures.boxed c.view-2.ensures.same)
