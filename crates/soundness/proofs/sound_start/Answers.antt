-- `soundness::sound_start` meets its contract: its parts are those of the test of the rules.
use native.Mathlib.Omega.{arith}
use mathlib.Core.Path.{sym, ◌∙◌}
use Rattle.theory.proofs.Numbers.Decide.{when_true}
use Rattle.theory.proofs.Soundness.SoundTest.{tables_agree_is}
use Rattle.rules.specs.Tables.{Mesh, TablesAgree}
use Rattle.tables.specs.Lent.{seen, mesh_with}
use Rattle.soundness.proofs.Parts.{CountsFit, counts_are}
use Rattle.soundness.proofs.Parts.{room}
use Rattle.soundness.proofs.sound_start.Goals as goal

pub locks_fit-requires : goal.locks_fit-requires
locks_fit-requires c =
    let m : Mesh = mesh_with c.args.counts (seen c.args.view.now) in
    let A : TablesAgree m = when_true (tables_agree_is m) (sym (c.tables_agree.ensures c.args.counts) ∙ c.if-not-tables_agree.false) in
    let C : CountsFit m = when_true (counts_are m) (sym c.counts_fit.ensures ∙ c.if-not-counts_fit.false) in
    omega (arith, A.locks, C.triangle_room)

pub start-requires : goal.start-requires
start-requires c =
    let m : Mesh = mesh_with c.args.counts (seen c.args.view.now) in
    let A : TablesAgree m = when_true (tables_agree_is m) (sym (c.tables_agree.ensures c.args.counts) ∙ c.if-not-tables_agree.false) in
    let C : CountsFit m = when_true (counts_are m) (sym c.counts_fit.ensures ∙ c.if-not-counts_fit.false) in
    (room m A C, omega (arith, A.few_vertices, C.vertex_room))
