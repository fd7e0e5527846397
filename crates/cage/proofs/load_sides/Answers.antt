-- `cage::load_sides` meets its contract: conditions 1, 16 and 2 are decided here, the others in a room.
use native.Mathlib.Omega.{arith}
use mathlib.Core.Path.{refl, sym, ◌∙◌}
use Rattle.theory.proofs.Loads.LoadTests.{load_by_tests}
use Rattle.theory.proofs.Numbers.Decide.{when_true}
use Rattle.theory.proofs.Soundness.SoundTest.{known_rule_is}
use Rattle.tables.specs.declared.Counts.{Counts}
use Rattle.cage.proofs.Sizes.{agreeing, fitting, passed, sized}
use Rattle.cage.proofs.load_sides.Goals as goal

none : Counts
none = record { vertices = 0; triangles = 0; rule = 1 }

pub returns-then-not-tables_agree-clause-value : goal.returns-then-not-tables_agree-clause-value
returns-then-not-tables_agree-clause-value c n =
    load_by_tests _ _ _ (agreeing n c.view-view.ensures.same (c.tables_agree.ensures n) ∙ c.if-not-tables_agree.true)
    refl refl refl refl refl refl

pub returns-then-not-known_rule-clause-value : goal.returns-then-not-known_rule-clause-value
returns-then-not-known_rule-clause-value c n =
    load_by_tests _ _ _ (agreeing n c.view-view.ensures.same (c.tables_agree.ensures n) ∙ c.if-not-tables_agree.false)
    (sym c.known_rule.ensures ∙ c.if-not-known_rule.true) refl refl refl refl refl

pub returns-then-not-sizes_fit-clause-value : goal.returns-then-not-sizes_fit-clause-value
returns-then-not-sizes_fit-clause-value c n =
    load_by_tests _ _ _ (agreeing n c.view-view.ensures.same (c.tables_agree.ensures n) ∙ c.if-not-tables_agree.false)
    (sym c.known_rule.ensures ∙ c.if-not-known_rule.false)
    (fitting _ n c.view-view.ensures.same (c.sizes_fit.ensures n) ∙ c.if-not-sizes_fit.true)
    refl refl refl refl

pub number_at-v-requires : goal.number_at-v-requires
number_at-v-requires c =
    let (agree, fit) =
    passed _ none c.view-view.ensures.same (c.tables_agree.ensures none) c.if-not-tables_agree.false
    (c.sizes_fit.ensures none) c.if-not-sizes_fit.false in
    omega (arith, fit.header)

pub number_at-f-requires : goal.number_at-f-requires
number_at-f-requires c =
    let (agree, fit) =
    passed _ none c.view-view.ensures.same (c.tables_agree.ensures none) c.if-not-tables_agree.false
    (c.sizes_fit.ensures none) c.if-not-sizes_fit.false in
    omega (arith, fit.header)

pub load_in_room-requires : goal.load_in_room-requires
load_in_room-requires c =
    let (agree, fit) =
    passed _ none c.view-view.ensures.same (c.tables_agree.ensures none) c.if-not-tables_agree.false
    (c.sizes_fit.ensures none) c.if-not-sizes_fit.false in
    let sizes = sized c.number_at-v.ensures c.number_at-f.ensures agree fit in (
      sizes,
      (
        omega (arith, agree.corners, fit.triangle_room, sizes.triangles),
        omega (arith, agree.links, fit.triangle_room, sizes.triangles),
      ),
    )

pub returns-clause-value : goal.returns-clause-value
returns-clause-value c n =
    let (agree, fit) =
    passed _ n c.view-view.ensures.same (c.tables_agree.ensures n) c.if-not-tables_agree.false
    (c.sizes_fit.ensures n) c.if-not-sizes_fit.false in
    c.load_in_room.ensures.refuses _ _
    (when_true (known_rule_is _) (sym c.known_rule.ensures ∙ c.if-not-known_rule.false)) agree fit
