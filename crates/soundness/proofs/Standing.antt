-- The first refusal of a mesh, found test by test.
use mathlib.Core.Bool.{Bool, true, false}
use mathlib.Core.Path.{◌≡◌, refl, sym, ◌∙◌}
use Rattle.rules.specs.Sound.{is_sound}
use Rattle.rules.specs.Tables.{Mesh, tables_agree}
use Rattle.tables.specs.Standing.{standing}

-- Each answer to the two tests, by a call's own answers r and q.
module _ (m : Mesh) (r : Bool) (a : r ≡ tables_agree m) where
  pub standing_one : r ≡ false → 1 ≡ standing m
  standing_one x = let e : tables_agree m ≡ false = sym a ∙ x in rw e refl

  module _ (q : Bool) (b : q ≡ is_sound m) (x : r ≡ true) where
    pub standing_seven : q ≡ false → 7 ≡ standing m
    standing_seven y =
        let e : tables_agree m ≡ true = sym a ∙ x in
        let f : is_sound m ≡ false = sym b ∙ y in
        rw (e, f) refl

    pub standing_none : q ≡ true → 0 ≡ standing m
    standing_none y =
        let e : tables_agree m ≡ true = sym a ∙ x in
        let f : is_sound m ≡ true = sym b ∙ y in
        rw (e, f) refl
