-- Tables that are lent on stay the same tables.
use mathlib.Core.Path.{refl, ◌∙◌}
use Rattle.tables.specs.declared.Tables.{Tables}
use Rattle.tables.specs.Lent.{SameTables}

pub same_at_first : (a : Tables) → SameTables a a
same_at_first a = record {
  sizes = record { positions = refl; corners = refl; links = refl; generations = refl; locks = refl };
  positions = refl;
  corners = refl;
  links = refl;
  generations = refl;
  locks = refl;
}

pub same_on : {a b c : Tables} → SameTables a b → SameTables b c → SameTables a c
same_on S T = record {
  sizes = record {
    positions = S.sizes.positions ∙ T.sizes.positions;
    corners = S.sizes.corners ∙ T.sizes.corners;
    links = S.sizes.links ∙ T.sizes.links;
    generations = S.sizes.generations ∙ T.sizes.generations;
    locks = S.sizes.locks ∙ T.sizes.locks;
  };
  positions = S.positions ∙ T.positions;
  corners = S.corners ∙ T.corners;
  links = S.links ∙ T.links;
  generations = S.generations ∙ T.generations;
  locks = S.locks ∙ T.locks;
}
