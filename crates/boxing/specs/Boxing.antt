-- Boxes worked in spare tables.
use Rattle.rules.specs.Boxes.{Box, refine_in_box}
use Rattle.rules.specs.Calls.{Outcome}
use Rattle.rules.specs.Lists.{all_or_nothing}
use Rattle.rules.specs.Spares.{Spares}
use Rattle.rules.specs.Tables.{Mesh}

-- What comes of a box where neither the mesh nor the spare tables are refused.
abbrev pub box_done : Box → Mesh → Spares → Outcome
box_done b m s = all_or_nothing (refine_in_box b m).refusal (refine_in_box b m) s m
