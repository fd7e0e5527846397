-- What the counts are after a step.
use Rattle.std.specs.Prelude.{◌+◌, ◌*◌}
use Rattle.tables.specs.declared.Counts.{Counts}

-- The counts after a step: a vertex more for each triangle, and three triangles in its place.
abbrev pub stepped : Counts → Counts
stepped n = record { vertices = n.vertices + n.triangles; triangles = 3 * n.triangles; rule = n.rule }
