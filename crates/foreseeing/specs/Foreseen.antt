-- What a preview of a list answers.
use Rattle.std.specs.Prelude.{ℕ, zero, suc, []}
use Rattle.rules.specs.Calls.{Outcome, outcome_of, spare_room}
use Rattle.rules.specs.Lists.{spares_answer}
use Rattle.rules.specs.Spares.{Spares}
use Rattle.rules.specs.Tables.{Mesh, topology_of, with_topology}
use Rattle.tables.specs.Lent.{mesh_now}
use Rattle.tables.specs.declared.Counts.{Counts}
use Rattle.refining.specs.declared.spares.Batch.{Batch}
use Rattle.foreseeing.specs.declared.BatchForeseen.{BatchForeseen}

-- The answer of a preview that is refused before the work.
abbrev pub refused_foreseen : ℕ → Counts → BatchForeseen
refused_foreseen n counts = record {
  refusal = n;
  splits = 0;
  flips = 0;
  foreseen_vertices = counts.vertices;
  foreseen_triangles = counts.triangles;
  handled = 0;
  spares = record { vertices = 0; triangles = 0; rule = 0 };
}

-- What is foreseen where the work r was made of a mesh with these counts.
abbrev pub foreseen_if : ℕ → Counts → Batch → BatchForeseen
foreseen_if zero counts r = record {
  refusal = 0;
  splits = r.splits;
  flips = r.flips;
  foreseen_vertices = r.counts.vertices;
  foreseen_triangles = r.counts.triangles;
  handled = r.handled;
  spares = r.counts;
}
foreseen_if (suc n) counts r = record {
  refusal = suc n;
  splits = 0;
  flips = 0;
  foreseen_vertices = counts.vertices;
  foreseen_triangles = counts.triangles;
  handled = r.handled;
  spares = r.counts;
}

abbrev pub foreseen_of : Counts → Batch → BatchForeseen
foreseen_of counts r = foreseen_if r.refusal counts r

-- The outcome of a preview of m.
abbrev pub foreseen_outcome : BatchForeseen → Mesh → Spares → Outcome
foreseen_outcome a m s =
    let n = topology_of a.foreseen_vertices a.foreseen_triangles [] [] [] in
    outcome_of (spares_answer a.refusal a.splits a.flips (with_topology n m) a.handled
    (mesh_now a.spares [] [] [] [] [])) m (spare_room s)
