-- Work in spare tables, by lists and by boxes.
use Rattle.std.specs.Prelude.{ℕ, zero, suc, ◌+◌, ◌*◌, Bool, true, false, List, [], ◌≡◌, ltb, length}
use Rattle.theory.proofs.Chains.Going.{Going}
use Rattle.theory.proofs.Lists.Holding.{Done}
use Rattle.theory.proofs.Spares.OverSpares.{over}
use Rattle.rules.specs.Calls.{Outcome, outcome_of, spare_room}
use Rattle.rules.specs.Lists.{Progress, refine_each, spares_answer, all_or_nothing}
use Rattle.rules.specs.Reports.{report_in, reported_as}
use Rattle.rules.specs.Sound.{Sound}
use Rattle.rules.specs.Spares.{Spares, SameSizes}
use Rattle.rules.specs.Tables.{Mesh}
use Rattle.tables.specs.Lent.{mesh_with, mesh_now}
use Rattle.tables.specs.declared.Counts.{Counts}
use Rattle.tables.specs.Standing.{standing}
use Rattle.refining.specs.declared.spares.Batch.{Batch}
use Rattle.refining.specs.declared.spares.BatchWorked.{BatchWorked}

-- The mesh at the call's start has so many triangles and these generations.
pub record StartsWith (f : ℕ) (g : List ℕ) (m : Mesh) : Type 0 where
  pub triangles : f ≡ m.topology.triangles
  pub generations : g ≡ m.topology.generations

-- The mesh m, whose generations are g, is copied into the tables s, and that is x.
pub record Begins (m : Mesh) (s : Spares) (g : List ℕ) (x : Mesh) : Type 0 where
  pub sound : Sound m
  pub sizes : SameSizes s m
  pub generations : g ≡ m.topology.generations
  pub tables : x ≡ over s m

-- The answer, and the mesh x in what were the tables s, are what the work p is.
abbrev pub Holds : Progress → Spares → Batch → Mesh → Type 0
Holds p s r x = Done p s r.refusal r.handled r.splits r.flips x

-- They are what the list makes of m.
abbrev pub Handles : List ℕ → Mesh → Spares → Batch → Mesh → Type 0
Handles list m s r x = Holds (refine_each list m) s r x

-- Refines made the work p of m in what were the tables s, which hold x.
pub record Made (p : Progress) (s : Spares) (m : Mesh) (r : Batch) (x : Mesh) : Type 0 where
  pub sizes : SameSizes s m
  pub going : Going m p.work
  pub done : Holds p s r x

-- Work may begin: the mesh is not refused, and the spare tables are as long as its own.
pub record MayWork (m : Mesh) (s : Spares) : Type 0 where
  pub stands : 0 ≡ standing m
  pub sizes : SameSizes s m

-- What comes of a list where neither the mesh nor the spare tables are refused.
abbrev pub list_done : List ℕ → Mesh → Spares → Outcome
list_done list m s = all_or_nothing (refine_each list m).refusal (refine_each list m) s m

-- The outcome of a call that works in spare tables and may change the mesh.
abbrev pub batch_outcome : BatchWorked → Spares → Spares → Outcome
batch_outcome a t s =
    let m = mesh_with a.counts t in
    let n = mesh_now a.spares [] [] [] [] [] in
    outcome_of (spares_answer a.refusal a.splits a.flips m a.handled n) m (spare_room s)

-- The answer of such a call that is refused before the work.
abbrev pub refused_batch : ℕ → Counts → BatchWorked
refused_batch n counts = record {
  refusal = n;
  splits = 0;
  flips = 0;
  counts = counts;
  handled = 0;
  spares = record { vertices = 0; triangles = 0; rule = 0 };
}

-- An outcome of which the mesh m is only read.
abbrev pub only_read : Mesh → Outcome → Outcome
only_read m o = outcome_of o.answer m o.room

-- ---- with a report

-- The work p, refused with 23 where it is not refused and a report of so many entries is too short.
abbrev pub fitted_if : ℕ → Bool → Progress → Progress
fitted_if (suc n) short p = p
fitted_if zero true p = record { work = p.work; handled = p.handled; refusal = 23 }
fitted_if zero false p = p

abbrev pub fitted : Progress → List ℕ → Progress
fitted p report = fitted_if p.refusal (ltb (length report) (length p.work.report)) p

-- The same of what was answered.
abbrev pub fit_if : ℕ → Bool → Batch → Batch
fit_if (suc n) short r = r
fit_if zero true r = record {
  refusal = 23;
  splits = r.splits;
  flips = r.flips;
  handled = r.handled;
  counts = r.counts;
}
fit_if zero false r = r

abbrev pub fit_in : ℕ → Batch → Batch
fit_in entries r = fit_if r.refusal (ltb entries (3 * r.splits + 2 * r.flips)) r

-- What is left of a buffer: the report l, unless the work is refused.
abbrev pub left_unless : ℕ → List ℕ → List ℕ → List ℕ
left_unless zero l buffer = report_in l buffer
left_unless (suc n) l buffer = buffer

abbrev pub report_left : Progress → List ℕ → List ℕ
report_left p buffer = left_unless (fitted p buffer).refusal p.work.report buffer

-- What comes of the work p with a buffer for its report, where neither the mesh nor the spare tables are refused.
abbrev pub reported_done : Progress → List ℕ → Mesh → Spares → Outcome
reported_done p buffer m s =
    reported_as p.refusal p.work.report buffer (all_or_nothing p.refusal p s m) (all_or_nothing 23 p s m)
