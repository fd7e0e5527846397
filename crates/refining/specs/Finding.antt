-- What a refine finds before its work.
use Rattle.std.specs.Prelude.{ℕ, List, ◌≡◌, Result, IfOk}
use Rattle.theory.proofs.Calls.Carried.{RefineFound}
use Rattle.rules.specs.Calls.{refine_refusal}
use Rattle.rules.specs.Spares.{Spares}
use Rattle.rules.specs.Tables.{Mesh}
use Rattle.split.specs.Made.{BaseChain}
use Rattle.split.specs.declared.Chain.{Chain}
use Rattle.tables.specs.Lent.{mesh_now}
use Rattle.tables.specs.Refusals.{refused}
use Rattle.tables.specs.declared.Counts.{Counts}
use Rattle.tables.specs.declared.refusals.Refusal.{Refusal}
use Rattle.refining.specs.declared.Reported.{Reported}

-- The mesh in these tables, with corners that are not in them.
abbrev pub mesh_cornered : Counts → List ℕ → Spares → Mesh
mesh_cornered n corners s = mesh_now n s.positions corners s.links s.generations s.locks

-- The base chain of t where nothing refuses its refine, or the refusal.
abbrev pub Finds : ℕ → Mesh → Result Chain Refusal → Type 0
Finds t m r = (refused r ≡ refine_refusal t m) × IfOk r (BaseChain m.topology t)

-- The refine of t is carried out, along this base chain.
pub record Goes (t : ℕ) (m : Mesh) (c : Chain) : Type 0 where
  pub found : RefineFound t m
  pub chain : BaseChain m.topology t c

-- The answer of a refine with a report that is refused.
abbrev pub refused_report : ℕ → Counts → Reported
refused_report n counts = record { worked = record { refusal = n; splits = 0; flips = 0; counts = counts }; reported = 0 }
