-- What the call of a record makes.
use Rattle.std.specs.Prelude.{ℕ, zero, suc, ◌≡◌, ◌≢◌, Result, Ok, Err, IfErr}
use Rattle.rules.specs.Calls.{Outcome}
use Rattle.rules.specs.Tables.{Mesh}
use Rattle.tables.specs.declared.Counts.{Counts}

-- What is told of a call that answered this refusal, or 0, and these counts.
abbrev pub told : ℕ → Counts → Result Counts ℕ
told zero counts = Ok counts
told (suc n) counts = Err (suc n)

-- The refusal, or 0; and the counts after a call on a mesh with the counts n: they stand where it is refused.
abbrev pub refusal_in : Result Counts ℕ → ℕ
refusal_in (Ok counts) = 0
refusal_in (Err refusal) = refusal

abbrev pub counts_after : Counts → Result Counts ℕ → Counts
counts_after n (Ok counts) = counts
counts_after n (Err refusal) = n

-- A call made: its refusal and the mesh that it leaves.
pub record Makes (o : Outcome) (r : Result Counts ℕ) (n : Mesh) : Type 0 where
  pub refusal : refusal_in r ≡ o.answer.refusal
  pub some : IfErr r (λ k. k ≢ 0)
  pub mesh : n ≡ o.mesh
