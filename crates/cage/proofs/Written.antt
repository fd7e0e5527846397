-- The mesh that a load leaves.
use mathlib.Core.Path.{◌≡◌}
use mathlib.Core.List.{List}
use Prim.Native.Nat.{ℕ, ◌+◌, ◌*◌}
use lib.IntN.{ℤ}
use Rattle.rules.specs.Below.{fill}
use Rattle.rules.specs.Cage.{cage_of, loaded}
use Rattle.rules.specs.Numbers.{number_at, signed}
use Rattle.rules.specs.Tables.{with_rule}
use Rattle.tables.specs.declared.Counts.{Counts}
use Rattle.tables.specs.Lent.{mesh_now}
use Rattle.judging.specs.Answers.{SidesLeft}

pub written : (bytes : List ℕ) (n : Counts) (positions : List ℤ) (corners links generations locks : List ℕ) (rule : ℕ)
    {r v f : ℕ} {positions' : List ℤ} {corners' links' generations' locks' : List ℕ} → r ≡ 0
    → v ≡ number_at bytes 0 → f ≡ number_at bytes 4
    → SidesLeft (cage_of bytes) r corners links corners' links'
    → positions' ≡ fill (3 * v) (λ i. signed (number_at bytes (8 + 4 * i))) positions
    → generations' ≡ fill f (λ i. 0) generations
    → locks' ≡ fill f (λ i. 0) locks
    → mesh_now (record { vertices = v; triangles = f; rule = rule }) positions' corners' links' generations' locks'
    ≡ with_rule rule (loaded (cage_of bytes) (mesh_now n positions corners links generations locks))
unfolding cage_of loaded
written bytes n positions corners links generations locks rule z e g L p q k =
    let W = L.written z in
    rw (W.0, W.1, p, q, k, e, g, loaded)
