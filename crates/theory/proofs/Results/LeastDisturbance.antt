-- What is proved of least disturbance. (Request k)
use mathlib.Core.Path.{◌≡◌}
use mathlib.Core.List.{List}
use Prim.Native.Nat.{ℕ, ◌≤◌, ◌<◌}
use lib.ListN.{length}
use Rattle.theory.proofs.Calls.Outcomes.{refine_is_least}
use Rattle.theory.proofs.Chains.Least.{run_least}
use Rattle.rules.specs.Calls.{refine_call, splits_of}
use Rattle.rules.specs.Conditions.{Risen}
use Rattle.rules.specs.Runs.{MayRun, ran, LeastDisturbance}
use Rattle.rules.specs.Sound.{Sound}
use Rattle.rules.specs.Split.{at_first}
use Rattle.rules.specs.Tables.{Mesh}

-- From a sound mesh no run of splits, each with its flips, after which t has risen has fewer splits than refining t
-- takes. Locks are left aside: a run may alter locked triangles, so that the bound holds for those that do not. So are
-- 9 and 11: each split of a run has its slots and is of no triangle that 9 refuses, and where the refine of t is
-- refused, the bound is what it would take.
pub least_splits : (t : ℕ) (m : Mesh) → Sound m → t < m.topology.triangles
    → (run : List ℕ) → MayRun run (at_first m) → Risen m t (ran run (at_first m)).mesh
    → splits_of m.topology t ≤ length run
least_splits = run_least

-- Refining t, where it is carried out, is such a run, with exactly as many splits as it answers; no run that raises t
-- has fewer.
pub refine_least : (t : ℕ) (m : Mesh) → (refine_call t m).answer.refusal ≡ 0 → LeastDisturbance t m (refine_call t m)
refine_least = refine_is_least
