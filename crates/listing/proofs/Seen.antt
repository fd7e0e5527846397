-- Work on what a view sees, carried back from what a view sees of the spare tables.
use mathlib.Core.List.{List}
use mathlib.Core.Path.{◌≡◌}
use Prim.Native.Nat.{ℕ}
use Rattle.rules.specs.Lists.{refine_each}
use Rattle.rules.specs.Spares.{Spares}
use Rattle.tables.specs.declared.Counts.{Counts}
use Rattle.tables.specs.Lent.{mesh_with}
use Rattle.refining.specs.declared.spares.Batch.{Batch}
use Rattle.refining.specs.Batches.{Handles, Holds, Made, MayWork, fitted}
use Rattle.refining.proofs.Batching.{list_going, list_made}
use Rattle.refining.proofs.Fitting.{fitted_made}

module _ (list : List ℕ) (n : Counts) {v x y z s : Spares} (r : Batch) (p : v ≡ x) (q : y ≡ z)
    (W : MayWork (mesh_with n x) s) where
  pub made_seen : Handles list (mesh_with n v) s r (mesh_with r.counts z)
      → Made (refine_each list (mesh_with n x)) s (mesh_with n x) r (mesh_with r.counts y)
  made_seen D = list_made list W (rw (← p, q) D)

  pub fitted_seen : (buffer : List ℕ)
      → Holds (fitted (refine_each list (mesh_with n v)) buffer) s r (mesh_with r.counts z)
      → Made (fitted (refine_each list (mesh_with n x)) buffer) s (mesh_with n x) r (mesh_with r.counts y)
  fitted_seen buffer D =
      fitted_made (refine_each list (mesh_with n x)) buffer W.sizes (list_going list W) (rw (← p, q) D)
