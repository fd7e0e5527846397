-- What a box makes of a mesh that was seen in tables, it makes of the tables.
use mathlib.Core.List.{List}
use mathlib.Core.Path.{◌≡◌, sym, ap, subst, ◌∙◌}
use Prim.Native.Nat.{ℕ}
use Rattle.rules.specs.Boxes.{Box, refine_in_box}
use Rattle.rules.specs.Spares.{Spares}
use Rattle.tables.specs.declared.Counts.{Counts}
use Rattle.tables.specs.Lent.{mesh_with}
use Rattle.refining.specs.Batches.{Made, MayWork, Holds, fitted, report_left}
use Rattle.refining.specs.declared.spares.Batch.{Batch}
use Rattle.refining.proofs.Fitting.{fitted_made}
use Rattle.wanting.specs.Wanting.{Boxes}
use Rattle.wanting.proofs.Begins.{box_going, box_made}

module _ (b : Box) (n : Counts) {v t : Spares} (e : v ≡ t) where
  pub made_of : {s u w : Spares} (r : Batch) → MayWork (mesh_with n t) s
      → Boxes b (mesh_with n v) s r (mesh_with r.counts w) → u ≡ w
      → Made (refine_in_box b (mesh_with n t)) s (mesh_with n t) r (mesh_with r.counts u)
  made_of {s} {w = w} r W B q =
      box_made b W
      (subst (λ (y : Spares). Boxes b (mesh_with n t) s r (mesh_with r.counts y)) (sym q)
      (subst (λ (y : Spares). Boxes b (mesh_with n y) s r (mesh_with r.counts w)) e B))

  -- The same where the report may be too long.
  pub fitted_of : (buffer : List ℕ) {s u w : Spares} (r : Batch) → MayWork (mesh_with n t) s
      → Holds (fitted (refine_in_box b (mesh_with n v)) buffer) s r (mesh_with r.counts w) → u ≡ w
      → Made (fitted (refine_in_box b (mesh_with n t)) buffer) s (mesh_with n t) r (mesh_with r.counts u)
  fitted_of buffer {s} {w = w} r W B q =
      fitted_made (refine_in_box b (mesh_with n t)) buffer W.sizes (box_going b W)
      (subst (λ (y : Spares). Holds (fitted (refine_in_box b (mesh_with n t)) buffer) s r (mesh_with r.counts y)) (sym q)
      (subst (λ (y : Spares). Holds (fitted (refine_in_box b (mesh_with n y)) buffer) s r (mesh_with r.counts w)) e B))

  pub left_of : (buffer : List ℕ) {after : List ℕ} → after ≡ report_left (refine_in_box b (mesh_with n v)) buffer
      → after ≡ report_left (refine_in_box b (mesh_with n t)) buffer
  left_of buffer q = q ∙ ap (λ (y : Spares). report_left (refine_in_box b (mesh_with n y)) buffer) e
