-- A box begins with the copy of a sound mesh, and what it made is what its definition says.
use mathlib.Core.List.{List, []}
use Rattle.theory.proofs.Boxes.BoxCall.{box_run}
use Rattle.theory.proofs.Chains.Going.{Going}
use Rattle.theory.proofs.Boxes.InSpares.{Boxing, boxing_begins}
use Rattle.theory.proofs.Spares.OverSpares.{over_sound}
use Rattle.rules.specs.Boxes.{Box, refine_in_box}
use Rattle.rules.specs.Sound.{Sound}
use Rattle.rules.specs.Spares.{Spares}
use Rattle.rules.specs.Tables.{Mesh}
use Rattle.refining.proofs.Batching.{may_sound}
use Rattle.refining.specs.Batches.{Begins, Made, MayWork}
use Rattle.refining.specs.declared.spares.Batch.{Batch}
use Rattle.wanting.specs.Wanting.{Boxes}
use Prim.Native.Nat.{ℕ}

module _ {m x : Mesh} {s : Spares} {g : List ℕ} (B : Begins m s g x) where
  pub begins_sound : Sound x
  begins_sound = rw B.tables (over_sound B.sizes B.sound)

  pub begins_boxing : (b : Box) → Boxing b m s 0 0 0 [] x
  begins_boxing b = rw B.tables (boxing_begins b B.sizes B.sound)

pub box_going : (b : Box) {m : Mesh} {s : Spares} → MayWork m s → Going m (refine_in_box b m).work
box_going b {m} W = (box_run b m (may_sound W)).going

pub box_made : (b : Box) {m : Mesh} {s : Spares} {r : Batch} {x : Mesh} → MayWork m s → Boxes b m s r x
    → Made (refine_in_box b m) s m r x
box_made b W D = record { sizes = W.sizes; going = box_going b W; done = D }
