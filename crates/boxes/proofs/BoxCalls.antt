-- What comes of a box, by what refuses it before the work.
use mathlib.Core.Bool.{Bool}
use mathlib.Core.Logic.{◌≢◌}
use mathlib.Core.Path.{◌≡◌}
use Prim.Native.Nat.{ℕ}
use Rattle.theory.proofs.Calls.FirstThatHolds.{refuses, carries}
use Rattle.rules.specs.Boxes.{Box, box_fits, box_refusal, box_call}
use Rattle.rules.specs.Calls.{spare_room, refused_with}
use Rattle.rules.specs.Spares.{Spares}
use Rattle.rules.specs.Tables.{Mesh}
use Rattle.boxing.specs.Boxing.{box_done}
use Rattle.lending.proofs.InSpares.{box_first}
use Rattle.lending.specs.Working.{work_refusal}

module _ (s : Spares) (m : Mesh) (b : Box) {fits : Bool} (f : fits ≡ box_fits b) (r : ℕ) (e : r ≡ work_refusal fits s m) where
  pub box_refused : r ≢ 0 → refused_with r m (spare_room s) ≡ box_call b s m
  unfolding box_call
  box_refused = refuses m (spare_room s) (box_done b m s) (box_refusal b s m) r (box_first s m b f r e)

  pub box_carried : r ≡ 0 → box_done b m s ≡ box_call b s m
  unfolding box_call
  box_carried = carries m (spare_room s) (box_done b m s) (box_refusal b s m) r (box_first s m b f r e)
