-- What is told of the turns of a box.
use mathlib.Core.List.{List, [], append-nil}
use mathlib.Core.Logic.{◌≢◌}
use mathlib.Core.Path.{◌≡◌, subst}
use Prim.Native.Nat.{ℕ, ◌+◌, ◌*◌, ◌<◌}
use Rattle.reporting.proofs.Telling.{tells_none, tells_on}
use Rattle.reporting.specs.Told.{Tells, Told, told_unless}
use Rattle.theory.proofs.Boxes.InSpares.{Boxing, boxing_on, boxing_stops, boxing_ends}
use Rattle.theory.proofs.Lists.Holding.{Done, holding_length}
use Rattle.rules.specs.Boxes.{Box, refine_in_box}
use Rattle.rules.specs.Calls.{Outcome, refine_call}
use Rattle.rules.specs.Conditions.{Wanted, LowestWanted}
use Rattle.rules.specs.Spares.{Spares}
use Rattle.rules.specs.Split.{at_first, refine}
use Rattle.rules.specs.Tables.{Mesh}
use Rattle.refining.proofs.Telling.{tells_to, told_zero, told_nothing}
use Rattle.refining.specs.Batches.{Begins}
use Rattle.wanting.proofs.Begins.{begins_boxing}

-- So many turns were made, and told from the start of a buffer on.
abbrev pub BoxingTold : Box → Mesh → Spares → ℕ → ℕ → ℕ → List ℕ → List ℕ → Mesh → Type 0
BoxingTold b m s at k f before after x =
    (l : List ℕ) × Boxing b m s at k f l x × Tells l before after 0 (3 * k + 2 * f)

pub told_begins : {m x : Mesh} {s : Spares} {g : List ℕ} → Begins m s g x → (b : Box) (buffer : List ℕ)
    → BoxingTold b m s 0 0 0 buffer buffer x
told_begins B b buffer = ([], begins_boxing B b, tells_none 0 buffer)

module _ {b : Box} {m : Mesh} {s : Spares} {at k f : ℕ} {before now : List ℕ} {x : Mesh}
    (D : BoxingTold b m s at k f before now x) where
  all_told : {after : List ℕ} {i : ℕ} → D.0 ≡ (refine_in_box b m).work.report → Tells D.0 before after 0 i
      → Told (refine_in_box b m).work.report before after 0
  all_told {after} {i} e T = (i, subst (λ (l : List ℕ). Tells l before after 0 i) e T)

  pub told_ends : ((t : ℕ) → t < x.topology.triangles → ¬ Wanted b x t)
      → Done (refine_in_box b m) s 0 at k f x × Told (refine_in_box b m).work.report before now 0
  told_ends nothing = let (F, q) = boxing_ends D.1 nothing in (F, all_told q D.2)

  module _ {t : ℕ} {o : Outcome} {after : List ℕ} (N : LowestWanted b x t) (e : o ≡ refine_call t x)
      (T : Told (told_unless o.answer.refusal (refine t (at_first x)).report) now after (3 * k + 2 * f)) where
    pub told_on : o.answer.refusal ≡ 0
        → BoxingTold b m s (at + 1) (k + o.answer.splits) (f + o.answer.flips) before after o.mesh
    told_on z =
        let G = boxing_on D.1 N e z in
        let (_, U) = told_zero _ _ T z in
        (_, G, tells_to (tells_on D.2 U) (holding_length G.held))

    pub told_stops : o.answer.refusal ≢ 0
        → Done (refine_in_box b m) s o.answer.refusal at k f o.mesh
        × Told (refine_in_box b m).work.report before after 0
    told_stops z =
        let (F, q) = boxing_stops D.1 N e z in
        let (j, U) = told_nothing _ _ T z in
        (F, all_told q (subst (λ (l : List ℕ). Tells l before after 0 j) (append-nil D.0) (tells_on D.2 U)))
