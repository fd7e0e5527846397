-- Calls that work in spare tables: their first refusal, found test by test, and what comes of them.
use mathlib.Core.Bool.{Bool, true}
use mathlib.Core.List.{List}
use mathlib.Core.Logic.{◌≢◌}
use mathlib.Core.Path.{◌≡◌, refl, sym, ap, ◌∙◌}
use Prim.Native.Nat.{ℕ}
use Rattle.theory.proofs.Boxes.BoxCall.{box_sound}
use Rattle.theory.proofs.Calls.FirstThatHolds.{refuses, carries}
use Rattle.theory.proofs.Lists.ListCall.{spares_sound}
use Rattle.rules.specs.Boxes.{Box, box_fits, box_refusal}
use Rattle.rules.specs.Calls.{spare_room, refused_with}
use Rattle.rules.specs.Lists.{spares_refusal, list_call, preview_call}
use Rattle.rules.specs.Spares.{Spares}
use Rattle.rules.specs.Tables.{Mesh}
use Rattle.tables.proofs.Standing.{sound_standing}
use Rattle.refining.specs.Batches.{MayWork, list_done, only_read}
use Rattle.lending.specs.Working.{work_refusal}

-- ---- before the work of a box

module _ (s : Spares) (m : Mesh) where
  module _ (b : Box) {fits : Bool} (f : fits ≡ box_fits b) (r : ℕ) (e : r ≡ work_refusal fits s m) where
    pub box_first : r ≡ box_refusal b s m
    unfolding box_refusal
    box_first = e ∙ rw f refl

    pub box_may_work : r ≡ 0 → MayWork m s
    box_may_work z =
        let (L, S) = box_sound b s m (sym box_first ∙ z) in
        record { stands = sound_standing S; sizes = L }

  -- ---- what comes of a list

  module _ (r : ℕ) (e : r ≡ work_refusal true s m) where
    pub list_first : r ≡ spares_refusal s m
    unfolding spares_refusal
    list_first = e

    pub may_work : r ≡ 0 → MayWork m s
    may_work z =
        let (L, S) = spares_sound s m (sym list_first ∙ z) in
        record { stands = sound_standing S; sizes = L }

    pub list_refused : (list : List ℕ) → r ≢ 0 → refused_with r m (spare_room s) ≡ list_call list s m
    unfolding list_call
    list_refused list = refuses m (spare_room s) (list_done list m s) (spares_refusal s m) r list_first

    pub list_carried : (list : List ℕ) → r ≡ 0 → list_done list m s ≡ list_call list s m
    unfolding list_call
    list_carried list = carries m (spare_room s) (list_done list m s) (spares_refusal s m) r list_first

    -- And of a preview.
    pub preview_refused : (list : List ℕ) → r ≢ 0 → refused_with r m (spare_room s) ≡ preview_call list s m
    unfolding preview_call
    preview_refused list n = ap (only_read m) (list_refused list n)

    pub preview_carried : (list : List ℕ) → r ≡ 0 → only_read m (list_done list m s) ≡ preview_call list s m
    unfolding preview_call
    preview_carried list z = ap (only_read m) (list_carried list z)
