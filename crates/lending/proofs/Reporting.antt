-- Calls with a report that work in spare tables: what comes of them, by what refuses them before the work.
use mathlib.Core.List.{List}
use mathlib.Core.Logic.{◌≢◌}
use mathlib.Core.Bool.{Bool, true}
use mathlib.Core.Path.{◌≡◌, refl, sym, ap, ◌∙◌}
use Prim.Native.Nat.{ℕ, zero, suc}
use Rattle.rules.specs.Boxes.{Box, box_fits, box_call, refine_in_box}
use Rattle.rules.specs.Calls.{Outcome, with_report, spare_room, refused_with, unless}
use Rattle.rules.specs.Lists.{Progress, refine_each, all_or_nothing, list_call}
use Rattle.rules.specs.Reports.{each, in_box, reported_as, reported_call, report_foreseen}
use Rattle.rules.specs.Spares.{Spares}
use Rattle.rules.specs.Tables.{Mesh}
use Rattle.refining.specs.Batches.{only_read, reported_done}
use Rattle.lending.proofs.InSpares.{box_first, list_first}
use Rattle.lending.specs.Working.{work_refusal}

module _ (s : Spares) (m : Mesh) (buffer : List ℕ) where
  -- The call with a report whose work is p, where n refuses it before.
  abbrev called : ℕ → Progress → Outcome
  called n p =
      let o = unless n m (spare_room s) (all_or_nothing p.refusal p s m) in
      reported_as o.answer.refusal p.work.report buffer o (all_or_nothing 23 p s m)

  refused_first : (n : ℕ) (p : Progress) → n ≢ 0 → with_report buffer 0 (refused_with n m (spare_room s)) ≡ called n p
  refused_first zero p x = absurd (x refl)
  refused_first (suc n) p x = refl

  same_refusal : (n : ℕ) (p : Progress) → (all_or_nothing n p s m).answer.refusal ≡ n
  same_refusal zero p = refl
  same_refusal (suc n) p = refl

  not_first : (p : Progress) → reported_done p buffer m s ≡ called 0 p
  not_first p =
      ap (λ (n : ℕ).
      reported_as n p.work.report buffer (all_or_nothing p.refusal p s m) (all_or_nothing 23 p s m))
      (sym (same_refusal p.refusal p))

  module _ (r : ℕ) where
    module _ (e : r ≡ work_refusal true s m) (list : List ℕ) where
      pub list_refused : r ≢ 0
          → with_report buffer 0 (refused_with r m (spare_room s)) ≡ reported_call (each list s) buffer m
      unfolding reported_call list_call
      list_refused x =
          refused_first r (refine_each list m) x ∙ ap (λ (n : ℕ). called n (refine_each list m)) (list_first s m r e)

      pub list_carried : r ≡ 0 → reported_done (refine_each list m) buffer m s ≡ reported_call (each list s) buffer m
      unfolding reported_call list_call
      list_carried z =
          not_first (refine_each list m)
          ∙ ap (λ (n : ℕ). called n (refine_each list m)) (sym z ∙ list_first s m r e)

      pub preview_refused : r ≢ 0
          → with_report buffer 0 (refused_with r m (spare_room s)) ≡ report_foreseen list s buffer m
      unfolding report_foreseen
      preview_refused x = ap (only_read m) (list_refused x)

      pub preview_carried : r ≡ 0
          → only_read m (reported_done (refine_each list m) buffer m s) ≡ report_foreseen list s buffer m
      unfolding report_foreseen
      preview_carried z = ap (only_read m) (list_carried z)

    module _ (b : Box) {fits : Bool} (f : fits ≡ box_fits b) (e : r ≡ work_refusal fits s m) where
      pub box_refused : r ≢ 0 → with_report buffer 0 (refused_with r m (spare_room s)) ≡ reported_call (in_box b s) buffer m
      unfolding reported_call box_call
      box_refused x =
          refused_first r (refine_in_box b m) x ∙ ap (λ (n : ℕ). called n (refine_in_box b m)) (box_first s m b f r e)

      pub box_carried : r ≡ 0 → reported_done (refine_in_box b m) buffer m s ≡ reported_call (in_box b s) buffer m
      unfolding reported_call box_call
      box_carried z =
          not_first (refine_in_box b m)
          ∙ ap (λ (n : ℕ). called n (refine_in_box b m)) (sym z ∙ box_first s m b f r e)
