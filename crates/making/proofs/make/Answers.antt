-- `making::make` meets its contract: each kind has its call.
use Rattle.std.proofs.Common.{◌≡◌, ◌⊎◌, true, false, ap, inl, inr, arith, rules}
use Rattle.journal.specs.Kinds.{number_of}
use Rattle.making.proofs.Calling.{four_long, box_long, room_for_numbers, made_load, made_refine, made_step, made_list, made_box}
use Rattle.making.proofs.Calling.{made_lock, made_back}
use Rattle.making.proofs.make.Goals as goal

pub number_at-requires : goal.number_at-requires
number_at-requires c =
    let e = ap number_of c.in-Load.is in
    four_long c.requires.body_value.0 (λ f. omega arith) (λ f. omega arith) (λ f. omega arith)

pub slice_bounds-load-count : goal.slice_bounds-load-count
slice_bounds-load-count c =
    let e = ap number_of c.in-Load.is in
    four_long c.requires.body_value.0 (λ f. omega arith) (λ f. omega arith) (λ f. omega arith)

pub slice_bounds-load-start : goal.slice_bounds-load-start
slice_bounds-load-start c =
    let e = ap number_of c.in-Load.is in
    let l = four_long c.requires.body_value.0 (λ f. omega arith) (λ f. omega arith) (λ f. omega arith) in
    search rules

pub returns-in-Load-clause-makes : goal.returns-in-Load-clause-makes
returns-in-Load-clause-makes c =
    made_load _ _ _ _ _ _ _ c.told.ensures _ (ap number_of c.in-Load.is) c.number_at.ensures c.load-done.ensures.loaded

pub number_at-t-requires : goal.number_at-t-requires
number_at-t-requires c =
    let e = ap number_of c.in-Refine.is in
    four_long c.requires.body_value.0 (λ f. omega arith) (λ f. omega arith) (λ f. omega arith)

pub returns-in-Refine-clause-makes : goal.returns-in-Refine-clause-makes
returns-in-Refine-clause-makes c =
    made_refine _ _ _ _ _ _ _ c.told-in-Refine.ensures _ (ap number_of c.in-Refine.is) c.number_at-t.ensures
    c.refine-done.ensures.refined

pub returns-in-WholeStep-clause-makes : goal.returns-in-WholeStep-clause-makes
returns-in-WholeStep-clause-makes c =
    made_step _ _ _ _ _ _ _ c.told-in-WholeStep.ensures (ap number_of c.in-WholeStep.is)
    c.whole_step_known-done.ensures.stepped

pub numbers_in-list-requires : goal.numbers_in-list-requires
numbers_in-list-requires c = room_for_numbers _ _ _ (inl (ap number_of c.in-RefineList.is)) c.requires.body_value.1

pub returns-in-RefineList-clause-makes : goal.returns-in-RefineList-clause-makes
returns-in-RefineList-clause-makes c =
    made_list _ _ _ _ _ _ _ c.told-in-RefineList.ensures _ _ (ap number_of c.in-RefineList.is)
    c.numbers_in-list.ensures c.refine_list_known-done.ensures.refined

pub point_at-low-requires : goal.point_at-low-requires
point_at-low-requires c = let l = box_long c.requires.body_value.0 (ap number_of c.in-RefineBox.is) in omega arith

pub point_at-high-requires : goal.point_at-high-requires
point_at-high-requires c = let l = box_long c.requires.body_value.0 (ap number_of c.in-RefineBox.is) in omega arith

pub number_at-below-requires : goal.number_at-below-requires
number_at-below-requires c = let l = box_long c.requires.body_value.0 (ap number_of c.in-RefineBox.is) in omega arith

pub returns-in-RefineBox-clause-makes : goal.returns-in-RefineBox-clause-makes
returns-in-RefineBox-clause-makes c =
    made_box _ _ _ _ _ _ _ c.told-in-RefineBox.ensures _ _ _ _ (ap number_of c.in-RefineBox.is)
    c.point_at-low.ensures c.point_at-high.ensures c.number_at-below.ensures c.refine_box_known-done.ensures.boxed

pub number_at-t-requires-in-Lock : goal.number_at-t-requires-in-Lock
number_at-t-requires-in-Lock c = elim c.in-Lock.is [
  | inl q ↦ let e = ap number_of q in
      four_long c.requires.body_value.0 (λ f. omega arith) (λ f. omega arith) (λ f. omega arith)
  | inr q ↦ let e = ap number_of q in
      four_long c.requires.body_value.0 (λ f. omega arith) (λ f. omega arith) (λ f. omega arith)
]

pub returns-in-Lock-clause-makes : goal.returns-in-Lock-clause-makes
returns-in-Lock-clause-makes c =
    let e : ((number_of c.args.kind ≡ 6) × (c.eq-on.result ≡ true))
    ⊎ ((number_of c.args.kind ≡ 7) × (c.eq-on.result ≡ false)) =
    elim c.in-Lock.is [
      | inl q ↦ inl (ap number_of q, search rules)
      | inr q ↦ inr (ap number_of q, search rules)
    ] in
    made_lock _ _ _ _ _ _ _ c.told-in-Lock.ensures _ _ e c.number_at-t-in-Lock.ensures c.lock_in-done.ensures

pub numbers_in-note-requires : goal.numbers_in-note-requires
numbers_in-note-requires c = room_for_numbers _ _ _ (inr (ap number_of c.in-TakeBack.is)) c.requires.body_value.1

pub returns-in-TakeBack-clause-makes : goal.returns-in-TakeBack-clause-makes
returns-in-TakeBack-clause-makes c =
    made_back _ _ _ _ _ _ _ c.told-in-TakeBack.ensures _ (ap number_of c.in-TakeBack.is) c.numbers_in-note.ensures
    c.take_back_in-done.ensures
