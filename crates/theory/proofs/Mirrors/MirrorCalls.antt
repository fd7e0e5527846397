-- What comes of a call of a mirrored mesh.
use Prim.Native.Nat.{ℕ, zero, suc}
use native.Mathlib.Omega.{arith}
use mathlib.Core.Bool.{Bool, true, false}
use mathlib.Core.List.{List, []}
use mathlib.Core.Path.{◌≡◌, refl, ap, ap₂, ◌∙◌}
use lib.Dec.{ltb}
use lib.IntN.{ℤ}
use lib.ListN.{length, get_or}
use Rattle.theory.proofs.Mirrors.MirrorBoxes.{turns_mirror, box_refused}
use Rattle.theory.proofs.Mirrors.MirrorLists.{mirror_progress, handle_all_mirror, copied_mirror}
use Rattle.theory.proofs.Mirrors.MirrorNotes.{note_mirror, noted_refused, restored_mirror, take_back_refused}
use Rattle.theory.proofs.Mirrors.MirrorRefusals.{load_refused, refine_refused, step_refused, limit_refused}
use Rattle.theory.proofs.Mirrors.MirrorRefusals.{lock_refused_lem, ring_refused, position_refused, spares_refused}
use Rattle.theory.proofs.Mirrors.MirrorRefusals.{view_refused, curve_refused, loaded_mirror}
use Rattle.theory.proofs.Mirrors.MirrorTables.{coordinate_mirror}
use Rattle.theory.proofs.Mirrors.MirrorWork.{mirror_work, refine_mirror, step_mirror, limits_mirror, curve_mirror}
use Rattle.theory.proofs.Mirrors.Opposites.{mirror_zero}
use Rattle.rules.specs.Below.{fill}
use Rattle.rules.specs.Boxes.{Box, refine_in_box, box_call}
use Rattle.rules.specs.Calls.{Room, Outcome, with_report, outcome_of, answer_of, buffer_room, table_room, spare_room}
use Rattle.rules.specs.Calls.{zero_point}
use Rattle.rules.specs.Calls.{worked, unless, load_call}
use Rattle.rules.specs.Calls.{refine_call, whole_step_call, with_lock, lock_call, limit_call, ring_call, position_call}
use Rattle.rules.specs.Calls.{view_call}
use Rattle.rules.specs.History.{Call, outcome, after}
use Rattle.rules.specs.Lists.{Progress, begun, refine_each, all_or_nothing, list_call, preview_call}
use Rattle.rules.specs.Mirror.{mirror_point, mirror_table, mirror, mirror_spares, mirror_room, mirror_outcome}
use Rattle.rules.specs.Mirror.{Mirrors, Rounds, load, refine, step, list, box, lock, noted, take_back, ring}
use Rattle.rules.specs.Mirror.{position, limit, preview, point, triangles, curve, report, report_foreseen}
use Rattle.rules.specs.Mirror.{MirrorsEach, none, next, mirror_box, mirror_refining}
use Rattle.rules.specs.Notes.{noted_work, noted_call, take_back_call}
use Rattle.rules.specs.Reports as reports
use Rattle.rules.specs.Reports.{Refining, one, with_note, each, in_box, plain_call, work_of, short_call, report_in}
use Rattle.rules.specs.Reports.{reported_as, reported_call}
use Rattle.rules.specs.Rim.{rim, curve_call}
use Rattle.rules.specs.Spares.{Spares}
use Rattle.rules.specs.Split.{Work, at_first}
use Rattle.rules.specs.Tables.{Mesh, triangle_slots, with_rule}

module _ (k : ℕ) (m : Mesh) where
  no_point : mirror_point k zero_point ≡ zero_point
  no_point = rw (mirror_zero k 0, mirror_zero k 1, mirror_zero k 2)

  -- A room without tables of points.
  ring_room : (buffer : List ℕ) → mirror_room k (buffer_room buffer) ≡ buffer_room buffer
  unfolding mirror_table fill
  ring_room buffer = refl

  table_room_lem : (table : List ℤ) → mirror_room k (table_room table) ≡ table_room (mirror_table k table)
  unfolding mirror_table fill
  table_room_lem table = refl

  unless_mirror : {n n' : ℕ} (r : Room) (done : Outcome) {r' : Room} {done' : Outcome} → n' ≡ n
      → mirror_room k r ≡ r' → done' ≡ mirror_outcome k done
      → unless n' (mirror k m) r' done' ≡ mirror_outcome k (unless n m r done)
  unless_mirror {n} r done e f g = rw (e, ← f, g) (go n)
    where
      go : (n : ℕ) → unless n (mirror k m) (mirror_room k r) (mirror_outcome k done) ≡ mirror_outcome k (unless n m r done)
      go zero = refl
      go (suc n) = rw no_point

  worked_mirror : (w : Work) {w' : Work} → w' ≡ mirror_work k w → worked w' ≡ mirror_outcome k (worked w)
  worked_mirror w e = rw (e, no_point, ring_room [])

  -- A refine with its note written.
  noted_mirror : (t : ℕ) (note : List ℕ) → noted_work t note (mirror k m) ≡ mirror_outcome k (noted_work t note m)
  noted_mirror t note =
      let done : List ℕ → Work → Outcome =
      λ l w.
      outcome_of (answer_of 0 w.splits w.flips 0 zero_point w.mesh) w.mesh
      (buffer_room (fill (length l) (λ i. get_or l i 0) note)) in
      ap₂ done (note_mirror k t m) (refine_mirror k t (at_first m))
      ∙ rw (no_point, ring_room _) refl

  -- Spare tables alone.
  spare_room_lem : (spares : Spares) → mirror_room k (spare_room spares) ≡ spare_room (mirror_spares k spares)
  unfolding mirror_table fill
  spare_room_lem spares = refl

  done_mirror : (n : ℕ) (p : Progress) (spares : Spares)
      → all_or_nothing n (mirror_progress k p) (mirror_spares k spares) (mirror k m)
      ≡ mirror_outcome k (all_or_nothing n p spares m)
  unfolding mirror_table fill
  done_mirror zero p spares = rw (no_point, copied_mirror)
  done_mirror (suc n) p spares = rw (no_point, copied_mirror)

  -- A call that works in spare tables, by its refusal and its progress.
  in_spares : {n n' : ℕ} (p : Progress) {p' : Progress} (spares : Spares) → n' ≡ n → p' ≡ mirror_progress k p
      → unless n' (mirror k m) (spare_room (mirror_spares k spares))
      (all_or_nothing p'.refusal p' (mirror_spares k spares) (mirror k m))
      ≡ mirror_outcome k (unless n m (spare_room spares) (all_or_nothing p.refusal p spares m))
  in_spares p spares e f = unless_mirror _ _ e (spare_room_lem spares) (rw f (done_mirror p.refusal p spares))

  list_mirror : (entries : List ℕ) (spares : Spares)
      → list_call entries (mirror_spares k spares) (mirror k m) ≡ mirror_outcome k (list_call entries spares m)
  unfolding list_call
  list_mirror entries spares =
      in_spares (refine_each entries m) spares (spares_refused k m spares) (handle_all_mirror k m entries (begun m))

  box_mirror : (b : Box) (spares : Spares)
      → box_call (mirror_box k b) (mirror_spares k spares) (mirror k m) ≡ mirror_outcome k (box_call b spares m)
  unfolding box_call
  box_mirror b spares =
      in_spares (refine_in_box b m) spares (box_refused k b m spares) (turns_mirror k b (triangle_slots m) (begun m))

  -- ---- with a report

  plain_mirror : (r : Refining) → plain_call (mirror_refining k r) (mirror k m) ≡ mirror_outcome k (plain_call r m)
  unfolding refine_call noted_call
  plain_mirror (one t) =
      unless_mirror _ _ (refine_refused k m t) (ring_room []) (worked_mirror _ (refine_mirror k t (at_first m)))
  plain_mirror (with_note t note) =
      unless_mirror _ _ (noted_refused k t note m) (ring_room note) (noted_mirror t note)
  plain_mirror (each entries spares) = list_mirror entries spares
  plain_mirror (in_box b spares) = box_mirror b spares

  report_mirror : (r : Refining) → (work_of (mirror_refining k r) (mirror k m)).report ≡ (work_of r m).report
  report_mirror (one t) = ap (λ (w : Work). w.report) (refine_mirror k t (at_first m))
  report_mirror (with_note t note) = ap (λ (w : Work). w.report) (refine_mirror k t (at_first m))
  report_mirror (each entries spares) =
      ap (λ (p : Progress). p.work.report) (handle_all_mirror k m entries (begun m))
  report_mirror (in_box b spares) =
      ap (λ (p : Progress). p.work.report) (turns_mirror k b (triangle_slots m) (begun m))

  short_mirror : (r : Refining) → short_call (mirror_refining k r) (mirror k m) ≡ mirror_outcome k (short_call r m)
  short_mirror (one t) = rw (no_point, ring_room [])
  short_mirror (with_note t note) = rw (no_point, ring_room note)
  short_mirror (each entries spares) =
      rw (handle_all_mirror k m entries (begun m)) (done_mirror 23 (refine_each entries m) spares)
  short_mirror (in_box b spares) =
      rw (turns_mirror k b (triangle_slots m) (begun m)) (done_mirror 23 (refine_in_box b m) spares)

  reported_mirror : (r : Refining) (buffer : List ℕ)
      → reported_call (mirror_refining k r) buffer (mirror k m) ≡ mirror_outcome k (reported_call r buffer m)
  unfolding reported_call
  reported_mirror r buffer =
      rw (plain_mirror r, report_mirror r, short_mirror r) (go (plain_call r m).answer.refusal (work_of r m).report)
    where
      go : (n : ℕ) (l : List ℕ)
          → reported_as n l buffer (mirror_outcome k (plain_call r m)) (mirror_outcome k (short_call r m))
          ≡ mirror_outcome k (reported_as n l buffer (plain_call r m) (short_call r m))
      go (suc i) l = refl
      go zero l = which (ltb (length buffer) (length l))
        where
          which : (b : Bool) →
              let told : Outcome → Outcome → Outcome =
              λ done short. elim b [
                | true ↦ with_report buffer 0 short
                | false ↦ with_report (report_in l buffer) (length l) done
              ] in
              told (mirror_outcome k (plain_call r m)) (mirror_outcome k (short_call r m))
              ≡ mirror_outcome k (told (plain_call r m) (short_call r m))
          which true = refl
          which false = refl

  position_mirror : (v : ℕ) → position_call v (mirror k m) ≡ mirror_outcome k (position_call v m)
  unfolding position_call
  position_mirror v =
      let at = coordinate_mirror k m v in
      unless_mirror _ _ (position_refused k m v) (ring_room [])
      (rw (at 0 (omega arith), at 1 (omega arith), at 2 (omega arith), ring_room []))

  pub call_mirror : {c c' : Call} → Mirrors k c c' → (Rounds c → m.rule ≡ 2)
      → outcome c' (mirror k m) ≡ mirror_outcome k (outcome c m)
  unfolding load_call whole_step_call lock_call limit_call ring_call preview_call view_call curve_call take_back_call
      reports.report_foreseen
  call_mirror (load {rule} C) two =
      unless_mirror _ _ (load_refused k m C rule) (ring_room [])
      (worked_mirror _ (ap (λ n. at_first (with_rule rule n)) (loaded_mirror k m C)))
  call_mirror (refine {t}) two = plain_mirror (one t)
  call_mirror step two =
      unless_mirror _ _ (step_refused k m) (ring_room []) (worked_mirror _ (step_mirror k m (two step)))
  call_mirror (list {entries} {spares}) two = list_mirror entries spares
  call_mirror (box {b} {spares}) two = box_mirror b spares
  call_mirror (lock {on} {t}) two = unless_mirror _ _ (lock_refused_lem k m t) (ring_room []) (worked_mirror (at_first (with_lock on t m)) refl)
  call_mirror (noted {t} {note}) two = plain_mirror (with_note t note)
  call_mirror (report {r} {buffer}) two = reported_mirror r buffer
  call_mirror (take_back {note}) two =
      unless_mirror _ _ (take_back_refused k note m) (ring_room [])
      (worked_mirror _ (ap at_first (restored_mirror k note m)))
  call_mirror (ring {v} {buffer}) two =
      unless_mirror _ _ (ring_refused k m v buffer) (ring_room buffer) (rw (no_point, ring_room))
  call_mirror (position {v}) two = position_mirror v
  call_mirror (limit {table}) two =
      unless_mirror _ _ (limit_refused k m table) (table_room_lem table)
      (rw (limits_mirror k m (two limit) table, no_point, table_room_lem))
  call_mirror (preview {entries} {spares}) two = rw (list_mirror entries spares) refl
  call_mirror (report_foreseen {entries} {spares} {buffer}) two = rw (reported_mirror (each entries spares) buffer) refl
  call_mirror (point {v}) two = position_mirror v
  call_mirror (triangles {n}) two =
      unless_mirror _ _ (view_refused k m n) (ring_room []) (rw (no_point, ring_room []))
  call_mirror (curve {v} {table}) two =
      unless_mirror _ _ (curve_refused k m v table) (table_room_lem table)
      (rw (curve_mirror k m (rim m.topology v) table, no_point, table_room_lem))

pub history_mirror : (k : ℕ) {cs cs' : List Call} (m : Mesh) → MirrorsEach k cs cs' m
    → after cs' (mirror k m) ≡ mirror k (after cs m)
unfolding after
history_mirror k m none = refl
history_mirror k m (next {c} {cs' = cs'} M two rest) =
    ap (λ (o : Outcome). after cs' o.mesh) (call_mirror k m M two) ∙ history_mirror k (outcome c m).mesh rest
