-- What a change of each kind is to be made of, as the code reads it from a body.
use Prim.Native.Nat.{ℕ, zero, suc, ◌+◌, ◌-◌, ◌*◌, ◌/◌, ◌≤◌, ◌<◌}
use native.Mathlib.Omega.{arith}
use mathlib.Core.Bool.{Bool, true, false}
use mathlib.Core.List.{List, [], ◌∷◌, ◌++◌}
use mathlib.Core.Logic.{◌≢◌, ◌⊎◌, inl, inr}
use mathlib.Core.Path.{◌≡◌, refl, ap, sym, ◌∙◌}
use lib.ListN.{length, take, drop, set, length-drop}
use lib.Seq.{take_all, take-suc-set}
use Rattle.theory.proofs.Numbers.Decide.{when_true}
use Rattle.rules.specs.Calls.{Outcome, load_call, refine_call, whole_step_call, lock_call}
use Rattle.rules.specs.History.{changed}
use Rattle.rules.specs.Numbers.{number_at, signed}
use Rattle.rules.specs.Spares.{Spares}
use Rattle.rules.specs.Tables.{Mesh}
use Rattle.journal.specs.Journal.{Entry, loaded, refined, stepped, refined_each, refined_in_box, lock_set, taken_back}
use Rattle.journal.specs.Journal.{numbers_in, is_kind, box_in, entry_of}
use Rattle.making.specs.Making.{told, counts_after, Makes}
use Rattle.journal.specs.Replay.{call_of, numbers_of}
use Rattle.journal.proofs.Entries.{Kinds, kinds_are, length_numbers}
use Rattle.journal.proofs.Numbers.{number_drop}
use Rattle.journal.specs.Kinds.{number_of}
use Rattle.journal.specs.declared.kinds.Kind.{Kind}
use Rattle.journal.specs.declared.kinds.Kind.TheVariants.{Load, Refine, WholeStep, RefineList, RefineBox, Lock, Unlock, TakeBack}
use Rattle.std.proofs.Common.{Result}
use Rattle.tables.specs.Answers.{worked_outcome}
use Rattle.tables.specs.Lent.{mesh_with}
use Rattle.tables.specs.declared.Counts.{Counts}
use Rattle.refining.specs.Batches.{batch_outcome}
use Rattle.refining.specs.declared.spares.BatchWorked.{BatchWorked}
use Rattle.journal.proofs.Changes.{refused_mesh}
use Rattle.rules.specs.History.{Change}
use Rattle.points.specs.Axes.{at, box_of}
use Rattle.points.specs.declared.Point.{Point}
use Rattle.rules.specs.Boxes.{box_call}
use Rattle.rules.specs.Lists.{list_call}
use Rattle.tables.specs.declared.Worked.{Worked}
use Rattle.rules.specs.Notes.{take_back_call}

-- ---- numbers

-- One number more.
numbers_next : (n : ℕ) (body : List ℕ) → numbers_in (suc n) body ≡ numbers_in n body ++ (number_at body (4 * n) ∷ [])
unfolding numbers_in
numbers_next zero body = refl
numbers_next (suc n) body =
    let e : 4 * suc n ≡ 4 + 4 * n = omega arith in
    rw (e, ← number_drop 4 body (4 * n)) (ap (λ (l : List ℕ). number_at body 0 ∷ l) (numbers_next n (drop 4 body)))

pub number_put : (n v : ℕ) (body numbers : List ℕ) → n < length numbers → take n numbers ≡ numbers_in n body
    → v ≡ number_at body (4 * n) → take (n + 1) (set numbers n v) ≡ numbers_in (n + 1) body
number_put n v body numbers l t e =
    let s : n + 1 ≡ suc n = omega arith in
    rw (s, numbers_next n body, ← t, ← e) (take-suc-set numbers n v l)

-- ---- the change of each kind

module _ (kind : ℕ) (body : List ℕ) where
  pub load_is : kind ≡ 1 → entry_of kind body ≡ loaded (number_at body 0) (drop 4 body)
  unfolding entry_of
  load_is e = rw e refl

  pub refine_is : kind ≡ 2 → entry_of kind body ≡ refined (number_at body 0)
  unfolding entry_of
  refine_is e = rw e refl

  pub step_is : kind ≡ 3 → entry_of kind body ≡ stepped
  unfolding entry_of
  step_is e = rw e refl

  pub list_is : kind ≡ 4 → entry_of kind body ≡ refined_each (numbers_in (length body / 4) body)
  unfolding entry_of
  list_is e = rw e refl

  pub box_is : kind ≡ 5 → entry_of kind body ≡ refined_in_box (box_in body)
  unfolding entry_of
  box_is e = rw e refl

  pub lock_is : kind ≡ 6 → entry_of kind body ≡ lock_set true (number_at body 0)
  unfolding entry_of
  lock_is e = rw e refl

  pub unlock_is : kind ≡ 7 → entry_of kind body ≡ lock_set false (number_at body 0)
  unfolding entry_of
  unlock_is e = rw e refl

  pub back_is : kind ≡ 8 → entry_of kind body ≡ taken_back (numbers_in (length body / 4) body)
  unfolding entry_of
  back_is e = rw e refl

  -- The numbers that it has to be read into a table for, by the body's size.
  pub many_numbers : (size : ℕ) → (kind ≡ 4) ⊎ (kind ≡ 8) → length body ≡ size
      → size / 4 ≡ numbers_of (entry_of kind body)
  many_numbers size (inl e) l = rw (list_is e, length_numbers, l) refl
  many_numbers size (inr e) l = rw (back_is e, length_numbers, l) refl

  pub room_for_numbers : (n : ℕ) → (kind ≡ 4) ⊎ (kind ≡ 8) → numbers_of (entry_of kind body) ≤ n → length body / 4 ≤ n
  room_for_numbers n k l = let e = many_numbers (length body) k refl in omega arith

pub no_numbers : (k : Kind) (body : List ℕ) → k ≢ RefineList → k ≢ TakeBack
    → 0 ≡ numbers_of (entry_of (number_of k) body)
unfolding entry_of
no_numbers Load body x y = refl
no_numbers Refine body x y = refl
no_numbers WholeStep body x y = refl
no_numbers RefineList body x y = absurd (x refl)
no_numbers RefineBox body x y = refl
no_numbers Lock body x y = refl
no_numbers Unlock body x y = refl
no_numbers TakeBack body x y = absurd (y refl)

-- ---- kinds and the sizes of their bodies

pub four_long : {kind size : ℕ} → is_kind kind size ≡ true → kind ≢ 3 → kind ≢ 4 → kind ≢ 8 → 4 ≤ size
four_long {kind} {size} h x y z = go (when_true (kinds_are kind size) h)
  where
    go : Kinds kind size → 4 ≤ size
    go (inl (inl (inl (inl (e, l))))) = l
    go (inl (inl (inl (inr (l, e))))) = omega arith
    go (inl (inl (inr (l, e)))) = absurd (x e)
    go (inl (inr (l, inl e))) = absurd (y e)
    go (inl (inr (l, inr e))) = absurd (z e)
    go (inr (l, e)) = omega arith

pub box_long : {kind size : ℕ} → is_kind kind size ≡ true → kind ≡ 5 → size ≡ 28
box_long {kind} {size} h f = go (when_true (kinds_are kind size) h)
  where
    go : Kinds kind size → size ≡ 28
    go (inl (inl (inl (inl (e, l))))) = omega arith
    go (inl (inl (inl (inr (l, inl (inl e)))))) = omega arith
    go (inl (inl (inl (inr (l, inl (inr e)))))) = omega arith
    go (inl (inl (inl (inr (l, inr e))))) = omega arith
    go (inl (inl (inr (l, e)))) = omega arith
    go (inl (inr (l, inl e))) = omega arith
    go (inl (inr (l, inr e))) = omega arith
    go (inr (l, e)) = l

-- ---- what the calls make

-- Where the mesh is as it was, the lists are, so that it is as it was with the counts that it had too.
counts_stay : (n o : Counts) (s t : Spares) → mesh_with o s ≡ mesh_with n t → mesh_with n s ≡ mesh_with n t
counts_stay n o s t e =
    rw (
      ap (λ (m : Mesh). m.positions) e,
      ap (λ (m : Mesh). m.topology.corners) e,
      ap (λ (m : Mesh). m.topology.links) e,
      ap (λ (m : Mesh). m.topology.generations) e,
      ap (λ (m : Mesh). m.locks) e,
    ) refl

-- What is told of the call of a change c of the mesh with the counts n in the tables t, which answered this refusal and
-- these counts and left the tables s.
tells : (c : Change) (n : Counts) (s t : Spares) (refusal : ℕ) (counts : Counts)
    → refusal ≡ (changed c (mesh_with n t)).answer.refusal → mesh_with counts s ≡ (changed c (mesh_with n t)).mesh
    → Makes (changed c (mesh_with n t)) (told refusal counts) (mesh_with (counts_after n (told refusal counts)) s)
tells c n s t zero counts f h = record { refusal = f; some = tt; mesh = h }
tells c n s t (suc k) counts f h =
    let x : (changed c (mesh_with n t)).answer.refusal ≢ 0 = λ z. omega arith in
    let stands = refused_mesh c (mesh_with n t) x in
    record { refusal = f; some = λ z. omega arith; mesh = counts_stay n counts s t (h ∙ stands) ∙ sym stands }

module _ (kind : ℕ) (body : List ℕ) (v : Spares) (n : Counts) (s t : Spares) {r : Result Counts ℕ} where
  -- The change of the kind and the body is known, and so is the outcome of its call.
  makes : {o : Outcome} (e : Entry) (refusal : ℕ) (counts : Counts) → entry_of kind body ≡ e
      → r ≡ told refusal counts → refusal ≡ o.answer.refusal → mesh_with counts s ≡ o.mesh
      → o ≡ changed (call_of v e) (mesh_with n t)
      → Makes (changed (call_of v (entry_of kind body)) (mesh_with n t)) r (mesh_with (counts_after n r) s)
  makes e refusal counts q told f g h =
      rw (q, told)
      (tells (call_of v e) n s t refusal counts (f ∙ ap (λ (o : Outcome). o.answer.refusal) h)
      (g ∙ ap (λ (o : Outcome). o.mesh) h))

  module _ (w : Worked) (same : r ≡ told w.refusal w.counts) where
    made : (e : Entry) → entry_of kind body ≡ e → worked_outcome w s ≡ changed (call_of v e) (mesh_with n t)
        → Makes (changed (call_of v (entry_of kind body)) (mesh_with n t)) r (mesh_with (counts_after n r) s)
    made e q h = makes e w.refusal w.counts q same refl refl h

    pub made_load : (rule : ℕ) → kind ≡ 1 → rule ≡ number_at body 0
        → worked_outcome w s ≡ load_call rule (take (length body - 4) (drop 4 body)) (mesh_with n t)
        → Makes (changed (call_of v (entry_of kind body)) (mesh_with n t)) r (mesh_with (counts_after n r) s)
    made_load rule k a h =
        let cage = take_all (length body - 4) (drop 4 body) (simp length-drop (omega arith)) in
        made _ (load_is kind body k) (rw (a, cage) at h)

    pub made_refine : (i : ℕ) → kind ≡ 2 → i ≡ number_at body 0 → worked_outcome w s ≡ refine_call i (mesh_with n t)
        → Makes (changed (call_of v (entry_of kind body)) (mesh_with n t)) r (mesh_with (counts_after n r) s)
    made_refine i k a h = made _ (refine_is kind body k) (rw a at h)

    pub made_step : kind ≡ 3 → worked_outcome w s ≡ whole_step_call (mesh_with n t)
        → Makes (changed (call_of v (entry_of kind body)) (mesh_with n t)) r (mesh_with (counts_after n r) s)
    made_step k h = made _ (step_is kind body k) h

    pub made_lock : (on : Bool) (i : ℕ) → ((kind ≡ 6) × (on ≡ true)) ⊎ ((kind ≡ 7) × (on ≡ false))
        → i ≡ number_at body 0 → worked_outcome w s ≡ lock_call on i (mesh_with n t)
        → Makes (changed (call_of v (entry_of kind body)) (mesh_with n t)) r (mesh_with (counts_after n r) s)
    made_lock on i (inl k) a h = made _ (lock_is kind body k.0) (rw (a, k.1) at h)
    made_lock on i (inr k) a h = made _ (unlock_is kind body k.0) (rw (a, k.1) at h)

    pub made_back : (list : List ℕ) → kind ≡ 8 → list ≡ numbers_in (length body / 4) body
        → worked_outcome w s ≡ take_back_call list (mesh_with n t)
        → Makes (changed (call_of v (entry_of kind body)) (mesh_with n t)) r (mesh_with (counts_after n r) s)
    made_back list k a h = made _ (back_is kind body k) (rw a at h)

  module _ (w : BatchWorked) (same : r ≡ told w.refusal w.counts) (u : Spares) where
    pub made_list : (list : List ℕ) → kind ≡ 4 → list ≡ numbers_in (length body / 4) body
        → batch_outcome w s u ≡ list_call list v (mesh_with n t)
        → Makes (changed (call_of v (entry_of kind body)) (mesh_with n t)) r (mesh_with (counts_after n r) s)
    made_list list k a h = makes _ w.refusal w.counts (list_is kind body k) same refl refl (rw a at h)

    pub made_box : (low high : Point) (below : ℕ) → kind ≡ 5
        → low ≡ at (signed (number_at body 0)) (signed (number_at body 4)) (signed (number_at body 8))
        → high ≡ at (signed (number_at body 12)) (signed (number_at body 16)) (signed (number_at body 20))
        → below ≡ number_at body 24 → batch_outcome w s u ≡ box_call (box_of low high below) v (mesh_with n t)
        → Makes (changed (call_of v (entry_of kind body)) (mesh_with n t)) r (mesh_with (counts_after n r) s)
    made_box low high below k a b c h =
        makes _ w.refusal w.counts (box_is kind body k) same refl refl (rw (a, b, c) at h)
