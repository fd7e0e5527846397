-- Changes: what they keep of the tables' lengths, and that a recorded one does what the call did.
use Prim.Native.Nat.{ℕ, zero, suc, ◌/◌}
use native.Mathlib.Omega.{arith}
use mathlib.Core.List.{List}
use mathlib.Core.Logic.{◌≢◌}
use mathlib.Core.Path.{◌≡◌, refl, ap, sym, subst, ◌∙◌}
use native.Mathlib.Decide.{ℕ_discrete}
use Rattle.theory.proofs.Boxes.BoxCall.{box_sound}
use Rattle.theory.proofs.Lists.ListCall.{same_sizes_is, spares_sound}
use Rattle.theory.proofs.Numbers.Decide.{is_same, is_true}
use Rattle.theory.proofs.Locks.LockedFaces.{refused_stands}
use Rattle.theory.proofs.Notes.Restoring.{slots_same}
use Rattle.theory.proofs.Results.Load.{load_carried}
use Rattle.theory.proofs.Results.Refine.{refine_carried}
use Rattle.theory.proofs.Results.WholeStep.{whole_step_carried}
use Rattle.theory.proofs.Results.Locks.{lock_carried}
use Rattle.theory.proofs.Results.Notes.{noted_is_refine, take_back_carried}
use Rattle.theory.proofs.Results.Lists.{list_carried}
use Rattle.theory.proofs.Results.Boxes.{box_carried}
use Rattle.theory.proofs.Results.Reports.{reported_carried}
use Rattle.theory.proofs.Soundness.Relaxed.{SameSlots}
use Rattle.rules.specs.Boxes.{Box, refine_in_box, box_refusal, box_call}
use Rattle.rules.specs.Calls.{Outcome, spare_room, unless}
use Rattle.rules.specs.History.{Change, loads, refines, steps, refines_each, refines_in_box, sets_lock, refines_noted}
use Rattle.rules.specs.History.{takes_back, reports, changed, changes}
use Rattle.rules.specs.Lists.{Progress, refine_each, spares_refusal, all_or_nothing, list_call}
use Rattle.rules.specs.Promises.{SamePast}
use Rattle.rules.specs.Reports.{Refining, one, with_note, each, in_box, plain_call}
use Rattle.rules.specs.Spares.{Spares, SameSizes, same_sizes}
use Rattle.rules.specs.Tables.{Mesh, vertex_slots, triangle_slots}
use Rattle.journal.specs.Replay.{call_of}
use Rattle.journal.specs.Recording.{entry_for, entry_for_refining}

-- ---- a change that is refused leaves the mesh

pub refused_mesh : (c : Change) (m : Mesh) → (changed c m).answer.refusal ≢ 0 → (changed c m).mesh ≡ m
refused_mesh c m x = refused_stands (changes c) m x

-- ---- the lengths of the tables

slots_past : {m n : Mesh} → SamePast m n → SameSlots m n
slots_past P = record {
  positions = P.position_slots;
  corners = P.corner_slots;
  links = P.link_slots;
  generations = P.generation_slots;
  locks = P.lock_slots;
}

-- What a call made, from its outcome.
slots_made : {m n : Mesh} {o q : Outcome} → o ≡ q → q.mesh ≡ n → SameSlots m n → SameSlots m o.mesh
slots_made {m} e f S = subst (SameSlots m) (sym (ap (λ (x : Outcome). x.mesh) e ∙ f)) S

refine_slots : (t : ℕ) (m : Mesh) → (changed (refines t) m).answer.refusal ≡ 0
    → SameSlots m (changed (refines t) m).mesh
refine_slots t m z = let x = refine_carried t m z in slots_made x.0 refl (slots_past x.1.past)

-- A refine with a note does what the refine does.
pub noted_plain : (t : ℕ) (note : List ℕ) (m : Mesh) → (changed (refines_noted t note) m).answer.refusal ≡ 0
    → ((changed (refines t) m).answer.refusal ≡ 0)
    × ((changed (refines t) m).mesh ≡ (changed (refines_noted t note) m).mesh)
noted_plain t note m z =
    let x = noted_is_refine t note m (λ e. omega arith) in
    (sym (ap (λ a. a.refusal) x.0) ∙ z, sym x.1)

plain_slots : (r : Refining) (m : Mesh) → (plain_call r m).answer.refusal ≡ 0 → SameSlots m (plain_call r m).mesh
plain_slots (one t) m z = refine_slots t m z
plain_slots (with_note t note) m z =
    let x = noted_plain t note m z in
    subst (SameSlots m) x.1 (refine_slots t m x.0)
plain_slots (each list spares) m z =
    let x = list_carried list spares m z in
    slots_made x.0 refl (slots_past x.2.past)
plain_slots (in_box b spares) m z =
    let x = box_carried b spares m z in
    slots_made x.0 refl (slots_past x.1.past)

carried_slots : (c : Change) (m : Mesh) → (changed c m).answer.refusal ≡ 0 → SameSlots m (changed c m).mesh
carried_slots (loads rule cage) m z =
    let x = load_carried rule cage m z in
    slots_made x.0 refl (slots_past x.1.past)
carried_slots (refines t) m z = refine_slots t m z
carried_slots steps m z =
    let x = whole_step_carried m z in
    slots_made x.0 refl (slots_past x.1.past)
carried_slots (refines_each list spares) m z = plain_slots (each list spares) m z
carried_slots (refines_in_box b spares) m z = plain_slots (in_box b spares) m z
carried_slots (sets_lock on t) m z =
    let x = lock_carried on t m z in
    slots_made x.0 refl (record {
      positions = refl;
      corners = refl;
      links = refl;
      generations = refl;
      locks = x.1.size;
    })
carried_slots (refines_noted t note) m z = plain_slots (with_note t note) m z
carried_slots (takes_back note) m z =
    let x = take_back_carried note m z in
    slots_made x.0 refl (slots_past x.2.past)
carried_slots (reports r buffer) m z =
    let x = reported_carried r buffer m z in
    slots_made x.2 refl (plain_slots r m x.0)

pub change_slots : (c : Change) (m : Mesh) → SameSlots m (changed c m).mesh
change_slots c m = go (ℕ_discrete (changed c m).answer.refusal 0)
  where
    go : Dec ((changed c m).answer.refusal ≡ 0) → SameSlots m (changed c m).mesh
    go (yes z) = carried_slots c m z
    go (no x) = subst (SameSlots m) (sym (refused_mesh c m x)) (slots_same m)

-- Spare tables that fit a mesh fit it after a change.
pub sizes_on : {s : Spares} {m n : Mesh} → SameSlots m n → SameSizes s m → SameSizes s n
sizes_on S L = record {
  positions = L.positions ∙ sym S.positions;
  corners = L.corners ∙ sym S.corners;
  links = L.links ∙ sym S.links;
  generations = L.generations ∙ sym S.generations;
  locks = L.locks ∙ sym S.locks;
}

pub vertex_slots_stay : {m n : Mesh} → SameSlots m n → vertex_slots n ≡ vertex_slots m
vertex_slots_stay S = ap (λ (k : ℕ). k / 3) S.positions

pub triangle_slots_stay : {m n : Mesh} → SameSlots m n → triangle_slots n ≡ triangle_slots m
triangle_slots_stay S = S.generations

-- ---- room that is lent

-- Two calls that leave one mesh and are refused alike.
pub record Alike (o q : Outcome) : Type 0 where
  pub refusal : o.answer.refusal ≡ q.answer.refusal
  pub mesh : o.mesh ≡ q.mesh

alike_if : (n k : ℕ) (p : Progress) (s t : Spares) (m : Mesh)
    → Alike (unless n m (spare_room s) (all_or_nothing k p s m)) (unless n m (spare_room t) (all_or_nothing k p t m))
alike_if zero zero p s t m = record { refusal = refl; mesh = refl }
alike_if zero (suc k) p s t m = record { refusal = refl; mesh = refl }
alike_if (suc n) k p s t m = record { refusal = refl; mesh = refl }

module _ (s t : Spares) (m : Mesh) (e : same_sizes s m ≡ same_sizes t m) where
  list_refusal : spares_refusal s m ≡ spares_refusal t m
  unfolding spares_refusal
  list_refusal = rw e refl

  pub list_alike : (list : List ℕ) → Alike (list_call list s m) (list_call list t m)
  unfolding list_call
  list_alike list =
      let p = refine_each list m in
      rw list_refusal (alike_if (spares_refusal t m) p.refusal p s t m)

  box_refusal_alike : (b : Box) → box_refusal b s m ≡ box_refusal b t m
  unfolding box_refusal
  box_refusal_alike b = rw e refl

  pub box_alike : (b : Box) → Alike (box_call b s m) (box_call b t m)
  unfolding box_call
  box_alike b =
      let p = refine_in_box b m in
      rw (box_refusal_alike b) (alike_if (box_refusal b t m) p.refusal p s t m)

-- A call that is carried out has passed what is refused first.
first_passed : (n : ℕ) (m : Mesh) (s : Spares) (o : Outcome) → (unless n m (spare_room s) o).answer.refusal ≡ 0 → n ≡ 0
first_passed zero m s o z = refl
first_passed (suc n) m s o z = absurd (omega arith)

list_fits : (list : List ℕ) (s : Spares) (m : Mesh) → (list_call list s m).answer.refusal ≡ 0 → SameSizes s m
unfolding list_call
list_fits list s m z = (spares_sound s m (first_passed (spares_refusal s m) m s _ z)).0

box_fits_alike : (b : Box) (s : Spares) (m : Mesh) → (box_call b s m).answer.refusal ≡ 0 → SameSizes s m
unfolding box_call
box_fits_alike b s m z = (box_sound b s m (first_passed (box_refusal b s m) m s _ z)).0

fit_alike : {s t : Spares} {m : Mesh} → SameSizes s m → SameSizes t m → same_sizes s m ≡ same_sizes t m
fit_alike {s} {t} {m} a b = is_same (same_sizes_is s m) (is_true a) ∙ sym (is_same (same_sizes_is t m) (is_true b))

-- ---- what is recorded does what the call did

-- A change is carried out, and leaves this mesh.
pub record Carried (c : Change) (m n : Mesh) : Type 0 where
  pub refusal : (changed c m).answer.refusal ≡ 0
  pub mesh : (changed c m).mesh ≡ n

alike_carried : (c : Change) (m : Mesh) {o : Outcome} → Alike (changed c m) o → o.answer.refusal ≡ 0
    → Carried c m o.mesh
alike_carried c m A z = record { refusal = A.refusal ∙ z; mesh = A.mesh }

module _ (s : Spares) (m : Mesh) (L : SameSizes s m) where
  list_again : (list : List ℕ) (t : Spares) → (list_call list t m).answer.refusal ≡ 0
      → Carried (refines_each list s) m (list_call list t m).mesh
  list_again list t z =
      alike_carried (refines_each list s) m
      (list_alike s t m (fit_alike L (list_fits list t m z)) list) z

  box_again : (b : Box) (t : Spares) → (box_call b t m).answer.refusal ≡ 0
      → Carried (refines_in_box b s) m (box_call b t m).mesh
  box_again b t z =
      alike_carried (refines_in_box b s) m
      (box_alike s t m (fit_alike L (box_fits_alike b t m z)) b) z

  noted_again : (t : ℕ) (note : List ℕ) → (changed (refines_noted t note) m).answer.refusal ≡ 0
      → Carried (refines t) m (changed (refines_noted t note) m).mesh
  noted_again t note z = let x = noted_plain t note m z in record { refusal = x.0; mesh = x.1 }

  plain_again : (r : Refining) → (plain_call r m).answer.refusal ≡ 0
      → Carried (call_of s (entry_for_refining r)) m (plain_call r m).mesh
  plain_again (one t) z = record { refusal = z; mesh = refl }
  plain_again (with_note t note) z = noted_again t note z
  plain_again (each list t) z = list_again list t z
  plain_again (in_box b t) z = box_again b t z

  pub carried_again : (c : Change) → (changed c m).answer.refusal ≡ 0
      → Carried (call_of s (entry_for c)) m (changed c m).mesh
  carried_again (loads rule cage) z = record { refusal = z; mesh = refl }
  carried_again (refines t) z = record { refusal = z; mesh = refl }
  carried_again steps z = record { refusal = z; mesh = refl }
  carried_again (refines_each list t) z = list_again list t z
  carried_again (refines_in_box b t) z = box_again b t z
  carried_again (sets_lock on t) z = record { refusal = z; mesh = refl }
  carried_again (refines_noted t note) z = noted_again t note z
  carried_again (takes_back note) z = record { refusal = z; mesh = refl }
  carried_again (reports r buffer) z =
      let x = reported_carried r buffer m z in
      let a = plain_again r x.0 in
      record { refusal = a.refusal; mesh = a.mesh ∙ sym (ap (λ (o : Outcome). o.mesh) x.2) }
