-- The note that a refine writes is accepted wherever the mesh is what the refine made, and takes the refine back.
use mathlib.Core.Path.{◌≡◌, refl, sym, ap, ◌∙◌, subst}
use mathlib.Core.Bool.{not}
use mathlib.Core.List.{List, [], ◌∷◌}
use Prim.Native.Nat.{ℕ, suc, ◌+◌, ◌*◌, ◌<◌}
use native.Mathlib.Omega.{arith}
use lib.Dec.{eqb}
use lib.ListN.{length, get_or}
use Rattle.theory.proofs.Calls.CallRefusals.{refine_judged}
use Rattle.theory.proofs.Calls.Carried.{refine_found}
use Rattle.theory.proofs.Calls.FirstThatHolds.{judged_carried}
use Rattle.theory.proofs.Calls.Outcomes.{noted_makes, noted_as_refine}
use Rattle.theory.proofs.Chains.Going.{Going, going_begins, going_on}
use Rattle.theory.proofs.Notes.BeforeTheRefine.{restored_over}
use Rattle.theory.proofs.Notes.Reading.{Says, has_says}
use Rattle.theory.proofs.Notes.Tests.{accepted_is}
use Rattle.theory.proofs.Numbers.Decide.{is_same, is_true}
use Rattle.theory.proofs.Numbers.Those.{Those, those_are, those_same}
use Rattle.theory.proofs.Soundness.SoundTest.{tables_agree_is, sound_is}
use Rattle.theory.proofs.Spares.CopiedBack.{tables_of, copied_held}
use Rattle.theory.proofs.Spares.OverSpares.{over, over_sound, over_refusal, over_refine, corner_same, link_same}
use Rattle.theory.proofs.Spares.OverSpares.{generation_same, lock_same, position_same, same_holds}
use Rattle.rules.specs.Calls.{Answer, worked, refine_refusal, refine_call}
use Rattle.rules.specs.Below.{all}
use Rattle.rules.specs.Notes.{nine_of, differs, changed_slots, refined, restored, SameInUse, Accepted}
use Rattle.rules.specs.Notes.{noted_call, take_back_refusal, take_back_call}
use Rattle.rules.specs.Promises.{HasNote, AgreeInUse}
use Rattle.rules.specs.Sound.{Sound}
use Rattle.rules.specs.Spares.{Spares, SameSizes, mesh_in}
use Rattle.rules.specs.Split.{Work, at_first, refine, with_mesh}
use Rattle.rules.specs.Tables.{Mesh}

-- ---- meshes with the same in use

pub same_self : (m : Mesh) → SameInUse m m
same_self m = record {
  vertices = refl;
  triangles = refl;
  rule = refl;
  corners = λ h l. refl;
  links = λ h l. refl;
  generations = λ t l. refl;
  locks = λ t l. refl;
  positions = λ i l. refl;
}

-- The copy of a mesh in other tables.
pub same_over : {s : Spares} {m : Mesh} → SameSizes s m → Sound m → SameInUse m (over s m)
same_over L S = record {
  vertices = refl;
  triangles = refl;
  rule = refl;
  corners = corner_same (same_holds L S) S;
  links = link_same (same_holds L S) S;
  generations = generation_same (same_holds L S) S;
  locks = lock_same (same_holds L S) S;
  positions = position_same (same_holds L S) S;
}

-- ---- the note of a refine that is carried out, kept, with the mesh that it made, in tables s

module _ {t : ℕ} {m : Mesh} {note : List ℕ} {s : Spares} (z : refine_refusal t m ≡ 0)
    (B : HasNote t m (refined t m) note) (L : SameSizes s (refined t m)) (E : AgreeInUse s (refined t m)) where
  abbrev n : Mesh
  n = mesh_in s (refined t m)

  G : Going m (refine t (at_first m))
  G = let F = refine_found t m z in going_on (going_begins F.sound) F

  S : Sound m
  S = (refine_found t m z).sound

  n_is : over s (refined t m) ≡ n
  n_is = ap (λ (s : Spares). mesh_in s (refined t m)) (copied_held L G.sound E)

  pub kept_sound : Sound n
  kept_sound = subst Sound n_is (over_sound L G.sound)

  sizes : SameSizes s m
  sizes =
      let K = G.room in
      record {
        positions = L.positions ∙ K.positions;
        corners = L.corners ∙ K.corners;
        links = L.links ∙ K.links;
        generations = L.generations ∙ K.generations;
        locks = L.locks ∙ K.locks;
      }

  -- The slots that have changed are the same.
  nine_kept : (x : ℕ) → x < m.topology.triangles → nine_of n x ≡ nine_of (refined t m) x
  nine_kept x l =
      let u : x < (refined t m).topology.triangles = omega (arith, G.still.grows) in
      let h = 3 * x in
      λ i. x
      ∷ E.corners h (omega arith) i ∷ E.corners (h + 1) (omega arith) i ∷ E.corners (h + 2) (omega arith) i
      ∷ E.links h (omega arith) i ∷ E.links (h + 1) (omega arith) i ∷ E.links (h + 2) (omega arith) i
      ∷ E.generations x u i
      ∷ E.locks x u i
      ∷ []

  changed_kept : changed_slots m n ≡ changed_slots m (refined t m)
  unfolding differs
  changed_kept =
      those_same m.topology.triangles (differs m n) (differs m (refined t m)) (λ x l.
      ap (λ (nine : List ℕ). not (all 9 (λ j. eqb (get_or (nine_of m x) j 0) (get_or nine j 0)))) (nine_kept x l))

  Y : Says t m n note
  Y =
      let K = has_says B in
      record {
        long = K.long;
        triangle = K.triangle;
        vertices = K.vertices;
        triangles = K.triangles;
        slots = K.slots ∙ ap length (sym changed_kept);
        nine = λ i j b c.
            K.nine i j b c ∙ ap (λ (l : List ℕ). get_or (nine_of m (get_or l i 0)) j 0) (sym changed_kept);
      }

  -- It restores the mesh before the refine, in these tables.
  restores : restored note n ≡ over s m
  restores =
      restored_over Y S (record {
        sizes = record {
          positions = sizes.positions;
          corners = sizes.corners;
          links = sizes.links;
          generations = sizes.generations;
          locks = sizes.locks;
        };
        old = λ i b. E.positions i (omega (arith, G.places.grows)) ∙ G.places.old i b;
        rule = G.places.rule;
      })

  pub restores_in_use : SameInUse m (restored note n)
  restores_in_use = rw restores (same_over sizes S)

  pub restores_sound : Sound (restored note n)
  restores_sound = rw restores (over_sound sizes S)

  -- Refined again, it makes all that was there, in every slot of the tables.
  pub refused_again : refine_refusal t (restored note n) ≡ 0
  refused_again = rw restores (over_refusal sizes S t ∙ z)

  pub refined_again : refine t (at_first (restored note n)) ≡ with_mesh n (refine t (at_first m))
  refined_again =
      ap (λ (k : Mesh). refine t (at_first k)) restores
      ∙ over_refine sizes t z
      ∙ ap (λ (k : Mesh). with_mesh k (refine t (at_first m))) n_is

  pub kept_accepted : Accepted note n
  kept_accepted =
      let T : Those m.topology.triangles (differs m n) (changed_slots m n) =
      those_are m.topology.triangles (differs m n) in
      record {
        long = Y.long;
        rising = λ i l.
            omega (
              arith,
              Y.nine i 0 (omega arith) (omega arith),
              Y.nine (suc i) 0 l (omega arith),
              T.rising i (omega (arith, Y.slots)),
            );
        in_use = λ i l.
            omega (arith, Y.nine i 0 l (omega arith), T.below i (omega (arith, Y.slots)), Y.triangles);
        sound = restores_sound;
        carried_out = rw Y.triangle refused_again;
        present = rw (Y.triangle, ap (λ (w : Work). w.mesh) refined_again) (same_self n);
      }

-- ---- the calls

-- A note that is accepted is taken back.
take_back_done : (note : List ℕ) (m : Mesh) → Sound m → Accepted note m
    → take_back_call note m ≡ worked (at_first (restored note m))
unfolding take_back_refusal take_back_call
take_back_done note m S A =
    rw (
      is_same (tables_agree_is m) (is_true S.tables),
      is_same (sound_is m) (is_true S),
      is_same (accepted_is note m) (is_true A),
    ) refl

-- The refine of a note that was kept, with the mesh that it made, is taken back.
pub kept_taken_back : (t : ℕ) (m : Mesh) → (refine_call t m).answer.refusal ≡ 0
    → let o = refine_call t m in
    (note : List ℕ) (s : Spares) → HasNote t m o.mesh note → SameSizes s o.mesh → AgreeInUse s o.mesh
    → let n = mesh_in s o.mesh in
    let back = take_back_call note n in
    let again = refine_call t back.mesh in
    Accepted note n × (back.answer.refusal ≡ 0) × Sound back.mesh × SameInUse m back.mesh
    × (again.answer ≡ o.answer) × (again.mesh ≡ n)
unfolding refine_call
kept_taken_back t m r note s =
    let (z, e) = judged_carried (refine_judged t m) r in
    rw e (λ B L E.
    let A = kept_accepted z B L E in
    rw (take_back_done note _ (kept_sound z B L E) A) (
      A,
      refl,
      restores_sound z B L E,
      restores_in_use z B L E,
      rw (refused_again z B L E, refined_again z B L E) refl,
      rw (refused_again z B L E, refined_again z B L E) refl,
    ))

-- So is the refine of a note just written.
pub noted_back : (t : ℕ) (note : List ℕ) (m : Mesh) → (noted_call t note m).answer.refusal ≡ 0
    → let o = noted_call t note m in
    let back = take_back_call o.room.buffer o.mesh in
    (back.answer.refusal ≡ 0) × SameInUse m back.mesh × ((refine_call t back.mesh).mesh ≡ o.mesh)
noted_back t note m z =
    let (a, e) = noted_as_refine t note m (λ q. omega arith) in
    let r : (refine_call t m).answer.refusal ≡ 0 = ap (λ (b : Answer). b.refusal) (sym a) ∙ z in
    let H = subst (λ (n : Mesh). HasNote t m n (noted_call t note m).room.buffer) e (noted_makes t note m z).1.has in
    let L : SameSizes (tables_of (refine_call t m).mesh) (refine_call t m).mesh =
    record { positions = refl; corners = refl; links = refl; generations = refl; locks = refl } in
    let A : AgreeInUse (tables_of (refine_call t m).mesh) (refine_call t m).mesh = record {
      positions = λ i l. refl;
      corners = λ h l. refl;
      links = λ h l. refl;
      generations = λ x l. refl;
      locks = λ x l. refl;
    } in
    let K = kept_taken_back t m r (noted_call t note m).room.buffer (tables_of (refine_call t m).mesh) H L A in
    rw e (K.1, K.3, K.5)
