-- A refine with a note: the note that is written, and the outcome.
use Rattle.std.specs.Prelude.{Result, Ok, Err}
use mathlib.Core.Path.{◌≡◌, refl, sym, ap, ap₂, subst, ◌∙◌}
use mathlib.Core.Bool.{Bool, true, false, not}
use mathlib.Core.List.{List, [], ◌∷◌, ◌++◌}
use mathlib.Core.Logic.{◌≢◌, ◌⊎◌, inl, inr}
use Prim.Native.Nat.{ℕ, zero, suc, ◌+◌, ◌*◌, ◌≤◌, ◌<◌}
use native.Mathlib.Omega.{arith}
use borrow.Author.Tests.{lt-ltb, le-ltb, leb-true, leb-false}
use lib.Dec.{leb, ltb}
use lib.ListN.{length, get_or}
use Rattle.theory.proofs.Calls.FirstThatHolds.{refuses, carries}
use Rattle.theory.proofs.Notes.Reading.{length_note}
use Rattle.rules.specs.Below.{fill}
use Rattle.rules.specs.Calls.{Outcome, outcome_of, buffer_room, refused_with, first_of, ◌if◌, worked, refine_refusal}
use Rattle.rules.specs.Calls.{with_report}
use Rattle.rules.specs.Notes.{note_of, nines_of, changed_slots, refined, note_refusal, noted_refusal, noted_work}
use Rattle.rules.specs.Notes.{noted_call}
use Rattle.rules.specs.Reports.{with_note, reported_call}
use Rattle.rules.specs.Split.{at_first, refine}
use Rattle.rules.specs.Spares.{Spares}
use Rattle.rules.specs.Tables.{Mesh}
use Rattle.tables.specs.Lent.{mesh_with}
use Rattle.tables.specs.declared.Counts.{Counts}
use Rattle.split.specs.declared.Chain.{Chain}
use Rattle.refining.specs.Finding.{Goes}
use Rattle.reporting.specs.Told.{Told}
use Rattle.tables.specs.Refusals.{number}
use Rattle.tables.specs.declared.refusals.Refusal.{Refusal}
use Rattle.tables.specs.declared.refusals.Refusal.TheVariants.{NoteShort, ReportShort}
use Rattle.tables.proofs.Refusing.{number_some}
use Rattle.refining.proofs.Telling.{told_all, as_refused, as_short, as_written}
use Rattle.noting.specs.Changed.{FrontIs}
use Rattle.noting.specs.Noting.{Notes, head_of}

-- ---- the note

module _ (t : ℕ) (m : Mesh) {slots : List ℕ} {k : ℕ} (H : FrontIs (changed_slots m (refined t m)) slots k) where
  -- The note that is to be written, with q for the number of its slots.
  abbrev note_with : ℕ → List ℕ
  note_with q = head_of t m.topology.vertices m.topology.triangles q ++ nines_of m (changed_slots m (refined t m))

  note_length : length (note_of t m (refined t m)) ≡ 4 + 9 * k
  note_length = omega (arith, length_note t m (refined t m), H.size)

  -- The refusal by the answers of the two tests.
  by_tests : (lent : List ℕ) (a b fits : Bool) → ltb (length lent) (length (note_of t m (refined t m))) ≡ a → fits ≡ b
      → first_of (22 if a ∷ 23 if not b ∷ [])
      ≡ first_of (22 if ltb (length lent) (length (note_of t m (refined t m))) ∷ 23 if not fits ∷ [])
  by_tests lent a b fits p q = ap₂ (λ (x y : Bool). first_of (22 if x ∷ 23 if not y ∷ [])) (sym p) (sym q)

  -- It is too long for what is lent.
  pub too_short : (lent : List ℕ) {fits : Bool} → length lent < 4 + 9 * k → Notes t m lent fits (Err NoteShort) lent
  too_short lent {fits} b =
      let e = lt-ltb (length lent) (length (note_of t m (refined t m))) (omega (arith, note_length)) in record {
        refusal = by_tests lent true fits fits e refl;
        short = refl;
        written = tt;
      }

  -- It is not, but the report does not fit.
  pub no_report : (lent : List ℕ) {fits : Bool} → 4 + 9 * k ≤ length lent → fits ≡ false → Notes t m lent fits (Err ReportShort) lent
  no_report lent {fits} b f =
      let e = le-ltb (length lent) (length (note_of t m (refined t m))) (omega (arith, note_length)) in record {
        refusal = by_tests lent false false fits e f;
        short = refl;
        written = tt;
      }

  -- It is written.
  pub long_enough : (lent : List ℕ) {left : List ℕ} {fits : Bool} → 4 + 9 * k ≤ length lent → fits ≡ true
      → left ≡ fill (4 + 9 * k) (λ i. get_or (note_with k) i 0) lent → Notes t m lent fits (Ok tt) left
  long_enough lent {fits = fits} b f w =
      let e = le-ltb (length lent) (length (note_of t m (refined t m))) (omega (arith, note_length)) in record {
        refusal = by_tests lent false true fits e f;
        short = tt;
        written =
            w
            ∙ ap (λ (q : ℕ). fill (4 + 9 * k) (λ i. get_or (note_with q) i 0) lent) (sym H.size)
            ∙ ap (λ (q : ℕ). fill q (λ i. get_or (note_of t m (refined t m)) i 0) lent) (sym note_length);
      }

-- ---- the outcome

module _ (t : ℕ) (note : List ℕ) (m : Mesh) (r : ℕ) where
  -- A refusal of the refine comes before that of the note.
  noted_kept : r ≡ refine_refusal t m → r ≢ 0 → r ≡ noted_refusal t note m
  unfolding noted_refusal
  noted_kept e x = go (refine_refusal t m) e
    where
      go : (q : ℕ) → r ≡ q
          → r ≡ elim q [
            | zero ↦ note_refusal t note m
            | suc n ↦ suc n
          ]
      go zero e = absurd (x e)
      go (suc n) e = e

  pub noted_refused : r ≡ refine_refusal t m → r ≢ 0 → refused_with r m (buffer_room note) ≡ noted_call t note m
  unfolding noted_call
  noted_refused e x =
      refuses m (buffer_room note) (noted_work t note m) (noted_refusal t note m) r (noted_kept e x) x

  module _ (z : refine_refusal t m ≡ 0) (q : r ≡ note_refusal t note m) where
    noted_last : r ≡ noted_refusal t note m
    unfolding noted_refusal
    noted_last = rw (noted_refusal, z) q

    pub noted_short : {left : List ℕ} → r ≢ 0 → left ≡ note → refused_with r m (buffer_room left) ≡ noted_call t note m
    unfolding noted_call
    noted_short x s =
        ap (λ (l : List ℕ). refused_with r m (buffer_room l)) s
        ∙ refuses m (buffer_room note) (noted_work t note m) (noted_refusal t note m) r noted_last x

    -- Nothing refuses it.
    pub noted_works : r ≡ 0 → noted_work t note m ≡ noted_call t note m
    unfolding noted_call
    noted_works x = carries m (buffer_room note) (noted_work t note m) (noted_refusal t note m) r noted_last x

    pub noted_carried : {left : List ℕ} (o : Outcome) → o ≡ worked (refine t (at_first m)) → r ≡ 0
        → left ≡ fill (length (note_of t m (refined t m))) (λ i. get_or (note_of t m (refined t m)) i 0) note
        → outcome_of o.answer o.mesh (buffer_room left) ≡ noted_call t note m
    noted_carried o e x w = rw (e, w) (noted_works x)

-- ---- with a report

-- 22, or 23 after it.
which_refused : (b fits : Bool) {r : ℕ} → r ≡ first_of (22 if b ∷ 23 if not fits ∷ []) → r ≢ 0
    → (r ≡ first_of (22 if b ∷ [])) ⊎ ((r ≡ 23) × (0 ≡ first_of (22 if b ∷ [])) × (fits ≡ false))
which_refused true fits e x = inl e
which_refused false true e x = absurd (x e)
which_refused false false e x = inr (e, refl, refl)

none_refused : (b fits : Bool) {r : ℕ} → r ≡ first_of (22 if b ∷ 23 if not fits ∷ []) → r ≡ 0
    → (r ≡ first_of (22 if b ∷ [])) × (fits ≡ true)
none_refused true fits e z = absurd (omega arith)
none_refused false true e z = (e, refl)
none_refused false false e z = absurd (omega arith)

module _ (t : ℕ) (note : List ℕ) (m : Mesh) (buffer : List ℕ) where
  abbrev told : List ℕ
  told = (refine t (at_first m)).report

  abbrev short : Outcome
  short = refused_with 23 m (buffer_room note)

  -- Refused as without a report.
  as_plain : {r : ℕ} → r ≢ 0 → refused_with r m (buffer_room note) ≡ noted_call t note m
      → with_report buffer 0 (refused_with r m (buffer_room note)) ≡ reported_call (with_note t note) buffer m
  unfolding reported_call
  as_plain x q =
      ap (with_report buffer 0) q
      ∙ as_refused told buffer (noted_call t note m) short (noted_call t note m).answer.refusal
      (λ z. x (ap (λ (o : Outcome). o.answer.refusal) q ∙ z))

  pub reported_refused : (r : ℕ) → r ≡ refine_refusal t m → r ≢ 0
      → with_report buffer 0 (refused_with r m (buffer_room note)) ≡ reported_call (with_note t note) buffer m
  reported_refused r e x = as_plain x (noted_refused t note m r e x)

  module _ (z : refine_refusal t m ≡ 0) where
    none : 0 ≡ note_refusal t note m → (noted_call t note m).answer.refusal ≡ 0
    none q = ap (λ (o : Outcome). o.answer.refusal) (sym (noted_works t note m 0 z q refl))

    as_unfit : {r : ℕ} → r ≡ 23 → 0 ≡ note_refusal t note m → length buffer < length told
        → with_report buffer 0 (refused_with r m (buffer_room note)) ≡ reported_call (with_note t note) buffer m
    unfolding reported_call
    as_unfit e q i =
        ap (λ (n : ℕ). with_report buffer 0 (refused_with n m (buffer_room note))) e
        ∙ as_short told buffer (noted_call t note m) short (none q) i

    abbrev test : Bool
    test = ltb (length note) (length (note_of t m (refined t m)))

    module _ {fits : Bool} {left : List ℕ} (f : fits ≡ leb (length told) (length buffer)) where
      pub reported_short : (r : Refusal) → Notes t m note fits (Err r) left
          → with_report buffer 0 (refused_with (number r) m (buffer_room left)) ≡ reported_call (with_note t note) buffer m
      reported_short r N =
          ap (λ (l : List ℕ). with_report buffer 0 (refused_with (number r) m (buffer_room l))) N.short
          ∙ go (which_refused test fits N.refusal (number_some r))
        where
          go : (number r ≡ note_refusal t note m) ⊎ ((number r ≡ 23) × (0 ≡ note_refusal t note m) × (fits ≡ false))
              → with_report buffer 0 (refused_with (number r) m (buffer_room note))
              ≡ reported_call (with_note t note) buffer m
          go (inl q) = as_plain (number_some r) (noted_short t note m (number r) z q (number_some r) refl)
          go (inr (p, q, e)) = as_unfit p q (leb-false (length told) (length buffer) (sym f ∙ e))

      pub reported_written : {n : ℕ} {after : List ℕ} (o : Outcome) → Notes t m note fits (Ok tt) left
          → o ≡ worked (refine t (at_first m)) → n ≡ length told → Told told buffer after 0
          → with_report after n (outcome_of o.answer o.mesh (buffer_room left))
          ≡ reported_call (with_note t note) buffer m
      unfolding reported_call
      reported_written {n} {after} o N p e T =
          let F = none_refused test fits N.refusal refl in
          let j = leb-true (length told) (length buffer) (sym f ∙ F.1) in
          ap (with_report after n) (noted_carried t note m 0 z F.0 o p refl N.written)
          ∙ rw (e, told_all T j) (as_written told buffer (noted_call t note m) short (none F.0) j)

-- ---- what is known of the tables as they were seen

module _ (n : Counts) {seen lent : Spares} (e : seen ≡ lent) {t : ℕ} where
  pub goes_seen : {c : Chain} → Goes t (mesh_with n lent) c → Goes t (mesh_with n seen) c
  goes_seen {c} G = subst (λ (s : Spares). Goes t (mesh_with n s) c) (sym e) G

  pub notes_seen : {note left : List ℕ} {fits : Bool} (r : Result (Unit {0}) Refusal)
      → Notes t (mesh_with n seen) note fits r left → Notes t (mesh_with n lent) note fits r left
  notes_seen {note} {left} {fits} r N = subst (λ (s : Spares). Notes t (mesh_with n s) note fits r left) e N
