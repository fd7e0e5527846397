-- A call with a report, by the one without.
use mathlib.Core.Path.{◌≡◌, refl, sym, ap, ◌∙◌, subst}
use mathlib.Core.Logic.{◌≢◌}
use mathlib.Core.Bool.{Bool, true, false}
use mathlib.Core.List.{List}
use Prim.Native.Nat.{ℕ, zero, suc, ◌≤◌, ◌<◌}
use native.Mathlib.Omega.{arith}
use lib.Dec.{ltb}
use lib.ListN.{length}
use Rattle.theory.proofs.Numbers.Decide.{Decides, is_lt}
use Rattle.rules.specs.Boxes.{refine_in_box, box_refusal, box_call}
use Rattle.rules.specs.Calls.{Outcome, with_report, spare_room, unless}
use Rattle.rules.specs.History.{Change, refines, refines_noted, refines_each, refines_in_box, changes, outcome}
use Rattle.rules.specs.Lists.{Progress, refine_each, spares_refusal, all_or_nothing, list_call}
use Rattle.rules.specs.Promises.{refused_work, refused_report}
use Rattle.rules.specs.Reports.{Refining, one, with_note, each, in_box, plain_call, work_of, short_call, reported_as}
use Rattle.rules.specs.Reports.{report_in, reported_call}
use Rattle.rules.specs.Spares.{Spares}
use Rattle.rules.specs.Tables.{Mesh}

-- The call without a report, as a change.
abbrev pub plain : Refining → Change
plain (one t) = refines t
plain (with_note t note) = refines_noted t note
plain (each list spares) = refines_each list spares
plain (in_box b spares) = refines_in_box b spares

pub plain_is : (r : Refining) (m : Mesh) → outcome (changes (plain r)) m ≡ plain_call r m
plain_is (one t) m = refl
plain_is (with_note t note) m = refl
plain_is (each list spares) m = refl
plain_is (in_box b spares) m = refl

not_lt : {i j : ℕ} → Decides false (i < j) → j ≤ i
not_lt {i} {j} d = let n : ¬ (i < j) = λ x. d.passes x in omega arith

-- What comes of the call with a report: its refusal without one; 23; or the report is written.
pub data Reported (r : Refining) (buffer : List ℕ) (m : Mesh) : Outcome → Type 0 where
  refused_plain : (plain_call r m).answer.refusal ≢ 0 → Reported r buffer m (with_report buffer 0 (plain_call r m))
  too_short : (plain_call r m).answer.refusal ≡ 0 → length buffer < length (work_of r m).report
      → Reported r buffer m (with_report buffer 0 (short_call r m))
  written : (plain_call r m).answer.refusal ≡ 0 → length (work_of r m).report ≤ length buffer
      → Reported r buffer m
      (with_report (report_in (work_of r m).report buffer) (length (work_of r m).report) (plain_call r m))

pub reported_as_lem : (r : Refining) (buffer : List ℕ) (m : Mesh) → Reported r buffer m (reported_call r buffer m)
unfolding reported_call
reported_as_lem r buffer m = go (plain_call r m).answer.refusal refl
  where
    which : (b : Bool) →
        let l = (work_of r m).report in
        Decides b (length buffer < length l) → (plain_call r m).answer.refusal ≡ 0
        → Reported r buffer m (elim b [
          | true ↦ with_report buffer 0 (short_call r m)
          | false ↦ with_report (report_in l buffer) (length l) (plain_call r m)
        ])
    which true d z = too_short z (d.holds tt)
    which false d z = written z (not_lt d)

    go : (n : ℕ) → (plain_call r m).answer.refusal ≡ n
        → Reported r buffer m (reported_as n (work_of r m).report buffer (plain_call r m) (short_call r m))
    go zero e = which (ltb (length buffer) (length (work_of r m).report)) (is_lt (length buffer) _) e
    go (suc n) e = refused_plain (λ z. omega (arith, z, e))

-- 23 leaves the mesh.
short_mesh : (r : Refining) (m : Mesh) → (short_call r m).mesh ≡ m
short_mesh (one t) m = refl
short_mesh (with_note t note) m = refl
short_mesh (each list spares) m = refl
short_mesh (in_box b spares) m = refl

pub short_number : (r : Refining) (m : Mesh) → (short_call r m).answer.refusal ≡ 23
short_number (one t) m = refl
short_number (with_note t note) m = refl
short_number (each list spares) m = refl
short_number (in_box b spares) m = refl

-- So the mesh is left, or is what the call without a report makes.
reported_mesh : {r : Refining} {buffer : List ℕ} {m : Mesh} {o : Outcome} (P : Mesh → Type 0) → Reported r buffer m o
    → P m → P (plain_call r m).mesh → P o.mesh
reported_mesh P (refused_plain n) h p = p
reported_mesh {r} {m = m} P (too_short z l) h p = subst P (sym (short_mesh r m)) h
reported_mesh P (written z l) h p = p

pub reported_keeps : (r : Refining) (buffer : List ℕ) (m : Mesh) (P : Mesh → Type 0) → P m
    → P (outcome (changes (plain r)) m).mesh → P (reported_call r buffer m).mesh
reported_keeps r buffer m P h p =
    reported_mesh P (reported_as_lem r buffer m) h (subst (λ (o : Outcome). P o.mesh) (plain_is r m) p)

-- ---- refused

-- Work in spare tables that was carried out was not refused before it.
done_unless : (n : ℕ) (p : Progress) (spares : Spares) (m : Mesh)
    → (unless n m (spare_room spares) (all_or_nothing p.refusal p spares m)).answer.refusal ≡ 0
    → all_or_nothing 23 p spares m ≡ refused_work n p spares 23 m
done_unless zero p spares m z = refl
done_unless (suc n) p spares m z = absurd (omega arith)

short_refused : (r : Refining) (m : Mesh) → (plain_call r m).answer.refusal ≡ 0 → short_call r m ≡ refused_report r 23 m
unfolding list_call box_call
short_refused (one t) m z = refl
short_refused (with_note t note) m z = refl
short_refused (each list spares) m z = done_unless (spares_refusal spares m) (refine_each list m) spares m z
short_refused (in_box b spares) m z = done_unless (box_refusal b spares m) (refine_in_box b m) spares m z

pub reported_refused : {r : Refining} {buffer : List ℕ} {m : Mesh} {o : Outcome}
    → ((plain_call r m).answer.refusal ≢ 0 → plain_call r m ≡ refused_report r (plain_call r m).answer.refusal m)
    → Reported r buffer m o → o.answer.refusal ≢ 0 → o ≡ with_report buffer 0 (refused_report r o.answer.refusal m)
reported_refused {buffer = buffer} f (refused_plain n) x = ap (with_report buffer 0) (f n)
reported_refused {r} {buffer} {m} f (too_short z l) x =
    ap (with_report buffer 0)
    (short_refused r m z ∙ ap (λ (n : ℕ). refused_report r n m) (sym (short_number r m)))
reported_refused f (written z l) x = absurd (x z)

-- The number is that of the call without a report, or 23.
pub reported_not : {r : Refining} {buffer : List ℕ} {m : Mesh} {o : Outcome} (n : ℕ) → n ≢ 23
    → (plain_call r m).answer.refusal ≢ n → Reported r buffer m o → o.answer.refusal ≢ n
reported_not n d f (refused_plain _) = f
reported_not {r} {m = m} n d f (too_short z l) = λ e. d (sym e ∙ short_number r m)
reported_not n d f (written z l) = f
