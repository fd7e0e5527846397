-- What is told of a refine, and its outcome with a report.
use mathlib.Core.Bool.{Bool, true, false}
use mathlib.Core.List.{List, []}
use mathlib.Core.Logic.{◌≢◌}
use mathlib.Core.Path.{◌≡◌, refl, sym, ap, ◌∙◌, subst}
use borrow.Author.Tests.{lt-ltb, le-ltb}
use Prim.Native.Nat.{ℕ, zero, suc, ◌+◌, ◌*◌, ◌≤◌, ◌<◌}
use native.Mathlib.Omega.{arith}
use lib.Dec.{ltb}
use lib.ListN.{length}
use Rattle.reporting.specs.Told.{Tells, Told, told_unless}
use Rattle.reporting.proofs.Telling.{tells_none}
use Rattle.theory.proofs.Calls.ReportedCalls.{report_tells, refine_report_bound}
use Rattle.rules.specs.Below.{fill}
use Rattle.rules.specs.Calls.{Outcome, with_report, worked, no_room, refused_with, refine_refusal, refine_call}
use Rattle.rules.specs.Reports.{one, report_in, reported_as, reported_call}
use Rattle.rules.specs.Split.{at_first, refine}
use Rattle.rules.specs.Tables.{Mesh}
use Rattle.refining.proofs.Refusing.{refine_refused, refine_carried}

pub told_refused : (n : ℕ) (l : List ℕ) {b : List ℕ} {at : ℕ} → n ≢ 0 → Told (told_unless n l) b b at
told_refused zero l x = absurd (x refl)
told_refused (suc n) l {b} {at} x = (at, tells_none at b)

pub told_done : (n : ℕ) {l b c : List ℕ} {at : ℕ} → n ≡ 0 → Told l b c at → Told (told_unless n l) b c at
told_done n z T = rw z T

-- The place behind what is told.
pub tells_to : {l a b : List ℕ} {i end : ℕ} → Tells l a b 0 i → length l ≡ end → Tells l a b 0 end
tells_to T e = record { size = T.size; told = λ room. (omega arith, (T.told room).1) }

pub told_zero : (n : ℕ) (l : List ℕ) {a b : List ℕ} {at : ℕ} → Told (told_unless n l) a b at → n ≡ 0 → Told l a b at
told_zero n l {a} {b} {at} T z = subst (λ (n : ℕ). Told (told_unless n l) a b at) z T

pub told_nothing : (n : ℕ) (l : List ℕ) {a b : List ℕ} {at : ℕ} → Told (told_unless n l) a b at → n ≢ 0 → Told [] a b at
told_nothing zero l T z = absurd (z refl)
told_nothing (suc n) l T z = T

-- From the first entry on, where there is room.
pub told_all : {l b c : List ℕ} → Told l b c 0 → length l ≤ length b → c ≡ report_in l b
unfolding fill
told_all {b = b} T i = (T.1.told (omega arith)).1 [] b refl refl

-- ---- any call

module _ (l buffer : List ℕ) (done short : Outcome) where
  pub as_refused : (n : ℕ) → n ≢ 0 → with_report buffer 0 done ≡ reported_as n l buffer done short
  as_refused zero x = absurd (x refl)
  as_refused (suc n) x = refl

  -- Where nothing else refuses, by the test of the buffer.
  by_test : (b : Bool) (n : ℕ) → n ≡ 0 → ltb (length buffer) (length l) ≡ b
      → elim b [ true ↦ with_report buffer 0 short | false ↦ with_report (report_in l buffer) (length l) done ]
      ≡ reported_as n l buffer done short
  by_test b zero z e =
      ap (λ (x : Bool).
      elim x [ true ↦ with_report buffer 0 short | false ↦ with_report (report_in l buffer) (length l) done ]) (sym e)
  by_test b (suc n) z e = absurd (omega arith)

  pub as_short : {n : ℕ} → n ≡ 0 → length buffer < length l
      → with_report buffer 0 short ≡ reported_as n l buffer done short
  as_short z i = by_test true _ z (lt-ltb _ _ i)

  pub as_written : {n : ℕ} → n ≡ 0 → length l ≤ length buffer
      → with_report (report_in l buffer) (length l) done ≡ reported_as n l buffer done short
  as_written z i = by_test false _ z (le-ltb _ _ i)

-- ---- one refine

module _ (t : ℕ) (m : Mesh) (buffer : List ℕ) (r : ℕ) (e : r ≡ refine_refusal t m) where
  pub report_refused : r ≢ 0 → with_report buffer 0 (refused_with r m no_room) ≡ reported_call (one t) buffer m
  unfolding reported_call
  report_refused x =
      let q = refine_refused t m r e x in
      ap (with_report buffer 0) q
      ∙ as_refused (refine t (at_first m)).report buffer (refine_call t m) (refused_with 23 m no_room)
      (refine_call t m).answer.refusal (λ z. x (ap (λ (o : Outcome). o.answer.refusal) q ∙ z))

  module _ (z : r ≡ 0) where
    carried : worked (refine t (at_first m)) ≡ refine_call t m
    carried = refine_carried t m r e z

    none : (refine_call t m).answer.refusal ≡ 0
    none = ap (λ (o : Outcome). o.answer.refusal) (sym carried)

    -- What is answered, too.
    pub told_length : {o : Outcome} → o ≡ worked (refine t (at_first m)) →
        let n = 3 * o.answer.splits + 2 * o.answer.flips in
        (n ≡ length (refine t (at_first m)).report) × (n ≤ 54)
    told_length p =
        let e = (report_tells (one t) m none).0 in
        rw p (sym e, omega (arith, e, refine_report_bound t m none))

    pub report_short : length buffer < length (refine t (at_first m)).report
        → with_report buffer 0 (refused_with 23 m no_room) ≡ reported_call (one t) buffer m
    unfolding reported_call
    report_short = as_short (refine t (at_first m)).report buffer (refine_call t m) (refused_with 23 m no_room) none

    pub report_written : {after : List ℕ} {n : ℕ} {o : Outcome} → o ≡ worked (refine t (at_first m))
        → n ≡ length (refine t (at_first m)).report → n ≤ length buffer
        → Told (refine t (at_first m)).report buffer after 0
        → with_report after n o ≡ reported_call (one t) buffer m
    unfolding reported_call
    report_written {after} {n} p q i T =
        let l : List ℕ = (refine t (at_first m)).report in
        let j : length l ≤ length buffer = omega arith in
        rw (p ∙ carried, q, told_all T j)
        (as_written l buffer (refine_call t m) (refused_with 23 m no_room) none j)
