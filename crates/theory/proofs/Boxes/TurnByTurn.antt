-- The turns of a box: what they make, where they fail, and that they end.
use mathlib.Core.Path.{◌≡◌, refl, ap, ap₂, ◌∙◌, subst}
use mathlib.Core.Bool.{Bool, true, false}
use Prim.Native.Nat.{ℕ, zero, suc, ◌+◌, ◌≤◌, ◌<◌}
use native.Mathlib.Omega.{arith}
use lib.Dec.{ltb}
use Rattle.theory.proofs.Boxes.Wanting.{wanted_next, none_wanted, lowest_same, lowest_computed}
use Rattle.theory.proofs.Calls.Carried.{RefineFound, Tried, cannot, can, refine_tried, fails_once}
use Rattle.theory.proofs.Calls.Carried.{fails_positive, cannot_fail, found_refined}
use Rattle.theory.proofs.Chains.Going.{Going, going_on}
use Rattle.theory.proofs.Numbers.Decide.{Decides, is_lt, is_same, is_true, is_false}
use Rattle.theory.proofs.Spares.Adds.{refine_adds}
use Rattle.theory.proofs.Splits.Bases.{reached}
use Rattle.rules.specs.Boxes.{Box, lowest_wanted, refine_wanted}
use Rattle.rules.specs.Calls.{refine_refusal}
use Rattle.rules.specs.Conditions.{Wanted, LowestWanted, BoxTurns, no_turn, one_turn, RefineFails}
use Rattle.rules.specs.Lists.{Progress, goes_on}
use Rattle.rules.specs.Split.{Work, refine}
use Rattle.rules.specs.Tables.{Mesh, triangle_slots}

-- BoxTurns from p on end as q: no triangle is wanted any more, or the lowest that is fails.
pub data Ends (b : Box) (q : Progress) : Type 0 where
  whole : q.refusal ≡ 0 → ((t : ℕ) → t < (reached q.work).triangles → ¬ Wanted b q.work.mesh t) → Ends b q
  short : (t : ℕ) → LowestWanted b q.work.mesh t → RefineFails t q.work.mesh q.refusal → Ends b q

pub record Run (b : Box) (m : Mesh) (p q : Progress) : Type 0 where
  pub going : Going m q.work
  pub made : ℕ
  pub handled : q.handled ≡ p.handled + made
  pub turns : BoxTurns b made p.work q.work
  pub splits : p.work.splits + made ≤ q.work.splits
  pub ends : Ends b q

-- A refine makes a split at least, and so takes two slots.
pub refine_splits : (w : Work) {t : ℕ} → RefineFound t w.mesh → w.splits + 1 ≤ (refine t w).splits
refine_splits w {t} F = rw (refine_adds t w) (omega (arith, (found_refined F).splits))

module _ (b : Box) {m : Mesh} where
  -- One turn, and those that follow it.
  turn : (n : ℕ) (p : Progress) → p.refusal ≡ 0 → Going m p.work
      → ((q : Progress) → q.refusal ≡ 0 → Going m q.work → p.work.splits + 1 ≤ q.work.splits
      → Run b m q (refine_wanted n b q))
      → Run b m p (refine_wanted (suc n) b p)
  unfolding refine_wanted
  turn n p z G more =
      go (ltb t (reached p.work).triangles) (is_lt t (reached p.work).triangles)
    where
      t : ℕ
      t = lowest_wanted b p.work.mesh

      step : t < (reached p.work).triangles → {k : ℕ} → Tried t p.work.mesh k
          → Run b m p (elim k [
            | zero ↦ refine_wanted n b (goes_on 0 (refine t p.work) p)
            | suc r ↦ goes_on (suc r) p.work p
          ])
      step l {k = zero} (cannot F) = absurd (fails_positive F refl)
      step l {k = suc r} (cannot F) = record {
        going = G;
        made = 0;
        handled = omega arith;
        turns = no_turn;
        splits = omega arith;
        ends = short t (wanted_next b p.work.mesh l) F;
      }
      step l (can f F) =
          let w = p.work in
          let s = refine_splits w F in
          let R = more (goes_on 0 (refine t w) p) refl (going_on G F) s in
          record {
            going = R.going;
            made = suc R.made;
            handled = omega (arith, R.handled);
            turns = one_turn (wanted_next b w.mesh l) f R.turns;
            splits = omega (arith, R.splits);
            ends = R.ends;
          }

      go : (c : Bool) → Decides c (t < (reached p.work).triangles)
          → Run b m p (elim c [
            | false ↦ p
            | true ↦ elim (refine_refusal t p.work.mesh) [
              | zero ↦ refine_wanted n b (goes_on 0 (refine t p.work) p)
              | suc r ↦ goes_on (suc r) p.work p
            ]
          ])
      go false d = record {
        going = G;
        made = 0;
        handled = omega arith;
        turns = no_turn;
        splits = omega arith;
        ends = whole z (none_wanted b p.work.mesh d.passes);
      }
      go true d =
          let l = d.holds tt in
          step l (refine_tried t p.work.mesh G.sound l)

  -- The turns end, as each takes two slots.
  pub run : (n : ℕ) (p : Progress) → p.refusal ≡ 0 → Going m p.work
      → triangle_slots m < n + (reached p.work).triangles → Run b m p (refine_wanted n b p)
  run zero p z G i = absurd (omega (arith, G.sound.triangle_room, G.room.generations))
  run (suc n) p z G i =
      turn n p z G (λ q e H s. run n q e H (omega (arith, G.triangles, H.triangles)))

-- One turn computed: the refine of the lowest wanted triangle, or its failure.
module _ {b : Box} (n : ℕ) (p : Progress) {t : ℕ} (N : LowestWanted b p.work.mesh t) where
  abbrev turn_by : ℕ → Bool → ℕ → Progress
  turn_by u c r = elim c [
    | false ↦ p
    | true ↦ elim r [
      | zero ↦ refine_wanted n b (goes_on 0 (refine u p.work) p)
      | suc k ↦ goes_on (suc k) p.work p
    ]
  ]

  turn_is : {r : ℕ} → refine_refusal t p.work.mesh ≡ r → refine_wanted (suc n) b p ≡ turn_by t true r
  unfolding refine_wanted
  turn_is e =
      let f = (reached p.work).triangles in
      ap (λ (u : ℕ). turn_by u (ltb u f) (refine_refusal u p.work.mesh)) (lowest_computed N)
      ∙ ap₂ (turn_by t) (is_same (is_lt t f) (is_true N.in_use)) e

  pub turn_made : refine_refusal t p.work.mesh ≡ 0
      → refine_wanted (suc n) b p ≡ refine_wanted n b (goes_on 0 (refine t p.work) p)
  turn_made e = turn_is e

  pub turn_failed : {k : ℕ} → refine_refusal t p.work.mesh ≡ suc k
      → refine_wanted (suc n) b p ≡ record { work = p.work; handled = p.handled; refusal = suc k }
  turn_failed e = turn_is e

-- Where none is wanted, no turn is made.
pub none_made : (b : Box) (n : ℕ) (p : Progress)
    → ((t : ℕ) → t < (reached p.work).triangles → ¬ Wanted b p.work.mesh t) → refine_wanted n b p ≡ p
unfolding refine_wanted
none_made b zero p none = refl
none_made b (suc n) p none =
    rw (
      is_same (is_lt (lowest_wanted b p.work.mesh) (reached p.work).triangles)
          (is_false (λ l. none _ l (wanted_next b p.work.mesh l).wanted)),
      refine_wanted,
    )

-- ---- turns that lead to a failure are those that are made

fails_of : {s t n : ℕ} {m : Mesh} → s ≡ t → RefineFails s m n → RefineFails t m n
fails_of {n = n} {m} e = subst (λ (i : ℕ). RefineFails i m n) e

turns_of : (w : Work) {b : Box} {s t k : ℕ} {x : Work} → s ≡ t → BoxTurns b k (refine s w) x → BoxTurns b k (refine t w) x
turns_of w {b} {k = k} {x = x} e = subst (λ (i : ℕ). BoxTurns b k (refine i w) x) e

pub stops_same : {b : Box} {j k t n : ℕ} {w x : Work} {q : Progress} → BoxTurns b k w x → LowestWanted b x.mesh t
    → RefineFails t x.mesh n → BoxTurns b j w q.work → Ends b q → (k ≡ j) × (n ≡ q.refusal)
stops_same no_turn N F no_turn (whole z nothing) = absurd (nothing _ N.in_use N.wanted)
stops_same no_turn N F no_turn (short t M K) = (refl, fails_once F (fails_of (lowest_same M N) K))
stops_same no_turn N F (one_turn M f U) E = absurd (cannot_fail f (fails_of (lowest_same N M) F))
stops_same (one_turn M f T) N F no_turn (whole z nothing) = absurd (nothing _ M.in_use M.wanted)
stops_same (one_turn M f T) N F no_turn (short t O K) = absurd (cannot_fail f (fails_of (lowest_same O M) K))
stops_same {w = w} (one_turn M f T) N F (one_turn {k = j} O g U) E =
    let S = stops_same {j = j} T N F (turns_of w (lowest_same O M) U) E in
    (ap suc S.0, S.1)
