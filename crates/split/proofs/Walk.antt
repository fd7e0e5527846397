-- The walk along a base chain: what is counted and what is ahead make the whole.
use Prim.Native.Nat.{ℕ, suc, ◌+◌, ◌*◌, ◌/◌, ◌%◌, ◌<◌}
use native.Mathlib.Decide.{ℕ_discrete}
use native.Mathlib.Numerals.{add-one}
use native.Mathlib.Omega.{arith}
use mathlib.Core.List.{List}
use mathlib.Core.Logic.{◌≢◌}
use mathlib.Core.Path.{◌≡◌, refl, sym, ap, ◌∙◌, subst}
use lib.ListN.{length, get_or, set}
use lib.Seq.{get_or-set_same, get_or-set_other}
use borrow.Author.Tests.{eq-eqb, ne_eqb}
use Rattle.theory.proofs.Numbers.Decide.{odd_test, even_test}
use Rattle.rules.specs.Split.{chain_end_within, chain_odd_within, chain_end, chain_odd, chain_at}
use Rattle.rules.specs.Tables.{Topology, link, boundary, generation}
use Rattle.split.specs.Made.{BaseChain}

-- On the base chain of t, with some odd triangles counted and their slots put down, and at most left steps ahead from
-- slot end.
pub record Walking (m : Topology) (t odd end left : ℕ) (slots : List ℕ) : Type 0 where
  pub odds : odd + chain_odd_within left m end ≡ chain_odd m t
  pub ends : chain_end_within left m end ≡ chain_end m t
  pub here : end ≡ chain_at odd m t
  pub before : (i : ℕ) → i < odd → get_or slots i 0 ≡ chain_at i m t

-- The chain walked to its end.
pub record Walked (m : Topology) (t odd end : ℕ) (slots : List ℕ) : Type 0 where
  pub odds : odd ≡ chain_odd m t
  pub ends : end ≡ chain_end m t
  pub before : (i : ℕ) → i < odd → get_or slots i 0 ≡ chain_at i m t

-- How it ends is told by the generation of its last triangle.
pub walk_tells : {m : Topology} {t odd end : ℕ} {slots : List ℕ} (rim : ℕ) → Walked m t odd end slots
    → length slots ≡ 20 → rim ≡ generation m end % 2
    → BaseChain m t (record { odd = odd; end = end; rim = rim; slots = slots })
walk_tells {m} rim w long e = record {
  odd = w.odds;
  end = w.ends;
  rim = e ∙ ap (λ (v : ℕ). generation m v % 2) w.ends;
  slots = w.before;
  room = long;
}

module _ {m : Topology} {t : ℕ} where
  pub walk_begins : (slots : List ℕ) → Walking m t 0 t (generation m t) slots
  unfolding chain_at
  walk_begins slots = record { odds = omega arith; ends = refl; here = refl; before = λ i b. absurd (omega arith) }

  module _ {odd end : ℕ} where
    -- No odd triangle is ahead, and the chain ends here.
    stops : {slots : List ℕ} (left : ℕ) → Walking m t odd end left slots → chain_odd_within left m end ≡ 0
        → chain_end_within left m end ≡ end → Walked m t odd end slots
    stops left w o e = record { odds = omega (arith, w.odds); ends = sym e ∙ w.ends; before = w.before }

    pub walk_ends : {slots : List ℕ} → Walking m t odd end 0 slots → Walked m t odd end slots
    unfolding chain_odd_within chain_end_within
    walk_ends w = stops 0 w refl refl

    -- With a step left.
    pub walk_more : {slots : List ℕ} {left : ℕ} (k : ℕ) → left ≡ suc k → Walking m t odd end left slots
        → Walking m t odd end (suc k) slots
    walk_more {slots} k e w = subst (λ (n : ℕ). Walking m t odd end n slots) e w

    module _ {slots : List ℕ} (k : ℕ) (w : Walking m t odd end (suc k) slots) where
      pub walk_even : generation m end % 2 ≡ 0 → Walked m t odd end slots
      unfolding chain_odd_within chain_end_within
      walk_even e = stops (suc k) w (rw (even_test _ e, chain_odd_within)) (rw (even_test _ e, chain_end_within))

      module _ (o : generation m end % 2 ≡ 1) (room : odd < length slots) where
        -- The slot of the odd triangle here is put behind the others.
        put_slot : (i : ℕ) → i < odd + 1 → get_or (set slots odd end) i 0 ≡ chain_at i m t
        put_slot i b = go (ℕ_discrete i odd)
          where
            go : Dec (i ≡ odd) → get_or (set slots odd end) i 0 ≡ chain_at i m t
            go (yes e) = rw (e, get_or-set_same slots odd end 0 room) w.here
            go (no n) = rw (get_or-set_other slots odd i end 0 n) (w.before i (omega arith))

        pub walk_boundary : link m (3 * end) ≡ boundary → Walked m t (odd + 1) end (set slots odd end)
        unfolding chain_odd_within chain_end_within
        walk_boundary e =
            let one : chain_odd_within (suc k) m end ≡ 1 = rw (odd_test _ o, eq-eqb _ _ e, chain_odd_within) in
            let same : chain_end_within (suc k) m end ≡ end = rw (odd_test _ o, eq-eqb _ _ e, chain_end_within) in
            record { odds = omega (arith, w.odds); ends = sym same ∙ w.ends; before = put_slot }

        pub walk_on : link m (3 * end) ≢ boundary
            → Walking m t (odd + 1) (link m (3 * end) / 3) k (set slots odd end)
        unfolding chain_odd_within chain_end_within chain_at
        walk_on e =
            let n = rw (odd_test _ o, ne_eqb _ _ e, chain_odd_within) at w.odds in
            record {
              odds = omega arith;
              ends = rw (odd_test _ o, ne_eqb _ _ e, chain_end_within) at w.ends;
              here = rw (add-one odd, chain_at) (ap (λ (x : ℕ). link m (3 * x) / 3) w.here);
              before = put_slot;
            }
