-- Reports told entry by entry.
use borrow.Author.Tests.{le-leb, lt-leb, leb-true, leb-false}
use mathlib.Core.Bool.{Bool, true, false}
use mathlib.Core.Path.{◌≡◌, refl, sym, ap, ◌∙◌, subst}
use mathlib.Core.List.{List, [], ◌∷◌, ◌++◌, append-nil, append_assoc}
use Prim.Native.Nat.{ℕ, ◌+◌, ◌-◌, ◌*◌, ◌≤◌, ◌<◌, max}
use native.Mathlib.Nat.{le_trans, lt_of_lt_of_le}
use native.Mathlib.Omega.{arith}
use lib.Dec.{leb}
use lib.ListN.{length, get_or, set, length-append, length-set, get_or-append}
use Rattle.theory.proofs.Calls.Carried.{RefineFound, found_refined}
use Rattle.theory.proofs.Chains.Flipping.{refine_report_length, refine_flips}
use Rattle.theory.proofs.Chains.RefineLoop.{few_splits}
use Rattle.theory.proofs.Numbers.Fill.{fill_more, fill_same}
use Rattle.theory.proofs.Splits.After.{is_flipped, is_second_flipped, flip_after, split_after}
use Rattle.theory.proofs.Splits.Flipped.{pair_at}
use Rattle.rules.specs.Calls.{splits_of}
use Rattle.rules.specs.Below.{fill}
use Rattle.rules.specs.Reports.{report_in}
use Rattle.rules.specs.Split.{at_first, refine}
use Rattle.rules.specs.Tables.{Topology, Mesh}
use Rattle.rules.specs.Spares.{Spares}
use Rattle.tables.specs.Lent.{mesh_with, topology_with}
use Rattle.tables.specs.declared.Counts.{Counts}
use Rattle.split.specs.declared.Chain.{Chain}
use Rattle.split.specs.Made.{BaseChain}
use Rattle.reporting.specs.Told.{Tells}

last_is : (l : List ℕ) (s : ℕ) → get_or (l ++ s ∷ []) (length l) 0 ≡ s
last_is [] s = refl
last_is (x ∷ l) s = last_is l s

pub tells_one : (s at : ℕ) (b : List ℕ) {i : ℕ} → i ≡ at → Tells (s ∷ []) b (set b i s) at (at + 1)
tells_one s at b {i} p = rw p (record {
  size = length-set b at s;
  told = λ _. (
    refl,
    λ l buffer e q.
        let f : ℕ → ℕ = λ i. get_or (l ++ s ∷ []) i 0 in
        let x : b ≡ fill at f buffer =
        q ∙ ap (λ (k : ℕ). fill k (λ i. get_or l i 0) buffer) e
        ∙ fill_same at (λ i. get_or l i 0) f buffer (λ h i. sym (get_or-append l (s ∷ []) 0 h (omega arith))) in
        let y : s ≡ f at = sym (last_is l s) ∙ ap f e in
        let z : at + 1 ≡ length (l ++ s ∷ []) = omega (arith, length-append l (s ∷ [])) in
        fill_more at f buffer x y ∙ ap (λ (k : ℕ). fill k f buffer) z,
  );
})

pub tells_none : (at : ℕ) (b : List ℕ) → Tells [] b b at at
tells_none at b = record {
  size = refl;
  told = λ _. (
    omega arith,
    λ l buffer e q. q ∙ ap (λ (k : List ℕ). report_in k buffer) (sym (append-nil l)),
  );
}

-- There is no room.
pub tells_not : (more b c : List ℕ) (at end : ℕ) → length c ≡ length b → length b < at + length more
    → Tells more b c at end
tells_not more b c at end e l = record { size = e; told = λ i. absurd (omega arith) }

pub tells_on : {m n : List ℕ} {a b c : List ℕ} {i j k : ℕ} → Tells m a b i j → Tells n b c j k → Tells (m ++ n) a c i k
tells_on {m} {n} {a} {b} {c} {i} {j} {k} T U = record {
  size = U.size ∙ T.size;
  told = λ f.
      let e = length-append m n in
      let (p, x) = T.told (omega arith) in
      let (q, y) = U.told (omega (arith, T.size)) in (
        omega arith,
        λ l buffer z r.
            y (l ++ m) buffer (omega (arith, length-append l m)) (x l buffer z r)
            ∙ ap (λ (h : List ℕ). report_in h buffer) (append_assoc l m n),
      );
}

-- Three entries, and two.
pub tells_three : (s t u at : ℕ) (b : List ℕ)
    → Tells (s ∷ t ∷ u ∷ []) b (set (set (set b at s) (at + 1) t) (at + 2) u) at (at + 3)
tells_three s t u at b =
    let e : at + 1 + 1 + 1 ≡ at + 3 = omega arith in
    subst (Tells (s ∷ t ∷ u ∷ []) b (set (set (set b at s) (at + 1) t) (at + 2) u) at) e
    (tells_on (tells_on (tells_one s at b refl) (tells_one t (at + 1) (set b at s) refl))
    (tells_one u (at + 1 + 1) (set (set b at s) (at + 1) t) (omega arith)))

pub tells_two : (s t at : ℕ) (b : List ℕ) → Tells (s ∷ t ∷ []) b (set (set b at s) (at + 1) t) at (at + 2)
tells_two s t at b =
    let e : at + 1 + 1 ≡ at + 2 = omega arith in
    subst (Tells (s ∷ t ∷ []) b (set (set b at s) (at + 1) t) at) e
    (tells_on (tells_one s at b refl) (tells_one t (at + 1) (set b at s) refl))

-- ---- a split

-- Where two are told one after the other and there is room for both, there is room for the first, and then for the
-- second.
pub room_first : (m n : List ℕ) (at k : ℕ) → at + length (m ++ n) ≤ k → at + length m ≤ k
room_first m n at k i = omega (arith, length-append m n)

pub room_then : {m : List ℕ} {a b : List ℕ} {at i : ℕ} (n : List ℕ) → Tells m a b at i → at + length (m ++ n) ≤ length a
    → i + length n ≤ length b
room_then {m} n T r =
    let e = length-append m n in
    omega (arith, T.size, (T.told (omega arith)).0)

pub tells_split : (l g : List ℕ) (t f : ℕ) {a b c d e : List ℕ} {at i j k end : ℕ}
    → Tells (t ∷ f ∷ (f + 1) ∷ []) a b at i
    → Tells (flip_after l (is_flipped g t) t) b c i j → Tells (flip_after l (is_second_flipped l g t f) f) c d j k
    → Tells (flip_after l (is_flipped g (f + 1)) (f + 1)) d e k end → Tells (split_after l g t f) a e at end
tells_split l g t f T U W X = tells_on T (tells_on U (tells_on W X))

-- ---- the length

after_first : (l s a b c : ℕ) → 1 ≤ s → l + 2 ≡ 5 * s + a + b + c → 5 * s - 2 + a + b + c ≡ l
after_first l s a b c i e = omega arith

pub splits_are : {m : Topology} {t : ℕ} {chain : Chain} → BaseChain m t chain
    → max 1 (chain.odd - chain.rim) ≡ splits_of m t
splits_are C = rw (C.odd, C.rim) refl

pub length_steps : {t : ℕ} {m : Mesh} {chain : Chain} {own second third splits : ℕ} → RefineFound t m
    → BaseChain m.topology t chain
    → let h = 3 * chain.end in
    own ≡ length (pair_at m.topology 0 h) → second ≡ length (pair_at m.topology 0 (h + 1))
    → third ≡ length (pair_at m.topology 0 (h + 2)) → splits ≡ max 1 (chain.odd - chain.rim)
    → 5 * splits - 2 + own + second + third ≡ length (refine t (at_first m)).report
length_steps {t} {m} {chain} R C p q r s =
    rw (p, q, r, s, splits_are C, C.end) (after_first _ _ _ _ _ (some_split m.topology t) (refine_report_length R))
  where
    some_split : (m : Topology) (t : ℕ) → 1 ≤ splits_of m t
    some_split m t = omega arith

-- A refine splits at most ten times, and flips at most twice more than it splits.
pub few_reported : {t : ℕ} {m : Mesh} → RefineFound t m → length (refine t (at_first m)).report ≤ 54
few_reported R =
    let G = found_refined R in
    omega (arith, ap length G.telling.report, G.telling.size, G.splits, refine_flips R, few_splits R)

pub always_fits : {t n : ℕ} {m : Mesh} → RefineFound t m → 54 ≤ n → true ≡ leb (length (refine t (at_first m)).report) n
always_fits R i = sym (le-leb _ _ (le_trans (few_reported R) i))

-- Each split reports its own slot.
some_reported : {t : ℕ} {m : Mesh} → RefineFound t m
    → splits_of m.topology t ≤ length (refine t (at_first m)).report
some_reported R =
    let G = found_refined R in
    omega (arith, ap length G.telling.report, G.telling.size, G.splits)

pub never_fits : {t n : ℕ} {m : Mesh} → RefineFound t m → n < splits_of m.topology t
    → false ≡ leb (length (refine t (at_first m)).report) n
never_fits R i = sym (lt-leb _ _ (lt_of_lt_of_le i (some_reported R)))

-- Where it fits from a place on, there is room for it, and else it is not told.
pub fits_from : {t : ℕ} (at n : ℕ) {m : Mesh} → RefineFound t m
    → leb (length (refine t (at_first m)).report) (n - at) ≡ true
    → at + length (refine t (at_first m)).report ≤ n
fits_from {t} at n {m} R e =
    omega (arith, leb-true (length (refine t (at_first m)).report) (n - at) e, some_reported R)

pub tells_if : {b : Bool} {l r s : List ℕ} {at told : ℕ} → (b ≡ true → Tells l r s at told)
    → b ≡ leb (length l) (length r - at) → length s ≡ length r → Tells l r s at told
tells_if {b = true} T e q = T refl
tells_if {b = false} {l} {r} {s} {at} {told} T e q =
    tells_not l r s at told q (omega (arith, leb-false (length l) (length r - at) (sym e)))

-- Whether the report fits, by the tables as they were seen.
pub fits_seen : (t : ℕ) (n : Counts) (chain : Chain) {seen lent : Spares} {b : Bool} (entries : ℕ) → seen ≡ lent
    → (RefineFound t (mesh_with n seen) → BaseChain (topology_with n seen) t chain
    → b ≡ leb (length (refine t (at_first (mesh_with n seen))).report) entries)
    → RefineFound t (mesh_with n lent) → BaseChain (topology_with n lent) t chain
    → b ≡ leb (length (refine t (at_first (mesh_with n lent))).report) entries
fits_seen t n chain {b = b} entries e f =
    subst (λ (s : Spares). RefineFound t (mesh_with n s) → BaseChain (topology_with n s) t chain
    → b ≡ leb (length (refine t (at_first (mesh_with n s))).report) entries) e f
