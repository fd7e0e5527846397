-- One turn of a box: after the refine the marks are put right for the slots that it wrote, and then all are right.
use borrow.Author.Tests.{lt-ltb, le-ltb}
use mathlib.Core.Bool.{false}
use mathlib.Core.List.{List}
use mathlib.Core.Logic.{◌⊎◌, inl, inr}
use mathlib.Core.Path.{◌≡◌, refl, sym, ap, ◌∙◌, subst}
use Prim.Native.Nat.{ℕ, zero, suc, ◌+◌, ◌*◌, ◌/◌, ◌≤◌, ◌<◌}
use native.Mathlib.Decide.{dec_lt}
use native.Mathlib.Nat.{add-zero}
use native.Mathlib.Omega.{arith}
use lib.Dec.{T}
use lib.ListN.{length, get_or, replicate, length-replicate, take}
use Rattle.marks.proofs.Tables.{levels_begin, none_marked, zeros}
use Rattle.marks.specs.Marks.{marked}
use Rattle.points.specs.Axes.{box_of}
use Rattle.points.specs.declared.Point.{Point}
use Rattle.theory.proofs.Boxes.Staying.{wanted_stays}
use Rattle.theory.proofs.Boxes.Wanting.{wanted_is}
use Rattle.theory.proofs.Calls.CallRefusals.{refine_judged}
use Rattle.theory.proofs.Calls.Carried.{RefineFound, refine_found, found_refined}
use Rattle.theory.proofs.Calls.FirstThatHolds.{judged_carried}
use Rattle.theory.proofs.Chains.Altering.{AlteredAt, on_chain, is_end, beside_end}
use Rattle.theory.proofs.Numbers.Decide.{Lowest, lowest_is}
use Rattle.theory.proofs.Splits.Bases.{reached}
use Rattle.rules.specs.Below.{lowest}
use Rattle.rules.specs.Boxes.{Box, in_box, wanted}
use Rattle.rules.specs.Conditions.{Wanted, LowestWanted}
use Rattle.rules.specs.Calls.{Outcome, refine_call}
use Rattle.rules.specs.Sound.{Sound}
use Rattle.rules.specs.Split.{at_first, chain_end, refine}
use Rattle.rules.specs.Tables.{Topology, Mesh, vertex_slots, coordinate, link}
use Rattle.split.specs.Made.{BaseChain}
use Rattle.split.specs.declared.Chain.{Chain}
use Rattle.wanting.specs.Wanting.{Seen, SeenFrom, Right, MarksFit, Marking, Unseen, Unmarked, Refines}
use Rattle.std.proofs.lemmas.List.{get_or-take, length-take-le}
use Rattle.refining.proofs.Locking.{few_odd}
use Rattle.wanting.specs.Wanting.{nearby, Stale, MarkedFrom, Mended}
use Rattle.wanting.proofs.Marking.{fit_as}

pub refine_carried : (t : ℕ) (x : Mesh) {o : Outcome} → o ≡ refine_call t x → o.answer.refusal ≡ 0
    → Refines t x o.mesh
refine_carried t x e z =
    let J = judged_carried (refine_judged t x) (sym (ap (λ (o : Outcome). o.answer.refusal) e) ∙ z) in
    record {
      found = refine_found t x J.0;
      makes = ap (λ (o : Outcome). o.mesh) (e ∙ J.1);
    }

module _ {t : ℕ} {x y : Mesh} (R : Refines t x y) where
  pub refined_sound : Sound y
  refined_sound = rw R.makes (found_refined R.found).sound

  grown : x.topology.triangles ≤ y.topology.triangles
  grown = rw R.makes (found_refined R.found).still.grows

  pub refined_slots : length y.topology.generations ≡ length x.topology.generations
  refined_slots = rw R.makes (found_refined R.found).generation_room

-- No slot from F on is marked.
pub none_past : {b : Box} {m : Mesh} {bits words : List ℕ} → Marking b m bits words → (j : ℕ)
    → m.topology.triangles ≤ j → marked bits j ≡ false
none_past {b} {m} M j l = M.right j ∙ rw (le-ltb j m.topology.triangles l) refl

module _ {t : ℕ} {b : Box} {x y : Mesh} {odd near bits one two three words w₁ w₂ w₃ : List ℕ}
    (X : Stale b t x y odd near bits words) (A : MarkedFrom x.topology.triangles b y bits one w₁)
    (B : Mended 4 near b y one two w₂) (D : Mended (length odd) odd b y two three w₃) where
  abbrev R : Refines t x y
  R = X.refines

  -- A slot that stays right by the next two.
  stays : (j : ℕ) → Right b y one j → Right b y three j
  stays j r = D.stay j (B.stay j r)

  listed : (i : ℕ) → i < 4 → {j : ℕ} → get_or near i 0 ≡ j → j < y.topology.triangles → Right b y three j
  listed i l {j} e u =
      D.stay j (subst (Right b y two) e (B.right i l (subst (λ (k : ℕ). k < y.topology.triangles) (sym e) u)))

  beside : (i : ℕ) → i < 3 → get_or near (suc i) 0 ≡ link x.topology (3 * chain_end x.topology t + i) / 3
  beside zero l = rw (X.near_is, add-zero (3 * chain_end x.topology t)) refl
  beside (suc zero) l = rw X.near_is refl
  beside (suc (suc zero)) l = rw X.near_is refl
  beside (suc (suc (suc i))) l = absurd (omega arith)

  old_right : (j : ℕ) → j < x.topology.triangles
      → AlteredAt x.topology t j ⊎ (wanted b (refine t (at_first x)).mesh j ≡ wanted b x j) → Right b y three j
  old_right j l (inr e) =
      let q : wanted b y j ≡ wanted b x j = ap (λ (m : Mesh). wanted b m j) R.makes ∙ e in
      let u = lt-ltb j x.topology.triangles l in
      let v = lt-ltb j y.topology.triangles (omega (arith, grown R)) in
      stays j (A.stay j l ∙ X.marks.right j ∙ rw (u, v, q) refl)
  old_right j l (inl (on_chain i d e)) =
      let u : j < y.topology.triangles = omega (arith, grown R) in
      let q : get_or odd i 0 ≡ j = X.slots_are i (omega (arith, X.odd_is)) ∙ sym e in
      subst (Right b y three) q
      (D.right i (omega (arith, X.odd_is)) (subst (λ (k : ℕ). k < y.topology.triangles) (sym q) u))
  old_right j l (inl (is_end e)) = listed 0 (omega arith) (rw X.near_is (sym e)) (omega (arith, grown R))
  old_right j l (inl (beside_end i d e)) = listed (suc i) (omega arith) (beside i d ∙ sym e) (omega (arith, grown R))

  pub marks_right : Marking b y three w₃
  marks_right = record { fit = D.fit; right = λ j. go j (dec_lt j x.topology.triangles) }
    where
      go : (j : ℕ) → Dec (j < x.topology.triangles) → Right b y three j
      go j (yes l) = old_right j l (wanted_stays R.found b j l)
      go j (no l) = stays j (A.right j (omega arith))

-- ---- the mesh after the refine

module _ {t : ℕ} {x y : Mesh} (R : Refines t x y) where
  pub fit_after : {bits words : List ℕ} → MarksFit x bits words → MarksFit y bits words
  fit_after F = fit_as F (refined_slots R) refl F.levels

  -- The vertices in the box are marked again, once the new ones are.
  pub seen_after : {low high : Point} {below : ℕ} {inside after : List ℕ} → Seen (box_of low high below) x inside
      → SeenFrom x.topology.vertices y.topology.vertices low high y.positions inside after
      → Seen (box_of low high below) y after
  seen_after {low} {high} {below} {inside} {after} S A =
      let F = found_refined R.found in
      let q : length y.positions ≡ length x.positions =
      ap (λ (m : Mesh). length m.positions) R.makes ∙ F.places.size in
      let g : x.topology.vertices ≤ y.topology.vertices = rw R.makes (omega (arith, F.vertices)) in
      record {
        room = omega (arith, S.room, A.size);
        right = λ v l. go v l (dec_lt v x.topology.vertices);
        off = λ v l. A.off v l (omega arith);
      }
    where
      old : (v k : ℕ) → v < x.topology.vertices → k < 3 → coordinate y v k ≡ coordinate x v k
      old v k l i =
          ap (λ (m : Mesh). coordinate m v k) R.makes
          ∙ (found_refined R.found).places.old (3 * v + k) (omega arith)

      go : (v : ℕ) → v < y.topology.vertices → Dec (v < x.topology.vertices)
          → marked after v ≡ in_box (box_of low high below) y v
      go v l (yes u) =
          A.stay v u ∙ S.right v u
          ∙ rw (old v 0 u (omega arith), old v 1 u (omega arith), old v 2 u (omega arith)) refl
      go v l (no u) = A.right v (omega arith) l

  -- The new vertices have slots and marks, and are not marked yet.
  pub sees_new : {b : Box} {inside : List ℕ} → Seen b x inside
      → (y.topology.vertices ≤ length y.positions / 3) × (y.topology.vertices ≤ 64 * length inside)
      × ((v : ℕ) → x.topology.vertices ≤ v → marked inside v ≡ false)
  sees_new S =
      let F = found_refined R.found in
      let q : length y.positions ≡ length x.positions =
      ap (λ (m : Mesh). length m.positions) R.makes ∙ F.places.size in
      let l = (refined_sound R).vertex_room in
      (l, omega (arith, S.room), S.off)

-- Where no vertex was marked before, those in the box are now.
pub seen_all : {low high : Point} {below : ℕ} {m : Mesh} {inside after : List ℕ} → Unseen (vertex_slots m) inside
    → SeenFrom 0 m.topology.vertices low high m.positions inside after → Seen (box_of low high below) m after
seen_all U A = record {
  room = omega (arith, U.room, A.size);
  right = λ v l. A.right v (omega arith) l;
  off = λ v l. A.off v l (omega arith);
}

-- ---- what is read before the refine

-- The chain has no more odd triangles than slots.
pub odd_inside : {t : ℕ} {x : Mesh} {chain : Chain} → RefineFound t x → BaseChain x.topology t chain
    → chain.odd ≤ length chain.slots
odd_inside F C = omega (arith, few_odd F.sound F.in_use, C.odd, C.room)

pub stale : {b : Box} {t : ℕ} {x y : Mesh} {chain : Chain} {near bits words : List ℕ} → Refines t x y
    → BaseChain x.topology t chain → near ≡ nearby x.topology chain.end → Marking b x bits words
    → Stale b t x y (take chain.odd chain.slots) near bits words
stale {x = x} {chain = chain} R C e M =
    let size = length-take-le chain.odd chain.slots (odd_inside R.found C) in record {
      refines = R;
      odd_is = size ∙ C.odd;
      slots_are = λ i l.
          let b : i < chain.odd = omega (arith, size) in
          get_or-take chain.odd chain.slots i 0 b ∙ C.slots i b;
      near_is = e ∙ ap (nearby x.topology) C.end;
      marks = M;
    }

-- A triangle and those beside it are four.
pub near_long : {near : List ℕ} (m : Topology) (v : ℕ) → near ≡ nearby m v → 4 ≤ length near
near_long m v e = rw e (omega arith)

-- ---- the lowest mark

module _ {b : Box} {m : Mesh} {bits words : List ℕ} {t : ℕ} (S : Sound m) (M : Marking b m bits words)
    (e : t ≡ lowest (64 * length bits) (marked bits)) where
  abbrev L : Lowest (64 * length bits) (marked bits) t
  L = rw e (lowest_is (64 * length bits) (marked bits))

  -- A slot in use is marked where it is wanted.
  marks_wanted : (j : ℕ) → j < m.topology.triangles → marked bits j ≡ wanted b m j
  marks_wanted j u = rw (M.right j, lt-ltb j m.topology.triangles u) refl

  -- One below it is not.
  none_below : (j : ℕ) → j < t → j < m.topology.triangles → ¬ Wanted b m j
  none_below j l u W = L.none j l (subst T (sym (marks_wanted j u)) ((wanted_is b m j).passes W))

  pub lowest_is_wanted : t < m.topology.triangles → LowestWanted b m t
  lowest_is_wanted u = record {
    in_use = u;
    wanted = (wanted_is b m t).holds (subst T (marks_wanted t u)
        (L.passes (omega (arith, M.fit.room, S.triangle_room))));
    lowest = λ j l. none_below j l (omega arith);
  }

  pub none_wanted : m.topology.triangles ≤ t → (j : ℕ) → j < m.topology.triangles → ¬ Wanted b m j
  none_wanted u j l = none_below j (omega arith) l

-- Where nothing is marked before, all marks are right.
pub marked_all : {b : Box} {m : Mesh} {before bits words : List ℕ} → MarkedFrom 0 b m before bits words
    → Marking b m bits words
marked_all A = record { fit = A.fit; right = λ j. A.right j (omega arith) }

-- Marks of which none is put.
pub unmarked_fit : (m : Mesh) {bits words : List ℕ} → Unmarked (length m.topology.generations) bits words
    → MarksFit m bits words
unmarked_fit m U = record { levels = U.levels; room = U.room; few = U.few }

pub none_seen : (k : ℕ) {n : ℕ} → n ≤ 64 * k → Unseen n (replicate k 0)
none_seen k l =
    let e = length-replicate {A = ℕ} k 0 in
    record { room = omega arith; none = none_marked (replicate k 0) (zeros k) }

pub none_put : (k j : ℕ) {n : ℕ} → n ≤ 64 * k → k ≤ 1024 → k ≤ 64 * j → Unmarked n (replicate k 0) (replicate j 0)
none_put k j l few i =
    let e = length-replicate {A = ℕ} k 0 in
    let f = length-replicate {A = ℕ} j 0 in
    record {
      levels = levels_begin (replicate k 0) (replicate j 0) (zeros k) (zeros j) (omega arith);
      room = omega arith;
      few = omega arith;
      none = none_marked (replicate k 0) (zeros k);
    }

-- A refine takes two slots at least, and there are 65,536 at most.
pub grows_by : {t : ℕ} {x y : Mesh} → Refines t x y
    → (x.topology.triangles < y.topology.triangles) × (y.topology.triangles ≤ 65536)
grows_by {t} {x} {y} R =
    let S = refined_sound R in
    let F = found_refined R.found in
    let e : y.topology.triangles ≡ (reached (refine t (at_first x))).triangles =
    ap (λ (m : Mesh). m.topology.triangles) R.makes in
    (omega (arith, F.triangles), omega (arith, S.triangle_room, S.tables.few_triangles))
