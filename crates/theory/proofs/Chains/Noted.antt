-- Which old slots a refine changes: those that it alters, and those that are linked to a side that it moves.
use mathlib.Core.Path.{◌≡◌, refl, sym, ap, ◌∙◌, subst}
use mathlib.Core.List.{List}
use mathlib.Core.Logic.{◌≢◌, ◌↔◌}
use Prim.Native.Nat.{ℕ, zero, suc, ◌+◌, ◌*◌, ◌/◌, ◌%◌, ◌<◌}
use native.Mathlib.Decide.{ℕ_discrete}
use native.Mathlib.Omega.{arith}
use lib.Dec.{T, eqb}
use lib.ListN.{get_or}
use Rattle.theory.proofs.Calls.Carried.{RefineFound, found_refined}
use Rattle.theory.proofs.Chains.Altered.{after_next, last_met, last_alone, still_in_use, ends_mono, ends_rise}
use Rattle.theory.proofs.Chains.Altered.{refine_splits, refine_alters, alters_rise}
use Rattle.theory.proofs.Chains.Altering.{at_place_lem}
use Rattle.theory.proofs.Chains.RefineLoop.{split_ends, Ahead, ahead_splitting, ahead_on, path_of_two}
use Rattle.theory.proofs.Links.Sides.{by_triangle}
use Rattle.theory.proofs.Numbers.Decide.{Decides, is_eq, is_not, is_all}
use Rattle.theory.proofs.Soundness.Relaxed.{sound_manifold}
use Rattle.theory.proofs.Splits.Bases.{reached}
use Rattle.theory.proofs.Splits.Told.{Moves, side₁, side₂, Told, names_in_use, told_moves, moves_told, told_less}
use Rattle.theory.proofs.Splits.Told.{Rise, left_between, told_on}
use Rattle.rules.specs.Conditions.{Alters}
use Rattle.rules.specs.Notes.{nine_of, differs, refined}
use Rattle.rules.specs.Split.{Work, at_first, chain_end, chain_at}
use Rattle.rules.specs.Tables.{Topology, Mesh, sides, origin, link, generation, lock}

-- ---- the links of what is left by all splits

-- The last triangle that the next split leaves of the chain rises later. No side of another that is left meets the
-- triangle that is split then, so that of the later splits no side 2 matters.
told_first : {k g t : ℕ} {w : Work} (n : Topology) (h : ℕ) → Ahead (suc (suc k)) g t w
    → Rise (reached w) (after_next t w) n → h < sides (reached w)
    → generation n (h / 3) ≡ generation (reached w) (h / 3)
    → generation (reached w) (chain_at k (reached w) t) < generation n (chain_at k (reached w) t)
    → (h < sides (after_next t w) → generation n (h / 3) ≡ generation (after_next t w) (h / 3)
    → Told (λ x. x ≡ chain_end (after_next t w) t) (after_next t w) n h)
    → Told (λ x. x ≡ chain_end (reached w) t) (reached w) n h
told_first {k} {t = t} {w = w} n h A up l e d later =
    let S = (ahead_splitting A).result in
    let (a, b) = left_between up (omega arith) e in
    told_on up h (A.manifold.linked h l) (S.told h l a)
    (told_less (λ o q. risen (last_alone A h l a (λ z. omega arith) q)) (later (omega (arith, S.triangles)) b))
  where
    risen : h ≡ 3 * chain_at k (reached w) t → ⊥
    risen q =
        let z : h / 3 ≡ chain_at k (reached w) t = omega arith in
        let y = subst (λ (x : ℕ). generation n x ≡ generation (reached w) x) z e in
        omega arith

ends_told : {g t : ℕ} (k : ℕ) (w : Work) → Ahead (suc k) g t w → (h : ℕ) → h < sides (reached w)
    → generation (reached (split_ends (suc k) t w)) (h / 3) ≡ generation (reached w) (h / 3)
    → Told (λ x. x ≡ chain_end (reached w) t) (reached w) (reached (split_ends (suc k) t w)) h
unfolding split_ends
ends_told zero w A h l e = (ahead_splitting A).result.told h l e
ends_told {t = t} (suc k) w A h l e =
    told_first (reached (split_ends (suc (suc k)) t w)) h A
    (record {
      early = (ahead_splitting A).result.still.mono;
      late = λ x i. ends_mono (suc k) _ (ahead_on A) x (still_in_use A i);
    })
    l e
    (ends_rise (suc k) w A (chain_at k (reached w) t) (last_met A).0 (at_place_lem k (omega arith) (path_of_two A) refl))
    (ends_told k _ (ahead_on A) h)

-- A triangle that a refine leaves is told where the sides are that move: the side 1 of each triangle that is written
-- anew, and the side 2 of the one that is split first.
pub refine_told : {t : ℕ} {m : Mesh} → RefineFound t m → (h : ℕ) → h < sides m.topology
    → generation (refined t m).topology (h / 3) ≡ generation m.topology (h / 3)
    → Told (λ x. x ≡ chain_end m.topology t) m.topology (refined t m).topology h
refine_told {t} {m} R h l e =
    let (k, A, q) = refine_splits R in
    subst (λ (w : Work). Told (λ x. x ≡ chain_end m.topology t) m.topology (reached w) h) (sym q)
    (ends_told k (at_first m) A h l (sym (ap (λ (w : Work). generation (reached w) (h / 3)) q) ∙ e))

-- ---- the slots that change

-- Refining t alters triangle x, or x is linked to the side 1 of a triangle that it alters, or to the side 2 of the one
-- that is split first.
pub data AltersOrNames (m : Topology) (t x : ℕ) : Type 0 where
  altered : Alters m t x → AltersOrNames m t x
  names₁ : (h : ℕ) → h / 3 ≡ x → link m h % 3 ≡ 1 → Alters m t (link m h / 3) → AltersOrNames m t x
  names₂ : (h : ℕ) → h / 3 ≡ x → link m h ≡ 3 * chain_end m t + 2 → AltersOrNames m t x

-- The nine numbers of a slot are the same.
abbrev SameNine : Mesh → Mesh → ℕ → Type 0
SameNine m n x = (j : ℕ) → j < 9 → get_or (nine_of m x) j 0 ≡ get_or (nine_of n x) j 0

differs_is : (m n : Mesh) (x : ℕ) → Decides (differs m n x) (¬ SameNine m n x)
unfolding differs
differs_is m n x =
    is_not
    (is_all 9 (λ j. eqb (get_or (nine_of m x) j 0) (get_or (nine_of n x) j 0))
    (λ j. get_or (nine_of m x) j 0 ≡ get_or (nine_of n x) j 0)
    (λ j l. is_eq (get_or (nine_of m x) j 0) (get_or (nine_of n x) j 0)))

nine_same : (m n : Mesh) (x : ℕ)
    → ((h : ℕ) → h / 3 ≡ x → origin n.topology h ≡ origin m.topology h)
    → ((h : ℕ) → h / 3 ≡ x → link n.topology h ≡ link m.topology h)
    → generation n.topology x ≡ generation m.topology x → lock n x ≡ lock m x → SameNine m n x
nine_same m n x c l g k j i =
    let e : nine_of m x ≡ nine_of n x =
    rw (
      c (3 * x) (omega arith),
      c (3 * x + 1) (omega arith),
      c (3 * x + 2) (omega arith),
      l (3 * x) (omega arith),
      l (3 * x + 1) (omega arith),
      l (3 * x + 2) (omega arith),
      g,
      k,
    ) refl in
    ap (λ (y : List ℕ). get_or y j 0) e

-- A side of x by its place.
side_of : (P : ℕ → Type 0) (x : ℕ) → P (3 * x) → P (3 * x + 1) → P (3 * x + 2) → (h : ℕ) → h / 3 ≡ x → P h
side_of P x a b c = by_triangle (λ h. h / 3 ≡ x → P h) x (λ _. a) (λ _. b) (λ _. c) (λ h d e. absurd (d e))

module _ {t : ℕ} {m : Mesh} (R : RefineFound t m) (x : ℕ) (l : x < m.topology.triangles) where
  risen_differs : generation (refined t m).topology x ≢ generation m.topology x → ¬ SameNine m (refined t m) x
  risen_differs d f = d (sym (f 7 (omega arith)))

  link_differs : (h : ℕ) → h / 3 ≡ x → link (refined t m).topology h ≢ link m.topology h
      → ¬ SameNine m (refined t m) x
  link_differs h e d f =
      d
      (side_of (λ j. link (refined t m).topology j ≡ link m.topology j) x (sym (f 4 (omega arith)))
      (sym (f 5 (omega arith))) (sym (f 6 (omega arith))) h e)

  told_here : (h : ℕ) → h / 3 ≡ x → generation (refined t m).topology x ≡ generation m.topology x
      → Told (λ y. y ≡ chain_end m.topology t) m.topology (refined t m).topology h
  told_here h e q = refine_told R h (omega arith) (rw e q)

  names_differ : (h : ℕ) → h / 3 ≡ x
      → Moves (λ y. y ≡ chain_end m.topology t) m.topology (refined t m).topology (link m.topology h)
      → ¬ SameNine m (refined t m) x
  names_differ h e M = go (ℕ_discrete (generation (refined t m).topology x) (generation m.topology x))
    where
      go : Dec (generation (refined t m).topology x ≡ generation m.topology x) → ¬ SameNine m (refined t m) x
      go (no d) = risen_differs d
      go (yes q) = link_differs h e (moves_told (told_here h e q) M)

  in_use_lem : (h : ℕ) → h / 3 ≡ x → link m.topology h % 3 ≡ 1 → link m.topology h / 3 < m.topology.triangles
  in_use_lem h e = names_in_use h ((sound_manifold R.sound).linked h (omega arith))

  all_differ : AltersOrNames m.topology t x → ¬ SameNine m (refined t m) x
  all_differ (altered a) = risen_differs (λ q. omega (arith, alters_rise R x l a))
  all_differ (names₁ h e o a) =
      names_differ h e (side₁ o (λ q. omega (arith, alters_rise R (link m.topology h / 3) (in_use_lem h e o) a)))
  all_differ (names₂ h e q) = names_differ h e (side₂ (omega arith) (omega arith))

  by_link : (h : ℕ) → h / 3 ≡ x → generation (refined t m).topology x ≡ generation m.topology x
      → link (refined t m).topology h ≢ link m.topology h → AltersOrNames m.topology t x
  by_link h e q d = go (told_moves (told_here h e q) d)
    where
      go : Moves (λ y. y ≡ chain_end m.topology t) m.topology (refined t m).topology (link m.topology h)
          → AltersOrNames m.topology t x
      go (side₁ o r) = names₁ h e o (refine_alters R (link m.topology h / 3) (in_use_lem h e o) r)
      go (side₂ o z) = names₂ h e (omega arith)

  none_else : ¬ SameNine m (refined t m) x → AltersOrNames m.topology t x
  none_else s = go (ℕ_discrete (generation (refined t m).topology x) (generation m.topology x))
    where
      same : (h : ℕ) → Dec (link (refined t m).topology h ≡ link m.topology h)
      same h = ℕ_discrete (link (refined t m).topology h) (link m.topology h)

      links : generation (refined t m).topology x ≡ generation m.topology x
          → Dec (link (refined t m).topology (3 * x) ≡ link m.topology (3 * x))
          → Dec (link (refined t m).topology (3 * x + 1) ≡ link m.topology (3 * x + 1))
          → Dec (link (refined t m).topology (3 * x + 2) ≡ link m.topology (3 * x + 2))
          → AltersOrNames m.topology t x
      links q (no d) _ _ = by_link (3 * x) (omega arith) q d
      links q (yes _) (no d) _ = by_link (3 * x + 1) (omega arith) q d
      links q (yes _) (yes _) (no d) = by_link (3 * x + 2) (omega arith) q d
      links q (yes a) (yes b) (yes c) =
          let M = found_refined R in
          absurd (s
          (nine_same m (refined t m) x (λ h e. M.still.corners h (omega arith) (rw e q))
          (side_of (λ h. link (refined t m).topology h ≡ link m.topology h) x a b c) q
          (M.places.locks.same.old x l)))

      go : Dec (generation (refined t m).topology x ≡ generation m.topology x) → AltersOrNames m.topology t x
      go (no d) = altered (refine_alters R x l d)
      go (yes q) = links q (same (3 * x)) (same (3 * x + 1)) (same (3 * x + 2))

  -- These are the slots that change.
  pub differs_exactly : T (differs m (refined t m) x) ↔ AltersOrNames m.topology t x
  differs_exactly =
      let D = differs_is m (refined t m) x in
      ((λ d. none_else (D.holds d)), (λ a. D.passes (all_differ a)))
