-- The call that refines a list: which number it returns, and what it leaves.
use mathlib.Core.Path.{◌≡◌, refl, sym, ap, ◌∙◌, subst}
use mathlib.Core.Logic.{◌≢◌}
use mathlib.Core.List.{List, [], ◌∷◌}
use Prim.Native.Nat.{ℕ, ◌<◌}
use native.Mathlib.Decide.{ℕ_discrete}
use native.Mathlib.Omega.{arith}
use lib.ListN.{length, get_or}
use Rattle.theory.proofs.Calls.FirstThatHolds.{first_unless, none_hold}
use Rattle.theory.proofs.Lists.AllOrNothing.{done_refusal, work_first, work_both, work_refused_is, work_keeps}
use Rattle.theory.proofs.Lists.Entries.{Ends, whole, short, Fold, fold, fails_computed, entry_turn, turn_passes}
use Rattle.theory.proofs.Lists.Entries.{entry_fails_positive}
use Rattle.theory.proofs.Lists.Entries.{handled_used}
use Rattle.theory.proofs.Chains.Going.{Going, going_begins, same_past}
use Rattle.theory.proofs.Numbers.Decide.{Decides, is_eq, is_iff, is_and, is_true, is_same, stable}
use Rattle.theory.proofs.Soundness.SoundTest.{tables_agree_is, sound_is}
use Rattle.rules.specs.Calls.{Outcome}
use Rattle.rules.specs.Conditions.{EntryFails, not_in_use, not_refined, old, guarded, crowded, FailsAfter}
use Rattle.rules.specs.Conditions.{FailsWith, Condition, ◌when◌, First, this, later, none, entry_conditions}
use Rattle.rules.specs.Conditions.{list_conditions}
use Rattle.rules.specs.Lists.{Progress, begun, goes_on}
use Rattle.rules.specs.Lists.{handle, refine_each, spares_refusal}
use Rattle.rules.specs.Lists.{all_or_nothing, list_call}
use Rattle.rules.specs.Promises.{refused_list, ListMakes}
use Rattle.rules.specs.Sound.{Sound}
use Rattle.rules.specs.Spares.{Spares, SameSizes, same_sizes}
use Rattle.rules.specs.Tables.{Mesh, TablesAgree}

pub same_sizes_is : (s : Spares) (m : Mesh) → Decides (same_sizes s m) (SameSizes s m)
unfolding same_sizes
same_sizes_is s m =
    is_iff
    (λ x. record {
      positions = x.0.0.0.0;
      corners = x.0.0.0.1;
      links = x.0.0.1;
      generations = x.0.1;
      locks = x.1;
    })
    (λ R. ((((R.positions, R.corners), R.links), R.generations), R.locks))
    (is_and (is_and (is_and (is_and (is_eq _ _) (is_eq _ _)) (is_eq _ _)) (is_eq _ _)) (is_eq _ _))

-- What is refused before any entry.
abbrev first_conditions : Spares → Mesh → List Condition
first_conditions spares m = 1 when (¬ TablesAgree m) ∷ 17 when (¬ SameSizes spares m) ∷ 7 when (¬ Sound m) ∷ []

pub spares_refusal_first : (spares : Spares) (m : Mesh) → First (first_conditions spares m) (spares_refusal spares m)
unfolding spares_refusal
spares_refusal_first spares m =
    first_unless 1 (tables_agree_is m) (λ _.
    first_unless 17 (same_sizes_is spares m) (λ _.
    first_unless 7 (sound_is m) (λ _. none)))

-- Spare tables of the same sizes and a sound mesh are not refused.
pub spares_pass : (spares : Spares) (m : Mesh) → SameSizes spares m → Sound m → spares_refusal spares m ≡ 0
unfolding spares_refusal
spares_pass spares m L S =
    rw (
      is_same (tables_agree_is m) (is_true S.tables),
      is_same (same_sizes_is spares m) (is_true L),
      is_same (sound_is m) (is_true S),
    ) refl

pub spares_sound : (spares : Spares) (m : Mesh) → spares_refusal spares m ≡ 0 → SameSizes spares m × Sound m
spares_sound spares m z =
    let (_, (b, (s, _))) = none_hold (spares_refusal_first spares m) z tt in
    (stable (same_sizes_is spares m) b, stable (sound_is m) s)

module _ (list : List ℕ) (spares : Spares) (m : Mesh) where
  abbrev progress : Progress
  progress = refine_each list m

  -- No entry fails with another number than the one that is computed.
  fails_only : Sound m → (n : ℕ) → FailsWith n list m → progress.refusal ≡ n
  fails_only S n (k, w, F) = ap (λ (p : Progress). p.refusal) (fails_computed S F)

  module _ (S : Sound m) where
    pub folded : Fold m list (begun m) progress
    folded = fold m list (begun m) refl (going_begins S)

    -- Every entry succeeded, or the first that failed is known.
    stops : progress.refusal ≢ 0 → FailsAfter list m progress.handled progress.work progress.refusal
    stops n = go folded.ends
      where
        go : Ends m list (begun m) progress
            → FailsAfter list m progress.handled progress.work progress.refusal
        go (whole z h H R) = absurd (n z)
        go (short before t rest e h H F) = record {
          before = before;
          entry = t;
          rest = rest;
          parts = e;
          place = omega arith;
          handled = H;
          fails = F;
        }

    entries_first : First (entry_conditions list m) progress.refusal
    entries_first = go (ℕ_discrete progress.refusal 0)
      where
        not_with : (n k : ℕ) → progress.refusal ≡ n → n ≢ k → ¬ FailsWith k list m
        not_with n k e d g = d (sym e ∙ fails_only S k g)

        at : {x : Mesh} {t n : ℕ} → EntryFails m t x n → progress.refusal ≡ n → FailsWith n list m
            → First (entry_conditions list m) n
        at (not_in_use _) e f = this f
        at (not_refined _ _ (old _)) e f = later (not_with 9 8 e (λ q. omega arith)) (this f)
        at (not_refined _ _ (guarded _ _)) e f =
            later (not_with 19 8 e (λ q. omega arith)) (later (not_with 19 9 e (λ q. omega arith)) (this f))
        at (not_refined _ _ (crowded _ _ _)) e f =
            later (not_with 11 8 e (λ q. omega arith)) (later (not_with 11 9 e (λ q. omega arith))
            (later (not_with 11 19 e (λ q. omega arith)) (this f)))

        no_entry : progress.refusal ≡ 0 → First (entry_conditions list m) 0
        no_entry e =
            later (not_with 0 8 e (λ q. omega arith)) (later (not_with 0 9 e (λ q. omega arith))
            (later (not_with 0 19 e (λ q. omega arith)) (later (not_with 0 11 e (λ q. omega arith)) none)))

        go : Dec (progress.refusal ≡ 0) → First (entry_conditions list m) progress.refusal
        go (yes z) = subst (First (entry_conditions list m)) (sym z) (no_entry z)
        go (no n) = let F = stops n in at F.fails refl (_, _, F)

    makes : progress.refusal ≡ 0 → (progress.handled ≡ length list) × ListMakes list m progress.work
    makes z = go folded.ends
      where
        go : Ends m list (begun m) progress → (progress.handled ≡ length list) × ListMakes list m progress.work
        go (whole _ h H R) =
            let G = folded.going in (
              omega arith,
              record {
                sound = G.sound;
                handled = H;
                risen = R;
                triangles = G.triangles;
                locks = G.places.locks.same;
                still = G.still;
                old_vertices = G.places.old;
                rule = G.places.rule;
                past = same_past G;
              },
            )
        go (short _ _ _ _ _ _ F) = absurd (entry_fails_positive F z)

    -- Where none fails, each entry has risen, and is passed over when it comes again.
    pub passed_again : progress.refusal ≡ 0 → (i : ℕ) → i < length list
        → handle m (get_or list i 0) progress ≡ goes_on 0 progress.work progress
    unfolding handle
    passed_again z i l =
        let M = (makes z).1 in
        let G = folded.going in
        let T =
        turn_passes (entry_turn m (get_or list i 0) progress.work G.sound G.still.grows)
        (handled_used M.handled i l) (M.risen i l) in
        rw (z, T.0, T.1) refl

  pub list_refusal : First (list_conditions list spares m) (list_call list spares m).answer.refusal
  unfolding list_call
  list_refusal =
      work_first _ progress spares m (spares_refusal_first spares m) tt (λ z.
      entries_first (spares_sound spares m z).1)

  -- Where it is carried out, neither the mesh nor an entry is refused.
  pub both_zero : (list_call list spares m).answer.refusal ≡ 0 → (spares_refusal spares m ≡ 0) × (progress.refusal ≡ 0)
  unfolding list_call
  both_zero = work_both _ progress spares m

  module _ (z : (list_call list spares m).answer.refusal ≡ 0) where
    sound : Sound m
    sound = (spares_sound spares m (both_zero z).0).1

    pub list_makes :
        (list_call list spares m ≡ all_or_nothing 0 progress spares m) × (progress.handled ≡ length list)
        × ListMakes list m progress.work
    unfolding list_call
    list_makes =
        let (a, q) = both_zero z in
        let M = makes sound q in
        (rw (list_call, a, q) refl, M.0, M.1)

  -- Where neither 1 nor 17 nor 7 refuses.
  pub not_refused : spares_refusal spares m ≡ 0
      → list_call list spares m ≡ all_or_nothing progress.refusal progress spares m
  unfolding list_call
  not_refused z = rw (list_call, z) refl

  -- Where an entry fails, which and with what, and what is left.
  pub list_stops : SameSizes spares m → Sound m → (list_call list spares m).answer.refusal ≢ 0
      → (list_call list spares m ≡ all_or_nothing progress.refusal progress spares m)
      × FailsAfter list m progress.handled progress.work progress.refusal
  list_stops L S n =
      let e = not_refused (spares_pass spares m L S) in
      (e, stops S (λ z. n (ap (λ (o : Outcome). o.answer.refusal) e ∙ done_refusal 0 progress spares m _ ∙ z)))

  -- Refused, it leaves the mesh, and spare tables that it worked in as the last entry that succeeded left them.
  pub list_refused_is : (list_call list spares m).answer.refusal ≢ 0
      → list_call list spares m ≡ refused_list list spares (list_call list spares m).answer.refusal m
  unfolding list_call
  list_refused_is = work_refused_is (spares_refusal spares m) progress spares m

  -- The mesh stands, or it is what the list made of a sound one.
  pub list_keeps : (P : Mesh → Type 0) → P m → (Going m progress.work → P progress.work.mesh)
      → P (list_call list spares m).mesh
  unfolding list_call
  list_keeps P q f =
      work_keeps _ progress spares m P q (λ z. f (folded (spares_sound spares m z).1).going)
