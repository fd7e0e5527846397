-- The call that refines in a box: which number it returns, and what it leaves.
use mathlib.Core.Path.{◌≡◌, refl, sym, ap, ◌∙◌, subst}
use mathlib.Core.Logic.{◌≢◌}
use mathlib.Core.List.{List, [], ◌∷◌}
use Prim.Native.Nat.{ℕ, ◌+◌, ◌≤◌, ◌<◌}
use native.Mathlib.Omega.{arith}
use Rattle.theory.proofs.Boxes.TurnByTurn.{Ends, whole, short, Run, run, stops_same, none_made}
use Rattle.theory.proofs.Boxes.Wanting.{box_fits_is}
use Rattle.theory.proofs.Calls.Carried.{fails_positive, may_refine, found_refined}
use Rattle.theory.proofs.Calls.FirstThatHolds.{first_unless, none_hold}
use Rattle.theory.proofs.Chains.Going.{Going, going_begins, same_past}
use Rattle.theory.proofs.Lists.AllOrNothing.{done_refusal, work_first, work_both, work_refused, work_refused_is}
use Rattle.theory.proofs.Lists.AllOrNothing.{work_held, work_keeps}
use Rattle.theory.proofs.Lists.Holding.{going_sizes}
use Rattle.theory.proofs.Lists.ListCall.{same_sizes_is}
use Rattle.theory.proofs.Numbers.Decide.{is_true, is_same, stable}
use Rattle.theory.proofs.Soundness.SoundTest.{tables_agree_is, sound_is}
use Rattle.theory.proofs.Spares.OverSpares.{over_sound}
use Rattle.theory.proofs.Splits.Bases.{reached}
use Rattle.rules.specs.Boxes.{Box, refine_in_box, box_refusal, box_call}
use Rattle.rules.specs.Calls.{Outcome, spare_room, refused_with}
use Rattle.rules.specs.Conditions.{TooOld, TooFewSlots, BoxFits, Wanted, LowestWanted}
use Rattle.rules.specs.Conditions.{BoxTurns, RefineFails, old, guarded, crowded}
use Rattle.rules.specs.Conditions.{TurnFails, SomeTurnFails, Condition, ◌when◌, First, this, later, none}
use Rattle.rules.specs.Conditions.{box_conditions}
use Rattle.rules.specs.Lists.{Progress, begun, all_or_nothing}
use Rattle.rules.specs.Promises.{refused_box, BoxMakes}
use Rattle.rules.specs.Sound.{Sound}
use Rattle.rules.specs.Spares.{Spares, copied, mesh_in, SameSizes}
use Rattle.rules.specs.Split.{Work, at_first, refine}
use Rattle.rules.specs.Tables.{Mesh, TablesAgree, generation}

-- What is refused before any turn.
abbrev first_conditions : Box → Spares → Mesh → List Condition
first_conditions b spares m =
    1 when (¬ TablesAgree m) ∷ 17 when (¬ SameSizes spares m) ∷ 18 when (¬ BoxFits b) ∷ 7 when (¬ Sound m) ∷ []

box_refusal_first : (b : Box) (spares : Spares) (m : Mesh) → First (first_conditions b spares m) (box_refusal b spares m)
unfolding box_refusal
box_refusal_first b spares m =
    first_unless 1 (tables_agree_is m) (λ _.
    first_unless 17 (same_sizes_is spares m) (λ _.
    first_unless 18 (box_fits_is b) (λ _.
    first_unless 7 (sound_is m) (λ _. none))))

pub box_passes : (b : Box) (spares : Spares) (m : Mesh) → SameSizes spares m → BoxFits b → Sound m
    → box_refusal b spares m ≡ 0
unfolding box_refusal
box_passes b spares m L F S =
    rw (
      is_same (tables_agree_is m) (is_true S.tables),
      is_same (same_sizes_is spares m) (is_true L),
      is_same (box_fits_is b) (is_true F),
      is_same (sound_is m) (is_true S),
    ) refl

pub box_fits_lem : (b : Box) (spares : Spares) (m : Mesh) → box_refusal b spares m ≡ 0 → BoxFits b
box_fits_lem b spares m z =
    let (_, (_, (f, _))) = none_hold (box_refusal_first b spares m) z tt in
    stable (box_fits_is b) f

pub box_sound : (b : Box) (spares : Spares) (m : Mesh) → box_refusal b spares m ≡ 0 → SameSizes spares m × Sound m
box_sound b spares m z =
    let (_, (l, (_, (s, _)))) = none_hold (box_refusal_first b spares m) z tt in
    (stable (same_sizes_is spares m) l, stable (sound_is m) s)

module _ (b : Box) (m : Mesh) where
  abbrev progress : Progress
  progress = refine_in_box b m

  module _ (S : Sound m) where
    pub box_run : Run b m (begun m) progress
    box_run = run b _ (begun m) refl (going_begins S) (omega (arith, S.some_triangle))

    abbrev all_turns : BoxTurns b progress.handled (at_first m) progress.work
    all_turns =
        let R = box_run in
        let e : R.made ≡ progress.handled = omega (arith, R.handled) in
        subst (λ (k : ℕ). BoxTurns b k (at_first m) progress.work) e R.turns

    -- A turn fails with the number that is computed, and no other.
    pub fails_same : {k n : ℕ} {w : Work} → TurnFails b m k w n → (k ≡ progress.handled) × (n ≡ progress.refusal)
    fails_same F = stops_same F.turns F.next F.fails all_turns box_run.ends

    fails_at : progress.refusal ≢ 0 → TurnFails b m progress.handled progress.work progress.refusal
    fails_at n = go box_run.ends
      where
        go : Ends b progress → TurnFails b m progress.handled progress.work progress.refusal
        go (whole z nothing) = absurd (n z)
        go (short t N F) = record { turns = all_turns; triangle = t; next = N; fails = F }

    abbrev turn_conditions : List Condition
    turn_conditions =
        9 when SomeTurnFails 9 b m ∷ 19 when SomeTurnFails 19 b m ∷ 11 when SomeTurnFails 11 b m ∷ []

    turns_first : First turn_conditions progress.refusal
    turns_first = go box_run.ends
      where
        not_with : (n k : ℕ) → progress.refusal ≡ n → n ≢ k → ¬ SomeTurnFails k b m
        not_with n k e d (_, _, F) = d (sym e ∙ sym (fails_same F).1)

        at : {t n : ℕ} → RefineFails t progress.work.mesh n → progress.refusal ≡ n → SomeTurnFails n b m
            → First turn_conditions n
        at (old _) e F = this F
        at (guarded _ _) e F = later (not_with 19 9 e (λ q. omega arith)) (this F)
        at (crowded _ _ _) e F =
            later (not_with 11 9 e (λ q. omega arith)) (later (not_with 11 19 e (λ q. omega arith)) (this F))

        go : Ends b progress → First turn_conditions progress.refusal
        go (whole z _) =
            rw z (later (not_with 0 9 z (λ q. omega arith)) (later (not_with 0 19 z (λ q. omega arith))
            (later (not_with 0 11 z (λ q. omega arith)) none)))
        go (short t N F) = at F refl (_, _, fails_at (fails_positive F))

    box_makes_of : progress.refusal ≡ 0 → BoxMakes b m progress
    box_makes_of z =
        let R = box_run in
        let G = R.going in
        record {
          sound = G.sound;
          turns = all_turns;
          none_left = go R.ends;
          triangles = G.triangles;
          locks = G.places.locks.same;
          splits = omega (arith, R.handled, R.splits);
          still = G.still;
          old_vertices = G.places.old;
          rule = G.places.rule;
          past = same_past G;
        }
      where
        go : Ends b progress → (t : ℕ) → t < (reached progress.work).triangles → ¬ Wanted b progress.work.mesh t
        go (whole _ nothing) = nothing
        go (short t N F) = absurd (fails_positive F z)

-- ---- the call

module _ (b : Box) (spares : Spares) (m : Mesh) where
  abbrev made : Progress
  made = refine_in_box b m

  pub box_refusal_lem : First (box_conditions b spares m) (box_call b spares m).answer.refusal
  unfolding box_call
  box_refusal_lem =
      work_first _ made spares m (box_refusal_first b spares m) tt (λ z. turns_first b m (box_sound b spares m z).1)

  pub box_refused_is : (box_call b spares m).answer.refusal ≢ 0
      → box_call b spares m ≡ refused_box b spares (box_call b spares m).answer.refusal m
  unfolding box_call
  box_refused_is = work_refused_is (box_refusal b spares m) made spares m

  -- Refused with 1, 17, 18 or 7.
  pub box_refused_first : box_refusal b spares m ≢ 0
      → box_call b spares m ≡ refused_with (box_refusal b spares m) m (spare_room spares)
  unfolding box_call
  box_refused_first = work_refused _ made spares m

  -- The mesh stands, or it is what the box made of a sound one.
  pub box_keeps : (P : Mesh → Type 0) → P m → (Going m made.work → P made.work.mesh)
      → P (box_call b spares m).mesh
  unfolding box_call
  box_keeps P q f =
      work_keeps _ made spares m P q (λ z. f (box_run b m (box_sound b spares m z).1).going)

  not_refused : box_refusal b spares m ≡ 0 → box_call b spares m ≡ all_or_nothing made.refusal made spares m
  unfolding box_call
  not_refused z = rw (box_call, z) refl

  pub box_makes : (box_call b spares m).answer.refusal ≡ 0
      → (box_call b spares m ≡ all_or_nothing 0 made spares m) × BoxMakes b m made
  unfolding box_call
  box_makes z =
      let (a, q) = work_both (box_refusal b spares m) made spares m z in
      (rw (box_call, a, q) refl, box_makes_of b m (box_sound b spares m a).1 q)

  module _ (L : SameSizes spares m) (F : BoxFits b) (S : Sound m) where
    -- Where a turn fails, which and with what, and what is left.
    pub box_stops : (box_call b spares m).answer.refusal ≢ 0
        → (box_call b spares m ≡ all_or_nothing made.refusal made spares m)
        × TurnFails b m made.handled made.work made.refusal
    box_stops n =
        let e = not_refused (box_passes b spares m L F S) in (
          e,
          fails_at b m S (λ z.
              n (ap (λ (o : Outcome). o.answer.refusal) e ∙ done_refusal 0 made spares m _ ∙ z)),
        )

    -- The spare tables hold what the turns made, which is sound.
    pub box_in_spares :
        ((box_call b spares m).room ≡ spare_room (copied made.work.mesh spares))
        × Sound (mesh_in (copied made.work.mesh spares) made.work.mesh)
    unfolding box_call
    box_in_spares =
        let G = (box_run b m S).going in (
          work_held _ made spares m (box_passes b spares m L F S),
          over_sound (going_sizes L G) G.sound,
        )

    -- Where nothing is wanted nothing is made.
    pub nothing_wanted : ((t : ℕ) → t < m.topology.triangles → ¬ Wanted b m t)
        → box_call b spares m ≡ all_or_nothing 0 (begun m) spares m
    nothing_wanted nothing =
        not_refused (box_passes b spares m L F S)
        ∙ ap (λ (p : Progress). all_or_nothing p.refusal p spares m) (none_made b _ (begun m) nothing)

-- Once carried out, the box has nothing left to make.
pub box_twice : (b : Box) (s t : Spares) (m : Mesh) → (box_call b s m).answer.refusal ≡ 0 →
    let n = (box_call b s m).mesh in
    SameSizes t n → box_call b t n ≡ all_or_nothing 0 (begun n) t n
unfolding box_call
box_twice b s t m z L =
    let (e, M) = box_makes b s m z in
    let q : (box_call b s m).mesh ≡ (refine_in_box b m).work.mesh = ap (λ (o : Outcome). o.mesh) e in
    let F = box_fits_lem b s m (work_both (box_refusal b s m) (refine_in_box b m) s m z).0 in
    nothing_wanted b t (box_call b s m).mesh L F (subst Sound (sym q) M.sound)
    (subst (λ (n : Mesh). (t : ℕ) → t < n.topology.triangles → ¬ Wanted b n t) (sym q) M.none_left)

-- A turn raises the triangle that it refines, and takes two slots at least.
pub turn_takes : {b : Box} {t : ℕ} {m : Mesh} → Sound m → LowestWanted b m t → ¬ TooOld m.topology t
    → ¬ TooFewSlots t m →
    let n = (refine t (at_first m)).mesh in
    (generation m.topology t < generation n.topology t)
    × (m.topology.triangles + 2 ≤ n.topology.triangles)
turn_takes S N y f =
    let R = found_refined (may_refine S N.in_use y f) in
    (R.rises, omega (arith, R.triangles))
