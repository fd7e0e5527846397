-- Refines that are carried out leave every locked triangle alone.
use mathlib.Core.Path.{◌≡◌, refl, sym, ◌∙◌}
use mathlib.Core.List.{List}
use mathlib.Core.Logic.{◌≢◌, ◌⊎◌, ◌↔◌, inl, inr}
use Prim.Native.Nat.{ℕ, ◌+◌, ◌*◌, ◌/◌, ◌<◌}
use native.Mathlib.Decide.{ℕ_discrete}
use native.Mathlib.Omega.{arith}
use Rattle.theory.proofs.Calls.Carried.{RefineFound, may_refine, found_refined}
use Rattle.theory.proofs.Chains.Altered.{refine_alters, alters_rise}
use Rattle.theory.proofs.Chains.Altering.{SameWays, ways_back, alters_in}
use Rattle.theory.proofs.Chains.Going.{Going, going_on}
use Rattle.theory.proofs.Links.Manifold.{partnered}
use Rattle.theory.proofs.Soundness.Relaxed.{sound_manifold}
use Rattle.theory.proofs.Spares.Adds.{refine_adds}
use Rattle.theory.proofs.Splits.Bases.{reached}
use Rattle.rules.specs.Boxes.{Box}
use Rattle.rules.specs.Conditions.{Alters, AltersLocked, Locked, Handled, all_done, passed_over, refined, BoxTurns}
use Rattle.rules.specs.Conditions.{no_turn, one_turn}
use Rattle.rules.specs.Promises.{AgreeInUse}
use Rattle.rules.specs.Sound.{Sound}
use Rattle.rules.specs.Spares.{Spares, mesh_in}
use Rattle.rules.specs.Split.{Work, at_first, refine}
use Rattle.rules.specs.Tables.{Topology, Mesh, origin, generation}

-- The triangles that are found before the work are exactly those in use whose generation or a corner of which the
-- refine changes; it is made in any tables that hold the same mesh and have slots enough.
module _ {t : ℕ} {m : Mesh} (s : Spares) (S : Sound m) (A : AgreeInUse s m) (F : RefineFound t (mesh_in s m)) (x : ℕ)
    (l : x < m.topology.triangles) where
  made : Topology
  made = reached (refine t (at_first (mesh_in s m)))

  ways : SameWays m.topology.triangles m.topology (mesh_in s m).topology
  ways = record {
    generations = A.generations;
    links = A.links;
    in_use = λ h b n. (partnered ((sound_manifold S).linked h b) n).in_use;
  }

  by_change : (generation made x ≢ generation m.topology x)
      ⊎ ((i : ℕ) × (i < 3) × (origin made (3 * x + i) ≢ origin m.topology (3 * x + i)))
      → Alters m.topology t x
  unfolding made
  by_change d = alters_in (ways_back ways) F.in_use l (go d)
    where
      risen : generation made x ≢ generation m.topology x → Alters (mesh_in s m).topology t x
      risen d = refine_alters F x l (λ e. d (e ∙ A.generations x l))

      turned : (i : ℕ) → i < 3 → origin made (3 * x + i) ≢ origin m.topology (3 * x + i)
          → Dec (generation made x ≡ generation m.topology x) → Alters (mesh_in s m).topology t x
      turned i b d (no e) = risen e
      turned i b d (yes e) =
          let z : (3 * x + i) / 3 ≡ x = omega arith in
          absurd (d
          ((found_refined F).still.corners (3 * x + i) (omega arith) (rw z (e ∙ sym (A.generations x l)))
          ∙ A.corners (3 * x + i) (omega arith)))

      go : (generation made x ≢ generation m.topology x)
          ⊎ ((i : ℕ) × (i < 3) × (origin made (3 * x + i) ≢ origin m.topology (3 * x + i)))
          → Alters (mesh_in s m).topology t x
      go (inl d) = risen d
      go (inr (i, b, d)) = turned i b d (ℕ_discrete (generation made x) (generation m.topology x))

  pub altered_exactly :
      let n = reached (refine t (at_first (mesh_in s m))) in
      Alters m.topology t x
      ↔ ((generation n x ≢ generation m.topology x)
      ⊎ ((i : ℕ) × (i < 3) × (origin n (3 * x + i) ≢ origin m.topology (3 * x + i))))
  unfolding made
  altered_exactly =
      (λ a. inl (λ e. omega (arith, alters_rise F x l (alters_in ways F.in_use l a), A.generations x l)), by_change)

-- A refine that alters none of them leaves a locked triangle as it is, and locked.
pub refine_leaves : {t x : ℕ} (w : Work) → RefineFound t w.mesh → ¬ AltersLocked t w.mesh → Locked w.mesh x
    → (generation (reached (refine t w)) x ≡ generation (reached w) x) × Locked (refine t w).mesh x
refine_leaves {t} {x} w F n (l, k) =
    let R = found_refined F in
    rw (refine_adds t w) (
      same (ℕ_discrete (generation made x) (generation (reached w) x)),
      (omega (arith, R.still.grows), R.places.locks.same.old x l ∙ k),
    )
  where
    made : Topology
    made = reached (refine t (at_first w.mesh))

    same : Dec (generation made x ≡ generation (reached w) x) → generation made x ≡ generation (reached w) x
    same (yes e) = e
    same (no e) = absurd (n (x, (l, k), refine_alters F x l e))

-- So do all refines of a list and of a box.
pub handled_leaves : {m : Mesh} {list : List ℕ} {w v : Work} {x : ℕ} → Going m w → Locked w.mesh x
    → Handled m list w v → generation (reached v) x ≡ generation (reached w) x
handled_leaves G L all_done = refl
handled_leaves G L (passed_over _ _ H) = handled_leaves G L H
handled_leaves {w = w} G L (refined l _ M H) =
    let F = may_refine G.sound (omega (arith, G.still.grows)) M.young M.room in
    let a = refine_leaves w F M.unlocked L in
    handled_leaves (going_on G F) a.1 H ∙ a.0

pub turns_leave : {m : Mesh} {b : Box} {k : ℕ} {w v : Work} {x : ℕ} → Going m w → Locked w.mesh x → BoxTurns b k w v
    → generation (reached v) x ≡ generation (reached w) x
turns_leave G L no_turn = refl
turns_leave {w = w} G L (one_turn N M T) =
    let F = may_refine G.sound N.in_use M.young M.room in
    let a = refine_leaves w F M.unlocked L in
    turns_leave (going_on G F) a.1 T ∙ a.0
