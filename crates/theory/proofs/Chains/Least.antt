-- No run of splits raises a triangle with fewer splits than its refine, which is a run.
use mathlib.Core.Path.{◌≡◌, refl, sym, ap, ◌∙◌, subst}
use mathlib.Core.List.{List, [], ◌∷◌}
use mathlib.Core.Logic.{◌≢◌, inl, inr}
use Prim.Native.Nat.{ℕ, zero, suc, ◌+◌, ◌*◌, ◌/◌, ◌%◌, ◌≤◌, ◌<◌, max}
use native.Mathlib.Omega.{arith}
use native.Mathlib.Decide.{ℕ_discrete}
use lib.ListN.{length, replicate, length-replicate}
use Rattle.theory.proofs.Calls.Carried.{RefineFound, found_refined, found_young}
use Rattle.theory.proofs.Chains.Chain.{Path, ends, across, falls, path_high, path_meets, further_on_lem}
use Rattle.theory.proofs.Chains.Chain.{Shorter, shortens}
use Rattle.theory.proofs.Chains.Raise.{raise_cuts}
use Rattle.theory.proofs.Chains.Refine.{sound_room, chain_path}
use Rattle.theory.proofs.Chains.RefineLoop.{Ahead, ahead_end, ahead_on, path_after, Refining, refining_begins}
use Rattle.theory.proofs.Chains.RefineLoop.{refining_ends, refining_next, refining_on}
use Rattle.theory.proofs.Chains.Runs.{top_of, not_splittable, split_splitting}
use Rattle.theory.proofs.Links.Manifold.{Manifold, BasesMeetIn}
use Rattle.theory.proofs.Numbers.Fill.{get_or_fill}
use Rattle.theory.proofs.Soundness.Relaxed.{sound_manifold, sound_bases}
use Rattle.theory.proofs.Spares.Adds.{refine_adds}
use Rattle.theory.proofs.Splits.Bases.{reached}
use Rattle.theory.proofs.Splits.Cut.{CutResult}
use Rattle.theory.proofs.Splits.Settled.{nowhere}
use Rattle.rules.specs.Below.{fill}
use Rattle.rules.specs.Calls.{splits_of, rim_splits_of}
use Rattle.rules.specs.Conditions.{Splittable, is_even, on_boundary, TooOld, Risen}
use Rattle.rules.specs.Runs.{MaySplit, MayRun, ran}
use Rattle.rules.specs.Sound.{Sound}
use Rattle.rules.specs.Split.{Work, at_first, chain_end, chain_odd, chain_at, split_at, refine}
use Rattle.rules.specs.Tables.{Topology, Mesh, generation}

-- ---- the potential: the splits that raising a triangle takes fall by one at most

-- A triangle that may be split is the end of its own chain.
fit_ends : {m : Topology} {t v k : ℕ} → Splittable m t → Path m t v k → (v ≡ t) × (k ≡ 0)
fit_ends x (ends f) = (refl, refl)
fit_ends x (across o r p) = not_splittable x o r

-- From m to n, where x has k odd triangles before the end of its chain in m: one split was left to raise it, or x
-- waits, and takes one split less at most.
data LosesOne (m n : Topology) (x k : ℕ) : Type 0 where
  was_last : k ≤ 1 → LosesOne m n x k
  waits : {w j : ℕ} → generation n x ≡ generation m x → Path n x w j → k ≤ suc j → LosesOne m n x k

module _ (v g p r : ℕ) (m n : Topology) (F : Manifold m) (K : BasesMeetIn nowhere m) (b : v < m.triangles)
    (fit : Splittable m v) (S : CutResult v g p r m n) where
  -- Another triangle that may be split stands, and still may.
  end_stands : (x : ℕ) → x < m.triangles → x ≢ v → Splittable m x → (generation n x ≡ generation m x) × Splittable n x
  end_stands x l d (is_even e) = let s = S.keeps x l d e in (s, is_even (omega arith))
  end_stands x l d (on_boundary o q) = go (ℕ_discrete (generation n x) (generation m x))
    where
      go : Dec (generation n x ≡ generation m x) → (generation n x ≡ generation m x) × Splittable n x
      go (no c) = absurd ((S.moved x l d c).0 q)
      go (yes e) =
          let z : 3 * x / 3 ≡ x = omega arith in
          (e, on_boundary (omega arith) (S.still.links (3 * x) (omega arith) (rw z e) (inl q) ∙ q))

  -- A split elsewhere than at its end leaves a chain as it is.
  chain_stands : {x w k : ℕ} → x < m.triangles → w ≢ v → Path m x w k
      → (generation n x ≡ generation m x) × Path n x w k
  chain_stands {x} l d (ends f) = let s = end_stands x l d f in (s.0, ends s.1)
  chain_stands {x} l d (across o q a) =
      let c = chain_stands (falls m F K x l o q).0 d a in
      further_on_lem v g p r m n F K b fit S x l o q (λ e. d ((fit_ends (subst (Splittable m) (sym e) fit) a).0 ∙ e)) c.0
      c.1

  loses_one : {x w k : ℕ} → x < m.triangles → Path m x w k → LosesOne m n x k
  loses_one {x} {w} {k} l a = go (ℕ_discrete w v)
    where
      at_end_lem : (k : ℕ) → Shorter m n x k → LosesOne m n x k
      at_end_lem zero s = was_last (omega arith)
      at_end_lem (suc zero) s = was_last (omega arith)
      at_end_lem (suc (suc j)) s = waits s.0 s.1.2 (omega arith)

      go : Dec (w ≡ v) → LosesOne m n x k
      go (yes e) = at_end_lem k (shortens v g p r m n F K b fit S l e a)
      go (no d) = let s = chain_stands l d a in waits s.0 s.1 (omega arith)

-- ---- runs

-- A split of a run is a refine of its triangle.
split_found : {t : ℕ} {m : Mesh} → Sound m → MaySplit t m → RefineFound t m
split_found {t} {m} S M =
    let tri : Topology = m.topology in
    let e = fit_ends M.splittable (chain_path t m S M.in_use) in
    let q : rim_splits_of tri t ≡ generation tri t % 2 = ap (λ (v : ℕ). generation tri v % 2) e.0 in
    let one : splits_of tri t ≡ 1 = omega (arith, e.1) in
    record {
      sound = S;
      in_use = M.in_use;
      young = M.young;
      room = record { vertices = omega (arith, M.room.vertices); triangles = omega (arith, M.room.triangles) };
    }

-- So it leaves a sound mesh.
split_sound : {t : ℕ} (w : Work) → Sound w.mesh → MaySplit t w.mesh → Sound (split_at t w).mesh
unfolding refine
split_sound {t} w S M =
    let e : refine t w ≡ split_at t w =
    raise_cuts (generation (reached w) t) t w M.splittable (sound_manifold S) (sound_bases S) M.in_use
    (sound_room 1 S.tables M.room) in
    subst (λ (x : Work). Sound x.mesh) (sym (refine_adds t w) ∙ e) (found_refined (split_found S M)).sound

-- A run that begins with the split of s: what holds of the rest, where t has not risen, holds of the whole.
takes_first : {s t v k c : ℕ} (w : Work) → Sound w.mesh → MaySplit s w.mesh → t < (reached w).triangles
    → Path (reached w) t v k
    → ((u j : ℕ) → generation (reached (split_at s w)) t ≡ generation (reached w) t
    → t < (reached (split_at s w)).triangles → Path (reached (split_at s w)) t u j → max 1 j ≤ c)
    → max 1 k ≤ suc c
takes_first {s} {t} {k = k} {c} w S M l a rest =
    let F = sound_manifold S in
    let K = sound_bases S in
    let C = (split_splitting s w M.splittable F M.in_use (sound_room 1 S.tables M.room)).result in
    go C.triangles (loses_one s _ _ _ (reached w) (reached (split_at s w)) F K M.in_use M.splittable C l a)
  where
    go : (reached (split_at s w)).triangles ≡ (reached w).triangles + 2
        → LosesOne (reached w) (reached (split_at s w)) t k → max 1 k ≤ suc c
    go z (was_last i) = omega arith
    go z (waits {w = u} {j = j} e q i) = omega (arith, rest u j e (omega arith) q)

-- No run that raises a triangle has fewer splits than its chain takes.
run_takes : {t v k : ℕ} (run : List ℕ) (w : Work) → Sound w.mesh → t < (reached w).triangles
    → Path (reached w) t v k → MayRun run w → generation (reached w) t < generation (reached (ran run w)) t
    → max 1 k ≤ length run
run_takes [] w S l a M up = absurd (omega arith)
run_takes (s ∷ run) w S l a M up =
    takes_first w S M.0 l a
    (λ u j e b q. run_takes run (split_at s w) (split_sound w S M.0) b q M.1 (omega arith))

pub run_least : (t : ℕ) (m : Mesh) → Sound m → t < m.topology.triangles → (run : List ℕ) → MayRun run (at_first m)
    → Risen m t (ran run (at_first m)).mesh → splits_of m.topology t ≤ length run
run_least t m S l run = run_takes run (at_first m) S l (chain_path t m S l)

-- ---- refine is a run

-- The end of the chain is no older than t may be.
end_young : {m : Topology} {t v k : ℕ} → Manifold m → BasesMeetIn nowhere m → t < m.triangles → generation m t < 20
    → ¬ TooOld m t → Path m t v k → ¬ TooOld m v
end_young F K l g y (ends f) = y
end_young {m} {t} {v} F K l g y (across o r p) = λ z. go z (path_high F K l (across {t = t} o r p))
  where
    go : TooOld m v → top_of m v ≤ generation m t → ⊥
    go (inl e) i = omega arith
    go (inr (e, _)) i = omega arith

-- Where splits are left after the next, the base of t is not on the boundary.
still_young : {k g t : ℕ} {w : Work} → g < 20 → Ahead (suc (suc k)) g t w
    → ¬ TooOld (reached (split_at (chain_end (reached w) t) w)) t
still_young y A (inl e) = omega (arith, (ahead_on A).rising.0)
still_young y A (inr (_, e)) = path_meets (path_after A).0 e

-- A run of k splits makes x of w.
pub record RunOf (k : ℕ) (w x : Work) : Type 0 where
  pub run : List ℕ
  pub may : MayRun run w
  pub makes : ran run w ≡ x
  pub splits : length run ≡ k

run_on : {s k : ℕ} {w x : Work} → MaySplit s w.mesh → RunOf k (split_at s w) x → RunOf (suc k) w x
run_on {s} M R = record { run = s ∷ R.run; may = (M, R.may); makes = R.makes; splits = ap suc R.splits }

module _ {t : ℕ} {m : Mesh} (R : RefineFound t m) {slots : List ℕ} where
  may_split : {k : ℕ} {w : Work} → Refining t m slots (suc k) w → ¬ TooOld (reached w) t
      → MaySplit (chain_end (reached w) t) w.mesh
  may_split N y =
      let A = N.ahead in
      let X = refining_next R N in
      record {
        in_use = X.in_use;
        splittable = (ahead_end A).fit;
        young = end_young A.manifold A.bases_meet A.in_use (omega (arith, A.rising.0, found_young R)) y
            A.rising.1.path;
        room = X.room;
      }

  refining_run : {w : Work} (left : ℕ) → Refining t m slots left w → (0 < left → ¬ TooOld (reached w) t)
      → RunOf left w (refine t (at_first m))
  refining_run zero N y = record { run = []; may = tt; makes = refining_ends R N; splits = refl }
  refining_run {w = w} (suc zero) N y =
      run_on (may_split N (y (omega arith)))
      (refining_run {w = split_at (chain_end (reached w) t) w} zero (refining_on R N) (λ z. absurd (omega arith)))
  refining_run {w = w} (suc (suc k)) N y =
      run_on (may_split N (y (omega arith)))
      (refining_run {w = split_at (chain_end (reached w) t) w} (suc k) (refining_on R N) (λ _. still_young (found_young R) N.ahead))

pub refine_run : {t : ℕ} {m : Mesh} → RefineFound t m
    → RunOf (splits_of m.topology t) (at_first m) (refine t (at_first m))
refine_run {t} {m} R =
    let k : ℕ = chain_odd m.topology t in
    let at : ℕ → ℕ = λ i. chain_at i m.topology t in
    let none : List ℕ = replicate k 0 in
    refining_run R _
    (refining_begins R {slots = fill k at none} (λ i. get_or_fill k at none i 0 (rw length-replicate (omega arith))))
    (λ _. R.young)
