-- What a call that is carried out has found, and what it makes of the mesh.
use mathlib.Core.Path.{◌≡◌, refl, ◌∙◌}
use mathlib.Core.Logic.{◌≢◌, inl, inr}
use mathlib.Core.Bool.{Bool, true, false}
use mathlib.Core.List.{List}
use Prim.Native.Nat.{ℕ, zero, suc, ◌*◌, ◌<◌, ◌≤◌}
use native.Mathlib.Decide.{ℕ_discrete}
use native.Mathlib.Omega.{arith}
use lib.ListN.{length, length-set}
use lib.Seq.{get_or-set_same, get_or-set_other}
use Rattle.theory.proofs.Loads.CageTests.{sizes_fit_is, corners_fit_is, coordinates_fit_is, sides_differ_is}
use Rattle.theory.proofs.Calls.CallRefusals.{room_is, closed_even_is}
use Rattle.theory.proofs.Calls.CallRefusals.{load_refusal_first}
use Rattle.theory.proofs.Calls.CallRefusals.{refine_refusal_first, whole_step_refusal_first, lock_refusal_first}
use Rattle.theory.proofs.Calls.CallRefusals.{noted_refusal_first, take_back_refusal_first}
use Rattle.theory.proofs.Notes.Reading.{length_note}
use Rattle.theory.proofs.Notes.Tests.{accepted_is}
use Rattle.theory.proofs.Numbers.Decide.{is_lt, stable}
use Rattle.theory.proofs.Calls.FirstThatHolds.{none_hold}
use Rattle.theory.proofs.Loads.Load.{fans_fit_is}
use Rattle.theory.proofs.Chains.Refine.{Refined, refine_refined, chain_takes}
use Rattle.theory.proofs.Soundness.Relaxed.{sound_manifold, sound_bases, manifold_sound, agree_on}
use Rattle.theory.proofs.Soundness.SoundTest.{tables_agree_is, sound_is, known_rule_is}
use Rattle.theory.proofs.Steps.WholeStep.{step_makes}
use Rattle.rules.specs.Cage.{Cage, cage_of}
use Rattle.rules.specs.Calls.{splits_of, load_refusal, refine_refusal, whole_step_refusal, rim_splits_of, vertices_of}
use Rattle.rules.specs.Calls.{triangles_of, lock_refusal, with_lock}
use Rattle.rules.specs.Conditions.{SizesFit, CornersFit, RoomFor, ClosedEven, CoordinatesFit, SidesDiffer}
use Rattle.rules.specs.Conditions.{FansFit, SomeInnerOfTwo, TooOld, AltersLocked, TooFewSlots, RefineFails, old}
use Rattle.rules.specs.Conditions.{guarded, crowded, MayRefine}
use Rattle.rules.specs.Conditions.{First, this, later, none, refine_conditions}
use Rattle.rules.specs.Notes.{note_of, refined, noted_refusal, Accepted, take_back_refusal}
use Rattle.rules.specs.Numbers.{KnownRule}
use Rattle.rules.specs.Promises.{StepMakes, LockMakes}
use Rattle.rules.specs.Sound.{Sound}
use Rattle.rules.specs.Split.{at_first, refine}
use Rattle.rules.specs.Step.{whole_step}
use Rattle.rules.specs.Tables.{Mesh, TablesAgree, generation, lock}

-- ---- load

pub record LoadFound (rule : ℕ) (bytes : List ℕ) (m : Mesh) : Type 0 where
  pub agree : TablesAgree m
  pub known : KnownRule rule
  pub sizes : SizesFit bytes m
  pub corners : CornersFit (cage_of bytes)
  pub coordinates : CoordinatesFit (cage_of bytes)
  pub differ : SidesDiffer (cage_of bytes)
  pub fans : FansFit (cage_of bytes) m
  pub none_of_two : ¬ SomeInnerOfTwo (cage_of bytes) m

pub load_found : (rule : ℕ) (bytes : List ℕ) (m : Mesh) → load_refusal rule bytes m ≡ 0 → LoadFound rule bytes m
load_found rule bytes m z =
    let c : Cage = cage_of bytes in
    let (a, (u, (s, (k, (r, (d, (f, _))))))) = none_hold (load_refusal_first rule bytes m) z tt in
    let A = stable (tables_agree_is m) a in
    let S = stable (sizes_fit_is bytes m) s in
    let K = stable (corners_fit_is c) k in
    let D = stable (sides_differ_is c) d in
    record {
      agree = A;
      known = stable (known_rule_is rule) u;
      sizes = S;
      corners = K;
      coordinates = stable (coordinates_fit_is c) r;
      differ = D;
      fans = stable (fans_fit_is c m A S.vertex_room S.triangle_room K D) (λ n. f (inl n));
      none_of_two = λ x. f (inr x);
    }

-- ---- refine

pub record RefineFound (t : ℕ) (m : Mesh) : Type 0 where
  pub sound : Sound m
  pub in_use : t < m.topology.triangles
  pub young : ¬ TooOld m.topology t
  pub room : RoomFor (vertices_of m.topology t) (triangles_of m.topology t) m

pub may_refine : {t : ℕ} {m : Mesh} → Sound m → t < m.topology.triangles → ¬ TooOld m.topology t
    → ¬ TooFewSlots t m → RefineFound t m
may_refine {t} {m} S u y f = record {
  sound = S;
  in_use = u;
  young = y;
  room = stable (room_is _ _ m) (λ n. f (_, _, chain_takes t m S u, n));
}

pub refine_found : (t : ℕ) (m : Mesh) → refine_refusal t m ≡ 0 → RefineFound t m
refine_found t m z =
    let (_, (s, (i, (n, (_, (r, _)))))) = none_hold (refine_refusal_first t m) z tt in
    may_refine (stable (sound_is m) s) (stable (is_lt t m.topology.triangles) i) n r

-- It splits and flips no locked triangle.
pub refine_unlocked : (t : ℕ) (m : Mesh) → refine_refusal t m ≡ 0 → ¬ AltersLocked t m
refine_unlocked t m z = let (_, (_, (_, (_, (l, _))))) = none_hold (refine_refusal_first t m) z tt in l

-- A triangle in use of a sound mesh: its refine fails with n, or n is 0 and it may be refined.
pub data Tried (t : ℕ) (m : Mesh) : ℕ → Type 0 where
  cannot : {n : ℕ} → RefineFails t m n → Tried t m n
  can : MayRefine t m → RefineFound t m → Tried t m 0

pub refine_tried : (t : ℕ) (m : Mesh) → Sound m → t < m.topology.triangles → Tried t m (refine_refusal t m)
refine_tried t m S u = go refl (refine_refusal_first t m)
  where
    go : {n : ℕ} → refine_refusal t m ≡ n → First (refine_conditions t m) n → Tried t m n
    go e (this p) = absurd (p S.tables)
    go e (later _ (this p)) = absurd (p S)
    go e (later _ (later _ (this p))) = absurd (p u)
    go e (later _ (later _ (later _ (this p)))) = cannot (old p)
    go e (later _ (later _ (later _ (later o (this p))))) = cannot (guarded o p)
    go e (later _ (later _ (later _ (later o (later l (this p)))))) = cannot (crowded o l p)
    go e (later _ (later _ (later _ (later o (later l (later f none)))))) =
        can (record { young = o; unlocked = l; room = f }) (refine_found t m e)

-- It fails with one number, which is not 0.
pub fails_once : {t n k : ℕ} {m : Mesh} → RefineFails t m n → RefineFails t m k → n ≡ k
fails_once (old o) (old p) = refl
fails_once (old o) (guarded y l) = absurd (y o)
fails_once (old o) (crowded y n f) = absurd (y o)
fails_once (guarded y l) (old o) = absurd (y o)
fails_once (guarded y l) (guarded z k) = refl
fails_once (guarded y l) (crowded z n f) = absurd (n l)
fails_once (crowded y n f) (old o) = absurd (y o)
fails_once (crowded y n f) (guarded z l) = absurd (n l)
fails_once (crowded y n f) (crowded z k g) = refl

pub fails_positive : {t n : ℕ} {m : Mesh} → RefineFails t m n → n ≢ 0
fails_positive (old o) = λ z. omega arith
fails_positive (guarded y l) = λ z. omega arith
fails_positive (crowded y n f) = λ z. omega arith

-- What may be refined does not fail.
pub cannot_fail : {t n : ℕ} {m : Mesh} → MayRefine t m → ¬ RefineFails t m n
cannot_fail M (old o) = M.young o
cannot_fail M (guarded _ l) = M.unlocked l
cannot_fail M (crowded _ _ f) = M.room f

-- Its generation is below 20.
pub found_young : {t : ℕ} {m : Mesh} → RefineFound t m → generation m.topology t < 20
found_young {t} {m} F =
    let n : generation m.topology t ≢ 20 = λ e. F.young (inl e) in
    omega (arith, F.sound.generations t F.in_use)

pub found_refined : {t : ℕ} {m : Mesh} → RefineFound t m
    → Refined t (splits_of m.topology t) (rim_splits_of m.topology t) m (refine t (at_first m))
found_refined {t} {m} F = refine_refined t m F.sound F.in_use F.young F.room

-- ---- a refine with a note, and one taken back

-- The refine is not refused, and the note is long enough.
pub record NotedFound (t : ℕ) (note : List ℕ) (m : Mesh) : Type 0 where
  pub refines : refine_refusal t m ≡ 0
  pub fits : length (note_of t m (refined t m)) ≤ length note

noted_refines : (t : ℕ) (note : List ℕ) (m : Mesh) → noted_refusal t note m ≡ 0 → refine_refusal t m ≡ 0
unfolding noted_refusal
noted_refines t note m = first (refine_refusal t m) _
  where
    first : (n k : ℕ) → ◌≡◌ {A = ℕ} (elim n [ zero ↦ k | suc r ↦ suc r ]) 0 → n ≡ 0
    first zero k e = refl
    first (suc r) k e = absurd (omega arith)

pub noted_found : (t : ℕ) (note : List ℕ) (m : Mesh) → noted_refusal t note m ≡ 0 → NotedFound t note m
noted_found t note m z =
    let (_, (_, (_, (_, (_, (_, (l, _))))))) = none_hold (noted_refusal_first t note m) z tt in
    record { refines = noted_refines t note m z; fits = omega (arith, length_note t m (refined t m)) }

pub take_back_found : (note : List ℕ) (m : Mesh) → take_back_refusal note m ≡ 0 → Accepted note m
take_back_found note m z =
    let (_, (_, (a, _))) = none_hold (take_back_refusal_first note m) z tt in
    stable (accepted_is note m) a

-- ---- whole step

pub record StepFound (m : Mesh) : Type 0 where
  pub sound : Sound m
  pub closed : ClosedEven m.topology
  pub young : closed.common ≢ 20
  pub room : RoomFor m.topology.triangles (2 * m.topology.triangles) m

pub step_found : (m : Mesh) → whole_step_refusal m ≡ 0 → StepFound m
step_found m z =
    let (_, (s, (c, (n, (_, (_, (r, _))))))) = none_hold (whole_step_refusal_first m) z tt in
    let S = stable (sound_is m) s in
    let C = stable (closed_even_is m.topology S.some_triangle) c in
    record {
      sound = S;
      closed = C;
      young = λ e. n (C.all 0 S.some_triangle ∙ e);
      room = stable (room_is m.topology.triangles (2 * m.topology.triangles) m) r;
    }

pub found_step : {m : Mesh} (F : StepFound m) → StepMakes F.closed.common m (whole_step m)
found_step {m} F = step_makes m F.sound F.closed F.young F.room

-- ---- locks

pub record LockFound (t : ℕ) (m : Mesh) : Type 0 where
  pub sound : Sound m
  pub in_use : t < m.topology.triangles

pub lock_found : (t : ℕ) (m : Mesh) → lock_refusal t m ≡ 0 → LockFound t m
lock_found t m z =
    let (_, (s, (i, _))) = none_hold (lock_refusal_first t m) z tt in
    record { sound = stable (sound_is m) s; in_use = stable (is_lt t m.topology.triangles) i }

pub found_locked : (on : Bool) {t : ℕ} {m : Mesh} → LockFound t m → LockMakes on t m (with_lock on t m)
found_locked on {t} {m} F = record {
  sound =
      manifold_sound n
      (agree_on S.tables
      (record { positions = refl; corners = refl; links = refl; generations = refl; locks = size }))
      (sound_manifold S) (sound_bases S) S.some_vertex S.some_triangle S.vertex_room S.generations S.range
      (λ x l. fits x l (ℕ_discrete x t)) S.rule;
  this = this;
  others = others;
  size = size;
  topology = refl;
  positions = refl;
  rule = refl;
}
  where
    S : Sound m
    S = F.sound

    n : Mesh
    n = with_lock on t m

    value : ℕ
    value = elim on [ true ↦ 1 | false ↦ 0 ]

    size : length n.locks ≡ length m.locks
    size = length-set m.locks t value

    this : lock n t ≡ value
    this = get_or-set_same m.locks t value 0 (omega (arith, F.in_use, S.triangle_room, S.tables.locks))

    others : (x : ℕ) → x ≢ t → lock n x ≡ lock m x
    others x e = get_or-set_other m.locks t x value 0 e

    low : (b : Bool) → ◌≤◌ (elim b [ true ↦ 1 | false ↦ 0 ]) 1
    low true = omega arith
    low false = omega arith

    fits : (x : ℕ) → x < m.topology.triangles → Dec (x ≡ t) → lock n x ≤ 1
    fits x l (yes e) = rw (e, this) (low on)
    fits x l (no e) = omega (arith, others x e, S.locks x l)
