-- What each call that is carried out makes.
use mathlib.Core.Path.{◌≡◌, refl, sym, ap, ◌∙◌, subst}
use mathlib.Core.Bool.{Bool, true, false}
use mathlib.Core.Logic.{◌≢◌, ◌↔◌}
use mathlib.Core.List.{List, [], ◌∷◌}
use Prim.Native.Nat.{ℕ, zero, suc, ◌+◌, ◌*◌, ◌%◌, ◌≤◌, ◌<◌}
use native.Mathlib.Omega.{arith}
use lib.Dec.{ltb}
use lib.IntN.{ℤ, pos}
use lib.ListN.{length, get_or}
use Rattle.theory.proofs.Loads.CageEdges.{load_edges}
use Rattle.theory.proofs.Calls.CallRefusals.{load_judged, refine_judged, whole_step_judged, ring_judged}
use Rattle.theory.proofs.Calls.CallRefusals.{position_judged, limit_judged, limit_refusal_first, closed_even_is}
use Rattle.theory.proofs.Calls.CallRefusals.{lock_judged, view_judged, noted_judged, take_back_judged}
use Rattle.theory.proofs.Calls.CallRefusals.{note_short_is, refine_refusal_first, curve_judged, curve_refusal_lem}
use Rattle.theory.proofs.Calls.CallRefusals.{curve_refusal_first, on_rim_is}
use Rattle.theory.proofs.Calls.Carried.{load_found, refine_found, found_refined, step_found, found_step}
use Rattle.theory.proofs.Calls.Carried.{lock_found, found_locked, noted_found, take_back_found}
use Rattle.theory.proofs.Chains.Chain.{falls}
use Rattle.theory.proofs.Calls.FirstThatHolds.{judged_carried, judged_refusal, none_hold, none_refuses}
use Rattle.theory.proofs.Calls.FirstThatHolds.{first_not}
use Rattle.theory.proofs.Notes.Reading.{written_has}
use Rattle.theory.proofs.Notes.TakenBack.{restored_past, makes_present}
use Rattle.theory.proofs.Numbers.Decide.{Decides, is_eq, stable}
use Rattle.theory.proofs.Numbers.Fill.{length_fill, get_or_fill, drop_fill}
use Rattle.theory.proofs.Rims.Curve.{curve_made, same_points}
use Rattle.theory.proofs.Rims.RimWalk.{rim_made}
use Rattle.theory.proofs.Soundness.SoundTest.{sound_is}
use Rattle.theory.proofs.Steps.Limits.{limits_made}
use Rattle.theory.proofs.Calls.Histories.{found_refines}
use Rattle.theory.proofs.Chains.Kobbelt.{refine_is_kobbelt}
use Rattle.theory.proofs.Chains.Going.{going_begins, going_on, same_past}
use Rattle.theory.proofs.Chains.Least.{run_least, refine_run}
use Rattle.theory.proofs.Chains.Listed.{at_most_25}
use Rattle.theory.proofs.Loads.Load.{loaded_loads, links_are, load_sound, loaded_past, loaded_positions_past}
use Rattle.theory.proofs.Soundness.Relaxed.{sound_manifold, sound_bases}
use Rattle.rules.specs.Cage.{Cage, cage_of, loaded}
use Rattle.rules.specs.Calls.{Outcome, unless, first_of, ◌if◌, no_room, buffer_room, refine_refusal, worked}
use Rattle.rules.specs.Calls.{load_call, refine_call, whole_step_call, ring_read, ring_call, position_read}
use Rattle.rules.specs.Calls.{position_call, limit_read, limit_call, with_lock, lock_call, view_read, view_call}
use Rattle.rules.specs.Notes.{note_of, changed_slots, refined, noted_refusal, noted_work, noted_call, noted_triangle}
use Rattle.rules.specs.Notes.{restored, take_back_call, Accepted}
use Rattle.rules.specs.Promises.{Loaded, ChainFalls, RefineMakes, StepMakes, LockMakes, LimitMakes, kobbelt}
use Rattle.rules.specs.Promises.{NotedMakes, TakeBackMakes, RimMakes, CurveMakes, SameRims}
use Rattle.rules.specs.Rim.{rim, curve_at, curve_read, curve_call}
use Rattle.rules.specs.Ring.{OnBoundary}
use Rattle.rules.specs.Runs.{LeastDisturbance}
use Rattle.rules.specs.Sound.{Sound}
use Rattle.rules.specs.Split.{at_first, refine}
use Rattle.rules.specs.Step.{whole_step, limit_positions}
use Rattle.rules.specs.Tables.{Mesh, with_rule, boundary, link, generation}

-- ---- load

pub load_makes : (rule : ℕ) (bytes : List ℕ) (m : Mesh) → (load_call rule bytes m).answer.refusal ≡ 0
    → let n = with_rule rule (loaded (cage_of bytes) m) in
    (load_call rule bytes m ≡ worked (at_first n)) × Loaded rule (cage_of bytes) m n
unfolding loaded
load_makes rule bytes m z =
    let c : Cage = cage_of bytes in
    let x = judged_carried (load_judged rule bytes m) z in
    let L = load_found rule bytes m x.0 in
    let A = L.agree in
    let v = L.sizes.vertex_room in
    let f = L.sizes.triangle_room in
    let R = loaded_loads c m A v f in
    let P = loaded_past c m in (
      x.1,
      record {
        sound = load_sound rule bytes m A L.known L.sizes L.corners L.coordinates L.differ L.fans;
        rule = refl;
        vertices = R.vertices;
        triangles = R.triangles;
        corners = R.corners;
        positions = R.positions;
        generations = R.generations;
        unlocked = R.locks;
        links = links_are c m A v f L.differ;
        edges = load_edges c m A v f L.corners L.differ;
        none_of_two = λ v l x. L.none_of_two (v, l, x);
        past = record {
          corner_slots = R.corner_room;
          link_slots = R.link_room;
          generation_slots = R.generation_room;
          lock_slots = R.lock_room;
          position_slots = R.position_room;
          corners = P.corners;
          links = P.links;
          generations = P.generations;
          locks = drop_fill c.triangles (λ i. 0) m.locks c.triangles (omega arith);
          positions = loaded_positions_past c m;
        };
      },
    )

-- ---- refine

pub refine_makes : (t : ℕ) (m : Mesh) → (refine_call t m).answer.refusal ≡ 0
    → (refine_call t m ≡ worked (refine t (at_first m))) × RefineMakes t m (refine t (at_first m))
refine_makes t m z =
    let x = judged_carried (refine_judged t m) z in
    let F = refine_found t m x.0 in
    let R = found_refined F in
    let s = R.splits in (
      x.1,
      record {
        sound = R.sound;
        reports = found_refines t m F;
        vertices = omega (arith, R.vertices);
        edges = omega (arith, R.edges);
        rises = R.rises;
        needed = s;
        flips = omega (arith, R.odd);
        locks = R.places.locks.same;
        rises_by = R.rises_by;
        still = R.still;
        old_vertices = R.places.old;
        rule = R.places.rule;
        past = same_past (going_on (going_begins F.sound) F);
      },
    )

-- It is a run, and none that raises t has fewer splits.
pub refine_is_least : (t : ℕ) (m : Mesh) → (refine_call t m).answer.refusal ≡ 0 → LeastDisturbance t m (refine_call t m)
refine_is_least t m z =
    let x = judged_carried (refine_judged t m) z in
    let F = refine_found t m x.0 in
    let R = found_refined F in
    let L = refine_run F in
    rw x.1 (record {
      run = L.run;
      may_run = L.may;
      outcome = ap worked (sym L.makes);
      splits = L.splits ∙ sym R.splits;
      raises = R.rises;
      least = λ other M up. omega (arith, R.splits, run_least t m F.sound F.in_use other M up);
    })

-- The chain's count is that of its odd triangles.
pub chain_falls : (m : Mesh) → Sound m → (t : ℕ) → t < m.topology.triangles → generation m.topology t % 2 ≡ 1
    → link m.topology (3 * t) ≢ boundary → ChainFalls m.topology t
chain_falls m S t l o n =
    let f = falls m.topology (sound_manifold S) (sound_bases S) t l o n in
    record { in_use = f.0; to_odd = λ q. omega (arith, f.1); to_even = λ q. omega (arith, f.1) }

pub refine_is_split : (t n : ℕ) (m : Mesh) → (refine_call t m).answer.refusal ≡ 0 → generation m.topology t < n
    → refine t (at_first m) ≡ kobbelt n t (at_first m)
refine_is_split t n m z i =
    let F = refine_found t m (judged_carried (refine_judged t m) z).0 in
    refine_is_kobbelt t n m F.sound F.in_use F.room i

-- ---- a refine with a note, and one taken back

-- A refine that is not refused.
refine_called : (t : ℕ) (m : Mesh) → refine_refusal t m ≡ 0 → refine_call t m ≡ worked (refine t (at_first m))
unfolding refine_call
refine_called t m z = ap (λ (n : ℕ). unless n m no_room (worked (refine t (at_first m)))) z

pub noted_makes : (t : ℕ) (note : List ℕ) (m : Mesh) → (noted_call t note m).answer.refusal ≡ 0
    → (noted_call t note m ≡ noted_work t note m) × NotedMakes t note m (noted_call t note m)
noted_makes t note m z =
    let x = judged_carried (noted_judged t note m) z in
    let F = noted_found t note m x.0 in
    let l = note_of t m (refined t m) in (
      x.1,
      subst (NotedMakes t note m) (sym x.1)
          (record {
            has = written_has t m (refined t m) note F.fits;
            size = length_fill (length l) (λ i. get_or l i 0) note;
            later = drop_fill (length l) (λ i. get_or l i 0) note (length l) (omega arith);
          }),
    )

-- 22, by the number of the refine and the test of the note.
short_exactly : (n : ℕ) {b : Bool} {P : Type 0} → n ≢ 22 → Decides b P
    → (◌≡◌ {A = ℕ} (elim n [ zero ↦ elim b [ true ↦ 22 | false ↦ 0 ] | suc r ↦ suc r ]) 22) ↔ ((n ≡ 0) × P)
short_exactly zero {b = true} u d = ((λ _. (refl, d.holds tt)), (λ _. refl))
short_exactly zero {b = false} u d = ((λ e. absurd (omega arith)), (λ (_, p). absurd (d.passes p)))
short_exactly (suc r) u d = ((λ e. absurd (u e)), (λ (z, _). absurd (omega arith)))

noted_short_by : (t : ℕ) (note : List ℕ) (m : Mesh) →
    (noted_refusal t note m ≡ 22)
    ↔ ((refine_refusal t m ≡ 0) × (length note < 4 + 9 * length (changed_slots m (refined t m))))
unfolding noted_refusal
noted_short_by t note m =
    short_exactly (refine_refusal t m) (first_not 22 (refine_refusal_first t m) tt) (note_short_is t note m)

pub noted_short : (t : ℕ) (note : List ℕ) (m : Mesh) →
    ((noted_call t note m).answer.refusal ≡ 22)
    ↔ (((refine_call t m).answer.refusal ≡ 0) × (length note < 4 + 9 * length (changed_slots m (refined t m))))
noted_short t note m =
    rw (judged_refusal refl (noted_judged t note m), judged_refusal refl (refine_judged t m)) (noted_short_by t note m)

pub noted_as_refine : (t : ℕ) (note : List ℕ) (m : Mesh) → (noted_call t note m).answer.refusal ≢ 22
    → ((noted_call t note m).answer ≡ (refine_call t m).answer) × ((noted_call t note m).mesh ≡ (refine_call t m).mesh)
unfolding noted_call noted_refusal refine_call
noted_as_refine t note m = go (refine_refusal t m) (ltb (length note) (length (note_of t m (refined t m))))
  where
    go : (n : ℕ) (b : Bool) →
        let o : Outcome =
        unless (elim n [ zero ↦ first_of (22 if b ∷ []) | suc r ↦ suc r ]) m (buffer_room note) (noted_work t note m) in
        let p : Outcome = unless n m no_room (worked (refine t (at_first m))) in
        o.answer.refusal ≢ 22 → (o.answer ≡ p.answer) × (o.mesh ≡ p.mesh)
    go zero true f = absurd (f refl)
    go zero false f = (refl, refl)
    go (suc r) b f = (refl, refl)

-- 25 slots are noted at most.
pub few_noted : (t : ℕ) (m : Mesh) → (refine_call t m).answer.refusal ≡ 0 → length (changed_slots m (refined t m)) ≤ 25
few_noted t m z = at_most_25 (refine_found t m (judged_carried (refine_judged t m) z).0)

pub noted_enough : (t : ℕ) (note : List ℕ) (m : Mesh) → 229 ≤ length note → (noted_call t note m).answer.refusal ≢ 22
noted_enough t note m l e =
    let (z, s) = (noted_short t note m).0 e in
    omega (arith, few_noted t m z)

pub take_back_makes : (note : List ℕ) (m : Mesh) → (take_back_call note m).answer.refusal ≡ 0
    → let n = restored note m in
    (take_back_call note m ≡ worked (at_first n)) × Accepted note m × TakeBackMakes (noted_triangle note) m n
take_back_makes note m z =
    let x = judged_carried (take_back_judged note m) z in
    let A = take_back_found note m x.0 in
    let e = refine_called (noted_triangle note) (restored note m) A.carried_out in (
      x.1,
      A,
      record {
        sound = A.sound;
        again = (ap (λ (o : Outcome). o.answer.refusal) e, ap (λ (o : Outcome). o.mesh) e ∙ makes_present A);
        past = restored_past A;
      },
    )

-- ---- whole step

pub whole_step_makes : (m : Mesh) → (whole_step_call m).answer.refusal ≡ 0
    → (whole_step_call m ≡ worked (whole_step m)) × StepMakes (generation m.topology 0) m (whole_step m)
whole_step_makes m z =
    let x = judged_carried (whole_step_judged m) z in
    let F = step_found m x.0 in (
      x.1,
      subst (λ (g : ℕ). StepMakes g m (whole_step m)) (sym (F.closed.all 0 F.sound.some_triangle))
          (found_step F),
    )

-- ---- locks

pub lock_makes : (on : Bool) (t : ℕ) (m : Mesh) → (lock_call on t m).answer.refusal ≡ 0
    → let n = with_lock on t m in
    (lock_call on t m ≡ worked (at_first n)) × LockMakes on t m n
lock_makes on t m z =
    let x = judged_carried (lock_judged on t m) z in
    (x.1, found_locked on (lock_found t m x.0))

-- ---- limit positions

pub limit_makes : (table : List ℤ) (m : Mesh) → (limit_call table m).answer.refusal ≡ 0
    → (limit_call table m ≡ limit_read table m) × LimitMakes m (limit_positions m table)
limit_makes table m z =
    let x = judged_carried (limit_judged table m) z in
    let (_, (s, (c, (short, (e, _))))) = none_hold (limit_refusal_first table m) x.0 tt in
    let S = stable (sound_is m) s in
    let C = stable (closed_even_is m.topology S.some_triangle) c in
    (x.1, limits_made S C.closed short table (stable (is_eq (length table) (3 * m.topology.vertices)) e))

-- ---- the rim as a curve

pub rim_closed : {m : Mesh} → Sound m → (v : ℕ) → OnBoundary m.topology v
    → RimMakes m.topology v (rim m.topology v)
rim_closed {m} S v b =
    let (h, i, o, _) = b in
    rim_made m.topology (sound_manifold S) v (rw o at (S.corner h i)) b

pub curve_makes : (v : ℕ) (table : List ℤ) (m : Mesh) → (curve_call v table m).answer.refusal ≡ 0
    → (curve_call v table m ≡ curve_read v table m) × CurveMakes v m table (curve_call v table m).room.table
curve_makes v table m z =
    let (r, e) = judged_carried (curve_judged v table m) z in
    let (_, (s, (_, (o, (long, _))))) = none_hold (curve_refusal_first v table m) r tt in
    let b = stable (on_rim_is m.topology v) o in (
      e,
      subst (λ (o : Outcome). CurveMakes v m table o.room.table) (sym e)
          (curve_made v m table (rim_closed (stable (sound_is m) s) v b) (omega arith)),
    )

-- Nine entries for each vertex of the mesh are enough.
pub curve_enough : (v : ℕ) (table : List ℤ) (m : Mesh) → Sound m → OnBoundary m.topology v
    → 9 * m.topology.vertices ≤ length table → (curve_call v table m).answer.refusal ≡ 0
curve_enough v table m S b l =
    let R = rim_closed S v b in
    let i : v < m.topology.vertices =
    subst (λ (x : ℕ). x < m.topology.vertices) R.first (R.in_use 0 (omega (arith, R.at_least_two))) in
    none_refuses (curve_refusal_lem v table m)
    ((λ n. n S.tables), ((λ n. n S), ((λ n. n i), ((λ n. n b), ((λ s. omega (arith, R.few)), tt)))))

pub same_curves : (v w : ℕ) (table table' : List ℤ) (m n : Mesh) →
    let o = curve_call v table m in
    let q = curve_call w table' n in
    o.answer.refusal ≡ 0 → q.answer.refusal ≡ 0
    → SameRims m n (rim m.topology v) (rim n.topology w)
    → (q.answer.ring_length ≡ o.answer.ring_length)
    × ((i : ℕ) → i < 9 * o.answer.ring_length → get_or q.room.table i (pos 0) ≡ get_or o.room.table i (pos 0))
same_curves v w table table' m n y z E =
    let l = rim m.topology v in
    let k = rim n.topology w in
    let (r, e) = judged_carried (curve_judged v table m) y in
    let (s, f) = judged_carried (curve_judged w table' n) z in
    let (_, (_, (_, (_, (long, _))))) = none_hold (curve_refusal_first v table m) r tt in
    let (_, (_, (_, (_, (long', _))))) = none_hold (curve_refusal_first w table' n) s tt in
    rw (e, f) (
      E.size,
      λ i b.
          get_or_fill (9 * length k) (curve_at n k) table' i (pos 0) (omega arith) (omega (arith, E.size))
          ∙ same_points E i b
          ∙ sym (get_or_fill (9 * length l) (curve_at m l) table i (pos 0) (omega arith) b),
    )

-- ---- queries

pub ring_reads : (v : ℕ) (buffer : List ℕ) (m : Mesh) → (ring_call v buffer m).answer.refusal ≡ 0
    → ring_call v buffer m ≡ ring_read v buffer m
ring_reads v buffer m z = (judged_carried (ring_judged v buffer m) z).1

pub view_reads : (n : ℕ) (m : Mesh) → (view_call n m).answer.refusal ≡ 0 → view_call n m ≡ view_read m
view_reads n m z = (judged_carried (view_judged n m) z).1

pub position_reads : (v : ℕ) (m : Mesh) → (position_call v m).answer.refusal ≡ 0 → position_call v m ≡ position_read v m
position_reads v m z = (judged_carried (position_judged v m) z).1
