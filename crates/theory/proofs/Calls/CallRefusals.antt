-- For each call: its refusal is the first of its conditions that holds, and what a call that is carried out has found.
use mathlib.Core.Path.{◌≡◌, refl, sym, ap, ◌∙◌, subst}
use mathlib.Core.Logic.{◌≢◌}
use mathlib.Core.Bool.{Bool, not, ◌&&◌}
use mathlib.Core.List.{List}
use Prim.Native.Nat.{ℕ, suc, ◌+◌, ◌*◌, ◌≤◌, ◌<◌, ◌%◌, max, ◌-◌}
use native.Mathlib.Omega.{arith}
use lib.IntN.{ℤ}
use lib.ListN.{length}
use lib.Dec.{eqb, leb, ltb}
use Rattle.theory.proofs.Loads.CageTests.{sizes_fit_is, corners_fit_is, coordinates_fit_is, sides_differ_is}
use Rattle.theory.proofs.Numbers.Decide.{Decides, is_eq, is_lt, is_le, is_not, is_iff, stable, is_and, even_is}
use Rattle.theory.proofs.Numbers.Decide.{is_all}
use Rattle.theory.proofs.Numbers.Decide.{is_any, is_or}
use Rattle.theory.proofs.Calls.FirstThatHolds.{Judged, first_if, first_unless, first_then, judged}
use Rattle.theory.proofs.Calls.FirstThatHolds.{judged_refusal}
use Rattle.theory.proofs.Loads.InnerOfTwo.{six_is}
use Rattle.theory.proofs.Chains.Altering.{alters_locked_is}
use Rattle.theory.proofs.Chains.Refine.{chain_takes}
use Rattle.theory.proofs.Notes.Reading.{length_note}
use Rattle.theory.proofs.Notes.Tests.{accepted_is}
use Rattle.theory.proofs.Soundness.SoundTest.{tables_agree_is, sound_is, known_rule_is}
use Rattle.rules.specs.Below.{any}
use Rattle.rules.specs.Cage.{Cage, cage_of, loaded}
use Rattle.rules.specs.Calls.{no_room, buffer_room, table_room, limit_refusal, limit_read, limit_call}
use Rattle.rules.specs.Calls.{worked, room_for, closed_even, load_refusal}
use Rattle.rules.specs.Calls.{refine_refusal, whole_step_refusal, ring_refusal, position_refusal, load_call, refine_call}
use Rattle.rules.specs.Calls.{whole_step_call, ring_read, ring_call, position_read, position_call, vertices_of}
use Rattle.rules.specs.Calls.{triangles_of, too_old, some_locked, lock_refusal, with_lock, lock_call, view_refusal}
use Rattle.rules.specs.Calls.{view_read, view_call}
use Rattle.rules.specs.Conditions.{OddInChain, at_even, at_boundary, onward, RoomFor, TooFewSlots}
use Rattle.rules.specs.Conditions.{ClosedEven, First, none, LongRing, load_conditions, refine_conditions}
use Rattle.rules.specs.Conditions.{whole_step_conditions, limit_conditions, ring_conditions, position_conditions}
use Rattle.rules.specs.Conditions.{Takes, even_end, boundary_end, TooOld, EndsAtBoundary, SomeLocked}
use Rattle.rules.specs.Conditions.{lock_conditions, view_conditions, noted_conditions, take_back_conditions}
use Rattle.rules.specs.Conditions.{curve_conditions}
use Rattle.rules.specs.Notes.{changed_slots, note_of, refined, noted_refusal, noted_work, noted_call, restored}
use Rattle.rules.specs.Notes.{take_back_refusal, take_back_call}
use Rattle.rules.specs.Rim.{on_rim, rim, curve_refusal, curve_read, curve_call}
use Rattle.rules.specs.Ring.{OnBoundary, ring}
use Rattle.rules.specs.Sound.{Sound}
use Rattle.rules.specs.Split.{at_first, refine}
use Rattle.rules.specs.Step.{whole_step}
use Rattle.rules.specs.Tables.{Topology, Mesh, sides, origin, boundary, link, generation, vertex_slots}
use Rattle.rules.specs.Tables.{triangle_slots, lock, locked, with_rule}

-- ---- tests

-- A number not in use.
pub unused_is : (n k : ℕ) → Decides (leb k n) (¬ (n < k))
unused_is n k = is_iff (λ l q. omega arith) (λ q. omega arith) (is_le k n)

pub room_is : (v f : ℕ) (m : Mesh) → Decides (room_for v f m) (RoomFor v f m)
room_is v f m =
    is_iff (λ x. record { vertices = x.0; triangles = x.1 }) (λ R. (R.vertices, R.triangles))
    (is_and (is_le (m.topology.vertices + v) (vertex_slots m)) (is_le (m.topology.triangles + f) (triangle_slots m)))

pub too_old_is : (m : Topology) (t : ℕ) → Decides (too_old m t) (TooOld m t)
too_old_is m t =
    is_or (is_eq (generation m t) 20) (is_and (is_eq (generation m t) 19) (is_eq (link m (3 * t)) boundary))

-- All triangles have the generation of the first, if there is one.
pub closed_even_is : (m : Topology) → 1 ≤ m.triangles → Decides (closed_even m) (ClosedEven m)
unfolding closed_even
closed_even_is m some =
    is_iff (λ x. record { closed = x.0.0; common = generation m 0; even = x.1; all = x.0.1 })
    (λ C. ((C.closed, λ t l. C.all t l ∙ sym (C.all 0 some)), ap (λ (g : ℕ). g % 2) (C.all 0 some) ∙ C.even))
    (is_and (is_and (is_all (sides m) (λ h. not (eqb (link m h) boundary)) (λ h. link m h ≢ boundary)
    (λ h l. is_not (is_eq (link m h) boundary)))
    (is_all m.triangles (λ t. eqb (generation m t) (generation m 0)) (λ t. generation m t ≡ generation m 0)
    (λ t l. is_eq (generation m t) (generation m 0))))
    (even_is (generation m 0)))

-- The odd triangles of a base chain have one number.
one_number : {m : Topology} {t j k : ℕ} → OddInChain m t j → OddInChain m t k → j ≡ k
one_number (at_even e) (at_even f) = refl
one_number (at_even e) (at_boundary f l) = absurd (omega arith)
one_number (at_even e) (onward f l c) = absurd (omega arith)
one_number (at_boundary e l) (at_even f) = absurd (omega arith)
one_number (at_boundary e l) (at_boundary f k) = refl
one_number (at_boundary e l) (onward f n c) = absurd (n l)
one_number (onward e n c) (at_even f) = absurd (omega arith)
one_number (onward e n c) (at_boundary f l) = absurd (n l)
one_number (onward e n c) (onward f l d) = ap suc (one_number c d)

-- So have the splits that a refine takes, and the rim splits among them.
one_taking : {m : Topology} {t s q s' q' : ℕ} → Takes m t s q → Takes m t s' q' → (s ≡ s') × (q ≡ q')
one_taking (even_end c n) (even_end d o) = (ap (max 1) (one_number c d), refl)
one_taking (even_end c n) (boundary_end d e) = absurd (n e)
one_taking (boundary_end c e) (even_end d n) = absurd (n e)
one_taking (boundary_end c e) (boundary_end d f) = (ap (λ (k : ℕ). max 1 (k - 1)) (one_number c d), refl)

pub taken_at_boundary : (t k : ℕ) (m : Mesh) → Sound m → t < m.topology.triangles → OddInChain m.topology t k
    → EndsAtBoundary m.topology t
    → (k ≡ 1 → (vertices_of m.topology t ≡ 2) × (triangles_of m.topology t ≡ 2))
    × (2 ≤ k → (vertices_of m.topology t ≡ k) × (triangles_of m.topology t ≡ 2 * (k - 1)))
taken_at_boundary t k m S u c e =
    let T = one_taking (chain_takes t m S u) (boundary_end c e) in
    let s = T.0 in
    let q = T.1 in
    ((λ i. (omega arith, omega arith)), (λ i. (omega arith, omega arith)))

pub too_few_is : (t : ℕ) (m : Mesh) → Sound m → t < m.topology.triangles
    → Decides (not (room_for (vertices_of m.topology t) (triangles_of m.topology t) m)) (TooFewSlots t m)
too_few_is t m S u =
    let T = chain_takes t m S u in
    is_iff (λ n. (_, _, T, n))
    (λ (s, q, T', n) R. n (same (one_taking T T') R))
    (is_not (room_is _ _ m))
  where
    same : {s q s' q' : ℕ} → (s ≡ s') × (q ≡ q') → RoomFor (s + q) (2 * s) m → RoomFor (s' + q') (2 * s') m
    same {q = q} {s' = s'} (a, b) R =
        subst (λ (j : ℕ). RoomFor (s' + j) (2 * s') m) b (subst (λ (j : ℕ). RoomFor (j + q) (2 * j) m) a R)

pub some_locked_is : (m : Mesh) → Decides (some_locked m) (SomeLocked m)
unfolding some_locked
some_locked_is m =
    is_iff (λ (x, l, e). (x, (l, e))) (λ (x, (l, e)). (x, l, e))
    (is_any m.topology.triangles (locked m) (λ x. lock m x ≡ 1) (λ x. is_eq (lock m x) 1))

pub long_ring_is : (m : Topology) → Decides (any m.vertices (λ v. ltb 12 (length (ring m v)))) (LongRing m)
long_ring_is m =
    is_any m.vertices (λ v. ltb 12 (length (ring m v))) (λ v. 12 < length (ring m v))
    (λ v. is_lt 12 (length (ring m v)))

pub on_rim_is : (m : Topology) (v : ℕ) → Decides (on_rim m v) (OnBoundary m v)
unfolding on_rim
on_rim_is m v =
    is_iff (λ (h, l, (o, b)). (h, l, o, b)) (λ (h, l, o, b). (h, l, (o, b)))
    (is_any (sides m) (λ h. eqb (origin m h) v && eqb (link m h) boundary)
    (λ h. (origin m h ≡ v) × (link m h ≡ boundary))
    (λ h. is_and (is_eq (origin m h) v) (is_eq (link m h) boundary)))

-- ---- the refusals

pub load_refusal_first : (rule : ℕ) (bytes : List ℕ) (m : Mesh)
    → First (load_conditions rule bytes m) (load_refusal rule bytes m)
unfolding load_refusal
load_refusal_first rule bytes m =
    let c : Cage = cage_of bytes in
    first_unless 1 (tables_agree_is m) (λ A.
    first_unless 16 (known_rule_is rule) (λ _.
    first_unless 2 (sizes_fit_is bytes m) (λ S.
    first_unless 3 (corners_fit_is c) (λ K.
    first_unless 4 (coordinates_fit_is c) (λ _.
    first_unless 5 (sides_differ_is c) (λ D.
    first_if 6 (six_is c m A S.vertex_room S.triangle_room K D) (λ _. none)))))))

pub refine_refusal_first : (t : ℕ) (m : Mesh) → First (refine_conditions t m) (refine_refusal t m)
unfolding refine_refusal
refine_refusal_first t m =
    first_unless 1 (tables_agree_is m) (λ A.
    first_unless 7 (sound_is m) (λ S.
    first_if 8 (unused_is t m.topology.triangles) (λ u.
    first_if 9 (too_old_is m.topology t) (λ _.
    let l = stable (is_lt t m.topology.triangles) u in
    first_if 19 (alters_locked_is t m S l) (λ _.
    first_if 11 (too_few_is t m S l) (λ _. none))))))

-- A note is too short for what it is to say.
pub note_short_is : (t : ℕ) (note : List ℕ) (m : Mesh) →
    let n = refined t m in
    Decides (ltb (length note) (length (note_of t m n))) (length note < 4 + 9 * length (changed_slots m n))
note_short_is t note m =
    let n = refined t m in
    let e = length_note t m n in
    is_iff (λ l. omega arith) (λ l. omega arith) (is_lt (length note) (length (note_of t m n)))

pub noted_refusal_first : (t : ℕ) (note : List ℕ) (m : Mesh)
    → First (noted_conditions t note m) (noted_refusal t note m)
unfolding noted_refusal
noted_refusal_first t note m =
    first_then (refine_refusal_first t m) tt (λ _. first_if 22 (note_short_is t note m) (λ _. none))

pub take_back_refusal_first : (note : List ℕ) (m : Mesh) → First (take_back_conditions note m) (take_back_refusal note m)
unfolding take_back_refusal
take_back_refusal_first note m =
    first_unless 1 (tables_agree_is m)
    (λ A. first_unless 7 (sound_is m) (λ S. first_unless 21 (accepted_is note m) (λ _. none)))

pub whole_step_refusal_first : (m : Mesh) → First (whole_step_conditions m) (whole_step_refusal m)
unfolding whole_step_refusal
whole_step_refusal_first m =
    first_unless 1 (tables_agree_is m) (λ A.
    first_unless 7 (sound_is m) (λ S.
    first_unless 12 (closed_even_is m.topology S.some_triangle) (λ _.
    first_if 9 (is_eq (generation m.topology 0) 20) (λ _.
    first_if 13 (long_ring_is m.topology) (λ _.
    first_if 19 (some_locked_is m) (λ _.
    first_unless 11 (room_is m.topology.triangles (2 * m.topology.triangles) m) (λ _. none)))))))

pub lock_refusal_first : (t : ℕ) (m : Mesh) → First (lock_conditions t m) (lock_refusal t m)
unfolding lock_refusal
lock_refusal_first t m =
    first_unless 1 (tables_agree_is m)
    (λ A. first_unless 7 (sound_is m) (λ S. first_if 8 (unused_is t m.topology.triangles) (λ _. none)))

pub limit_refusal_first : (table : List ℤ) (m : Mesh) → First (limit_conditions table m) (limit_refusal table m)
unfolding limit_refusal
limit_refusal_first table m =
    first_unless 1 (tables_agree_is m) (λ A.
    first_unless 7 (sound_is m) (λ S.
    first_unless 12 (closed_even_is m.topology S.some_triangle) (λ _.
    first_if 13 (long_ring_is m.topology) (λ _.
    first_unless 15 (is_eq (length table) (3 * m.topology.vertices)) (λ _. none)))))

pub ring_refusal_first : (v : ℕ) (buffer : List ℕ) (m : Mesh)
    → First (ring_conditions v buffer m) (ring_refusal v buffer m)
unfolding ring_refusal
ring_refusal_first v buffer m =
    first_unless 1 (tables_agree_is m) (λ A.
    first_unless 7 (sound_is m) (λ S.
    first_if 8 (unused_is v m.topology.vertices) (λ _.
    first_if 14 (is_lt (length buffer) (length (ring m.topology v))) (λ _. none))))

pub position_refusal_first : (v : ℕ) (m : Mesh) → First (position_conditions v m) (position_refusal v m)
unfolding position_refusal
position_refusal_first v m =
    first_unless 1 (tables_agree_is m)
    (λ A. first_unless 7 (sound_is m) (λ S. first_if 8 (unused_is v m.topology.vertices) (λ _. none)))

pub view_refusal_first : (n : ℕ) (m : Mesh) → First (view_conditions n m) (view_refusal n m)
unfolding view_refusal
view_refusal_first n m =
    first_unless 1 (tables_agree_is m)
    (λ A. first_unless 7 (sound_is m) (λ S. first_if 20 (is_lt n (9 * m.topology.triangles)) (λ _. none)))

pub curve_refusal_first : (v : ℕ) (table : List ℤ) (m : Mesh)
    → First (curve_conditions v table m) (curve_refusal v table m)
unfolding curve_refusal
curve_refusal_first v table m =
    first_unless 1 (tables_agree_is m) (λ A.
    first_unless 7 (sound_is m) (λ S.
    first_if 8 (unused_is v m.topology.vertices) (λ _.
    first_unless 24 (on_rim_is m.topology v) (λ _.
    first_if 25 (is_lt (length table) (9 * length (rim m.topology v))) (λ _. none)))))

-- ---- each call is refused, or its outcome is the one that the rules give

pub load_judged : (rule : ℕ) (bytes : List ℕ) (m : Mesh)
    → Judged (load_refusal rule bytes m) m no_room (worked (at_first (with_rule rule (loaded (cage_of bytes) m))))
    (load_call rule bytes m)
unfolding load_call
load_judged rule bytes m =
    judged (load_refusal rule bytes m) m no_room (worked (at_first (with_rule rule (loaded (cage_of bytes) m))))

pub refine_judged : (t : ℕ) (m : Mesh)
    → Judged (refine_refusal t m) m no_room (worked (refine t (at_first m))) (refine_call t m)
unfolding refine_call
refine_judged t m = judged (refine_refusal t m) m no_room (worked (refine t (at_first m)))

pub noted_judged : (t : ℕ) (note : List ℕ) (m : Mesh)
    → Judged (noted_refusal t note m) m (buffer_room note) (noted_work t note m) (noted_call t note m)
unfolding noted_call
noted_judged t note m = judged (noted_refusal t note m) m (buffer_room note) (noted_work t note m)

pub take_back_judged : (note : List ℕ) (m : Mesh)
    → Judged (take_back_refusal note m) m no_room (worked (at_first (restored note m))) (take_back_call note m)
unfolding take_back_call
take_back_judged note m = judged (take_back_refusal note m) m no_room (worked (at_first (restored note m)))

pub whole_step_judged : (m : Mesh) → Judged (whole_step_refusal m) m no_room (worked (whole_step m)) (whole_step_call m)
unfolding whole_step_call
whole_step_judged m = judged (whole_step_refusal m) m no_room (worked (whole_step m))

pub lock_judged : (on : Bool) (t : ℕ) (m : Mesh)
    → Judged (lock_refusal t m) m no_room (worked (at_first (with_lock on t m))) (lock_call on t m)
unfolding lock_call
lock_judged on t m = judged (lock_refusal t m) m no_room (worked (at_first (with_lock on t m)))

pub limit_judged : (table : List ℤ) (m : Mesh)
    → Judged (limit_refusal table m) m (table_room table) (limit_read table m) (limit_call table m)
unfolding limit_call
limit_judged table m = judged (limit_refusal table m) m (table_room table) (limit_read table m)

pub ring_judged : (v : ℕ) (buffer : List ℕ) (m : Mesh)
    → Judged (ring_refusal v buffer m) m (buffer_room buffer) (ring_read v buffer m) (ring_call v buffer m)
unfolding ring_call
ring_judged v buffer m = judged (ring_refusal v buffer m) m (buffer_room buffer) (ring_read v buffer m)

pub position_judged : (v : ℕ) (m : Mesh) → Judged (position_refusal v m) m no_room (position_read v m) (position_call v m)
unfolding position_call
position_judged v m = judged (position_refusal v m) m no_room (position_read v m)

pub view_judged : (n : ℕ) (m : Mesh) → Judged (view_refusal n m) m no_room (view_read m) (view_call n m)
unfolding view_call
view_judged n m = judged (view_refusal n m) m no_room (view_read m)

pub curve_judged : (v : ℕ) (table : List ℤ) (m : Mesh)
    → Judged (curve_refusal v table m) m (table_room table) (curve_read v table m) (curve_call v table m)
unfolding curve_call
curve_judged v table m = judged (curve_refusal v table m) m (table_room table) (curve_read v table m)

-- ---- the number that a call returns

pub load_refusal_lem : (rule : ℕ) (bytes : List ℕ) (m : Mesh)
    → First (load_conditions rule bytes m) (load_call rule bytes m).answer.refusal
load_refusal_lem rule bytes m = rw (judged_refusal refl (load_judged rule bytes m)) (load_refusal_first rule bytes m)

pub refine_refusal_lem : (t : ℕ) (m : Mesh) → First (refine_conditions t m) (refine_call t m).answer.refusal
refine_refusal_lem t m = rw (judged_refusal refl (refine_judged t m)) (refine_refusal_first t m)

pub noted_refusal_lem : (t : ℕ) (note : List ℕ) (m : Mesh)
    → First (noted_conditions t note m) (noted_call t note m).answer.refusal
noted_refusal_lem t note m = rw (judged_refusal refl (noted_judged t note m)) (noted_refusal_first t note m)

pub take_back_refusal_lem : (note : List ℕ) (m : Mesh)
    → First (take_back_conditions note m) (take_back_call note m).answer.refusal
take_back_refusal_lem note m = rw (judged_refusal refl (take_back_judged note m)) (take_back_refusal_first note m)

pub whole_step_refusal_lem : (m : Mesh) → First (whole_step_conditions m) (whole_step_call m).answer.refusal
whole_step_refusal_lem m = rw (judged_refusal refl (whole_step_judged m)) (whole_step_refusal_first m)

pub lock_refusal_lem : (on : Bool) (t : ℕ) (m : Mesh) → First (lock_conditions t m) (lock_call on t m).answer.refusal
lock_refusal_lem on t m = rw (judged_refusal refl (lock_judged on t m)) (lock_refusal_first t m)

pub limit_refusal_lem : (table : List ℤ) (m : Mesh) → First (limit_conditions table m) (limit_call table m).answer.refusal
limit_refusal_lem table m = rw (judged_refusal refl (limit_judged table m)) (limit_refusal_first table m)

pub ring_refusal_lem : (v : ℕ) (buffer : List ℕ) (m : Mesh)
    → First (ring_conditions v buffer m) (ring_call v buffer m).answer.refusal
ring_refusal_lem v buffer m = rw (judged_refusal refl (ring_judged v buffer m)) (ring_refusal_first v buffer m)

pub position_refusal_lem : (v : ℕ) (m : Mesh) → First (position_conditions v m) (position_call v m).answer.refusal
position_refusal_lem v m = rw (judged_refusal refl (position_judged v m)) (position_refusal_first v m)

pub view_refusal_lem : (n : ℕ) (m : Mesh) → First (view_conditions n m) (view_call n m).answer.refusal
view_refusal_lem n m = rw (judged_refusal refl (view_judged n m)) (view_refusal_first n m)

pub curve_refusal_lem : (v : ℕ) (table : List ℤ) (m : Mesh)
    → First (curve_conditions v table m) (curve_call v table m).answer.refusal
curve_refusal_lem v table m = rw (judged_refusal refl (curve_judged v table m)) (curve_refusal_first v table m)
