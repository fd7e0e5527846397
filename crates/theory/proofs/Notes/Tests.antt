-- What the tests of notes decide.
use mathlib.Core.Path.{◌≡◌, refl, ap}
use mathlib.Core.Logic.{◌≢◌}
use mathlib.Core.List.{List}
use Prim.Native.Nat.{ℕ, suc, ◌+◌, ◌-◌, ◌*◌, ◌<◌}
use native.Mathlib.Omega.{arith}
use lib.Dec.{T, eqb, ltb, leb→le}
use lib.IntN.{ℤ, pos, negsuc}
use lib.ListN.{length, get_or}
use lib.Seq.{ext_get_or}
use lib.Signed.{le_z, ≤ℤ_refl}
use Rattle.theory.proofs.Numbers.Decide.{Decides, is_eq, is_lt, is_le, is_not, is_iff, is_and, is_all, is_self}
use Rattle.theory.proofs.Numbers.Decide.{stable}
use Rattle.theory.proofs.Soundness.SoundTest.{sound_is}
use Rattle.rules.specs.Below.{all}
use Rattle.rules.specs.Calls.{refine_refusal}
use Rattle.rules.specs.Notes.{nine_of, differs, SameInUse, same_number, same_in_use, Accepted, accepted, restored}
use Rattle.rules.specs.Notes.{noted_triangle, old_f, note_slots, note_nine, refined}
use Rattle.rules.specs.Tables.{Topology, Mesh, sides, origin, link, generation, lock}

-- A slot differs where its nine numbers do.
nines_are : (m n : Mesh) (s : ℕ)
    → Decides (all 9 (λ j. eqb (get_or (nine_of m s) j 0) (get_or (nine_of n s) j 0))) (nine_of m s ≡ nine_of n s)
nines_are m n s =
    is_iff (λ f. ext_get_or 0 (nine_of m s) (nine_of n s) refl f) (λ e j l. ap (λ (l : List ℕ). get_or l j 0) e)
    (is_all 9 (λ j. eqb (get_or (nine_of m s) j 0) (get_or (nine_of n s) j 0))
    (λ j. get_or (nine_of m s) j 0 ≡ get_or (nine_of n s) j 0)
    (λ j l. is_eq (get_or (nine_of m s) j 0) (get_or (nine_of n s) j 0)))

pub differs_is : (m n : Mesh) (s : ℕ) → Decides (differs m n s) (nine_of m s ≢ nine_of n s)
unfolding differs
differs_is m n s = is_not (nines_are m n s)

pub same_nines : (m n : Mesh) (s : ℕ) → ¬ T (differs m n s) → nine_of m s ≡ nine_of n s
same_nines m n s d = stable (nines_are m n s) (λ f. d ((differs_is m n s).passes f))

-- ---- the same in use

no_higher : (x y : ℤ) → T (le_z x y) → T (le_z y x) → x ≡ y
no_higher (pos a) (pos b) l k = let e : a ≡ b = omega (arith, leb→le a b l, leb→le b a k) in ap pos e
no_higher (pos a) (negsuc b) l k = absurd l
no_higher (negsuc a) (pos b) l k = absurd k
no_higher (negsuc a) (negsuc b) l k = let e : a ≡ b = omega (arith, leb→le b a l, leb→le a b k) in ap negsuc e

pub same_number_is : (x y : ℤ) → Decides (same_number x y) (x ≡ y)
same_number_is x y =
    is_iff (λ (l, k). no_higher x y l k) (λ e. rw e ((≤ℤ_refl y).le, (≤ℤ_refl y).le))
    (is_and (is_self (le_z x y)) (is_self (le_z y x)))

pub same_in_use_is : (m n : Mesh) → Decides (same_in_use m n) (SameInUse m n)
unfolding same_in_use
same_in_use_is m n =
    is_iff
    (λ (((((((v, f), r), c), l), g), k), p). record {
      vertices = v;
      triangles = f;
      rule = r;
      corners = c;
      links = l;
      generations = g;
      locks = k;
      positions = p;
    })
    (λ S.
    (((((((S.vertices, S.triangles), S.rule), S.corners), S.links), S.generations), S.locks), S.positions))
    (is_and (is_and (is_and (is_and (is_and (is_and (is_and
    (is_eq u.vertices t.vertices)
    (is_eq u.triangles t.triangles))
    (is_eq n.rule m.rule))
    (is_all (sides t) (λ h. eqb (origin u h) (origin t h)) (λ h. origin u h ≡ origin t h)
    (λ h l. is_eq (origin u h) (origin t h))))
    (is_all (sides t) (λ h. eqb (link u h) (link t h)) (λ h. link u h ≡ link t h)
    (λ h l. is_eq (link u h) (link t h))))
    (is_all t.triangles (λ x. eqb (generation u x) (generation t x)) (λ x. generation u x ≡ generation t x)
    (λ x l. is_eq (generation u x) (generation t x))))
    (is_all t.triangles (λ x. eqb (lock n x) (lock m x)) (λ x. lock n x ≡ lock m x)
    (λ x l. is_eq (lock n x) (lock m x))))
    (is_all (3 * t.vertices) (λ i. same_number (at n i) (at m i)) (λ i. at n i ≡ at m i)
    (λ i l. same_number_is (at n i) (at m i))))
  where
    t : Topology
    t = m.topology

    u : Topology
    u = n.topology

    at : Mesh → ℕ → ℤ
    at m i = get_or m.positions i (pos 0)

-- ---- accepted

pub accepted_is : (note : List ℕ) (m : Mesh) → Decides (accepted note m) (Accepted note m)
unfolding accepted
accepted_is note m =
    is_iff
    (λ (((((l, r), u), s), c), p). record {
      long = l;
      rising = λ i b. r i (omega arith);
      in_use = u;
      sound = s;
      carried_out = c;
      present = p;
    })
    (λ A. (((((A.long, λ i b. A.rising i (omega arith)), A.in_use), A.sound), A.carried_out), A.present))
    (is_and (is_and (is_and (is_and (is_and
    (is_le (4 + 9 * note_slots note) (length note))
    (is_all (note_slots note - 1) (λ i. ltb (note_nine note i 0) (note_nine note (suc i) 0))
    (λ i. note_nine note i 0 < note_nine note (suc i) 0)
    (λ i l. is_lt (note_nine note i 0) (note_nine note (suc i) 0))))
    (is_all (note_slots note) (λ i. ltb (note_nine note i 0) (old_f note))
    (λ i. note_nine note i 0 < old_f note) (λ i l. is_lt (note_nine note i 0) (old_f note))))
    (sound_is (restored note m)))
    (is_eq (refine_refusal (noted_triangle note) (restored note m)) 0))
    (same_in_use_is m (refined (noted_triangle note) (restored note m))))
