-- A note read back, also where it is the front of a longer list.
use mathlib.Core.Path.{◌≡◌, refl, ap, ◌∙◌}
use mathlib.Core.List.{List, [], ◌∷◌}
use mathlib.Core.Logic.{◌≢◌}
use Prim.Native.Nat.{ℕ, zero, suc, ◌+◌, ◌*◌, ◌≤◌, ◌<◌}
use native.Mathlib.Omega.{arith}
use lib.ListN.{length, get_or, length-append, get_or-append}
use lib.Seq.{get_or-append-add}
use Rattle.theory.proofs.Notes.Tests.{differs_is}
use Rattle.theory.proofs.Numbers.Fill.{length_fill, get_or_fill}
use Rattle.theory.proofs.Numbers.Those.{those_are}
use Rattle.rules.specs.Below.{fill}
use Rattle.rules.specs.Notes.{nine_of, differs, changed_slots, nines_of, note_of, noted_triangle, old_v}
use Rattle.rules.specs.Notes.{old_f, note_slots, note_nine}
use Rattle.rules.specs.Promises.{HasNote}
use Rattle.rules.specs.Tables.{Mesh}

-- ---- the nines

pub length_nines : (m : Mesh) (slots : List ℕ) → length (nines_of m slots) ≡ 9 * length slots
unfolding nines_of
length_nines m [] = refl
length_nines m (s ∷ rest) = length-append (nine_of m s) (nines_of m rest) ∙ omega (arith, length_nines m rest)

pub nine_at : (m : Mesh) (slots : List ℕ) (i j : ℕ) → i < length slots → j < 9
    → get_or (nines_of m slots) (9 * i + j) 0 ≡ get_or (nine_of m (get_or slots i 0)) j 0
unfolding nines_of
nine_at m [] i j l k = absurd (omega arith)
nine_at m (s ∷ rest) zero j l k =
    let e : 9 * 0 + j ≡ j = omega arith in
    rw e (get_or-append (nine_of m s) (nines_of m rest) 0 j k)
nine_at m (s ∷ rest) (suc i) j l k =
    let e : 9 * suc i + j ≡ 9 + (9 * i + j) = omega arith in
    ap (λ (h : ℕ). get_or (nines_of m (s ∷ rest)) h 0) e
    ∙ get_or-append-add (nine_of m s) (nines_of m rest) (9 * i + j) 0
    ∙ nine_at m rest i j (omega arith) k

-- ---- the note

-- Its slots are exactly the old ones whose content has changed, in rising order.
pub changed_are : (m n : Mesh) →
    let l = changed_slots m n in
    ((i : ℕ) → suc i < length l → get_or l i 0 < get_or l (suc i) 0)
    × ((i : ℕ) → i < length l
    → (get_or l i 0 < m.topology.triangles) × (nine_of m (get_or l i 0) ≢ nine_of n (get_or l i 0)))
    × ((s : ℕ) → s < m.topology.triangles → nine_of m s ≢ nine_of n s → (i : ℕ) × (i < length l) × (get_or l i 0 ≡ s))
changed_are m n =
    let T = those_are m.topology.triangles (differs m n) in (
      T.rising,
      (λ i l. (T.below i l, (differs_is m n (get_or (changed_slots m n) i 0)).holds (T.pass i l))),
      (λ s l d. T.has s l ((differs_is m n s).passes d)),
    )

pub length_note : (t : ℕ) (m n : Mesh) → length (note_of t m n) ≡ 4 + 9 * length (changed_slots m n)
length_note t m n = omega (arith, length_nines m (changed_slots m n))

-- What is lent for the note has it once it is written there.
pub written_has : (t : ℕ) (m n : Mesh) (note : List ℕ) → length (note_of t m n) ≤ length note →
    let written = note_of t m n in
    HasNote t m n (fill (length written) (λ i. get_or written i 0) note)
written_has t m n note l = record {
  long = rw (length_fill (length (note_of t m n)) (λ i. get_or (note_of t m n) i 0) note) l;
  same = λ i b. get_or_fill (length (note_of t m n)) (λ i. get_or (note_of t m n) i 0) note i 0 l b;
}

-- What it says.
pub record Says (t : ℕ) (m n : Mesh) (note : List ℕ) : Type 0 where
  pub long : 4 + 9 * note_slots note ≤ length note
  pub triangle : noted_triangle note ≡ t
  pub vertices : old_v note ≡ m.topology.vertices
  pub triangles : old_f note ≡ m.topology.triangles
  pub slots : note_slots note ≡ length (changed_slots m n)
  pub nine : (i j : ℕ) → i < note_slots note → j < 9
      → note_nine note i j ≡ get_or (nine_of m (get_or (changed_slots m n) i 0)) j 0

pub has_says : {t : ℕ} {m n : Mesh} {note : List ℕ} → HasNote t m n note → Says t m n note
has_says {t} {m} {n} {note} B =
    let z = length_note t m n in
    let k = B.same 3 (omega arith) in
    let l = B.long in
    record {
      long = omega arith;
      triangle = B.same 0 (omega arith);
      vertices = B.same 1 (omega arith);
      triangles = B.same 2 (omega arith);
      slots = k;
      nine = λ i j b c.
          let e : 4 + 9 * i + j ≡ 4 + (9 * i + j) = omega arith in
          B.same (4 + 9 * i + j) (omega arith)
          ∙ ap (λ (h : ℕ). get_or (note_of t m n) h 0) e
          ∙ get_or-append-add (t ∷ m.topology.vertices ∷ m.topology.triangles ∷ length (changed_slots m n) ∷ [])
          (nines_of m (changed_slots m n)) (9 * i + j) 0
          ∙ nine_at m (changed_slots m n) i j (omega arith) c;
    }
