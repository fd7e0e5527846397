-- Two meshes compared table by table, as `==` compares slices.
use mathlib.Core.Bool.{Bool, ◌&&◌}
use mathlib.Core.List.{List}
use mathlib.Core.Path.{◌≡◌, refl, sym, ap, ◌∙◌}
use Prim.Native.Nat.{ℕ, ◌*◌, ◌≤◌, ◌<◌}
use native.Mathlib.Omega.{arith}
use lib.Dec.{eqb}
use lib.IntN.{ℤ, pos}
use lib.ListN.{length, get_or, take}
use lib.Pointwise.{pointwise}
use lib.Seq.{ext_get_or, get_or-take, length-take-le}
use Rattle.std.proofs.Common.{int_eq}
use Rattle.std.proofs.lemmas.Bool.Decides.{same_from_decides, Decides-like, Decides-eqb, Decides-int_eq}
use Rattle.std.proofs.lemmas.Slice.Eq.{slice_eq-Decides}
use Rattle.std.specs.Bool.{Decides as Answers}
use Rattle.tables.specs.declared.Counts.{Counts}
use Rattle.rules.specs.Spares.{Spares}
use Rattle.tables.specs.Lent.{mesh_with, HasSlots}
use Rattle.theory.proofs.Notes.Tests.{same_number_is}
use Rattle.theory.proofs.Numbers.Decide.{Decides, is_eq, is_all, is_same, is_true, when_true}
use Rattle.rules.specs.Below.{all}
use Rattle.rules.specs.Notes.{same_number, same_in_use}

-- ---- one table

-- Two slices of n entries are equal just if the entries are, place by place. E is how the slices compare two entries, F
-- how the rules do.
module _ {A : Type 0} {E F : A → A → Bool} (d : A) (e : (x y : A) → Answers (E x y) (x ≡ y))
    (f : (x y : A) → Decides (F x y) (x ≡ y)) (n : ℕ) (xs ys : List A) (a : n ≤ length xs) (b : n ≤ length ys) where
  by_place : take n xs ≡ take n ys → (i : ℕ) → i < n → get_or xs i d ≡ get_or ys i d
  by_place q i l = sym (get_or-take n xs i d l) ∙ ap (λ (l : List A). get_or l i d) q ∙ get_or-take n ys i d l

  as_lists : ((i : ℕ) → i < n → get_or xs i d ≡ get_or ys i d) → take n xs ≡ take n ys
  as_lists q =
      let x = length-take-le n xs a in
      let y = length-take-le n ys b in
      ext_get_or d (take n xs) (take n ys) (x ∙ sym y)
      (λ i l. let k : i < n = omega arith in get_or-take n xs i d k ∙ q i k ∙ sym (get_or-take n ys i d k))

  slices_same : pointwise E (take n xs) (take n ys) ≡ all n (λ i. F (get_or xs i d) (get_or ys i d))
  slices_same =
      let by_rules = is_all n (λ i. F (get_or xs i d) (get_or ys i d)) (λ i. get_or xs i d ≡ get_or ys i d)
      (λ i l. f (get_or xs i d) (get_or ys i d)) in
      same_from_decides _ _
      (Decides-like _ by_place as_lists (slice_eq-Decides e (take n xs) (take n ys) _ refl))
      (when_true by_rules, λ q. is_same by_rules (is_true q))

entries_same : (n : ℕ) (xs ys : List ℕ) → n ≤ length xs → n ≤ length ys
    → pointwise eqb (take n xs) (take n ys) ≡ all n (λ i. eqb (get_or xs i 0) (get_or ys i 0))
entries_same = slices_same 0 Decides-eqb is_eq

coordinates_same : (n : ℕ) (xs ys : List ℤ) → n ≤ length xs → n ≤ length ys
    → pointwise int_eq (take n xs) (take n ys) ≡ all n (λ i. same_number (get_or xs i (pos 0)) (get_or ys i (pos 0)))
coordinates_same = slices_same (pos 0) Decides-int_eq same_number_is

-- ---- two meshes

pub same_by_slices : (m n : Counts) {a b : Spares} → HasSlots m a → HasSlots m b
    → (eqb n.vertices m.vertices && eqb n.triangles m.triangles && eqb n.rule m.rule
    && pointwise eqb (take (3 * m.triangles) b.corners) (take (3 * m.triangles) a.corners)
    && pointwise eqb (take (3 * m.triangles) b.links) (take (3 * m.triangles) a.links)
    && pointwise eqb (take m.triangles b.generations) (take m.triangles a.generations)
    && pointwise eqb (take m.triangles b.locks) (take m.triangles a.locks)
    && pointwise int_eq (take (3 * m.vertices) b.positions) (take (3 * m.vertices) a.positions))
    ≡ same_in_use (mesh_with m a) (mesh_with n b)
unfolding same_in_use
same_by_slices m n {a} {b} A B =
    rw (
      entries_same (3 * m.triangles) b.corners a.corners B.corners A.corners,
      entries_same (3 * m.triangles) b.links a.links B.links A.links,
      entries_same m.triangles b.generations a.generations B.generations A.generations,
      entries_same m.triangles b.locks a.locks B.locks A.locks,
      coordinates_same (3 * m.vertices) b.positions a.positions B.positions A.positions,
    ) refl
