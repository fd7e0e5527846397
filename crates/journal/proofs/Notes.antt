-- Of a note no more is read than it says it has.
use Prim.Native.Nat.{ℕ, zero, suc, ◌+◌, ◌-◌, ◌*◌, ◌≤◌, ◌<◌}
use native.Mathlib.Omega.{arith}
use borrow.Author.Tests.{le-leb, leb-true, leb-false}
use mathlib.Core.Bool.{Bool, true, false}
use mathlib.Core.List.{List}
use mathlib.Core.Path.{◌≡◌, refl, ap, ap₂, sym, ◌∙◌}
use lib.Dec.{leb, ltb}
use lib.ListN.{length, get_or, take}
use lib.Seq.{get_or-take, length-take-le, take_all}
use Rattle.theory.proofs.Loads.Alike.{all_same}
use Rattle.rules.specs.Below.{all}
use Rattle.rules.specs.Notes.{old_f, note_slots, note_nine, put_back, put_back_all, restored, accepted, take_back_refusal}
use Rattle.rules.specs.Notes.{take_back_call}
use Rattle.rules.specs.Tables.{Mesh}

-- Note b has the entries that a is read for, and is as long as it has to be where a is.
record SameNote (a b : List ℕ) : Type 0 where
  same : (i : ℕ) → i < 4 + 9 * note_slots a → get_or b i 0 ≡ get_or a i 0
  long : leb (4 + 9 * note_slots a) (length b) ≡ leb (4 + 9 * note_slots a) (length a)

module _ (a b : List ℕ) (m : Mesh) (S : SameNote a b) where
  nine : (i j : ℕ) → i < note_slots a → j < 9 → note_nine b i j ≡ note_nine a i j
  nine i j h k = S.same (4 + 9 * i + j) (omega arith)

  put_same : (i : ℕ) (n : Mesh) → i < note_slots a → put_back b i n ≡ put_back a i n
  put_same i n h =
      rw (
        nine i 0 h (omega arith),
        nine i 1 h (omega arith),
        nine i 2 h (omega arith),
        nine i 3 h (omega arith),
        nine i 4 h (omega arith),
        nine i 5 h (omega arith),
        nine i 6 h (omega arith),
        nine i 7 h (omega arith),
        nine i 8 h (omega arith),
      ) refl

  all_put : (n : ℕ) → n ≤ note_slots a → put_back_all b n m ≡ put_back_all a n m
  unfolding put_back_all
  all_put zero h = refl
  all_put (suc n) h =
      ap (put_back b n) (all_put n (omega arith)) ∙ put_same n (put_back_all a n m) (omega arith)

  restored_same : restored b m ≡ restored a m
  unfolding restored
  restored_same =
      let k = note_slots a in
      rw (S.same 1 (omega arith), S.same 2 (omega arith), S.same 3 (omega arith), all_put k (omega arith)) refl

  rising_same : all (note_slots a - 1) (λ i. ltb (note_nine b i 0) (note_nine b (suc i) 0))
      ≡ all (note_slots a - 1) (λ i. ltb (note_nine a i 0) (note_nine a (suc i) 0))
  rising_same =
      all_same _ _ _ (λ i h.
      ap₂ ltb (nine i 0 (omega arith) (omega arith)) (nine (suc i) 0 (omega arith) (omega arith)))

  below_same : all (note_slots a) (λ i. ltb (note_nine b i 0) (old_f a))
      ≡ all (note_slots a) (λ i. ltb (note_nine a i 0) (old_f a))
  below_same = all_same _ _ _ (λ i h. ap (λ (x : ℕ). ltb x (old_f a)) (nine i 0 h (omega arith)))

  accepted_same : accepted b m ≡ accepted a m
  unfolding accepted
  accepted_same =
      rw (
        S.same 0 (omega arith),
        S.same 2 (omega arith),
        S.same 3 (omega arith),
        S.long,
        rising_same,
        below_same,
        restored_same,
      ) refl

  refusal_same : take_back_refusal b m ≡ take_back_refusal a m
  unfolding take_back_refusal
  refusal_same = rw accepted_same refl

  back_same : take_back_call b m ≡ take_back_call a m
  unfolding take_back_call
  back_same = rw (refusal_same, restored_same) refl

long_if : (n : ℕ) (l : List ℕ) (t : Bool) → leb n (length l) ≡ t → leb n (length (take n l)) ≡ leb n (length l)
long_if n l true e = rw (length-take-le n l (leb-true n (length l) e)) (le-leb n n (omega arith) ∙ sym e)
long_if n l false e =
    let k = leb-false n (length l) e in
    ap (λ (x : List ℕ). leb n (length x)) (take_all n l (omega arith))

pub cut_note : (note : List ℕ) (m : Mesh) → take_back_call (take (4 + 9 * note_slots note) note) m ≡ take_back_call note m
cut_note note m =
    let n = 4 + 9 * note_slots note in
    back_same note (take n note) m (record {
      same = λ i h. get_or-take n note i 0 h;
      long = long_if n note _ refl;
    })
