-- The change of each kind and its body, back and forth.
use Prim.Native.Nat.{ℕ, zero, suc, ◌+◌, ◌*◌, ◌/◌, ◌%◌, ◌≤◌, ◌<◌}
use native.Mathlib.Omega.{arith}
use mathlib.Core.Bool.{true, false}
use mathlib.Core.List.{List, [], ◌∷◌}
use mathlib.Core.Logic.{◌⊎◌, inl, inr}
use mathlib.Core.Path.{◌≡◌, refl, ap, sym, subst, ◌∙◌}
use lib.IntN.{ℤ}
use lib.ListN.{length, get_or, drop, take-append-drop, length-append}
use lib.Seq.{drop_at, take_all}
use Rattle.crc.proofs.Bytes.{drop_bytes}
use Rattle.crc.specs.Bytes.{AreBytes}
use Rattle.theory.proofs.Numbers.Decide.{Decides, is_eq, is_le, is_and, is_or, when_true, is_same, is_true}
use Rattle.rules.specs.Boxes.{Box}
use Rattle.rules.specs.Numbers.{number_at, signed}
use Rattle.journal.specs.Journal.{Entry, loaded, refined, stepped, refined_each, refined_in_box, lock_set, taken_back}
use Rattle.journal.specs.Journal.{four_bytes, bytes_of, unsigned, box_numbers, kind_of, body_of, numbers_in, is_kind}
use Rattle.journal.specs.Journal.{box_in, entry_of}
use Rattle.journal.specs.Recording.{AreNumbers, IsCoordinate, IsBox, InRange}
use Rattle.journal.proofs.Bytes.{no_bytes, both_bytes, four_are_bytes, all_bytes}
use Rattle.journal.proofs.Numbers.{number_later, number_written, number_alone, length_four, length_bytes}
use Rattle.journal.proofs.Numbers.{numbers_written, signed_unsigned, signed_fits, unsigned_fits, unsigned_signed}
use Rattle.journal.proofs.Numbers.{number_drop, number_fits, numbers_read, four_read}

-- ---- what is written is read

numbers_back : (l : List ℕ) → AreNumbers l → numbers_in (length (bytes_of l) / 4) (bytes_of l) ≡ l
numbers_back l h =
    let e : length (bytes_of l) / 4 ≡ length l = omega (arith, length_bytes l) in
    rw e (numbers_written l h)

-- Number i of some that are written.
number_of : (i : ℕ) (l : List ℕ) → AreNumbers l → i < length l → number_at (bytes_of l) (4 * i) ≡ get_or l i 0
unfolding bytes_of
number_of i [] h k = absurd (omega arith)
number_of zero (n ∷ l) h k = number_written n (bytes_of l) (h 0)
number_of (suc i) (n ∷ l) h k =
    let e : 4 * suc i ≡ length (four_bytes n) + 4 * i = omega (arith, length_four n) in
    rw e (number_later (four_bytes n) (bytes_of l) (4 * i) ∙ number_of i l (λ j. h (suc j)) (omega arith))

pub box_are_numbers : (b : Box) → IsBox b → AreNumbers (box_numbers b)
box_are_numbers b h zero = unsigned_fits b.low.0 h.low.0
box_are_numbers b h (suc zero) = unsigned_fits b.low.1 h.low.1
box_are_numbers b h (suc (suc zero)) = unsigned_fits b.low.2 h.low.2
box_are_numbers b h (suc (suc (suc zero))) = unsigned_fits b.high.0 h.high.0
box_are_numbers b h (suc (suc (suc (suc zero)))) = unsigned_fits b.high.1 h.high.1
box_are_numbers b h (suc (suc (suc (suc (suc zero))))) = unsigned_fits b.high.2 h.high.2
box_are_numbers b h (suc (suc (suc (suc (suc (suc zero)))))) = h.below
box_are_numbers b h (suc (suc (suc (suc (suc (suc (suc i))))))) = omega arith

coordinate_back : (b : Box) → IsBox b → (i : ℕ) (z : ℤ) → i < 7 → get_or (box_numbers b) i 0 ≡ unsigned z
    → IsCoordinate z → signed (number_at (bytes_of (box_numbers b)) (4 * i)) ≡ z
coordinate_back b h i z k e c =
    ap signed (number_of i (box_numbers b) (box_are_numbers b h) k ∙ e) ∙ signed_unsigned z c

box_back : (b : Box) → IsBox b → box_in (bytes_of (box_numbers b)) ≡ b
box_back b h =
    let c = coordinate_back b h in
    rw (
      c 0 b.low.0 (omega arith) refl h.low.0,
      c 1 b.low.1 (omega arith) refl h.low.1,
      c 2 b.low.2 (omega arith) refl h.low.2,
      c 3 b.high.0 (omega arith) refl h.high.0,
      c 4 b.high.1 (omega arith) refl h.high.1,
      c 5 b.high.2 (omega arith) refl h.high.2,
      number_of 6 (box_numbers b) (box_are_numbers b h) (omega arith),
    ) refl

pub entry_back : (e : Entry) → InRange e → entry_of (kind_of e) (body_of e) ≡ e
unfolding entry_of
entry_back (loaded rule cage) h =
    rw (number_written rule cage h.0, drop_at (four_bytes rule) cage 4 (length_four rule)) refl
entry_back (refined t) h = rw (number_alone t h) refl
entry_back stepped h = refl
entry_back (refined_each list) h = ap refined_each (numbers_back list h)
entry_back (refined_in_box box) h = ap refined_in_box (box_back box h)
entry_back (lock_set true t) h = rw (number_alone t h) refl
entry_back (lock_set false t) h = rw (number_alone t h) refl
entry_back (taken_back note) h = ap taken_back (numbers_back note h)

pub body_bytes : (e : Entry) → InRange e → AreBytes (body_of e)
body_bytes (loaded rule cage) h = both_bytes (four_bytes rule) cage (four_are_bytes rule) h.1
body_bytes (refined t) h = four_are_bytes t
body_bytes stepped h = no_bytes
body_bytes (refined_each list) h = all_bytes list
body_bytes (refined_in_box box) h = all_bytes (box_numbers box)
body_bytes (lock_set on t) h = four_are_bytes t
body_bytes (taken_back note) h = all_bytes note

pub kind_fits : (e : Entry) → kind_of e < 4294967296
kind_fits (loaded rule cage) = omega arith
kind_fits (refined t) = omega arith
kind_fits stepped = omega arith
kind_fits (refined_each list) = omega arith
kind_fits (refined_in_box box) = omega arith
kind_fits (lock_set true t) = omega arith
kind_fits (lock_set false t) = omega arith
kind_fits (taken_back note) = omega arith

-- The kinds with their sizes.
abbrev pub Kinds : ℕ → ℕ → Type 0
Kinds kind size =
    (((((kind ≡ 1) × (4 ≤ size))
    ⊎ ((size ≡ 4) × (((kind ≡ 2) ⊎ (kind ≡ 6)) ⊎ (kind ≡ 7))))
    ⊎ ((size ≡ 0) × (kind ≡ 3)))
    ⊎ ((size % 4 ≡ 0) × ((kind ≡ 4) ⊎ (kind ≡ 8))))
    ⊎ ((size ≡ 28) × (kind ≡ 5))

pub kinds_are : (kind size : ℕ) → Decides (is_kind kind size) (Kinds kind size)
unfolding is_kind
kinds_are kind size =
    is_or (is_or (is_or (is_or
    (is_and (is_eq kind 1) (is_le 4 size))
    (is_and (is_eq size 4) (is_or (is_or (is_eq kind 2) (is_eq kind 6)) (is_eq kind 7))))
    (is_and (is_eq size 0) (is_eq kind 3)))
    (is_and (is_eq (size % 4) 0) (is_or (is_eq kind 4) (is_eq kind 8))))
    (is_and (is_eq size 28) (is_eq kind 5))

kind_known : (kind size : ℕ) → Kinds kind size → is_kind kind size ≡ true
kind_known kind size k = is_same (kinds_are kind size) (is_true k)

pub kind_takes_body : (e : Entry) → is_kind (kind_of e) (length (body_of e)) ≡ true
kind_takes_body e = kind_known (kind_of e) (length (body_of e)) (go e)
  where
    go : (e : Entry) → Kinds (kind_of e) (length (body_of e))
    go (loaded rule cage) = inl (inl (inl (inl (refl, simp (length-append, length_four) (omega arith)))))
    go (refined t) = inl (inl (inl (inr (length_four t, inl (inl refl)))))
    go stepped = inl (inl (inr (refl, refl)))
    go (refined_each list) = inl (inr (rw length_bytes (omega arith), inl refl))
    go (refined_in_box box) = inr (length_bytes (box_numbers box), refl)
    go (lock_set true t) = inl (inl (inl (inr (length_four t, inl (inr refl)))))
    go (lock_set false t) = inl (inl (inl (inr (length_four t, inr refl))))
    go (taken_back note) = inl (inr (rw length_bytes (omega arith), inr refl))

-- ---- what is read was written

no_entries : (l : List ℕ) → length l ≡ 0 → l ≡ []
no_entries [] e = refl
no_entries (a ∷ l) e = absurd (omega arith)

pub length_numbers : (n : ℕ) (l : List ℕ) → length (numbers_in n l) ≡ n
unfolding numbers_in
length_numbers zero l = refl
length_numbers (suc n) l = ap suc (length_numbers n (drop 4 l))

numbers_fit : (n : ℕ) (l : List ℕ) → AreBytes l → AreNumbers (numbers_in n l)
unfolding numbers_in
numbers_fit zero l a i = omega arith
numbers_fit (suc n) l a zero = number_fits l 0 a
numbers_fit (suc n) l a (suc i) = numbers_fit n (drop 4 l) (drop_bytes 4 l a) i

-- The change of a kind and a body has this kind and this body, and its numbers have four bytes.
pub record Made (kind : ℕ) (body : List ℕ) : Type 0 where
  pub kinds : kind_of (entry_of kind body) ≡ kind
  pub bodies : body_of (entry_of kind body) ≡ body
  pub fits : InRange (entry_of kind body)

module _ (body : List ℕ) (a : AreBytes body) where
  load_made : 4 ≤ length body → Made 1 body
  unfolding entry_of
  load_made l = record {
    kinds = refl;
    bodies = rw (four_read body a l) (take-append-drop 4 body);
    fits = (number_fits body 0 a, drop_bytes 4 body a);
  }

  one_read : length body ≡ 4 → four_bytes (number_at body 0) ≡ body
  one_read l = four_read body a (omega arith) ∙ take_all 4 body (omega arith)

  one_made : length body ≡ 4 → Made 2 body × Made 6 body × Made 7 body
  unfolding entry_of
  one_made l =
      let e = one_read l in
      let n = number_fits body 0 a in (
        record { kinds = refl; bodies = e; fits = n },
        record { kinds = refl; bodies = e; fits = n },
        record { kinds = refl; bodies = e; fits = n },
      )

  all_read : length body % 4 ≡ 0 → bytes_of (numbers_in (length body / 4) body) ≡ body
  all_read z =
      numbers_read (length body / 4) body a (omega arith) ∙ take_all (4 * (length body / 4)) body (omega arith)

  all_made : length body % 4 ≡ 0 → Made 4 body × Made 8 body
  unfolding entry_of
  all_made z =
      let f = numbers_fit (length body / 4) body a in (
        record { kinds = refl; bodies = all_read z; fits = f },
        record { kinds = refl; bodies = all_read z; fits = f },
      )

  step_made : length body ≡ 0 → Made 3 body
  unfolding entry_of
  step_made z = record { kinds = refl; bodies = sym (no_entries body z); fits = tt }

  same_bits : (i : ℕ) → unsigned (signed (number_at body i)) ≡ number_at body i
  same_bits i = unsigned_signed (number_at body i) (number_fits body i a)

  coordinate_read : (i : ℕ) → IsCoordinate (signed (number_at body i))
  coordinate_read i = signed_fits (number_at body i) (number_fits body i a)

  box_read : box_numbers (box_in body) ≡ numbers_in 7 body
  unfolding numbers_in
  box_read =
      rw (same_bits 0, same_bits 4, same_bits 8, same_bits 12, same_bits 16, same_bits 20)
      (simp number_drop)

  box_made : length body ≡ 28 → Made 5 body
  unfolding entry_of
  box_made l = record {
    kinds = refl;
    bodies = ap bytes_of box_read ∙ numbers_read 7 body a (omega arith) ∙ take_all 28 body (omega arith);
    fits = record {
      low = (coordinate_read 0, coordinate_read 4, coordinate_read 8);
      high = (coordinate_read 12, coordinate_read 16, coordinate_read 20);
      below = number_fits body 24 a;
    };
  }

  pub entry_made : (kind : ℕ) → is_kind kind (length body) ≡ true → Made kind body
  entry_made kind k = go (when_true (kinds_are kind (length body)) k)
    where
      to : {n : ℕ} → kind ≡ n → Made n body → Made kind body
      to e m = subst (λ (n : ℕ). Made n body) (sym e) m

      go : Kinds kind (length body) → Made kind body
      go (inl (inl (inl (inl (e, l))))) = to e (load_made l)
      go (inl (inl (inl (inr (l, inl (inl e)))))) = to e (one_made l).0
      go (inl (inl (inl (inr (l, inl (inr e)))))) = to e (one_made l).1
      go (inl (inl (inl (inr (l, inr e))))) = to e (one_made l).2
      go (inl (inl (inr (l, e)))) = to e (step_made l)
      go (inl (inr (l, inl e))) = to e (all_made l).0
      go (inl (inr (l, inr e))) = to e (all_made l).1
      go (inr (l, e)) = to e (box_made l)
