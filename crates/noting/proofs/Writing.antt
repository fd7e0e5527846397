-- A note written entry by entry.
use mathlib.Core.Path.{◌≡◌, refl, sym, ap, ◌∙◌}
use mathlib.Core.List.{List, ◌++◌}
use Prim.Native.Nat.{ℕ, zero, suc, ◌+◌, ◌*◌, ◌<◌}
use native.Mathlib.Omega.{arith}
use lib.ListN.{length, get_or, set, get_or-append}
use lib.Seq.{get_or-append-add, set-set}
use Rattle.theory.proofs.Notes.Reading.{nine_at}
use Rattle.rules.specs.Below.{fill}
use Rattle.rules.specs.Notes.{nine_of, nines_of}
use Rattle.rules.specs.Tables.{Mesh, origin, link, generation, lock}
use Rattle.noting.specs.Noting.{write_from, head_of}

-- ---- entries from a place on

pub write_same : (a n : ℕ) (x y : ℕ → ℕ) (l : List ℕ) → ((j : ℕ) → j < n → x j ≡ y j)
    → write_from a n x l ≡ write_from a n y l
unfolding write_from
write_same a zero x y l e = refl
write_same a (suc n) x y l e = rw (write_same a n x y l (λ j b. e j (omega arith)), e n (omega arith))

-- From where the entries before end.
pub write_on : (a n k : ℕ) (x : ℕ → ℕ) (l : List ℕ)
    → write_from (a + n) k (λ j. x (n + j)) (write_from a n x l) ≡ write_from a (n + k) x l
unfolding write_from
write_on a n zero x l = let e : n + 0 ≡ n = omega arith in rw e refl
write_on a n (suc k) x l =
    let e : n + suc k ≡ suc (n + k) = omega arith in
    let d : a + n + k ≡ a + (n + k) = omega arith in
    rw (e, d, write_on a n k x l) refl

pub write_fill : (n : ℕ) (f : ℕ → ℕ) (l : List ℕ) → fill n f l ≡ write_from 0 n f l
unfolding write_from fill
write_fill zero f l = refl
write_fill (suc n) f l = let e : 0 + n ≡ n = omega arith in rw (e, write_fill n f l) refl

-- ---- what a slot holds

pub four_written : (a h : ℕ) (t l : List ℕ)
    → let two = set (set l a (get_or t h 0)) (a + 1) (get_or t (h + 1) 0) in
    set (set two (a + 2) (get_or t (h + 2) 0)) (a + 3) (get_or t (h + 3) 0)
    ≡ write_from a 4 (λ j. get_or t (h + j) 0) l
unfolding write_from
four_written a h t l =
    let e : a + 0 ≡ a = omega arith in
    let f : h + 0 ≡ h = omega arith in
    rw (e, f) refl

-- The fourth corner that is copied is written over by the first link, and the fourth link by the generation.
pub nine_written : (m : Mesh) (s a : ℕ) (l : List ℕ) {corners links : List ℕ}
    → corners ≡ write_from (a + 1) 4 (λ j. origin m.topology (3 * s + j)) (set l a s)
    → links ≡ write_from (a + 4) 4 (λ j. link m.topology (3 * s + j)) corners
    → set (set links (a + 7) (generation m.topology s)) (a + 8) (lock m s)
    ≡ write_from a 9 (λ i. get_or (nine_of m s) i 0) l
unfolding write_from
nine_written m s a l p q =
    let e : a + 0 ≡ a = omega arith in
    let h : 3 * s + 0 ≡ 3 * s = omega arith in
    let b : a + 1 + 0 ≡ a + 1 = omega arith in
    let c : a + 1 + 1 ≡ a + 2 = omega arith in
    let d : a + 1 + 2 ≡ a + 3 = omega arith in
    let f : a + 1 + 3 ≡ a + 4 = omega arith in
    let g : a + 4 + 0 ≡ a + 4 = omega arith in
    let i : a + 4 + 1 ≡ a + 5 = omega arith in
    let j : a + 4 + 2 ≡ a + 6 = omega arith in
    let k : a + 4 + 3 ≡ a + 7 = omega arith in
    rw (q, p, e, h, b, c, d, f, g, i, j, k) (simp set-set refl)

-- ---- one slot after the other

pub nines_begin : (m : Mesh) (list l : List ℕ) → l ≡ write_from 4 (9 * 0) (λ h. get_or (nines_of m list) h 0) l
unfolding write_from
nines_begin m list l = refl

-- The nine numbers of slot i, after those before it.
pub nines_on : (m : Mesh) (list l : List ℕ) (i : ℕ) (s : ℕ) {k j : List ℕ} → i < length list → s ≡ get_or list i 0
    → k ≡ write_from 4 (9 * i) (λ h. get_or (nines_of m list) h 0) l
    → j ≡ write_from (4 + 9 * i) 9 (λ h. get_or (nine_of m s) h 0) k
    → j ≡ write_from 4 (9 * (i + 1)) (λ h. get_or (nines_of m list) h 0) l
nines_on m list l i s b e p q =
    let d : 9 * (i + 1) ≡ 9 * i + 9 = omega arith in
    q
    ∙ rw p
    (write_same (4 + 9 * i) 9 (λ h. get_or (nine_of m s) h 0) (λ h. get_or (nines_of m list) (9 * i + h) 0)
    (write_from 4 (9 * i) (λ h. get_or (nines_of m list) h 0) l)
    (λ h c. ap (λ (x : ℕ). get_or (nine_of m x) h 0) e ∙ sym (nine_at m list i h b c)))
    ∙ write_on 4 (9 * i) 9 (λ h. get_or (nines_of m list) h 0) l
    ∙ ap (λ (n : ℕ). write_from 4 n (λ h. get_or (nines_of m list) h 0) l) (sym d)

-- ---- the whole note

pub head_written : (t v f k : ℕ) (l : List ℕ)
    → set (set (set (set l 0 t) 1 v) 2 f) 3 k ≡ fill 4 (λ i. get_or (head_of t v f k) i 0) l
unfolding fill
head_written t v f k l = refl

-- All slots after the head.
pub note_written : (t v f : ℕ) (m : Mesh) (list l : List ℕ) (n : ℕ) {k j : List ℕ}
    → k ≡ fill 4 (λ i. get_or (head_of t v f n) i 0) l
    → j ≡ write_from 4 (9 * n) (λ h. get_or (nines_of m list) h 0) k
    → j ≡ fill (4 + 9 * n) (λ i. get_or (head_of t v f n ++ nines_of m list) i 0) l
note_written t v f m list l n p q =
    q
    ∙ rw (
      p,
      write_fill 4 (λ i. get_or (head_of t v f n) i 0) l,
      write_same 0 4 (λ i. get_or (head_of t v f n) i 0) (λ i. get_or (head_of t v f n ++ nines_of m list) i 0) l
          (λ i b. sym (get_or-append (head_of t v f n) (nines_of m list) 0 i b)),
    )
    (write_same 4 (9 * n) (λ h. get_or (nines_of m list) h 0)
    (λ h. get_or (head_of t v f n ++ nines_of m list) (4 + h) 0) _
    (λ h b. sym (get_or-append-add (head_of t v f n) (nines_of m list) h 0)))
    ∙ write_on 0 4 (9 * n) (λ i. get_or (head_of t v f n ++ nines_of m list) i 0) l
    ∙ sym (write_fill (4 + 9 * n) (λ i. get_or (head_of t v f n ++ nines_of m list) i 0) l)
