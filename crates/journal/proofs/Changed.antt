-- One changed byte of a record, or of the header, is found.
use Prim.Native.Nat.{ℕ, ◌+◌, ◌-◌, ◌≤◌, ◌<◌}
use native.Mathlib.Omega.{arith}
use borrow.Author.Tests.{ltb-true, ltb-false, le-ltb, eq-eqb, ne_eqb}
use mathlib.Core.Bool.{Bool, true, false}
use mathlib.Core.List.{List, ◌++◌}
use mathlib.Core.Logic.{◌≢◌, inl, inr}
use mathlib.Core.Path.{◌≡◌, refl, ap, sym, ◌∙◌}
use lib.Dec.{eqb, ltb}
use lib.ListN.{length, get_or, take, drop, set, length-set, length-drop, get_or-append}
use lib.Seq.{get_or-set_same, get_or-drop, get_or-take, take-set-le, take-set-lt, drop-set-add, length-take-le}
use lib.Seq.{set-append_left}
use Rattle.crc.proofs.Bytes.{take_bytes, drop_bytes}
use Rattle.crc.proofs.Changed.{changed_found}
use Rattle.crc.specs.Bytes.{AreBytes}
use Rattle.crc.specs.Crc.{crc32}
use Rattle.rules.specs.Numbers.{number_at}
use Rattle.journal.specs.Journal.{Entry, encode, size_at, record_length, holds, stop_at}
use Rattle.journal.specs.Journal.{header_stop}
use Rattle.journal.specs.Recording.{Recordable}
use Rattle.journal.proofs.Bytes.{set_bytes, both_bytes}
use Rattle.journal.proofs.Headers.{stop_headed}
use Rattle.journal.proofs.Numbers.{number_apart, number_bytes}
use Rattle.journal.proofs.Reading.{Whole}
use Rattle.journal.proofs.Writing.{encode_bytes, entry_whole, entry_length}

-- ---- a part with its checksum

-- The n bytes from place p on, and their checksum behind them, with another byte v at place i of these.
module _ (a : List ℕ) (p n i v : ℕ) (x : AreBytes a) (k : v < 256) (l : p + n + 4 ≤ length a) (low : p ≤ i)
    (d : v ≢ get_or a i 0) (s : number_at a (p + n) ≡ crc32 (take n (drop p a))) where
  abbrev part : List ℕ
  part = take n (drop p a)

  place : p + (i - p) ≡ i
  place = omega arith

  changed_part : drop p (set a i v) ≡ set (drop p a) (i - p) v
  changed_part = rw place at (drop-set-add p a (i - p) v)

  -- In the part.
  part_changed : i < p + n → number_at (set a i v) (p + n) ≢ crc32 (take n (drop p (set a i v)))
  part_changed h e =
      let j : i - p < n = omega arith in
      let c : take n (drop p (set a i v)) ≡ set part (i - p) v =
      ap (take n) changed_part ∙ take-set-lt n (drop p a) (i - p) v j in
      let w : length part ≡ n = length-take-le n (drop p a) (simp length-drop (omega arith)) in
      let g : get_or part (i - p) 0 ≡ get_or a i 0 =
      get_or-take n (drop p a) (i - p) 0 j ∙ get_or-drop p a (i - p) 0 ∙ ap (λ (m : ℕ). get_or a m 0) place in
      changed_found part (i - p) v (take_bytes n (drop p a) (drop_bytes p a x)) (omega arith) k (λ q. d (q ∙ g))
      (ap crc32 (sym c) ∙ sym e ∙ number_apart a i (p + n) v (inl h) ∙ s)

  -- In the checksum.
  seal_changed : p + n ≤ i → i < p + n + 4 → number_at (set a i v) (p + n) ≢ crc32 (take n (drop p (set a i v)))
  seal_changed h t e =
      let c : take n (drop p (set a i v)) ≡ part =
      ap (take n) changed_part ∙ take-set-le n (drop p a) (i - p) v (omega arith) in
      let m : number_at (set a i v) (p + n) ≡ number_at a (p + n) = e ∙ ap crc32 c ∙ sym s in
      let j = i - (p + n) in
      let q : p + n + j ≡ i = omega arith in
      let z : get_or (set a i v) (p + n + j) 0 ≡ get_or a (p + n + j) 0 =
      number_bytes (set a i v) a (p + n) j (set_bytes a i v x k) x (rw length-set l) l (omega arith) m in
      d (sym (get_or-set_same a i v 0 (omega arith)) ∙ rw q at z)

  pub seal_broken : i < p + n + 4 → eqb (number_at (set a i v) (p + n)) (crc32 (take n (drop p (set a i v)))) ≡ false
  seal_broken t = ne_eqb _ _ (go (ltb i (p + n)) refl)
    where
      go : (b : Bool) → ltb i (p + n) ≡ b → number_at (set a i v) (p + n) ≢ crc32 (take n (drop p (set a i v)))
      go true e = part_changed (ltb-true i (p + n) e)
      go false e = seal_changed (ltb-false i (p + n) e) t

-- ---- a record

module _ (a : List ℕ) (i v : ℕ) (w : Whole a) (x : AreBytes a) (k : v < 256) (d : v ≢ get_or a i 0) where
  some : eqb (length (set a i v)) 0 ≡ false
  some = ne_eqb _ _ (λ (e : length (set a i v) ≡ 0). let l = w.long in omega (arith, length-set a i v))

  twelve : ltb (length (set a i v)) 12 ≡ false
  twelve = le-ltb (length (set a i v)) 12 (let l = w.long in omega (arith, length-set a i v))

  head_changed : i < 12 → stop_at (set a i v) ≡ 3
  unfolding stop_at
  head_changed h =
      let l = w.long in
      let b : holds (set a i v) 0 8 ≡ false =
      seal_broken a 0 8 i v x k (omega arith) (omega arith) d w.head (omega arith) in
      rw (some, twelve, b) refl

  body_changed : 12 ≤ i → i < record_length a → stop_at (set a i v) ≡ 3
  unfolding stop_at
  body_changed h t =
      let l = w.long in
      let size : size_at (set a i v) ≡ size_at a = number_apart a i 0 v (inr (omega arith)) in
      let c : holds (set a i v) 0 8 ≡ true =
      eq-eqb _ _ (number_apart a i 8 v (inr (omega arith)) ∙ w.head
      ∙ ap crc32 (sym (take-set-le 8 a i v (omega arith)))) in
      let n : ltb (length (set a i v)) (record_length (set a i v)) ≡ false =
      le-ltb (length (set a i v)) (record_length (set a i v)) (omega (arith, length-set a i v)) in
      let b : holds (set a i v) 12 (size_at (set a i v)) ≡ false =
      rw size (seal_broken a 12 (size_at a) i v x k (omega arith) h d w.body (omega arith)) in
      rw (some, twelve, c, n, b) refl

  pub record_changed : i < record_length a → stop_at (set a i v) ≡ 3
  record_changed t = go (ltb i 12) refl
    where
      go : (b : Bool) → ltb i 12 ≡ b → stop_at (set a i v) ≡ 3
      go true e = head_changed (ltb-true i 12 e)
      go false e = body_changed (ltb-false i 12 e) t

-- ---- a header

pub header_changed : (v t : ℕ) (a : List ℕ) (i n : ℕ) → header_stop v t a ≡ 0 → AreBytes a → n < 256 → i < 20
    → n ≢ get_or a i 0 → header_stop v t (set a i n) ≡ 3
unfolding header_stop
header_changed v t a i n z x k h d =
    let H = stop_headed v t a z in
    let l = H.long in
    let s : eqb (length (set a i n)) 0 ≡ false =
    ne_eqb _ _ (λ (e : length (set a i n) ≡ 0). omega (arith, length-set a i n)) in
    let m : ltb (length (set a i n)) 20 ≡ false = le-ltb (length (set a i n)) 20 (omega (arith, length-set a i n)) in
    let b : holds (set a i n) 0 16 ≡ false =
    seal_broken a 0 16 i n x k (omega arith) (omega arith) d H.whole (omega arith) in
    rw (s, m, b) refl

-- ---- a record that was written

pub written_changed : (e : Entry) (rest : List ℕ) (i v : ℕ) → Recordable e → AreBytes rest → v < 256
    → i < length (encode e) → v ≢ get_or (encode e) i 0 → stop_at (set (encode e) i v ++ rest) ≡ 3
written_changed e rest i v h x k l d =
    let a = encode e ++ rest in
    let g : get_or a i 0 ≡ get_or (encode e) i 0 = get_or-append (encode e) rest 0 i l in
    let c : stop_at (set a i v) ≡ 3 =
    record_changed a i v (entry_whole e rest h) (both_bytes (encode e) rest (encode_bytes e h) x) k (λ q. d (q ∙ g))
    (rw (entry_length e rest h) l) in
    rw (set-append_left (encode e) rest i v l) at c

pub damaged_stops : {n : ℕ} → n ≡ 3 → n ≢ 0
damaged_stops e z = omega arith
