-- What is put into a buffer, part by part.
use Prim.Native.Nat.{ℕ, suc, ◌+◌, ◌-◌, ◌*◌, ◌≤◌, ◌<◌}
use native.Mathlib.Numerals.{add-one}
use native.Mathlib.Omega.{arith}
use borrow.Author.Tests.{lt-leb, le-leb}
use mathlib.Core.Bool.{Bool, true, false}
use mathlib.Core.List.{List, [], ◌∷◌, ◌++◌, append_assoc, append-nil}
use mathlib.Core.Logic.{◌≢◌}
use mathlib.Core.Path.{◌≡◌, refl, ap, sym, ◌∙◌}
use lib.ListN.{length, get_or, take, drop, set, length-append}
use lib.IntN.{ℤ, pos, negsuc}
use mir.Syntax.{w32}
use Rattle.std.specs.Int.{to_le_bytes, cast_unsigned}
use lib.Seq.{sets, sets-eq, length-sets, length-take-le, take-suc, take_at, drop_at}
use Rattle.crc.specs.Crc.{crc32}
use Rattle.theory.proofs.Numbers.Decide.{is_le, is_and, when_true}
use Rattle.journal.specs.Appending.{Put}
use Rattle.journal.specs.Journal.{Entry, four_bytes, bytes_of, sealed, record_of, encode, header_of, is_room, wrote_if}
use Rattle.journal.specs.Journal.{wrote, unsigned}
use Rattle.journal.specs.Recording.{InRange, Recordable}
use Rattle.journal.proofs.Numbers.{length_four, length_bytes}
use Rattle.journal.proofs.Writing.{length_record, length_encode}
use Rattle.journal.proofs.Headers.{length_header}

-- ---- parts

-- What stands where bytes are stored one after the other.
putting : {l : List ℕ} (e : List ℕ) (at : ℕ) (bytes : List ℕ) → l ≡ sets e at bytes → Put e at bytes l
putting e at bytes q = record { is = q; size = ap length q ∙ length-sets e at bytes }

-- One part behind another.
sets_append : (xs ys l : List ℕ) (i : ℕ) → sets (sets l i xs) (i + length xs) ys ≡ sets l i (xs ++ ys)
sets_append [] ys l i = let e : i + 0 ≡ i = omega arith in rw e refl
sets_append (x ∷ xs) ys l i =
    let e : i + suc (length xs) ≡ suc i + length xs = omega arith in
    rw e (sets_append xs ys (set l i x) (suc i))

pub put_on : {e xs ys l n : List ℕ} {at end : ℕ} → end ≡ at + length xs → Put e at xs l → Put l end ys n
    → Put e at (xs ++ ys) n
put_on {e} {xs} {ys} {at = at} h f g =
    putting e at (xs ++ ys) (g.is ∙ rw (f.is, h) (sets_append xs ys e at))

-- A part is read back.
part_read : {e xs l : List ℕ} {at : ℕ} → at + length xs ≤ length e → Put e at xs l → take (length xs) (drop at l) ≡ xs
part_read {e} {xs} {at = at} h f =
    let a : length (take at e) ≡ at = length-take-le at e (omega arith) in
    let rest = drop (at + length xs) e in
    let q : sets e at xs ≡ take at e ++ (xs ++ rest) = sets-eq xs e at h ∙ append_assoc (take at e) xs rest in
    rw (f.is, q, drop_at (take at e) (xs ++ rest) at a, take_at xs rest (length xs) refl) refl

-- A part and its checksum.
pub seal_on : {e xs l n : List ℕ} {at end : ℕ} → end ≡ at + length xs → end ≤ length e → Put e at xs l
    → Put l end (four_bytes (crc32 (take (end - at) (drop at l)))) n → Put e at (sealed xs) n
seal_on {xs = xs} {l} {at = at} {end} h r f g =
    let k : end - at ≡ length xs = omega arith in
    let q : take (end - at) (drop at l) ≡ xs = rw k (part_read (omega arith) f) in
    put_on h f (rw q at g)

-- ---- numbers and bytes

-- A number's bytes, the lowest first.
pub four_low_first : (n : ℕ) → to_le_bytes w32 n ≡ four_bytes n
unfolding four_bytes
four_low_first n = refl

-- A signed number's bits.
pub bits_are : (z : ℤ) → cast_unsigned w32 z ≡ unsigned z
bits_are (pos a) = refl
bits_are (negsuc a) = omega arith

bytes_append : (xs ys : List ℕ) → bytes_of (xs ++ ys) ≡ bytes_of xs ++ bytes_of ys
unfolding bytes_of
bytes_append [] ys = refl
bytes_append (x ∷ xs) ys = rw (bytes_append xs ys, append_assoc) refl

pub bytes_one : (n : ℕ) → bytes_of (n ∷ []) ≡ four_bytes n
unfolding bytes_of
bytes_one n = append-nil (four_bytes n)

pub bytes_two : (m n : ℕ) → bytes_of (m ∷ n ∷ []) ≡ four_bytes m ++ four_bytes n
unfolding bytes_of
bytes_two m n = ap (λ (l : List ℕ). four_bytes m ++ l) (append-nil (four_bytes n))

-- The loop has written the first i bytes.
pub no_bytes_put : (d : List ℕ) (at : ℕ) → Put d at [] d
no_bytes_put d at = putting d at [] refl

pub byte_put : {d l : List ℕ} {at : ℕ} (s : List ℕ) (i : ℕ) → i < length s → Put d at (take i s) l
    → Put d at (take (i + 1) s) (set l (at + i) (get_or s i 0))
byte_put {l = l} {at} s i h f =
    let k : at + i ≡ at + length (take i s) = rw (length-take-le i s (omega arith)) refl in
    rw (add-one, take-suc s i 0 h) (put_on k f (putting l (at + i) (get_or s i 0 ∷ []) refl))

-- The first i numbers.
pub no_numbers_put : (d : List ℕ) (at : ℕ) → Put d at (bytes_of []) d
unfolding bytes_of
no_numbers_put d at = no_bytes_put d at

pub number_put : {d l n : List ℕ} {at : ℕ} (s : List ℕ) (i : ℕ) → i < length s → Put d at (bytes_of (take i s)) l
    → Put l (at + 4 * i) (four_bytes (get_or s i 0)) n → Put d at (bytes_of (take (i + 1) s)) n
number_put {at = at} s i h f g =
    let k : at + 4 * i ≡ at + length (bytes_of (take i s)) = rw (length_bytes, length-take-le i s (omega arith)) refl in
    rw (add-one, take-suc s i 0 h, bytes_append, bytes_one) (put_on k f g)

-- ---- records

-- What a test for room tells, and a body that is too long.
has_room : (n room : ℕ) → is_room n room ≡ true → (n ≤ 4294967311) × (n ≤ room)
has_room n room = when_true (is_and (is_le n 4294967311) (is_le n room))

pub record Room (n room : ℕ) : Type 0 where
  pub is : is_room n room ≡ true
  pub few : n ≤ 4294967311
  pub enough : n ≤ room

pub room_found : {r : Bool} (n room : ℕ) → r ≡ true → r ≡ is_room n room → Room n room
room_found n room h e =
    let q : is_room n room ≡ true = sym e ∙ h in
    let l = has_room n room q in
    record { is = q; few = l.0; enough = l.1 }

pub too_long : (n room : ℕ) → 4294967311 < n → is_room n room ≡ false
too_long n room h = rw (lt-leb n 4294967311 h) refl

pub refused : (bytes e : List ℕ) (n : ℕ) → length bytes ≡ n → is_room n (length e) ≡ false → (0, e) ≡ wrote bytes e
unfolding wrote
refused bytes e n k h = rw (k, h) refl

pub written : {bytes e l : List ℕ} (n : ℕ) → length bytes ≡ n → is_room n (length e) ≡ true → Put e 0 bytes l
    → (n, l) ≡ wrote bytes e
unfolding wrote
written {bytes} {e} {l} n k h f =
    let r = has_room n (length e) h in
    let z : 0 + length bytes ≡ length bytes = omega arith in
    let q : l ≡ bytes ++ drop (length bytes) e = f.is ∙ sets-eq bytes e 0 (omega arith) ∙ rw z refl in
    rw (← k, q, rw (← k) at h) refl

length_of : (kind n : ℕ) (body : List ℕ) → length body ≡ n → length (record_of kind body) ≡ 16 + n
length_of kind n body k = rw k at (length_record kind body)

pub no_record : (kind n : ℕ) (body e : List ℕ) → length body ≡ n → is_room (16 + n) (length e) ≡ false
    → (0, e) ≡ wrote (record_of kind body) e
no_record kind n body e k h = refused (record_of kind body) e (16 + n) (length_of kind n body k) h

-- The head is written, then the body with its checksum.
pub record_written : {e l m : List ℕ} (kind n : ℕ) (body : List ℕ) → length body ≡ n → is_room (16 + n) (length e) ≡ true
    → Put e 0 (sealed (four_bytes n ++ four_bytes kind)) l → Put l 12 (sealed body) m
    → (16 + n, m) ≡ wrote (record_of kind body) e
unfolding record_of
record_written kind n body k h f g =
    let q : 12 ≡ 0 + length (sealed (four_bytes n ++ four_bytes kind)) = simp (length-append, length_four) in
    written (16 + n) (length_of kind n body k) h (rw (← k) at (put_on q f g))

pub length_body : (list bytes : List ℕ) → length (bytes_of list ++ bytes) ≡ 4 * length list + length bytes
length_body list bytes = simp (length-append, length_bytes)

-- A record that is written has a body whose size has four bytes.
few_if : (bytes e : List ℕ) (t : Bool) → is_room (length bytes) (length e) ≡ t → (wrote_if t bytes e).0 ≢ 0
    → length bytes ≤ 4294967311
few_if bytes e true q x = (has_room (length bytes) (length e) q).0
few_if bytes e false q x = absurd (x refl)

few_wrote : (bytes e : List ℕ) → (wrote bytes e).0 ≢ 0 → length bytes ≤ 4294967311
unfolding wrote
few_wrote bytes e x = few_if bytes e _ refl x

pub written_recordable : (e : Entry) (buffer : List ℕ) → InRange e → (wrote (encode e) buffer).0 ≢ 0 → Recordable e
written_recordable e buffer h x = (h, omega (arith, few_wrote (encode e) buffer x, length_encode e))

-- ---- the header

pub no_header : (v t : ℕ) (e : List ℕ) → length e < 20 → (0, e) ≡ wrote (header_of v t) e
no_header v t e h = refused (header_of v t) e 20 (length_header v t) (rw (lt-leb 20 (length e) h) refl)

pub header_written : {e l : List ℕ} (v t : ℕ) → 20 ≤ length e
    → Put e 0 (sealed (bytes_of (1246515282 ∷ 1 ∷ v ∷ t ∷ []))) l → (20, l) ≡ wrote (header_of v t) e
unfolding bytes_of header_of
header_written {e} v t h f =
    written 20 (length_header v t) (rw (le-leb 20 (length e) h) refl)
    (simp append_assoc (simp (append_assoc, append-nil) at f))
