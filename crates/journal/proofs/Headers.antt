-- The header of a journal.
use Prim.Native.Nat.{ℕ, ◌≤◌, ◌<◌}
use native.Mathlib.Omega.{arith}
use borrow.Author.Tests.{lt-ltb, ltb-false, le-ltb, eqb-true, eq-eqb, ne_eqb}
use mathlib.Core.Bool.{Bool, true, false, not, ◌&&◌}
use mathlib.Core.List.{List, [], ◌∷◌, ◌++◌, append_assoc}
use mathlib.Core.Logic.{◌≢◌}
use mathlib.Core.Path.{◌≡◌, refl, ap, sym, ◌∙◌}
use lib.Dec.{eqb, ltb}
use lib.ListN.{length, take, drop, length-append}
use lib.Seq.{take-append-le, take_at, take-add}
use Rattle.crc.proofs.Changed.{crc_fits}
use Rattle.crc.specs.Bytes.{AreBytes}
use Rattle.crc.specs.Crc.{crc32}
use Rattle.rules.specs.Calls.{first_of, ◌if◌}
use Rattle.rules.specs.Numbers.{number_at}
use Rattle.journal.specs.Journal.{four_bytes, header_of, header_stop, holds}
use Rattle.journal.proofs.Bytes.{both_bytes, four_are_bytes}
use Rattle.journal.proofs.Numbers.{number_written, number_after, number_earlier, length_four, four_at}

-- A header of tables with v vertex slots and t triangle slots.
pub record Headed (v t : ℕ) (bytes : List ℕ) : Type 0 where
  pub long : 20 ≤ length bytes
  pub whole : number_at bytes 16 ≡ crc32 (take 16 bytes)
  pub name : number_at bytes 0 ≡ 1246515282
  pub version : number_at bytes 4 ≡ 1
  pub vertices : number_at bytes 8 ≡ v
  pub triangles : number_at bytes 12 ≡ t

abbrev stop_if : Bool → Bool → Bool → Bool → Bool → Bool → Bool → ℕ
stop_if a b c d e f g = first_of (1 if a ∷ 2 if b ∷ 3 if not c ∷ 4 if not (d && e) ∷ 6 if not (f && g) ∷ [])

record Passed (b c d e f g : Bool) : Type 0 where
  long : b ≡ false
  whole : c ≡ true
  name : d ≡ true
  version : e ≡ true
  vertices : f ≡ true
  triangles : g ≡ true

passed : (a b c d e f g : Bool) → stop_if a b c d e f g ≡ 0 → Passed b c d e f g
passed true b c d e f g z = absurd (omega arith)
passed false true c d e f g z = absurd (omega arith)
passed false false false d e f g z = absurd (omega arith)
passed false false true false e f g z = absurd (omega arith)
passed false false true true false f g z = absurd (omega arith)
passed false false true true true false g z = absurd (omega arith)
passed false false true true true true false z = absurd (omega arith)
passed false false true true true true true z =
    record { long = refl; whole = refl; name = refl; version = refl; vertices = refl; triangles = refl }

pub stop_headed : (v t : ℕ) (bytes : List ℕ) → header_stop v t bytes ≡ 0 → Headed v t bytes
unfolding header_stop
stop_headed v t bytes z =
    let p = passed (eqb (length bytes) 0) (ltb (length bytes) 20) (holds bytes 0 16) (eqb (number_at bytes 0) 1246515282)
    (eqb (number_at bytes 4) 1) (eqb (number_at bytes 8) v) (eqb (number_at bytes 12) t) z in
    record {
      long = ltb-false _ _ p.long;
      whole = eqb-true _ _ p.whole;
      name = eqb-true _ _ p.name;
      version = eqb-true _ _ p.version;
      vertices = eqb-true _ _ p.vertices;
      triangles = eqb-true _ _ p.triangles;
    }

pub headed_stop : (v t : ℕ) (bytes : List ℕ) → Headed v t bytes → header_stop v t bytes ≡ 0
unfolding header_stop
headed_stop v t bytes H =
    let l = H.long in
    let a : eqb (length bytes) 0 ≡ false = ne_eqb _ _ (λ (e : length bytes ≡ 0). omega arith) in
    let b : ltb (length bytes) 20 ≡ false = le-ltb _ _ l in
    let c : holds bytes 0 16 ≡ true = eq-eqb _ _ H.whole in
    let d : eqb (number_at bytes 0) 1246515282 ≡ true = eq-eqb _ _ H.name in
    let e : eqb (number_at bytes 4) 1 ≡ true = eq-eqb _ _ H.version in
    let f : eqb (number_at bytes 8) v ≡ true = eq-eqb _ _ H.vertices in
    let g : eqb (number_at bytes 12) t ≡ true = eq-eqb _ _ H.triangles in
    rw (a, b, c, d, e, f, g) refl

-- The numbers of the stops.
pub header_numbers : (v t : ℕ) (bytes : List ℕ) → header_stop v t bytes ≤ 6
unfolding header_stop
header_numbers v t bytes =
    go (eqb (length bytes) 0) (ltb (length bytes) 20) (holds bytes 0 16) (eqb (number_at bytes 0) 1246515282)
    (eqb (number_at bytes 4) 1) (eqb (number_at bytes 8) v) (eqb (number_at bytes 12) t)
  where
    go : (a b c d e f g : Bool) → stop_if a b c d e f g ≤ 6
    go true b c d e f g = omega arith
    go false true c d e f g = omega arith
    go false false false d e f g = omega arith
    go false false true false e f g = omega arith
    go false false true true false f g = omega arith
    go false false true true true false g = omega arith
    go false false true true true true false = omega arith
    go false false true true true true true = omega arith

-- ---- in front of other bytes

pub header_short : (v t : ℕ) (bytes : List ℕ) → length bytes < 20 → header_stop v t bytes ≢ 0
header_short v t bytes l z = let k = (stop_headed v t bytes z).long in omega arith

pub header_torn : (v t : ℕ) (bytes : List ℕ) → 0 < length bytes → length bytes < 20 → header_stop v t bytes ≡ 2
unfolding header_stop
header_torn v t bytes p l =
    let a : eqb (length bytes) 0 ≡ false = ne_eqb _ _ (λ (e : length bytes ≡ 0). omega arith) in
    rw (a, lt-ltb (length bytes) 20 l) refl

-- What is said of a header of full length does not depend on what follows it.
pub header_longer : (v t : ℕ) (a b : List ℕ) → 20 ≤ length a → header_stop v t (a ++ b) ≡ header_stop v t a
unfolding header_stop
header_longer v t a b l =
    let n : 20 ≤ length (a ++ b) = rw length-append (omega arith) in
    let p : eqb (length (a ++ b)) 0 ≡ false = ne_eqb _ _ (λ (e : length (a ++ b) ≡ 0). omega arith) in
    let q : eqb (length a) 0 ≡ false = ne_eqb _ _ (λ (e : length a ≡ 0). omega arith) in
    let r : ltb (length (a ++ b)) 20 ≡ false = le-ltb _ _ n in
    let s : ltb (length a) 20 ≡ false = le-ltb _ _ l in
    let f : take 16 (a ++ b) ≡ take 16 a = take-append-le 16 a b (omega arith) in
    rw (
      p,
      q,
      r,
      s,
      f,
      number_earlier a b 0 (omega arith),
      number_earlier a b 4 (omega arith),
      number_earlier a b 8 (omega arith),
      number_earlier a b 12 (omega arith),
      number_earlier a b 16 (omega arith),
    ) refl

-- ---- what is written is read

-- A header without its checksum.
abbrev plain_header : ℕ → ℕ → List ℕ
plain_header v t = four_bytes 1246515282 ++ four_bytes 1 ++ four_bytes v ++ four_bytes t

plain_bytes : (v t : ℕ) → AreBytes (plain_header v t)
plain_bytes v t =
    both_bytes (four_bytes 1246515282 ++ four_bytes 1 ++ four_bytes v) (four_bytes t)
    (both_bytes (four_bytes 1246515282 ++ four_bytes 1) (four_bytes v)
    (both_bytes (four_bytes 1246515282) (four_bytes 1) (four_are_bytes 1246515282) (four_are_bytes 1)) (four_are_bytes v))
    (four_are_bytes t)

length_plain : (v t : ℕ) → length (plain_header v t) ≡ 16
length_plain v t = simp (length-append, length_four)

pub length_header : (v t : ℕ) → length (header_of v t) ≡ 20
unfolding header_of
length_header v t = simp (length-append, length_four)

module _ (v t : ℕ) (rest : List ℕ) where
  abbrev behind : List ℕ
  behind = four_bytes (crc32 (plain_header v t)) ++ rest

  by_four : header_of v t ++ rest ≡ plain_header v t ++ behind
  unfolding header_of
  by_four = append_assoc (plain_header v t) (four_bytes (crc32 (plain_header v t))) rest

  by_three : header_of v t ++ rest ≡ (four_bytes 1246515282 ++ four_bytes 1 ++ four_bytes v) ++ (four_bytes t ++ behind)
  by_three = by_four ∙ append_assoc (four_bytes 1246515282 ++ four_bytes 1 ++ four_bytes v) (four_bytes t) behind

  by_two : header_of v t ++ rest ≡ (four_bytes 1246515282 ++ four_bytes 1) ++ (four_bytes v ++ (four_bytes t ++ behind))
  by_two = by_three ∙ append_assoc (four_bytes 1246515282 ++ four_bytes 1) (four_bytes v) (four_bytes t ++ behind)

  by_one : header_of v t ++ rest
      ≡ four_bytes 1246515282 ++ (four_bytes 1 ++ (four_bytes v ++ (four_bytes t ++ behind)))
  by_one = by_two ∙ append_assoc (four_bytes 1246515282) (four_bytes 1) (four_bytes v ++ (four_bytes t ++ behind))

header_headed : (v t : ℕ) (rest : List ℕ) → v < 4294967296 → t < 4294967296 → Headed v t (header_of v t ++ rest)
header_headed v t rest hv ht =
    let p = plain_header v t in
    let b = behind v t rest in
    record {
      long = simp (length-append, length_header) (omega arith);
      whole = ap (λ (r : List ℕ). number_at r 16) (by_four v t rest)
          ∙ number_after p (crc32 p) 16 rest (length_plain v t) (crc_fits p (plain_bytes v t))
          ∙ ap crc32 (sym (take_at p b 16 (length_plain v t)) ∙ ap (take 16) (sym (by_four v t rest)));
      name = ap (λ (r : List ℕ). number_at r 0) (by_one v t rest) ∙ number_written 1246515282 _ (omega arith);
      version = ap (λ (r : List ℕ). number_at r 4) (by_one v t rest)
          ∙ number_after (four_bytes 1246515282) 1 4 (four_bytes v ++ (four_bytes t ++ b)) (length_four 1246515282)
          (omega arith);
      vertices = ap (λ (r : List ℕ). number_at r 8) (by_two v t rest)
          ∙ number_after (four_bytes 1246515282 ++ four_bytes 1) v 8 (four_bytes t ++ b)
          (simp (length-append, length_four)) hv;
      triangles = ap (λ (r : List ℕ). number_at r 12) (by_three v t rest)
          ∙ number_after (four_bytes 1246515282 ++ four_bytes 1 ++ four_bytes v) t 12 b
          (simp (length-append, length_four)) ht;
    }

pub header_read : (v t : ℕ) (rest : List ℕ) → v < 4294967296 → t < 4294967296
    → header_stop v t (header_of v t ++ rest) ≡ 0
header_read v t rest hv ht = headed_stop v t (header_of v t ++ rest) (header_headed v t rest hv ht)

-- ---- what is read was written

pub header_written : (v t : ℕ) (a : List ℕ) → AreBytes a → header_stop v t a ≡ 0 → header_of v t ≡ take 20 a
unfolding header_of
header_written v t a h z =
    let H = stop_headed v t a z in
    let l = H.long in
    let n : four_bytes 1246515282 ≡ take 4 a = ap four_bytes (sym H.name) ∙ four_at a 0 h (omega arith) in
    let o : four_bytes 1 ≡ take 4 (drop 4 a) = ap four_bytes (sym H.version) ∙ four_at a 4 h (omega arith) in
    let p : four_bytes v ≡ take 4 (drop 8 a) = ap four_bytes (sym H.vertices) ∙ four_at a 8 h (omega arith) in
    let q : four_bytes t ≡ take 4 (drop 12 a) = ap four_bytes (sym H.triangles) ∙ four_at a 12 h (omega arith) in
    let e : take 16 a ≡ take 4 a ++ take 4 (drop 4 a) ++ take 4 (drop 8 a) ++ take 4 (drop 12 a) =
    rw (take-add 12 4 a, take-add 8 4 a, take-add 4 4 a) refl in
    let f : plain_header v t ≡ take 16 a = rw (n, o, p, q) (sym e) in
    rw f (ap (λ (k : ℕ). take 16 a ++ four_bytes k) (sym H.whole)
    ∙ ap (λ (r : List ℕ). take 16 a ++ r) (four_at a 16 h (omega arith))
    ∙ sym (take-add 16 4 a))
