-- The records at the front of some bytes, and what is read of them.
use Prim.Native.Nat.{ℕ, zero, suc, ◌+◌, ◌≤◌}
use native.Mathlib.Omega.{arith}
use borrow.Author.Tests.{ltb-false, le-ltb, eqb-true, eq-eqb, ne_eqb}
use mathlib.Core.Bool.{Bool, true, false, not}
use mathlib.Core.List.{List, [], ◌∷◌}
use mathlib.Core.Logic.{◌≢◌}
use mathlib.Core.Path.{◌≡◌, refl, ap, sym, ◌∙◌}
use lib.Dec.{eqb, ltb}
use lib.ListN.{length, take, drop, length-drop}
use Rattle.crc.specs.Crc.{crc32}
use Rattle.rules.specs.Calls.{first_of, ◌if◌}
use Rattle.rules.specs.Numbers.{number_at}
use Rattle.journal.specs.Journal.{size_at, kind_at, body_at, record_length, is_kind, holds, stop_at, entry_at}
use Rattle.journal.specs.Records.{Records, no_records, following, decode_first, decode}

-- ---- a whole record

pub record Whole (bytes : List ℕ) : Type 0 where
  pub head : number_at bytes 8 ≡ crc32 (take 8 bytes)
  pub long : record_length bytes ≤ length bytes
  pub body : number_at bytes (12 + size_at bytes) ≡ crc32 (body_at bytes)
  pub kind : is_kind (kind_at bytes) (size_at bytes) ≡ true

abbrev stop_if : Bool → Bool → Bool → Bool → Bool → Bool → ℕ
stop_if a b c d e f = first_of (1 if a ∷ 2 if b ∷ 3 if not c ∷ 2 if d ∷ 3 if not e ∷ 4 if not f ∷ [])

record Passed (c d e f : Bool) : Type 0 where
  head : c ≡ true
  long : d ≡ false
  body : e ≡ true
  kind : f ≡ true

passed : (a b c d e f : Bool) → stop_if a b c d e f ≡ 0 → Passed c d e f
passed true b c d e f z = absurd (omega arith)
passed false true c d e f z = absurd (omega arith)
passed false false false d e f z = absurd (omega arith)
passed false false true true e f z = absurd (omega arith)
passed false false true false false f z = absurd (omega arith)
passed false false true false true false z = absurd (omega arith)
passed false false true false true true z = record { head = refl; long = refl; body = refl; kind = refl }

pub stop_whole : (bytes : List ℕ) → stop_at bytes ≡ 0 → Whole bytes
unfolding stop_at
stop_whole bytes z =
    let p = passed (eqb (length bytes) 0) (ltb (length bytes) 12) (holds bytes 0 8)
    (ltb (length bytes) (record_length bytes)) (holds bytes 12 (size_at bytes))
    (is_kind (kind_at bytes) (size_at bytes)) z in
    record {
      head = eqb-true _ _ p.head;
      long = ltb-false _ _ p.long;
      body = eqb-true _ _ p.body;
      kind = p.kind;
    }

pub whole_stop : (bytes : List ℕ) → Whole bytes → stop_at bytes ≡ 0
unfolding stop_at
whole_stop bytes w =
    let l = w.long in
    let a : eqb (length bytes) 0 ≡ false = ne_eqb _ _ (λ (e : length bytes ≡ 0). omega arith) in
    let b : ltb (length bytes) 12 ≡ false = le-ltb (length bytes) 12 (omega arith) in
    let c : holds bytes 0 8 ≡ true = eq-eqb _ _ w.head in
    let d : ltb (length bytes) (record_length bytes) ≡ false = le-ltb _ _ l in
    let e : holds bytes 12 (size_at bytes) ≡ true = eq-eqb _ _ w.body in
    rw (a, b, c, d, e, w.kind) refl

-- The numbers of the stops.
pub stop_numbers : (bytes : List ℕ) → stop_at bytes ≤ 4
unfolding stop_at
stop_numbers bytes =
    go (eqb (length bytes) 0) (ltb (length bytes) 12) (holds bytes 0 8) (ltb (length bytes) (record_length bytes))
    (holds bytes 12 (size_at bytes)) (is_kind (kind_at bytes) (size_at bytes))
  where
    go : (a b c d e f : Bool) → stop_if a b c d e f ≤ 4
    go true b c d e f = omega arith
    go false true c d e f = omega arith
    go false false false d e f = omega arith
    go false false true true e f = omega arith
    go false false true false false f = omega arith
    go false false true false true false = omega arith
    go false false true false true true = omega arith

-- ---- reading record by record

pub data Reads : List ℕ → Records → Type 0 where
  stops : {bytes : List ℕ} → stop_at bytes ≢ 0 → Reads bytes no_records
  goes : {bytes : List ℕ} {r : Records} → Whole bytes → Reads (drop (record_length bytes) bytes) r
      → Reads bytes (following (entry_at bytes) (record_length bytes) r)

-- One record, from its test.
one_step : (n : ℕ) (bytes : List ℕ) (b : Bool) → eqb (stop_at bytes) 0 ≡ b
    → Reads (drop (record_length bytes) bytes) (decode_first n (drop (record_length bytes) bytes))
    → Reads bytes (elim b [
      | true ↦ following (entry_at bytes) (record_length bytes) (decode_first n (drop (record_length bytes) bytes))
      | false ↦ no_records
    ])
one_step n bytes true e r = goes (stop_whole bytes (eqb-true _ _ e)) r
one_step n bytes false e r =
    stops (λ z.
    let y : true ≡ false = sym (eq-eqb _ _ z) ∙ e in
    let q : ◌≡◌ {A = ℕ} 0 1 = cc in
    omega arith)

pub empty_stops : (bytes : List ℕ) → length bytes ≤ 0 → stop_at bytes ≢ 0
empty_stops bytes l e = let w = (stop_whole bytes e).long in omega arith

reads_first : (n : ℕ) (bytes : List ℕ) → length bytes ≤ n → Reads bytes (decode_first n bytes)
unfolding decode_first
reads_first zero bytes l = stops (empty_stops bytes l)
reads_first (suc n) bytes l =
    one_step n bytes (eqb (stop_at bytes) 0) refl
    (reads_first n (drop (record_length bytes) bytes) (simp length-drop (omega arith)))

pub reads : (bytes : List ℕ) → Reads bytes (decode bytes)
unfolding decode
reads bytes = reads_first (length bytes) bytes (omega arith)

-- There is one way to read.
pub reads_one : {bytes : List ℕ} {r s : Records} → Reads bytes r → Reads bytes s → r ≡ s
reads_one (stops x) (stops y) = refl
reads_one (stops {bytes} x) (goes w r) = absurd (x (whole_stop bytes w))
reads_one (goes {bytes} w r) (stops y) = absurd (y (whole_stop bytes w))
reads_one (goes {bytes} w r) (goes v s) = ap (following (entry_at bytes) (record_length bytes)) (reads_one r s)

pub decodes : {bytes : List ℕ} {r : Records} → Reads bytes r → decode bytes ≡ r
decodes {bytes} r = reads_one (reads bytes) r

-- What is read, one record and then the rest.
pub decode_goes : (bytes : List ℕ) → Whole bytes
    → decode bytes ≡ following (entry_at bytes) (record_length bytes) (decode (drop (record_length bytes) bytes))
decode_goes bytes w = decodes (goes w (reads (drop (record_length bytes) bytes)))

pub decode_stops : (bytes : List ℕ) → stop_at bytes ≢ 0 → decode bytes ≡ no_records
decode_stops bytes x = decodes (stops x)

-- The end is in the bytes.
pub goes_within : (a : List ℕ) (n : ℕ) → Whole a → n ≤ length (drop (record_length a) a) → record_length a + n ≤ length a
goes_within a n w h = let l = w.long in omega (arith, simp length-drop at h)

pub reads_within : {a : List ℕ} {r : Records} → Reads a r → r.end ≤ length a
reads_within (stops x) = omega arith
reads_within (goes {bytes = a} {r} w s) = goes_within a r.end w (reads_within s)
