-- A journal: a header, and a record for each change that was carried out, as bytes. Numbers have four bytes, low byte
-- first.
--
--     header   RPLJ | version, 1 | vertex slots | triangle slots | CRC-32 of these 16 bytes
--     record   size of the body | kind | CRC-32 of these 8 bytes | body | CRC-32 of the body
--
--     kind     1 load             its rule, and the cage's bytes
--              2 refine           the triangle
--              3 whole step       nothing
--              4 list             its triangles
--              5 box              low corner, high corner, generation: seven numbers, coordinates in two's complement
--              6 lock, 7 unlock   the triangle
--              8 take-back        its note
use Rattle.std.specs.Prelude.{ℕ, zero, suc, ◌+◌, ◌-◌, ◌*◌, ◌/◌, ◌%◌, Bool, true, false, not, ◌&&◌, ◌||◌, List, [], ◌∷◌, ◌++◌, eqb, ltb, leb, ℤ, pos, negsuc, length, take, drop}
use Rattle.crc.specs.Crc.{crc32}
use Rattle.rules.specs.Boxes.{Box}
use Rattle.rules.specs.Calls.{first_of, ◌if◌}
use Rattle.rules.specs.Numbers.{number_at, signed}

-- A change as it is recorded, without what is lent for it: a rule and a cage's bytes; a triangle; nothing; triangles; a
-- box; whether to set or to clear, and a triangle; a note.
pub data Entry : Type 0 where
  loaded : ℕ → List ℕ → Entry
  refined : ℕ → Entry
  stepped : Entry
  refined_each : List ℕ → Entry
  refined_in_box : Box → Entry
  lock_set : Bool → ℕ → Entry
  taken_back : List ℕ → Entry

-- ---- writing

-- The bytes of a number, and of some numbers.
unfoldable pub four_bytes : ℕ → List ℕ
four_bytes n = (n % 256) ∷ (n / 256 % 256) ∷ (n / 65536 % 256) ∷ (n / 16777216 % 256) ∷ []

unfoldable pub bytes_of : List ℕ → List ℕ
bytes_of [] = []
bytes_of (n ∷ rest) = four_bytes n ++ bytes_of rest

-- The number whose signed one is z; `negsuc a` is -1 - a.
abbrev pub unsigned : ℤ → ℕ
unsigned (pos a) = a
unsigned (negsuc a) = 4294967295 - a

-- The numbers of a box.
abbrev pub box_numbers : Box → List ℕ
box_numbers b =
    unsigned b.low.0 ∷ unsigned b.low.1 ∷ unsigned b.low.2
    ∷ unsigned b.high.0 ∷ unsigned b.high.1 ∷ unsigned b.high.2 ∷ b.below ∷ []

-- The kind and the body of a change.
abbrev pub kind_of : Entry → ℕ
kind_of (loaded rule cage) = 1
kind_of (refined t) = 2
kind_of stepped = 3
kind_of (refined_each list) = 4
kind_of (refined_in_box box) = 5
kind_of (lock_set true t) = 6
kind_of (lock_set false t) = 7
kind_of (taken_back note) = 8

abbrev pub body_of : Entry → List ℕ
body_of (loaded rule cage) = four_bytes rule ++ cage
body_of (refined t) = four_bytes t
body_of stepped = []
body_of (refined_each list) = bytes_of list
body_of (refined_in_box box) = bytes_of (box_numbers box)
body_of (lock_set on t) = four_bytes t
body_of (taken_back note) = bytes_of note

-- Some bytes with their checksum.
abbrev pub sealed : List ℕ → List ℕ
sealed bytes = bytes ++ four_bytes (crc32 bytes)

-- The record of a kind and a body; of a change; the header.
unfoldable pub record_of : ℕ → List ℕ → List ℕ
record_of kind body = sealed (four_bytes (length body) ++ four_bytes kind) ++ sealed body

abbrev pub encode : Entry → List ℕ
encode e = record_of (kind_of e) (body_of e)

unfoldable pub header_of : ℕ → ℕ → List ℕ
header_of vertex_slots triangle_slots =
    sealed (four_bytes 1246515282 ++ four_bytes 1 ++ four_bytes vertex_slots ++ four_bytes triangle_slots)

-- So many bytes are written to a buffer of this length: they fit, and a body's size has four bytes.
abbrev pub is_room : ℕ → ℕ → Bool
is_room n room = leb n 4294967311 && leb n room

-- The length of what is written and the buffer with it at the front; else 0 and the buffer as it stood.
abbrev pub wrote_if : Bool → List ℕ → List ℕ → ℕ × List ℕ
wrote_if true bytes buffer = (length bytes, bytes ++ drop (length bytes) buffer)
wrote_if false bytes buffer = (0, buffer)

unfoldable pub wrote : List ℕ → List ℕ → ℕ × List ℕ
wrote bytes buffer = wrote_if (is_room (length bytes) (length buffer)) bytes buffer

-- ---- reading

-- The first n numbers of some bytes.
unfoldable pub numbers_in : ℕ → List ℕ → List ℕ
numbers_in zero bytes = []
numbers_in (suc n) bytes = number_at bytes 0 ∷ numbers_in n (drop 4 bytes)

-- The size, the kind and the body of the record at the front.
abbrev pub size_at : List ℕ → ℕ
size_at bytes = number_at bytes 0

abbrev pub kind_at : List ℕ → ℕ
kind_at bytes = number_at bytes 4

abbrev pub body_at : List ℕ → List ℕ
body_at bytes = take (size_at bytes) (drop 12 bytes)

-- The length of that record.
abbrev pub record_length : List ℕ → ℕ
record_length bytes = 16 + size_at bytes

-- A change of this kind may have a body of this size.
unfoldable pub is_kind : ℕ → ℕ → Bool
is_kind kind size =
    (eqb kind 1 && leb 4 size)
    || (eqb size 4 && (eqb kind 2 || eqb kind 6 || eqb kind 7))
    || (eqb size 0 && eqb kind 3)
    || (eqb (size % 4) 0 && (eqb kind 4 || eqb kind 8))
    || (eqb size 28 && eqb kind 5)

-- The n bytes from place i on have their checksum behind them.
abbrev pub holds : List ℕ → ℕ → ℕ → Bool
holds bytes i n = eqb (number_at bytes (i + n)) (crc32 (take n (drop i bytes)))

-- Why no record is at the front: 1 nothing is left, 2 it is torn, 3 a checksum does not hold, 4 there is no such kind;
-- else 0.
unfoldable pub stop_at : List ℕ → ℕ
stop_at bytes =
    first_of (
    1 if eqb (length bytes) 0
    ∷ 2 if ltb (length bytes) 12
    ∷ 3 if not (holds bytes 0 8)
    ∷ 2 if ltb (length bytes) (record_length bytes)
    ∷ 3 if not (holds bytes 12 (size_at bytes))
    ∷ 4 if not (is_kind (kind_at bytes) (size_at bytes)) ∷ [])

-- The same of the header, which is to be of tables with these slots; 6 where it is of others.
unfoldable pub header_stop : ℕ → ℕ → List ℕ → ℕ
header_stop vertex_slots triangle_slots bytes =
    first_of (
    1 if eqb (length bytes) 0
    ∷ 2 if ltb (length bytes) 20
    ∷ 3 if not (holds bytes 0 16)
    ∷ 4 if not (eqb (number_at bytes 0) 1246515282 && eqb (number_at bytes 4) 1)
    ∷ 6 if not (eqb (number_at bytes 8) vertex_slots && eqb (number_at bytes 12) triangle_slots) ∷ [])

-- The box of seven numbers.
abbrev pub box_in : List ℕ → Box
box_in body =
    let at : ℕ → ℤ = λ i. signed (number_at body (4 * i)) in
    record { low = (at 0, at 1, at 2); high = (at 3, at 4, at 5); below = number_at body 24 }

-- One change or the other.
abbrev pub either : Bool → Entry → Entry → Entry
either true e f = e
either false e f = f

-- The change of a kind and a body.
unfoldable pub entry_of : ℕ → List ℕ → Entry
entry_of kind body =
    let numbers = numbers_in (length body / 4) body in
    let t = number_at body 0 in
    either (eqb kind 1) (loaded t (drop 4 body))
    (either (eqb kind 2) (refined t)
    (either (eqb kind 3) stepped
    (either (eqb kind 4) (refined_each numbers)
    (either (eqb kind 5) (refined_in_box (box_in body))
    (either (eqb kind 6) (lock_set true t)
    (either (eqb kind 7) (lock_set false t) (taken_back numbers)))))))

-- The change of the record at the front.
abbrev pub entry_at : List ℕ → Entry
entry_at bytes = entry_of (kind_at bytes) (body_at bytes)
