-- Records written out, as another program with the CRC-32 of zlib writes them.
use mathlib.Core.Bool.{true, false}
use mathlib.Core.List.{[], ◌∷◌}
use mathlib.Core.Path.{◌≡◌, refl}
use lib.IntN.{pos, negsuc}
use Rattle.crc.specs.Crc.{crc_bit, crc_byte, crc_from, crc32}
use Rattle.journal.specs.Journal.{loaded, refined, stepped, refined_each, refined_in_box, lock_set, taken_back}
use Rattle.journal.specs.Journal.{four_bytes, bytes_of, record_of, encode, header_of}

-- The header for the most slots.
header_written : header_of 32768 65536
    ≡
    82 ∷ 80 ∷ 76 ∷ 74 ∷ 1 ∷ 0 ∷ 0 ∷ 0 ∷ 0 ∷ 128 ∷ 0 ∷ 0 ∷ 0 ∷ 0 ∷ 1 ∷ 0 ∷ 237 ∷ 68 ∷ 237 ∷ 203 ∷ []
unfolding crc32 crc_from crc_byte crc_bit four_bytes header_of
header_written = refl

-- A whole step.
step_written : encode stepped
    ≡
    0 ∷ 0 ∷ 0 ∷ 0 ∷ 3 ∷ 0 ∷ 0 ∷ 0 ∷ 135 ∷ 112 ∷ 151 ∷ 119 ∷ 0 ∷ 0 ∷ 0 ∷ 0 ∷ []
unfolding crc32 crc_from crc_byte crc_bit four_bytes record_of
step_written = refl

-- A refine of triangle 260.
refine_written : encode (refined 260)
    ≡
    4 ∷ 0 ∷ 0 ∷ 0 ∷ 2 ∷ 0 ∷ 0 ∷ 0 ∷ 24 ∷ 25 ∷ 97 ∷ 75 ∷ 4 ∷ 1 ∷ 0 ∷ 0 ∷ 124 ∷ 34 ∷ 228 ∷ 175 ∷ []
unfolding crc32 crc_from crc_byte crc_bit four_bytes record_of
refine_written = refl

-- A lock set.
lock_written : encode (lock_set true 1)
    ≡
    4 ∷ 0 ∷ 0 ∷ 0 ∷ 6 ∷ 0 ∷ 0 ∷ 0 ∷ 79 ∷ 142 ∷ 3 ∷ 196 ∷ 1 ∷ 0 ∷ 0 ∷ 0 ∷ 121 ∷ 184 ∷ 248 ∷ 153 ∷ []
unfolding crc32 crc_from crc_byte crc_bit four_bytes record_of
lock_written = refl

-- A lock cleared.
unlock_written : encode (lock_set false 1)
    ≡
    4 ∷ 0 ∷ 0 ∷ 0 ∷ 7 ∷ 0 ∷ 0 ∷ 0 ∷ 42 ∷ 233 ∷ 191 ∷ 124 ∷ 1 ∷ 0 ∷ 0 ∷ 0 ∷ 121 ∷ 184 ∷ 248 ∷ 153 ∷ []
unfolding crc32 crc_from crc_byte crc_bit four_bytes record_of
unlock_written = refl

-- A list.
list_written : encode (refined_each (7 ∷ 65536 ∷ []))
    ≡
    8 ∷ 0 ∷ 0 ∷ 0 ∷ 4 ∷ 0 ∷ 0 ∷ 0 ∷ 139 ∷ 83 ∷ 165 ∷ 57 ∷ 7 ∷ 0 ∷ 0 ∷ 0 ∷ 0 ∷ 0 ∷ 1 ∷ 0 ∷ 49 ∷ 231 ∷ 252 ∷
    118 ∷ []
unfolding crc32 crc_from crc_byte crc_bit four_bytes record_of bytes_of
list_written = refl

-- A box from (-1, -2, 0) to (1, 2, 3), below generation 4.
box_written :
    encode (refined_in_box (record { low = (negsuc 0, negsuc 1, pos 0); high = (pos 1, pos 2, pos 3); below = 4 }))
    ≡
    28 ∷ 0 ∷ 0 ∷ 0 ∷ 5 ∷ 0 ∷ 0 ∷ 0 ∷ 63 ∷ 11 ∷ 232 ∷ 121 ∷ 255 ∷ 255 ∷ 255 ∷ 255 ∷ 254 ∷ 255 ∷ 255 ∷ 255 ∷ 0 ∷
    0 ∷ 0 ∷ 0 ∷ 1 ∷ 0 ∷ 0 ∷ 0 ∷ 2 ∷ 0 ∷ 0 ∷ 0 ∷ 3 ∷ 0 ∷ 0 ∷ 0 ∷ 4 ∷ 0 ∷ 0 ∷ 0 ∷ 189 ∷ 48 ∷ 90 ∷ 97 ∷ []
unfolding crc32 crc_from crc_byte crc_bit four_bytes record_of bytes_of
box_written = refl

-- A load by rule 2 of the bytes 1 2 3.
load_written : encode (loaded 2 (1 ∷ 2 ∷ 3 ∷ []))
    ≡
    7 ∷ 0 ∷ 0 ∷ 0 ∷ 1 ∷ 0 ∷ 0 ∷ 0 ∷ 21 ∷ 177 ∷ 91 ∷ 215 ∷ 2 ∷ 0 ∷ 0 ∷ 0 ∷ 1 ∷ 2 ∷ 3 ∷ 88 ∷ 151 ∷ 14 ∷ 160 ∷ []
unfolding crc32 crc_from crc_byte crc_bit four_bytes record_of
load_written = refl

-- A take-back with a short note.
back_written : encode (taken_back (5 ∷ []))
    ≡
    4 ∷ 0 ∷ 0 ∷ 0 ∷ 8 ∷ 0 ∷ 0 ∷ 0 ∷ 124 ∷ 249 ∷ 220 ∷ 36 ∷ 5 ∷ 0 ∷ 0 ∷ 0 ∷ 46 ∷ 47 ∷ 154 ∷ 22 ∷ []
unfolding crc32 crc_from crc_byte crc_bit four_bytes record_of bytes_of
back_written = refl
