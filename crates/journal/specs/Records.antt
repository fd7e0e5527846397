-- The records of some changes, and what any bytes hold of them: what theorems about journals speak of, and no call
-- computes.
use Rattle.std.specs.Prelude.{ℕ, zero, suc, ◌+◌, true, false, List, [], ◌∷◌, ◌++◌, eqb, length, drop}
use Rattle.journal.specs.Journal.{Entry, encode, stop_at, entry_at, record_length}

-- The records of some changes.
unfoldable pub records_of : List Entry → List ℕ
records_of [] = []
records_of (e ∷ rest) = encode e ++ records_of rest

-- What some bytes hold: the changes of the records that they begin with, and where the first part starts that is none.
pub record Records : Type 0 where
  pub entries : List Entry
  pub end : ℕ

abbrev pub no_records : Records
no_records = record { entries = []; end = 0 }

-- A record of this length before the others.
abbrev pub following : Entry → ℕ → Records → Records
following e n r = record { entries = e ∷ r.entries; end = n + r.end }

-- At most n of them; there are no more records than bytes.
unfoldable pub decode_first : ℕ → List ℕ → Records
decode_first zero bytes = no_records
decode_first (suc n) bytes = elim (eqb (stop_at bytes) 0) [
  | true ↦ following (entry_at bytes) (record_length bytes) (decode_first n (drop (record_length bytes) bytes))
  | false ↦ no_records
]

unfoldable pub decode : List ℕ → Records
decode bytes = decode_first (length bytes) bytes
