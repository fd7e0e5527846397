-- Marks on numbers, as bits in a table of 64-bit words, and a second table that marks the words which are not 0.
use Rattle.std.specs.Prelude.{ℕ, ◌*◌, ◌/◌, ◌%◌, ◌^◌, ◌≤◌, Bool, true, false, not, List, ◌≡◌, eqb, length, get_or}

-- Bit j of x, the lowest being bit 0.
unfoldable pub bit_at : ℕ → ℕ → Bool
bit_at x j = eqb (x / 2 ^ j % 2) 1

-- Whether i is marked, which bit i % 64 of word i / 64 says. Nothing is marked past the table.
unfoldable pub marked : List ℕ → ℕ → Bool
marked table i = bit_at (get_or table (i / 64) 0) (i % 64)

-- The upper table marks i exactly where word i of the lower one is not 0, and has room to do so for every word.
pub record Levels (bits words : List ℕ) : Type 0 where
  pub above : (i : ℕ) → marked words i ≡ not (eqb (get_or bits i 0) 0)
  pub room : length bits ≤ 64 * length words

-- The table after is the table before with the mark of i on or off, and differs in the word of i alone.
pub record MarkPut (i : ℕ) (on : Bool) (before after : List ℕ) : Type 0 where
  pub marks : (j : ℕ) → marked after j ≡ elim (eqb j i) [ true ↦ on | false ↦ marked before j ]
  pub others : (k : ℕ) → ¬ (k ≡ i / 64) → get_or after k 0 ≡ get_or before k 0
  pub size : length after ≡ length before
