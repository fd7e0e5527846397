-- The whole numbers of the scheme: coordinates, thirds, rounding, weights.
use Rattle.std.specs.Prelude.{ℕ, suc, ◌+◌, ◌*◌, ◌/◌, Bool, true, false, ◌&&◌, ◌||◌, ◌⊎◌, ◌≡◌, List, [], ◌∷◌, ℤ, pos, negsuc, neg_ℤ, ◌+ℤ◌, ◌-ℤ◌, ◌*ℤ◌, eqb, ltb, get_or, ◌≤ℤ◌}
use Rattle.std.specs.Int.Signed.{le_z}

-- The number in the four bytes from place i on, low byte first. (The cage and the lent tables)
unfoldable pub number_at : List ℕ → ℕ → ℕ
number_at bytes i =
    get_or bytes i 0 + 256 * get_or bytes (i + 1) 0 + 65536 * get_or bytes (i + 2) 0 + 16777216 * get_or bytes (i + 3) 0

-- The signed number, in two's complement, of four bytes whose unsigned number is n. (The cage and the lent tables)
unfoldable pub signed : ℕ → ℤ
signed n = elim (ltb n 2147483648) [ true ↦ pos n | false ↦ pos n -ℤ pos 4294967296 ]

-- The greatest coordinate; the least is its opposite. (The cage and the lent tables)
abbrev pub max_coordinate : ℕ
max_coordinate = 16777216

-- A coordinate in range. (The cage and the lent tables, "Sound")
pub record InRange (z : ℤ) : Type 0 where
  pub low : neg_ℤ (pos max_coordinate) ≤ℤ z
  pub high : z ≤ℤ pos max_coordinate

-- The same as a test.
abbrev pub in_range : ℤ → Bool
in_range z = le_z (neg_ℤ (pos max_coordinate)) z && le_z z (pos max_coordinate)

-- z / m, rounded down; `negsuc a` is -1 - a.
unfoldable pub floor_div : ℤ → ℕ → ℤ
floor_div (pos a) m = pos (a / m)
floor_div (negsuc a) m = negsuc (a / m)

-- The whole number nearest to s / 3. (Face split and flip)
unfoldable pub nearest_third : ℤ → ℤ
nearest_third s = floor_div (s +ℤ pos 1) 3

-- n / d to the nearest, half going up. (Whole step; request n)
unfoldable pub half_up : ℤ → ℕ → ℤ
half_up n d = floor_div (pos 2 *ℤ n +ℤ pos d) (2 * d)

-- The rules of rounding: 1 takes a half up, 2 away from zero. (Request c)
abbrev pub KnownRule : ℕ → Type 0
KnownRule rule = (rule ≡ 1) ⊎ (rule ≡ 2)

-- The same as a test.
abbrev pub known_rule : ℕ → Bool
known_rule rule = eqb rule 1 || eqb rule 2

-- n / d to the nearest by this rule: a half goes up, but by rule 2 below zero down, to the opposite of what its
-- opposite goes to. (Whole step; request c)
unfoldable pub rounded : ℕ → ℤ → ℕ → ℤ
rounded rule (pos a) d = half_up (pos a) d
rounded rule (negsuc a) d = elim (eqb rule 2) [ true ↦ neg_ℤ (half_up (pos (suc a)) d) | false ↦ half_up (negsuc a) d ]

-- The weight, out of 65536, of a vertex with 2 to 12 ring entries; 0 and 1 have none. It is Kobbelt's (6),
-- (4 - 2 cos(2π/n)) / 9, to the nearest; the table decides. (Whole step)
unfoldable pub weights : List ℕ
weights = 0 ∷ 0 ∷ 43691 ∷ 36409 ∷ 29127 ∷ 24627 ∷ 21845 ∷ 20047 ∷ 18829 ∷ 17971 ∷ 17345 ∷ 16875 ∷ 16515 ∷ []

-- The weight for n ring entries.
unfoldable pub weight : ℕ → ℕ
weight n = get_or weights n 0

-- Where a vertex moves, in one coordinate: it is at p and has n ring entries that add up to s. Kobbelt's (2) as N / D,
-- with N = n (65536 - w) p + w s and D = 65536 n, rounded by the rule. (Whole step; request c)
unfoldable pub moved : ℕ → ℕ → ℤ → ℤ → ℤ
moved rule n p s = rounded rule (pos n *ℤ (pos 65536 -ℤ pos (weight n)) *ℤ p +ℤ pos (weight n) *ℤ s) (65536 * n)

-- Where ever more whole steps without rounding would take a vertex, in one coordinate: it is at p and has n ring
-- entries that add up to s. Kobbelt's (7) at infinity, the limit point of his (8), rounded by the rule. (Requests a, c)
unfoldable pub limit : ℕ → ℕ → ℤ → ℤ → ℤ
limit rule n p s = rounded rule (pos (65536 * n) *ℤ p +ℤ pos (3 * weight n) *ℤ s) (n * (65536 + 3 * weight n))
