-- Numbers in rising order, in a list in which they end at place 32.
use Rattle.std.specs.Prelude.{ℕ, suc, ◌≤◌, ◌<◌, List, ◌⊎◌, ◌≡◌, length, get_or}
use Rattle.rules.specs.Tables.{boundary}

-- They stand behind place a; the boundary's number stands in the four places after them.
pub record Rising (l : List ℕ) (a : ℕ) : Type 0 where
  pub within : a ≤ 32
  pub size : 36 < length l
  pub rises : (i : ℕ) → a < i → i < 32 → get_or l i 0 < get_or l (suc i) 0
  pub after : (i : ℕ) → 32 < i → i < 37 → get_or l i 0 ≡ boundary

-- y is one of them.
abbrev pub Among : List ℕ → ℕ → ℕ → Type 0
Among l a y = (i : ℕ) × (a < i) × (i ≤ 32) × (get_or l i 0 ≡ y)

-- The entries from place a up to b stand one place earlier.
pub record Moved (l : List ℕ) (a b : ℕ) (k : List ℕ) : Type 0 where
  pub before : (i : ℕ) → suc i < a → get_or k i 0 ≡ get_or l i 0
  pub moved : (i : ℕ) → a ≤ suc i → suc i < b → get_or k i 0 ≡ get_or l (suc i) 0
  pub after : (i : ℕ) → b ≤ i → get_or k i 0 ≡ get_or l i 0

-- Those behind place a up to b are below x, too; the one at b has not moved yet.
pub record Passed (l : List ℕ) (a x b : ℕ) (k : List ℕ) : Type 0 where
  pub begins : a ≤ b
  pub ends : b ≤ 32
  pub moved : Moved l a b k
  pub below : (i : ℕ) → a < i → i ≤ b → get_or l i 0 < x

-- The entries from place a up to b stand one place earlier, and those from b on in theirs. What stands before them is
-- left open.
pub record Back (l : List ℕ) (a b : ℕ) (k : List ℕ) : Type 0 where
  pub moved : (i : ℕ) → a ≤ suc i → suc i < b → get_or k i 0 ≡ get_or l (suc i) 0
  pub after : (i : ℕ) → a < i → b ≤ i → get_or k i 0 ≡ get_or l i 0

-- Those of k, behind place r, are those of l, behind place a, with the numbers that P names.
pub record Adds (l : List ℕ) (a : ℕ) (P : ℕ → Type 0) (k : List ℕ) (r : ℕ) : Type 0 where
  pub rises : Rising k r
  pub kept : (y : ℕ) → Among l a y → Among k r y
  pub added : (y : ℕ) → P y → Among k r y
  pub only : (y : ℕ) → Among k r y → Among l a y ⊎ P y
