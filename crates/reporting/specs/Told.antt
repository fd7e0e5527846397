-- Reports in a lent buffer.
use Rattle.std.specs.Prelude.{List, [], ◌++◌, ◌≡◌, ℕ, zero, suc, ◌+◌, ◌≤◌, length}
use Rattle.rules.specs.Reports.{report_in}

-- A buffer, before and after, is told these entries from place `at` to place `end`, where it has room for them: if it
-- held a report of so many entries, it then holds the report with these more.
pub record Tells (more before after : List ℕ) (at end : ℕ) : Type 0 where
  pub size : length after ≡ length before
  pub told : at + length more ≤ length before
      → (end ≡ at + length more)
      × ((l buffer : List ℕ) → length l ≡ at → before ≡ report_in l buffer → after ≡ report_in (l ++ more) buffer)

-- The same, to some place.
abbrev pub Told : List ℕ → List ℕ → List ℕ → ℕ → Type 0
Told more before after at = (end : ℕ) × Tells more before after at end

-- What is told of work that may be refused.
abbrev pub told_unless : ℕ → List ℕ → List ℕ
told_unless zero l = l
told_unless (suc n) l = []
