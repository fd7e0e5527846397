-- The children of old triangles, as the tables keep them.
use Rattle.std.specs.Prelude.{ℕ, ◌+◌, ◌*◌, ◌/◌, ◌≤◌, ◌<◌, List, [], ◌∷◌, length, get_or}
use Rattle.theory.proofs.Steps.Children.{child_slot}
use Rattle.rules.specs.Tables.{next, put_three}
use Rattle.tables.specs.declared.Counts.{Counts}
use Rattle.dividing.specs.declared.Partner.{Partner}
use Rattle.dividing.specs.declared.Child.{Child}

-- What partner k tells, where there are v vertices and f triangles.
abbrev pub partner_of : ℕ → ℕ → ℕ → Partner
partner_of v f k = record { centre = v + k / 3; base = 3 * child_slot f k; spoke = 3 * child_slot f (next k) + 2 }

-- The child at a side, by what the partners of the side and of the side before it tell.
abbrev pub child_from : ℕ → ℕ → Partner → Partner → Child
child_from origin centre own before = record {
  corners = origin ∷ own.centre ∷ centre ∷ [];
  links = own.spoke ∷ (own.base + 1) ∷ before.base ∷ [];
}

-- The rows of the three sides of triangle t, each in its slot.
abbrev pub three_rows : ℕ → (ℕ → ℕ) → (ℕ → ℕ × ℕ × ℕ) → List ℕ → List ℕ
three_rows t slot row l =
    put_three (slot (3 * t + 2)) (row (3 * t + 2))
    (put_three (slot (3 * t + 1)) (row (3 * t + 1)) (put_three (slot (3 * t)) (row (3 * t)) l))

-- Triangle t is linked to old triangles, and there is room for the children of all.
pub record Fits (n : Counts) (t : ℕ) (corners links : List ℕ) : Type 0 where
  pub few_vertices : n.vertices + n.triangles ≤ 32768
  pub few_triangles : 3 * n.triangles ≤ 65536
  pub in_use : t < n.triangles
  pub corner_room : 9 * n.triangles ≤ length corners
  pub link_room : 9 * n.triangles ≤ length links
  pub first : get_or links (3 * t) 0 < 3 * n.triangles
  pub second : get_or links (3 * t + 1) 0 < 3 * n.triangles
  pub third : get_or links (3 * t + 2) 0 < 3 * n.triangles
