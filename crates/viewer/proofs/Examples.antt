-- What a viewer is given, computed from the definitions.
use Rattle.std.proofs.Common.{ℕ, ◌*◌, List, [], ◌∷◌, map, pos, negsuc, ◌≡◌, refl, Float}
use lib.Ieee.{binary32, div, of_int, to_bits}
use Rattle.rules.proofs.Computing.{computing}
use Rattle.rules.specs.Calls.{position_call}
use Rattle.rules.specs.Tables.{Mesh, topology_of, mesh_of, boundary}
use Rattle.viewer.specs.declared.Seen.TheVariants as Seen·
use Rattle.viewer.specs.View.{millimetres, seen_of, shown, table_after}

-- One triangle, from vertex 2 over 0 to 1. Coordinate k of vertex v is 3 v + k millimetres.
unfoldable pub triangle : Mesh
triangle =
    mesh_of (topology_of 3 1 (2 ∷ 0 ∷ 1 ∷ []) (boundary ∷ boundary ∷ boundary ∷ []) (0 ∷ []))
    (map (λ n. pos (1024 * n)) (0 ∷ 1 ∷ 2 ∷ 3 ∷ 4 ∷ 5 ∷ 6 ∷ 7 ∷ 8 ∷ [])) (0 ∷ []) 1

unfoldable pub wholes : List ℕ → List Float
wholes = map (λ n. of_int binary32 (pos n))

pub record Computed : Type 0 where
  -- The bits of 0, 1/1024, -1/1024 and 1 mm, of the greatest and the least coordinate and of the odd ones beside them;
  -- and past the range, where the next number is rounded.
  pub coordinates : map (λ z. to_bits binary32 (millimetres z))
      (pos 0 ∷ pos 1 ∷ negsuc 0 ∷ pos 1024 ∷ pos 16777216 ∷ pos 16777215 ∷ negsuc 16777215 ∷ negsuc 16777214
      ∷ pos 16777217 ∷ [])
      ≡ 0 ∷ 981467136 ∷ 3128950784 ∷ 1065353216 ∷ 1182793728 ∷ 1182793727 ∷ 3330277376 ∷ 3330277375
      ∷ 1182793728 ∷ []
  -- The last vertex, and the one after it.
  pub last_seen : seen_of (position_call 2 triangle)
      ≡ Seen·.Point (record { x = millimetres (pos 6144); y = millimetres (pos 7168); z = millimetres (pos 8192) })
  pub next_unseen : seen_of (position_call 3 triangle) ≡ Seen·.Refused 8
  -- All triangles into a table of 11, whose last two entries stay, and into one of 8, which is refused.
  pub all : table_after triangle (wholes (9 ∷ 9 ∷ 9 ∷ 9 ∷ 9 ∷ 9 ∷ 9 ∷ 9 ∷ 9 ∷ 9 ∷ 9 ∷ []))
      ≡ wholes (6 ∷ 7 ∷ 8 ∷ 0 ∷ 1 ∷ 2 ∷ 3 ∷ 4 ∷ 5 ∷ 9 ∷ 9 ∷ [])
  pub short : table_after triangle (wholes (9 ∷ 9 ∷ 9 ∷ 9 ∷ 9 ∷ 9 ∷ 9 ∷ 9 ∷ []))
      ≡ wholes (9 ∷ 9 ∷ 9 ∷ 9 ∷ 9 ∷ 9 ∷ 9 ∷ 9 ∷ [])

pub computed : Computed
unfolding computing triangle wholes millimetres shown div of_int to_bits
computed = record { coordinates = refl; last_seen = refl; next_unseen = refl; all = refl; short = refl }
