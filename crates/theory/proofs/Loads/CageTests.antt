-- The tests of a cage decide the conditions on it.
use mathlib.Core.Path.{◌≡◌, sym}
use mathlib.Core.List.{List}
use Prim.Native.Nat.{ℕ, ◌+◌, ◌*◌, ◌<◌}
use native.Mathlib.Omega.{arith}
use native.Mathlib.Decide.{ℕ_discrete, dec_lt}
use lib.ListN.{length}
use Rattle.theory.proofs.Numbers.Decide.{Decides, is_eq, is_lt, is_le, is_not, is_iff, is_and, is_all}
use Rattle.theory.proofs.Soundness.SoundTest.{in_range_is}
use Rattle.rules.specs.Cage.{Cage, cage_of, parallel, sizes_fit, corners_fit, coordinates_fit, sides_differ}
use Rattle.rules.specs.Conditions.{SizesFit, CornersFit, CoordinatesFit, SidesDiffer}
use Rattle.rules.specs.Tables.{Mesh, next, vertex_slots, triangle_slots}

pub sizes_fit_is : (bytes : List ℕ) (m : Mesh) → Decides (sizes_fit bytes m) (SizesFit bytes m)
unfolding sizes_fit
sizes_fit_is bytes m =
    let c : Cage = cage_of bytes in
    is_iff
    (λ x. record {
      header = x.0.0.0.0.0;
      some_vertex = x.0.0.0.0.1;
      some_triangle = x.0.0.0.1;
      vertex_room = x.0.0.1;
      triangle_room = x.0.1;
      size = x.1;
    })
    (λ S. (((((S.header, S.some_vertex), S.some_triangle), S.vertex_room), S.triangle_room), S.size))
    (is_and (is_and (is_and (is_and (is_and
    (is_le 8 (length bytes))
    (is_le 1 c.vertices))
    (is_le 1 c.triangles))
    (is_le c.vertices (vertex_slots m)))
    (is_le c.triangles (triangle_slots m)))
    (is_eq (length bytes) (8 + 12 * (c.vertices + c.triangles))))

pub corners_fit_is : (c : Cage) → Decides (corners_fit c) (CornersFit c)
unfolding corners_fit
corners_fit_is c =
    is_iff (λ x. record { corner = λ h l. (x h l).0; distinct = λ h l. (x h l).1 })
    (λ K h l. (K.corner h l, K.distinct h l))
    (is_all (3 * c.triangles) _ _ (λ h l.
    is_and (is_lt (c.corner h) c.vertices) (is_not (is_eq (c.corner h) (c.corner (next h))))))

pub coordinates_fit_is : (c : Cage) → Decides (coordinates_fit c) (CoordinatesFit c)
unfolding coordinates_fit
coordinates_fit_is c = is_all (3 * c.vertices) _ _ (λ i l. in_range_is (c.coordinate i))

-- Side k runs between the vertices of side h the same way.
abbrev Parallel : Cage → ℕ → ℕ → Type 0
Parallel c h k = (c.corner k ≡ c.corner h) × (c.corner (next k) ≡ c.corner (next h))

parallel_is : (c : Cage) (h k : ℕ) → Decides (parallel c h k) (Parallel c h k)
parallel_is c h k = is_and (is_eq (c.corner k) (c.corner h)) (is_eq (c.corner (next k)) (c.corner (next h)))

pub sides_differ_is : (c : Cage) → Decides (sides_differ c) (SidesDiffer c)
unfolding sides_differ
sides_differ_is c = is_iff differ (λ D h l k i x. let e = D k h (omega arith) l x.0 x.1 in omega arith)
    (is_all (3 * c.triangles) _ _ (λ h l. is_all h _ _ (λ k i. is_not (parallel_is c h k))))
  where
    differ : ((h : ℕ) → h < 3 * c.triangles → (k : ℕ) → k < h → ¬ Parallel c h k) → SidesDiffer c
    differ n h k l i a b = go (ℕ_discrete h k) (dec_lt h k)
      where
        go : Dec (h ≡ k) → Dec (h < k) → h ≡ k
        go (yes e) d = e
        go (no e) (yes q) = absurd (n k i h q (a, b))
        go (no e) (no q) = absurd (n h l k (omega arith) (sym a, sym b))
