-- The entries of a ring are vertices in use, and there is one.
use mathlib.Core.Bool.{Bool, true, false}
use mathlib.Core.List.{List, [], ◌∷◌}
use Prim.Native.Nat.{ℕ, suc, ◌+◌, ◌*◌, ◌≤◌, ◌<◌}
use native.Mathlib.Omega.{arith}
use lib.ListN.{length}
use lib.Dec.{eqb}
use Rattle.theory.proofs.Numbers.Entries.{Each}
use Rattle.theory.proofs.Rings.Fans.{side_at}
use Rattle.theory.proofs.Rings.RingTheory.{ring_makes}
use Rattle.theory.proofs.Links.Sides.{next_lt, previous_lt}
use Rattle.rules.specs.Numbers.{InRange}
use Rattle.rules.specs.Promises.{RingMakes}
use Rattle.rules.specs.Ring.{fan, neighbours, ring}
use Rattle.rules.specs.Sound.{Sound}
use Rattle.rules.specs.Tables.{Topology, Mesh, sides, next, previous, origin, boundary, rotate, coordinate}

-- What holds at every place of a list holds of each entry.
each_at : (P : ℕ → Type 0) (l : List ℕ) → ((i : ℕ) → i < length l → P (side_at l i)) → Each P l
each_at P [] f = tt
each_at P (x ∷ l) f = (f 0 (omega arith), each_at P l (λ i k. f (suc i) (omega arith)))

-- Neighbours along sides in use are corners in use.
neighbours_each : (m : Topology) (P : ℕ → Type 0) → ((h : ℕ) → h < sides m → P (origin m h)) → (l : List ℕ)
    → Each (λ h. h < sides m) l → Each P (neighbours m l)
unfolding neighbours
neighbours_each m P f [] a = tt
neighbours_each m P f (h ∷ []) a = (f (next h) (next_lt h m.triangles a.0), go (eqb (rotate m h) boundary))
  where
    go : (b : Bool) → Each P (elim b [ true ↦ origin m (previous h) ∷ [] | false ↦ [] ])
    go true = (f (previous h) (previous_lt h m.triangles a.0), tt)
    go false = tt
neighbours_each m P f (h ∷ k ∷ l) a =
    (f (next h) (next_lt h m.triangles a.0), neighbours_each m P f (k ∷ l) a.1)

neighbours_some : (m : Topology) (l : List ℕ) → 0 < length l → 1 ≤ length (neighbours m l)
unfolding neighbours
neighbours_some m [] a = a
neighbours_some m (h ∷ []) a = omega arith
neighbours_some m (h ∷ k ∷ l) a = omega arith

module _ {m : Mesh} (S : Sound m) (v : ℕ) (b : v < m.topology.vertices) where
  R : RingMakes m.topology v
  R = ring_makes S v b

  pub ring_coordinates : (k : ℕ) → k < 3 → Each (λ u. InRange (coordinate m u k)) (ring m.topology v)
  unfolding ring
  ring_coordinates k i =
      neighbours_each m.topology (λ u. InRange (coordinate m u k))
      (λ h l. S.range (3 * origin m.topology h + k) (omega (arith, S.corner h l)))
      (fan m.topology v) (each_at (λ h. h < sides m.topology) (fan m.topology v) R.in_use)

  pub ring_some : 1 ≤ length (ring m.topology v)
  unfolding ring
  ring_some = neighbours_some m.topology (fan m.topology v) R.some
