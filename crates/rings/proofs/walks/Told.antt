-- The walks meet all sides exactly where each vertex has one fan.
use Prim.Native.Nat.{ℕ, ◌-◌, ◌<◌}
use native.Mathlib.Decide.{dec_lt}
use native.Mathlib.Omega.{arith}
use mathlib.Core.Bool.{Bool, true, false, ◌&&◌}
use mathlib.Core.List.{List}
use mathlib.Core.Path.{◌≡◌}
use lib.Dec.{eqb, ltb}
use lib.ListN.{get_or}
use Rattle.theory.proofs.Numbers.Decide.{is_lt, is_iff, is_then, is_all, is_same, all_fails}
use Rattle.theory.proofs.Rings.FanTest.{one_fan_is}
use Rattle.theory.proofs.Rings.FanTotal.{walk_length, walks_are}
use Rattle.theory.proofs.Rings.Fans.{Begins}
use Rattle.theory.proofs.Rings.Turning.{Glued}
use Rattle.rules.specs.Below.{all, total}
use Rattle.rules.specs.Sound.{OneFan, has_one_fan}
use Rattle.rules.specs.Tables.{Topology, sides}
use Rattle.rings.specs.Walks.{AllBegun, CornersInUse}

abbrev pub has_start : List ℕ → ℕ → Bool
has_start starts v = ltb 0 (get_or starts v 0)

abbrev pub length_from : Topology → List ℕ → ℕ → ℕ
length_from m starts v = walk_length m (get_or starts v 0 - 1)

module _ (m : Topology) (G : Glued m) (corner : CornersInUse m.vertices (sides m) m.corners) (starts : List ℕ)
    (A : AllBegun m.vertices m.corners m.links (sides m) (sides m) starts) where
  abbrev Started : ℕ → Type 0
  Started v = 0 < get_or starts v 0

  begins : (v : ℕ) → v < m.vertices → Started v → Begins m v (get_or starts v 0 - 1)
  begins v l p =
      let B = A.each v l in
      record { in_use = omega (arith, B.in_use); out = B.out p; best = B.best p }

  -- A vertex of one fan has a side, and so a start.
  started : (v : ℕ) → v < m.vertices → OneFan m v → Started v
  started v l F = go (dec_lt 0 (get_or starts v 0))
    where
      go : Dec (Started v) → Started v
      go (yes p) = p
      go (no n) = absurd ((A.each v l).none (omega arith) F.first F.in_use F.out)

  walks_tell : (all m.vertices (has_start starts) && eqb (total m.vertices (length_from m starts)) (sides m))
      ≡ all m.vertices (has_one_fan m)
  walks_tell = is_same
      (is_iff (λ x. x.1) (λ f. ((λ v l. started v l (f v l)), f))
      (is_then (is_all m.vertices (has_start starts) Started (λ v l. is_lt 0 (get_or starts v 0)))
      (λ p. walks_are m corner G (λ v. get_or starts v 0 - 1) (λ v l. begins v l (p v l)))))
      (is_all m.vertices (has_one_fan m) (OneFan m) (λ v l. one_fan_is m G v))

  -- A vertex v has no start.
  pub no_start : (v : ℕ) → v < m.vertices → has_start starts v ≡ false → false ≡ all m.vertices (has_one_fan m)
  no_start v l e = let n = all_fails m.vertices v (has_start starts) l e in rw n at walks_tell

  -- All walks are made.
  pub made : (met v : ℕ) → v ≡ m.vertices → all v (has_start starts) ≡ true → met ≡ total v (length_from m starts)
      → eqb met (sides m) ≡ all m.vertices (has_one_fan m)
  made met v e a b =
      let p : all m.vertices (has_start starts) ≡ true = rw e at a in
      let q : met ≡ total m.vertices (length_from m starts) = rw e at b in
      rw q (rw p at walks_tell)
