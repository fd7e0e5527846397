-- One walk for each vertex: together they meet every side exactly where each vertex has one fan.
use mathlib.Core.Path.{◌≡◌, sym, ◌∙◌}
use Prim.Native.Nat.{ℕ, ◌<◌}
use lib.Dec.{eqb}
use lib.ListN.{length}
use Rattle.theory.proofs.Numbers.Decide.{Decides, is_eq, is_iff}
use Rattle.theory.proofs.Rings.FanTest.{no_more_met, all_met, met_fan, reach, all_counted}
use Rattle.theory.proofs.Rings.Fans.{Walked, Begins, walk_walked}
use Rattle.theory.proofs.Numbers.Pigeonhole.{counted_by_value}
use Rattle.theory.proofs.Numbers.Sums.{total_same, total_tight}
use Rattle.theory.proofs.Rings.Turning.{Glued}
use Rattle.rules.specs.Below.{total}
use Rattle.rules.specs.Ring.{triangle_count, fan_from}
use Rattle.rules.specs.Sound.{OneFan}
use Rattle.rules.specs.Tables.{Topology, sides, origin}

-- How many sides a walk from s meets.
abbrev pub walk_length : Topology → ℕ → ℕ
walk_length m s = length (fan_from m.triangles m s s)

module _ (m : Topology) (corner : (h : ℕ) → h < sides m → origin m h < m.vertices) where
  -- Each side goes out of one vertex.
  sides_counted : total m.vertices (triangle_count m) ≡ sides m
  sides_counted = counted_by_value m.vertices (sides m) (origin m) corner

  module _ (G : Glued m) (start : ℕ → ℕ) (S : (v : ℕ) → v < m.vertices → Begins m v (start v)) where
    walk : (v : ℕ) → v < m.vertices → Walked m (start v) (fan_from m.triangles m (start v) (start v))
    walk v l = walk_walked m G (start v) (S v l).in_use

    -- Where the walks meet as many sides as there are, each vertex has one fan.
    to_fans : total m.vertices (λ v. walk_length m (start v)) ≡ sides m → (v : ℕ) → v < m.vertices → OneFan m v
    to_fans e v l =
        let s : ℕ = start v in
        let w = fan_from m.triangles m s s in
        let q = total_tight m.vertices (λ x. walk_length m (start x)) (triangle_count m)
        (λ x k. no_more_met m (start x) (fan_from m.triangles m (start x) (start x)) (walk x k) x (S x k).out)
        (e ∙ sym sides_counted) v l in
        met_fan m s w (walk v l) v (S v l).out (all_met m s w (walk v l) v (S v l).out q)

    of_fans : ((v : ℕ) → v < m.vertices → OneFan m v) → total m.vertices (λ v. walk_length m (start v)) ≡ sides m
    of_fans f =
        total_same m.vertices (λ v. walk_length m (start v)) (triangle_count m) (λ v l.
        all_counted m (start v) (fan_from m.triangles m (start v) (start v)) (walk v l) v (S v l).out
        (λ h b o. (walk v l).met (reach m G v (f v l) (start v) (S v l) h b o)))
        ∙ sides_counted

    pub walks_are : Decides (eqb (total m.vertices (λ v. walk_length m (start v))) (sides m))
        ((v : ℕ) → v < m.vertices → OneFan m v)
    walks_are = is_iff to_fans of_fans (is_eq (total m.vertices (λ v. walk_length m (start v))) (sides m))
