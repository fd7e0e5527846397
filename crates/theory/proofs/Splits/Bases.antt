-- Where two bases meet, and what settling a child does about it.
use mathlib.Core.Path.{◌≡◌, refl, sym, ap, ◌∙◌, subst}
use mathlib.Core.Logic.{◌≢◌}
use mathlib.Core.Bool.{Bool, true, false}
use mathlib.Core.List.{List, [], ◌∷◌, ◌++◌, append-nil}
use Prim.Native.Nat.{ℕ, ◌+◌, ◌*◌, ◌/◌, ◌%◌, ◌≤◌, ◌<◌}
use native.Mathlib.Omega.{arith}
use lib.ListN.{get_or, get_or-eq_default}
use Rattle.theory.proofs.Numbers.Decide.{Decides, is_eq, when_true, when_false, is_and, odd_is_lem}
use Rattle.theory.proofs.Splits.FlipKeeps.{BasesMeet, flip_manifold}
use Rattle.theory.proofs.Splits.FlipRead.{Flips, flip_flips}
use Rattle.theory.proofs.Links.Manifold.{Partnered, Manifold, level, Base, level₀, partnered, no_self}
use Rattle.rules.specs.Split.{Work, flip, with_flip, settle}
use Rattle.rules.specs.Tables.{Topology, with_topology, sides, origin, boundary, link, generation, is_base}

-- ---- the test

pub base_is : (m : Topology) (h : ℕ) → Decides (is_base m h) (Base m h)
base_is m h = is_and (is_eq (h % 3) 0) (odd_is_lem (generation m (h / 3)))

pub boundary_not_base : (m : Topology) → Manifold m → ¬ Base m boundary
boundary_not_base m F b =
    let e : get_or m.generations (boundary / 3) 0 ≡ 0 =
    get_or-eq_default m.generations 0 (omega (arith, F.slots)) in
    omega (arith, b.1)

-- A side that is linked to a base has a partner.
pub partnered_base : {m : Topology} {h : ℕ} → Manifold m → h < sides m → Base m (link m h) → Partnered m h
partnered_base {m} {h} F l b = partnered (F.linked h l) (λ e. boundary_not_base m F (subst (Base m) e b))

-- ---- a triangle just made, whose corner 2 is new: p is the number of the old vertices

pub record Child (p g c : ℕ) (m : Topology) : Type 0 where
  pub in_use : c < m.triangles
  pub generations : generation m c ≡ g
  pub odd : g % 2 ≡ 1
  pub fresh : p ≤ origin m (3 * c + 2)
  pub other : Base m (link m (3 * c)) → origin m (3 * (link m (3 * c) / 3) + 2) < p

bases : (p g c : ℕ) (m : Topology) → Manifold m → Child p g c m → Base m (link m (3 * c))
    → BasesMeet c (link m (3 * c) / 3) m
bases p g c m F C b =
    let l : 3 * c < sides m = omega (arith, C.in_use) in
    let M : Partnered m (3 * c) = partnered_base F l b in
    let u : ℕ = link m (3 * c) / 3 in
    let e : link m (3 * c) ≡ 3 * u = omega (arith, b.0) in
    let i = M.in_use in
    record {
      use_s = C.in_use;
      use_u = omega arith;
      differ = λ q. no_self m (3 * c) F l M (omega arith);
      meet = e;
      odd = omega (arith, C.generations, C.odd);
      same =
          let v : level m (3 * u) ≡ level m (3 * c) = subst (λ (x : ℕ). level m x ≡ level m (3 * c)) e M.level in
          omega (arith, level₀ m u, level₀ m c, v, b.1, C.generations, C.odd);
      centres = λ q. omega (arith, C.other b, C.fresh);
    }

-- What a child is flipped with is no child.
pub not_child : (p g s u c : ℕ) (m : Topology) → BasesMeet s u m → Child p g s m → Child p g c m → c ≢ u
not_child p g s u c m B C D e =
    let x : 3 * u / 3 ≡ u = omega arith in
    let b : Base m (3 * u) = (omega arith, rw x (omega (arith, B.same, B.odd))) in
    let y : origin m (3 * (link m (3 * s) / 3) + 2) < p = C.other (rw B.meet b) in
    let z : link m (3 * s) / 3 ≡ u = ap (λ (h : ℕ). h / 3) B.meet ∙ x in
    omega (arith, D.fresh, ap (λ (h : ℕ). origin m (3 * h + 2)) e, ap (λ (h : ℕ). origin m (3 * h + 2)) z)

-- The topology that work has reached.
abbrev pub reached : Work → Topology
reached w = w.mesh.topology

-- What settling c makes of m.
pub data Settling (c : ℕ) (m : Topology) : Topology → Type 0 where
  kept : ¬ Base m (link m (3 * c)) → Settling c m m
  flipped : {n : Topology} (u : ℕ) → BasesMeet c u m → Flips c u m n → Settling c m n

abbrev pub flips_of : {c : ℕ} {m n : Topology} → Settling c m n → ℕ
flips_of (kept x) = 0
flips_of (flipped u B S) = 1

abbrev pub report_of : {c : ℕ} {m n : Topology} → Settling c m n → List ℕ
report_of (kept x) = []
report_of {c} (flipped u B S) = c ∷ u ∷ []

-- What settling c makes of work.
pub record Settles (c : ℕ) (w v : Work) : Type 0 where
  pub settling : Settling c (reached w) (reached v)
  pub splits : v.splits ≡ w.splits
  pub flips : v.flips ≡ w.flips + flips_of settling
  pub report : v.report ≡ w.report ++ report_of settling

pub settle_settles : (p g c : ℕ) (w : Work) → Manifold (reached w) → Child p g c (reached w) → Settles c w (settle c w)
unfolding settle
settle_settles p g c w F C = go (is_base m (link m (3 * c))) refl
  where
    m : Topology
    m = reached w

    go : (b : Bool) → is_base m (link m (3 * c)) ≡ b
        → Settles c w (elim b
        [ true ↦ with_flip c (link m (3 * c) / 3) (with_topology (flip c (link m (3 * c) / 3) m) w.mesh) w | false ↦ w ])
    go true e =
        let u : ℕ = link m (3 * c) / 3 in
        let B : BasesMeet c u m = bases p g c m F C (when_true (base_is m (link m (3 * c))) e) in
        record {
          settling = flipped u B (flip_flips c u m F B.use_s B.use_u B.differ);
          splits = refl;
          flips = omega arith;
          report = refl;
        }
    go false e = record {
      settling = kept (when_false (base_is m (link m (3 * c))) e);
      splits = refl;
      flips = omega arith;
      report = sym (append-nil w.report);
    }

pub settling_manifold : (c : ℕ) (m n : Topology) → Manifold m → Settling c m n → Manifold n
settling_manifold c m n F (kept x) = F
settling_manifold c m n F (flipped u B S) = flip_manifold c u m n F B S
