-- What may be split, and its split with the flips.
use mathlib.Core.List.{List, ◌++◌}
use mathlib.Core.Path.{◌≡◌, refl, subst}
use mathlib.Core.Logic.{◌≢◌}
use Prim.Native.Nat.{ℕ, suc, ◌+◌, ◌*◌, ◌%◌, ◌<◌}
use native.Mathlib.Omega.{arith}
use Rattle.theory.proofs.Splits.Bases.{reached}
use Rattle.theory.proofs.Numbers.Decide.{odd_test, even_test}
use Rattle.theory.proofs.Splits.Splitting.{Room, Splitting, face_splitting, rim_splitting, told_as, face_report}
use Rattle.theory.proofs.Splits.Splitting.{rim_report}
use Rattle.theory.proofs.Links.Manifold.{Manifold}
use Rattle.rules.specs.Conditions.{Splittable, is_even, on_boundary}
use Rattle.rules.specs.Split.{Work, face_split, rim_split, split_at}
use Rattle.rules.specs.Tables.{Topology, boundary, link, generation, odd}

-- 1 where its split is a rim split, 0 where it is a face split; and the generation of its odd children.
abbrev pub rim_of : Topology → ℕ → ℕ
rim_of m v = generation m v % 2

abbrev pub top_of : Topology → ℕ → ℕ
top_of m v = generation m v + (1 + rim_of m v)

-- A base chain goes on from none.
pub not_splittable : {A : Type 0} {m : Topology} {v : ℕ} → Splittable m v → generation m v % 2 ≡ 1
    → link m (3 * v) ≢ boundary → A
not_splittable (is_even e) o r = absurd (omega arith)
not_splittable (on_boundary q e) o r = absurd (r e)

pub split_even : (v : ℕ) (d : Work) → generation (reached d) v % 2 ≡ 0 → split_at v d ≡ face_split v d
split_even v d e = rw (even_test (generation (reached d) v) e, split_at) refl

pub split_odd : (v : ℕ) (d : Work) → generation (reached d) v % 2 ≡ 1 → split_at v d ≡ rim_split v d
split_odd v d o = rw (odd_test (generation (reached d) v) o, split_at) refl

pub split_splitting : (v : ℕ) (d : Work) → Splittable (reached d) v → Manifold (reached d) → v < (reached d).triangles
    → Room 1 (reached d)
    → Splitting v (top_of (reached d) v) (1 + rim_of (reached d) v) (2 * rim_of (reached d) v) d (split_at v d)
split_splitting v d (is_even e) F b R =
    let one : suc (generation (reached d) v) ≡ generation (reached d) v + 1 = omega arith in
    rw (split_even v d e, e)
    (subst (λ (g : ℕ). Splitting v g 1 0 d (face_split v d)) one (face_splitting v d F b R e))
split_splitting v d (on_boundary o e) F b R = rw (split_odd v d o, o) (rim_splitting v d F b R o e)

-- What the split of v reports, read before it. (Request m)
abbrev pub split_told : Topology → ℕ → List ℕ
split_told m v = told_as (odd (generation m v)) m v

pub split_report : (v : ℕ) (d : Work) → Splittable (reached d) v → Manifold (reached d) → v < (reached d).triangles
    → Room 1 (reached d) → (split_at v d).report ≡ d.report ++ split_told (reached d) v
split_report v d (is_even e) F b R =
    rw (split_even v d e, even_test (generation (reached d) v) e) (face_report v d F b R e)
split_report v d (on_boundary o e) F b R =
    rw (split_odd v d o, odd_test (generation (reached d) v) o) (rim_report v d F b R o e)
