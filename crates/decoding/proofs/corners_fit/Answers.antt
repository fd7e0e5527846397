-- `decoding::corners_fit` meets its contract: the corners of the triangles below t fit.
use borrow.Author.Rules.{rules}
use Prim.Native.Nat.{ℕ, ◌+◌, ◌*◌}
use native.Mathlib.Omega.{arith}
use mathlib.Core.Bool.{Bool, true, false, ◌&&◌}
use mathlib.Core.Path.{◌≡◌, refl, ◌∙◌}
use Rattle.theory.proofs.Numbers.Decide.{all_and}
use Rattle.rules.specs.Below.{all}
use Rattle.rules.specs.Cage.{corners_fit}
use Rattle.decoding.proofs.corners_fit.Goals as goal

-- Three tests after a first, together or one by one.
one_by_one : (a x y z : Bool) → (a && ((x && y) && z)) ≡ (((a && x) && y) && z)
one_by_one true x y z = refl
one_by_one false x y z = refl

-- The sides of the triangles below t pass, and the three of t: those of the triangles below t + 1 pass.
all_three : {a b : Bool} (t : ℕ) (p : ℕ → Bool) → a ≡ all (3 * t) p
    → b ≡ ((p (3 * t) && p (3 * t + 1)) && p (3 * t + 2)) → (a && b) ≡ all (3 * (t + 1)) p
all_three {a = a} t p d e =
    let n : 3 * t + 1 + 1 ≡ 3 * t + 2 = omega arith in
    let m : 3 * (t + 1) ≡ 3 * t + 2 + 1 = omega arith in
    let r = all_and (3 * t + 1 + 1) p (all_and (3 * t + 1) p (all_and (3 * t) p d refl) refl) refl in
    rw (e, m) (one_by_one a _ _ _ ∙ rw n at r)

pub loop-t-init : goal.loop-t-init
unfolding all
loop-t-init c =
    search rules

pub loop-t-preserved : goal.loop-t-preserved
loop-t-preserved c =
    all_three _ _ c.loop-t.invariant c.triangle_fits-fit.ensures

pub returns : goal.returns
unfolding corners_fit
returns c =
    let e : c.loop-t.t ≡ c.args.triangles = omega arith in
    rw e at c.loop-t.invariant
