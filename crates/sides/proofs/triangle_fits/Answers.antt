-- `sides::triangle_fits` meets its contract.
use Prim.Native.Nat.{ℕ, ◌+◌, ◌*◌, ◌/◌, ◌%◌}
use native.Mathlib.Omega.{arith}
use mathlib.Core.Bool.{Bool, true}
use mathlib.Core.List.{List}
use mathlib.Core.Path.{◌≡◌, refl, sym, ap, ◌∙◌}
use lib.ListN.{get_or}
use Rattle.theory.proofs.Numbers.Decide.{when_true}
use Rattle.rules.specs.Tables.{next}
use Rattle.sides.specs.Parts.{SideRead, corners_fit}
use Rattle.sides.proofs.Starts.{kept_at}
use Rattle.sides.proofs.Corners.{CornersFit, corners_are}
use Rattle.sides.proofs.triangle_fits.Goals as goal

-- What is read of the three sides of triangle t.
module _ (c g : List ℕ) (t : ℕ) where
  read_at : (h k i : ℕ) → h / 3 ≡ t → h % 3 ≡ i → next h ≡ k → SideRead c g h i (get_or g t 0) (get_or c h 0) (get_or c k 0)
  read_at h k i d r e = record {
    place = sym r;
    generation = ap (λ (x : ℕ). get_or g x 0) (sym d);
    origin = refl;
    target = ap (λ (x : ℕ). get_or c x 0) (sym e);
  }

  read_a : SideRead c g (3 * t) 0 (get_or g t 0) (get_or c (3 * t) 0) (get_or c (3 * t + 1) 0)
  read_a = read_at (3 * t) (3 * t + 1) 0 (omega arith) (omega arith) (omega arith)

  read_b : SideRead c g (3 * t + 1) 1 (get_or g t 0) (get_or c (3 * t + 1) 0) (get_or c (3 * t + 2) 0)
  read_b = read_at (3 * t + 1) (3 * t + 2) 1 (omega arith) (omega arith) (omega arith)

  read_c : SideRead c g (3 * t + 2) 2 (get_or g t 0) (get_or c (3 * t + 2) 0) (get_or c (3 * t) 0)
  read_c = read_at (3 * t + 2) (3 * t) 2 (omega arith) (omega arith) (omega arith)

-- Corners that pass the test.
tested : (v a b c : ℕ) {r : Bool} → r ≡ corners_fit v a b c → r ≡ true → CornersFit v a b c
tested v a b c e t = when_true (corners_are v a b c) (sym e ∙ t)

pub side_fits-requires : goal.side_fits-requires
side_fits-requires c =
    let corners = tested _ _ _ _ c.corners_fit.ensures c.if-not-corners_fit.false in
    record { room = (c.requires.room.0, omega arith); side_read = (read_a _ _ _, corners.a_in_use, c.requires.room.2); all_kept = c.requires.all_kept }

pub side_fits-requires-2 : goal.side_fits-requires-2
side_fits-requires-2 c =
    let corners = tested _ _ _ _ c.corners_fit.ensures c.if-not-corners_fit.false in
    let kept = c.side_fits.ensures.kept_after c.if-not-side_fits.false in
    record { room = (c.requires.room.0, omega arith); side_read = (read_b _ _ _, corners.b_in_use, c.requires.room.2); all_kept = kept }

pub side_fits-requires-3 : goal.side_fits-requires-3
side_fits-requires-3 c =
    let corners = tested _ _ _ _ c.corners_fit.ensures c.if-not-corners_fit.false in
    let kept = c.side_fits-2.ensures.kept_after c.if-not-side_fits-2.false in
    record { room = (c.requires.room.0, omega arith); side_read = (read_c _ _ _, corners.c_in_use, c.requires.room.2); all_kept = kept_at _ _ (omega arith) kept }
