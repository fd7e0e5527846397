-- `sides::side_fits` meets its contract.
use borrow.Author.Tests.{lt-ltb, ne_eqb}
use Prim.Native.Nat.{ℕ, ◌*◌, ◌<◌}
use native.Mathlib.Omega.{arith}
use mathlib.Core.Bool.{Bool}
use mathlib.Core.Logic.{◌≢◌}
use mathlib.Core.Path.{◌≡◌, refl}
use Rattle.rules.specs.Tables.{Topology, sides, boundary, link}
use Rattle.sides.specs.Parts.{partner_fits, link_fits}
use Rattle.sides.proofs.Starts.{kept_boundary, side_seen}
use Rattle.sides.proofs.side_fits.Goals as goal

not_boundary : (k n : ℕ) → k < n → n < boundary → k ≢ boundary
not_boundary k n l f e = omega arith

-- Where the link is a side in use, its partner decides.
linked_by : (m : Topology) (h : ℕ) {r : Bool} → link m h < sides m → sides m < boundary
    → r ≡ partner_fits m h (link m h) → r ≡ link_fits m h
unfolding link_fits
linked_by m h l f e = rw (ne_eqb _ _ (not_boundary _ _ l f), lt-ltb _ _ l, link_fits) e

pub returns-then-counts-k-clause-kept_after : goal.returns-then-counts-k-clause-kept_after
returns-then-counts-k-clause-kept_after c = λ _.
    side_seen _ _ _ _ _ _ _ c.requires.all_kept c.requires.side_read.0.origin c.requires.side_read.1
    (λ _. kept_boundary _ _ _ _ 0 refl c.if-across.false)

pub returns : goal.returns
returns c =
    let few : 3 * c.args.counts.triangles < boundary = omega (arith, c.requires.room.0.few_slots, c.requires.room.0.triangle_room) in record {
      value = linked_by _ _ c.if-counts-k.false few (c.partner_fits.ensures c.args.counts _ c.requires.side_read.0);
      kept_after = λ _. side_seen _ _ _ _ _ _ _ c.requires.all_kept c.requires.side_read.0.origin c.requires.side_read.1
          (c.first_kept.ensures _ _ (not_boundary _ _ c.if-counts-k.false few));
    }
