-- Triangles with a corner in a box, refined in a mirrored mesh with the mirrored box.
use Prim.Native.Nat.{ℕ, zero, suc, ◌+◌, ◌*◌}
use native.Mathlib.Omega.{arith}
use mathlib.Core.Bool.{Bool, true, false}
use mathlib.Core.Path.{◌≡◌, refl, ap, ◌∙◌}
use lib.Dec.{eqb, ltb}
use lib.IntN.{ℤ, neg_ℤ}
use lib.Signed.{le_z}
use Rattle.theory.proofs.Loads.Alike.{lowest_same}
use Rattle.theory.proofs.Mirrors.MirrorLists.{mirror_progress}
use Rattle.theory.proofs.Mirrors.MirrorRefusals.{tables_mirror, sound_mirror, same_sizes_mirror, refine_refused}
use Rattle.theory.proofs.Mirrors.MirrorTables.{coordinate_mirror}
use Rattle.theory.proofs.Mirrors.MirrorWork.{mirror_work, refine_mirror}
use Rattle.theory.proofs.Mirrors.Opposites.{and_swapped, order_opposite}
use Rattle.rules.specs.Boxes.{Box, between, in_box, wanted, lowest_wanted, refine_wanted, box_fits, box_refusal}
use Rattle.rules.specs.Calls.{refine_refusal}
use Rattle.rules.specs.Lists.{Progress, goes_on}
use Rattle.rules.specs.Mirror.{mirror, mirror_box, mirror_spares}
use Rattle.rules.specs.Spares.{Spares}
use Rattle.rules.specs.Split.{refine}
use Rattle.rules.specs.Tables.{Mesh, origin}

-- ---- one coordinate

-- An end of the box, and the other where the coordinate is negated.
abbrev turned_end : Bool → ℤ → ℤ → ℤ
turned_end negated this that = elim negated [ true ↦ neg_ℤ that | false ↦ this ]

ends_ordered : (negated : Bool) (low high : ℤ)
    → le_z (turned_end negated low high) (turned_end negated high low) ≡ le_z low high
ends_ordered true low high = order_opposite low high
ends_ordered false low high = refl

between_mirror : (negated : Bool) (low high x : ℤ)
    → between (turned_end negated low high) (turned_end negated high low) (turned_end negated x x) ≡ between low high x
between_mirror true low high x =
    rw (order_opposite x high, order_opposite low x) (and_swapped (le_z x high) (le_z low x))
between_mirror false low high x = refl

-- ---- the box

-- Progress p after a turn: where some triangle is wanted it fails with n, or for 0 the later turns make q of it.
unfoldable turned : Bool → ℕ → Progress → Progress → Progress
turned some n p q =
    elim some [ false ↦ p | true ↦ elim n [ zero ↦ q | suc r ↦ goes_on (suc r) p.work p ] ]

module _ (k : ℕ) (b : Box) where
  fits_mirror : box_fits (mirror_box k b) ≡ box_fits b
  fits_mirror =
      rw (
        ends_ordered (eqb 0 k) b.low.0 b.high.0,
        ends_ordered (eqb 1 k) b.low.1 b.high.1,
        ends_ordered (eqb 2 k) b.low.2 b.high.2,
      )

  pub box_refused : (m : Mesh) (spares : Spares)
      → box_refusal (mirror_box k b) (mirror_spares k spares) (mirror k m) ≡ box_refusal b spares m
  unfolding box_refusal
  box_refused m spares = rw (tables_mirror k m, same_sizes_mirror k m spares, fits_mirror, sound_mirror k m)

  in_box_mirror : (m : Mesh) (v : ℕ) → in_box (mirror_box k b) (mirror k m) v ≡ in_box b m v
  in_box_mirror m v =
      let at = coordinate_mirror k m v in
      rw (
        at 0 (omega arith),
        at 1 (omega arith),
        at 2 (omega arith),
        between_mirror (eqb 0 k) b.low.0 b.high.0,
        between_mirror (eqb 1 k) b.low.1 b.high.1,
        between_mirror (eqb 2 k) b.low.2 b.high.2,
      )

  -- The same triangles are wanted, so that the same slot is the lowest.
  wanted_mirror : (m : Mesh) (t : ℕ) → wanted (mirror_box k b) (mirror k m) t ≡ wanted b m t
  unfolding wanted
  wanted_mirror m t =
      let corner : ℕ → ℕ = λ i. origin m.topology (3 * t + i) in
      rw (in_box_mirror m (corner 0), in_box_mirror m (corner 1), in_box_mirror m (corner 2))

  lowest_mirror : (m : Mesh) → lowest_wanted (mirror_box k b) (mirror k m) ≡ lowest_wanted b m
  lowest_mirror m = lowest_same m.topology.triangles _ _ (λ t l. wanted_mirror m t)

  turn_mirror : (p q : Progress) (some : Bool) (n : ℕ)
      → turned some n (mirror_progress k p) (mirror_progress k q) ≡ mirror_progress k (turned some n p q)
  unfolding turned
  turn_mirror p q false n = refl
  turn_mirror p q true zero = refl
  turn_mirror p q true (suc r) = refl

  turns_alike : (p q : Progress) {some some' : Bool} {n n' : ℕ} {q' : Progress} → some' ≡ some → n' ≡ n
      → q' ≡ mirror_progress k q → turned some' n' (mirror_progress k p) q' ≡ mirror_progress k (turned some n p q)
  turns_alike p q {some} {n = n} e f g = rw (e, f, g) (turn_mirror p q some n)

  pub turns_mirror : (n : ℕ) (p : Progress)
      → refine_wanted n (mirror_box k b) (mirror_progress k p) ≡ mirror_progress k (refine_wanted n b p)
  unfolding refine_wanted turned
  turns_mirror zero p = refl
  turns_mirror (suc n) p =
      let m = p.work.mesh in
      let t = lowest_wanted b m in
      let same = lowest_mirror m in
      let refined = ap (λ u. refine u (mirror_work k p.work)) same ∙ refine_mirror k t p.work in
      turns_alike p (refine_wanted n b (goes_on 0 (refine t p.work) p))
      (ap (λ u. ltb u m.topology.triangles) same)
      (ap (λ u. refine_refusal u (mirror k m)) same ∙ refine_refused k m t)
      (ap (λ w. refine_wanted n (mirror_box k b) (goes_on 0 w (mirror_progress k p))) refined
      ∙ turns_mirror n (goes_on 0 (refine t p.work) p))
