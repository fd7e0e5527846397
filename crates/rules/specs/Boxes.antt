-- Triangles with a corner in a box, refined until none of them is below a generation, with spare tables to work in.
-- (Request h)
use Rattle.std.specs.Prelude.{ℕ, zero, suc, ◌+◌, ◌*◌, Bool, true, false, not, ◌&&◌, ◌||◌, [], ◌∷◌, leb, ltb, ℤ}
use Rattle.std.specs.Int.Signed.{le_z}
use Rattle.rules.specs.Below.{lowest}
use Rattle.rules.specs.Calls.{Outcome, spare_room, first_of, ◌if◌, unless, refine_refusal}
use Rattle.rules.specs.Lists.{Progress, begun, goes_on, all_or_nothing}
use Rattle.rules.specs.Sound.{is_sound}
use Rattle.rules.specs.Spares.{Spares, same_sizes}
use Rattle.rules.specs.Split.{refine}
use Rattle.rules.specs.Tables.{Mesh, tables_agree, triangle_slots, origin, generation, coordinate}

-- A box by its low and its high corner, and the generation, the customer's k, below which triangles with a corner in
-- it are refined.
pub record Box : Type 0 where
  pub low : ℤ × ℤ × ℤ
  pub high : ℤ × ℤ × ℤ
  pub below : ℕ

-- x lies between the two, or is one of them.
abbrev pub between : ℤ → ℤ → ℤ → Bool
between low high x = le_z low x && le_z x high

-- Vertex v lies in the box, its faces included.
abbrev pub in_box : Box → Mesh → ℕ → Bool
in_box b m v =
    between b.low.0 b.high.0 (coordinate m v 0)
    && between b.low.1 b.high.1 (coordinate m v 1)
    && between b.low.2 b.high.2 (coordinate m v 2)

-- Triangle t is to be refined: it is below the generation, and one of its corners lies in the box.
unfoldable pub wanted : Box → Mesh → ℕ → Bool
wanted b m t =
    let at : ℕ → Bool = λ corner. in_box b m (origin m.topology (3 * t + corner)) in
    ltb (generation m.topology t) b.below && (at 0 || at 1 || at 2)

-- The lowest slot in use that is wanted; F where none is.
abbrev pub lowest_wanted : Box → Mesh → ℕ
lowest_wanted b m = lowest m.topology.triangles (wanted b m)

-- At most n turns: while some triangle is wanted the lowest is refined, those that earlier turns made included, until
-- one fails. That one is not skipped.
unfoldable pub refine_wanted : ℕ → Box → Progress → Progress
refine_wanted zero b p = p
refine_wanted (suc n) b p =
    let m = p.work.mesh in
    let t = lowest_wanted b m in
    elim (ltb t m.topology.triangles) [
      | false ↦ p
      | true ↦ elim (refine_refusal t m) [
        | zero ↦ refine_wanted n b (goes_on 0 (refine t p.work) p)
        | suc k ↦ goes_on (suc k) p.work p
      ]
    ]

-- What a box makes of a mesh. Each turn takes two triangle slots at least, so that in a sound mesh the turns end before
-- this bound: with none wanted, or with a failure (theory/proofs/Results, box-carried, box-stopped).
abbrev pub refine_in_box : Box → Mesh → Progress
refine_in_box b m = refine_wanted (triangle_slots m) b (begun m)

-- ---- the call

-- The generation is at most 20, and no low coordinate is above the high one. (Request h, 18)
abbrev pub box_fits : Box → Bool
box_fits b =
    leb b.below 20
    && le_z b.low.0 b.high.0
    && le_z b.low.1 b.high.1
    && le_z b.low.2 b.high.2

-- What is refused before any turn.
unfoldable pub box_refusal : Box → Spares → Mesh → ℕ
box_refusal b spares m =
    first_of (
    1 if not (tables_agree m)
    ∷ 17 if not (same_sizes spares m)
    ∷ 18 if not (box_fits b)
    ∷ 7 if not (is_sound m) ∷ [])

-- All or nothing, in spare tables, as a list is.
unfoldable pub box_call : Box → Spares → Mesh → Outcome
box_call b spares m =
    let p = refine_in_box b m in
    unless (box_refusal b spares m) m (spare_room spares) (all_or_nothing p.refusal p spares m)
