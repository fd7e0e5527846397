-- The children of old triangles, written one triangle after the other.
use mathlib.Core.Bool.{true, false}
use mathlib.Core.List.{List, []}
use mathlib.Core.Path.{◌≡◌, ap, ◌∙◌}
use Prim.Native.Nat.{ℕ, ◌+◌, ◌-◌, ◌*◌, ◌/◌, ◌%◌, ◌≤◌, ◌<◌}
use native.Mathlib.Omega.{arith}
use native.Mathlib.Decide.{ℕ_discrete}
use lib.Dec.{eqb}
use lib.IntN.{pos}
use lib.ListN.{length, get_or}
use borrow.Author.Tests.{eq-eqb, ne_eqb}
use Rattle.theory.proofs.Calls.Carried.{StepFound}
use Rattle.theory.proofs.Links.Rows.{put_rows, length_rows, rows_else, rows_more}
use Rattle.theory.proofs.Steps.Children.{child_slot, child_of, slot_0, slot_12, slot_not, slot₀, slot₁, slot₂}
use Rattle.theory.proofs.Steps.Closed.{child_corners, child_links, with_centres, mates}
use Rattle.rules.specs.Tables.{Topology, Mesh, topology_of, origin, link, next, previous, put_three}
use Rattle.tables.specs.declared.Counts.{Counts}
use Rattle.tables.specs.Lent.{entries}
use Rattle.dividing.specs.Children.{partner_of, child_from, three_rows, Fits}
use Rattle.dividing.specs.declared.Partner.{Partner}
use Rattle.dividing.specs.declared.Child.{Child}

-- ---- sides of children

module _ (f k : ℕ) (some : k < 3 * f) where
  pub base_is : elim (eqb (k % 3) 0) [ true ↦ k | false ↦ 3 * f + 2 * k + k % 3 - 3 ] ≡ 3 * child_slot f k
  base_is = elim (ℕ_discrete (k % 3) 0) [
    | yes e ↦ rw (eq-eqb (k % 3) 0 e) (omega (arith, slot_0 f k e))
    | no e ↦ rw (ne_eqb (k % 3) 0 e) (omega (arith, slot_12 f k e))
  ]

  spoke_is : elim (eqb (k % 3) 2) [ true ↦ k | false ↦ 3 * f + 2 * k + k % 3 + 2 ] ≡ 3 * child_slot f (next k) + 2
  spoke_is = elim (ℕ_discrete (k % 3) 2) [
    | yes e ↦ rw (eq-eqb (k % 3) 2 e) (omega (arith, slot_0 f (next k) (omega arith)))
    | no e ↦ rw (ne_eqb (k % 3) 2 e) (omega (arith, slot_12 f (next k) (omega arith)))
  ]

  pub base_low : 3 * f ≤ 65536 → 3 * child_slot f k < 196608
  base_low few = elim (ℕ_discrete (k % 3) 0) [
    | yes e ↦ omega (arith, slot_0 f k e)
    | no e ↦ omega (arith, slot_12 f k e)
  ]

pub partner_is : (v f k : ℕ) {b s : ℕ} → k < 3 * f
    → b ≡ elim (eqb (k % 3) 0) [ true ↦ k | false ↦ 3 * f + 2 * k + k % 3 - 3 ]
    → s ≡ elim (eqb (k % 3) 2) [ true ↦ k | false ↦ 3 * f + 2 * k + k % 3 + 2 ]
    → ◌≡◌ {A = Partner} (record { centre = v + k / 3; base = b; spoke = s }) (partner_of v f k)
partner_is v f k l eb es = rw (eb, es, base_is f k l, spoke_is f k l)

-- ---- the rows of one triangle

-- The child at side h of t, where k is the side before h.
pub child_rows : (d : Topology) (t h k : ℕ) {own before : Partner} {x : Child} → h / 3 ≡ t → previous h ≡ k
    → own ≡ partner_of d.vertices d.triangles (link d h)
    → before ≡ partner_of d.vertices d.triangles (link d k)
    → x ≡ child_from (origin d h) (d.vertices + t) own before
    → (entries x.corners ≡ child_corners d h) × (entries x.links ≡ child_links d h)
child_rows d t h k e f own before x = (rw (x, own, e), rw (x, own, before, ← f))

pub rows_of : (f t : ℕ) (row : ℕ → ℕ × ℕ × ℕ) (x y z : ℕ × ℕ × ℕ) (l l₁ l₂ l₃ : List ℕ) → x ≡ row (3 * t)
    → y ≡ row (3 * t + 1) → z ≡ row (3 * t + 2) → l₁ ≡ put_three t x l → l₂ ≡ put_three (f + 2 * t) y l₁
    → l₃ ≡ put_three (f + 2 * t + 1) z l₂ → l₃ ≡ three_rows t (child_slot f) row l
rows_of f t row x y z l l₁ l₂ l₃ ex ey ez e₁ e₂ e₃ =
    rw (e₃, e₂, e₁, ex, ey, ez, slot₀ f t, slot₁ f t, slot₂ f t)

-- ---- one triangle more

-- The rows of t, if they are read from what is written already.
pub rows_on : (slot : ℕ → ℕ) (row row' : ℕ → ℕ × ℕ × ℕ) (l : List ℕ) (t : ℕ) {k k' : List ℕ}
    → k ≡ put_rows (3 * t) slot row l → ((h : ℕ) → h / 3 ≡ t → row' h ≡ row h) → k' ≡ three_rows t slot row' k
    → k' ≡ put_rows (3 * (t + 1)) slot row l
rows_on slot row row' l t e same put =
    let x : 3 * t + 1 + 1 ≡ 3 * t + 2 = omega arith in
    let y : 3 * t + 2 + 1 ≡ 3 * (t + 1) = omega arith in
    rw (
      put,
      e,
      same (3 * t) (omega arith),
      same (3 * t + 1) (omega arith),
      same (3 * t + 2) (omega arith),
      rows_more 0 slot row l (3 * t),
      rows_more 0 slot row l (3 * t + 1),
      x,
      rows_more 0 slot row l (3 * t + 2),
      y,
    )

module _ (d : Topology) (t : ℕ) (more : t < d.triangles) where
  -- No child before stands in the slot of t.
  still : (row : ℕ → ℕ × ℕ × ℕ) (l : List ℕ) {k : List ℕ} → k ≡ put_rows (3 * t) (child_of d) row l
      → (h : ℕ) → h / 3 ≡ t → get_or k h 0 ≡ get_or l h 0
  still row l e h q =
      ap (λ (j : List ℕ). get_or j h 0) e
      ∙ rows_else 0 (child_of d) row l (3 * t) h (λ i b z. slot_not d i t more (omega arith) (z ∙ q))

  module _ {corners links : List ℕ} (ec : corners ≡ put_rows (3 * t) (child_of d) (child_corners d) d.corners)
      (el : links ≡ put_rows (3 * t) (child_of d) (child_links d) d.links) where
    -- The tables so far.
    abbrev now : Topology
    now = topology_of d.vertices d.triangles corners links []

    same_link : (h : ℕ) → h / 3 ≡ t → link now h ≡ link d h
    same_link = still (child_links d) d.links el

    pub same_corners : (h : ℕ) → h / 3 ≡ t → child_corners now h ≡ child_corners d h
    same_corners h e = rw (still (child_corners d) d.corners ec h e, same_link h e)

    pub same_links : (h : ℕ) → h / 3 ≡ t → child_links now h ≡ child_links d h
    same_links h e = rw (same_link h e, same_link (previous h) (omega arith))

-- ---- the new vertices

pub length_placed : (m : Mesh) (t : ℕ) → length (with_centres t m) ≡ length m.positions
unfolding with_centres
length_placed m t = length_rows (pos 0) _ _ m.positions t

-- ---- what the step has found

module _ (m : Mesh) (R : StepFound m) where
  abbrev d : Topology
  d = m.topology

  pub few_vertices : d.vertices + d.triangles ≤ 32768
  few_vertices = omega (arith, R.room.vertices, R.sound.tables.few_vertices)

  pub few_triangles : 3 * d.triangles ≤ 65536
  few_triangles = omega (arith, R.room.triangles, R.sound.tables.few_triangles)

  pub corner_room : 9 * d.triangles ≤ length d.corners
  corner_room = omega (arith, R.room.triangles, R.sound.tables.corners)

  module _ (n : Counts) (v : n.vertices ≡ d.vertices) (f : n.triangles ≡ d.triangles) (t : ℕ)
      (l : t < d.triangles) {corners links : List ℕ}
      (ec : corners ≡ put_rows (3 * t) (child_of d) (child_corners d) d.corners)
      (el : links ≡ put_rows (3 * t) (child_of d) (child_links d) d.links) where
    in_use : (k : ℕ) → k / 3 ≡ t → get_or links k 0 < 3 * n.triangles
    in_use k e = rw (same_link d t l ec el k e, f) ((mates m R).in_use k (omega arith))

    pub next_fits : Fits n t corners links
    next_fits = record {
      few_vertices = rw (v, f) few_vertices;
      few_triangles = rw f few_triangles;
      in_use = rw f l;
      corner_room =
          omega (arith, f, corner_room, ap length ec, length_rows 0 (child_of d) (child_corners d) d.corners (3 * t));
      link_room = omega (
        arith,
        f,
        R.room.triangles,
        R.sound.tables.links,
        ap length el,
        length_rows 0 (child_of d) (child_links d) d.links (3 * t),
      );
      first = in_use (3 * t) (omega arith);
      second = in_use (3 * t + 1) (omega arith);
      third = in_use (3 * t + 2) (omega arith);
    }
