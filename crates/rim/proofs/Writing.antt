-- The curve of a rim, written vertex by vertex.
use Rattle.std.proofs.Common.{ℕ, zero, suc, ◌+◌, ◌-◌, ◌*◌, ◌/◌, ◌%◌, ◌<◌, ◌≤◌, arith, List, length, get_or, ℤ, ◌≡◌}
use Rattle.std.proofs.Common.{refl, sym, ap, ◌∙◌, mod-eq_of_lt}
use native.Mathlib.Nat.{add-mod_right}
use Rattle.theory.proofs.Links.Manifold.{Manifold}
use Rattle.theory.proofs.Numbers.Fill.{fill_three, length_fill}
use Rattle.theory.proofs.Rims.Curve.{point_at_lem}
use Rattle.theory.proofs.Rims.RimWalk.{along, side_along, rim_entry, rim_next, again, rim_made}
use Rattle.theory.proofs.Rings.Turning.{manifold_glued}
use Rattle.rules.specs.Below.{fill}
use Rattle.rules.specs.Rim.{rim, smoothed, curve_at}
use Rattle.rules.specs.Ring.{OnBoundary, first_side}
use Rattle.rules.specs.Tables.{Topology, Mesh, origin, target, boundary, coordinate}
use Rattle.points.specs.declared.Point.{Point}
use Rattle.points.specs.Axes.{each_axis}
use Rattle.tables.specs.Lent.{point_in, put_point}
use Rattle.rim.specs.declared.Trace.{Trace}
use Rattle.rim.specs.Traced.{OnRimSide, Traced, three_points}
use Rattle.rim.proofs.Tracing.{starts_in_use, starts_on_boundary, first_is, leaves_at}

-- After j vertices of the rim from the side `first` on: the points of the one before and of the next, the side by which
-- the rim leaves that, and the table.
pub record Writing (m : Mesh) (first j h : ℕ) (a b : Point) (lent t : List ℤ) : Type 0 where
  pub side : h ≡ first_side m.topology (along m.topology (origin m.topology first) j)
  pub before : a ≡ point_in m.positions (along m.topology (origin m.topology first)
      (j + length (rim m.topology (origin m.topology first)) - 1))
  pub this : b ≡ point_in m.positions (along m.topology (origin m.topology first) j)
  pub table : t ≡ fill (9 * j) (curve_at m (rim m.topology (origin m.topology first))) lent

module _ (m : Mesh) {first : ℕ} {trace : Trace} (W : Traced m first trace) where
  abbrev tri : Topology
  tri = m.topology

  abbrev F : Manifold tri
  F = W.on_rim.manifold

  abbrev v : ℕ
  v = origin tri first

  abbrev l : List ℕ
  l = rim tri v

  abbrev vertex : ℕ → ℕ
  vertex = along tri v

  abbrev place : ℕ → Point
  place j = point_in m.positions (vertex j)

  i : v < tri.vertices
  i = starts_in_use tri W.on_rim

  on : OnBoundary tri v
  on = starts_on_boundary tri W.on_rim

  two : 2 ≤ length l
  two = (rim_made tri F v i on).at_least_two

  -- The vertex before place j, going round.
  rim_before : (j : ℕ) → j < length l → get_or l ((j + length l - 1) % length l) 0 ≡ vertex (j + length l - 1)
  rim_before zero b =
      let q : (0 + length l - 1) % length l ≡ 0 + length l - 1 = mod-eq_of_lt (omega (arith, two)) in
      ap (λ (x : ℕ). get_or l x 0) q ∙ rim_entry tri F v i on _ (omega (arith, two))
  rim_before (suc j) b =
      let q : suc j + length l - 1 ≡ j + length l = omega arith in
      let r : (j + length l) % length l ≡ j = add-mod_right j (length l) ∙ mod-eq_of_lt (omega arith) in
      ap (λ (x : ℕ). get_or l (x % length l) 0) q ∙ ap (λ (x : ℕ). get_or l x 0) r
      ∙ rim_entry tri F v i on j (omega arith)
      ∙ sym (again tri F v i on j) ∙ ap vertex (sym q)

  -- Coordinate k of point p of vertex j.
  abbrev point_at : ℕ → ℕ → ℕ → ℤ
  point_at j p k =
      smoothed p (coordinate m (vertex (j + length l - 1)) k) (coordinate m (vertex j) k)
      (coordinate m (vertex (suc j)) k)

  entry_is : (j p k : ℕ) → j < length l → p < 3 → k < 3 → curve_at m l (3 * (3 * j + p) + k) ≡ point_at j p k
  entry_is j p k b c d =
      let e : 3 * (3 * j + p) + k ≡ 9 * j + 3 * p + k = omega arith in
      let x = rim_before j b in
      let y = rim_entry tri F v i on j b in
      let z = rim_next tri F v i on j b in
      ap (curve_at m l) e ∙ point_at_lem m l j p k b c d ∙ rw (x, y, z)

  point_more : (j p n : ℕ) (lent : List ℤ) {table : List ℤ} → n ≡ 3 * j + p → j < length l → p < 3
      → table ≡ fill (3 * n) (curve_at m l) lent
      → put_point n (each_axis (point_at j p)) table ≡ fill (3 * (n + 1)) (curve_at m l) lent
  point_more j p n lent e b c t =
      let at : (k : ℕ) → k < 3 → curve_at m l (3 * n + k) ≡ point_at j p k =
      λ k d. ap (λ (x : ℕ). curve_at m l (3 * x + k)) e ∙ entry_is j p k b c d in
      rw (fill_three n (curve_at m l) lent, t, at 0 (omega arith), at 1 (omega arith), at 2 (omega arith))

  three_more : (j : ℕ) (lent : List ℤ) → j < length l
      → three_points (3 * j) (place (j + length l - 1)) (place j) (place (suc j)) (fill (9 * j) (curve_at m l) lent)
      ≡ fill (9 * (j + 1)) (curve_at m l) lent
  unfolding smoothed
  three_more j lent b =
      let start : 9 * j ≡ 3 * (3 * j) = omega arith in
      let second : 3 * j + 1 + 1 ≡ 3 * j + 2 = omega arith in
      let end : 3 * (3 * j + 2 + 1) ≡ 9 * (j + 1) = omega arith in
      let f : ℕ → List ℤ = λ n. fill n (curve_at m l) lent in
      let x = point_more j 0 (3 * j) lent (omega arith) b (omega arith) (ap f start) in
      let y = point_more j 1 (3 * j + 1) lent refl b (omega arith) x in
      let z = point_more j 2 (3 * j + 2) lent refl b (omega arith) (y ∙ ap (λ (n : ℕ). f (3 * n)) second) in
      z ∙ ap f end

  -- What is read by a side of the rim is there.
  pub readable : {h : ℕ} → OnRimSide tri h
      → (h < boundary) × (h < length tri.corners) × (origin tri h < length m.positions / 3)
  readable {h} R =
      let l = R.side.in_use in (
        omega (arith, l, (manifold_glued F).few),
        omega (arith, l, F.corner_room),
        omega (arith, F.corner h l, W.sound.vertex_room),
      )

  pub last_on_rim : OnRimSide tri trace.last
  last_on_rim = leaves_at tri W.on_rim (trace.length - 1) W.closes.back

  pub few : trace.length ≤ 32768
  few =
      omega (
        arith,
        W.closes.size,
        (rim_made tri F v i on).few,
        W.sound.vertex_room,
        W.sound.tables.few_vertices,
      )

  pub writing_begins : {before this : Point} (lent : List ℤ)
      → before ≡ point_in m.positions (origin tri trace.last) → this ≡ point_in m.positions v
      → Writing m first 0 first before this lent lent
  unfolding along fill
  writing_begins lent p q = record {
    side = sym (first_is tri W.on_rim);
    before =
        let S = side_along tri F v i on (trace.length - 1) in
        let e : trace.length - 1 ≡ 0 + length l - 1 = omega (arith, W.closes.size) in
        p ∙ ap (point_in m.positions) (ap (λ (x : ℕ). origin tri x) W.closes.back ∙ S.out ∙ ap vertex e);
    this = q;
    table = refl;
  }

  module _ {j h : ℕ} {before this : Point} {lent table : List ℤ} (R : Writing m first j h before this lent table)
    where
      pub writing_on_rim : OnRimSide tri h
      writing_on_rim = leaves_at tri W.on_rim j R.side

      pub writing_size : length table ≡ length lent
      writing_size = ap length R.table ∙ length_fill (9 * j) (curve_at m l) lent

      module _ {k : ℕ} (goes_on : OnRimSide tri h → k ≡ first_side tri (target tri h)) where
        e : k ≡ first_side tri (target tri h)
        e = goes_on writing_on_rim

        next_side : k ≡ first_side tri (vertex (suc j))
        unfolding along
        next_side = e ∙ ap (λ (x : ℕ). first_side tri (target tri x)) R.side

        next_vertex : origin tri k ≡ vertex (suc j)
        next_vertex =
            ap (λ (x : ℕ). origin tri x) next_side ∙ (side_along tri F v i on (suc j)).out

        next_on_rim : OnRimSide tri k
        next_on_rim = leaves_at tri W.on_rim (suc j) next_side

        pub next_readable : (k < boundary) × (k < length tri.corners) × (origin tri k < length m.positions / 3)
        next_readable = readable next_on_rim

        pub writing_on : {after : Point} {table' : List ℤ} → j < trace.length
            → after ≡ point_in m.positions (origin tri k) → table' ≡ three_points (3 * j) before this after table
            → Writing m first (j + 1) k this after lent table'
        writing_on b p t = record {
          side = next_side ∙ ap (λ (x : ℕ). first_side tri (vertex x)) one_more;
          before =
              let q : j + 1 + length l - 1 ≡ j + length l = omega arith in
              R.this ∙ ap (point_in m.positions)
              (sym (again tri F v i on j) ∙ ap vertex (sym q));
          this = p ∙ ap (point_in m.positions) (next_vertex ∙ ap vertex one_more);
          table =
              t ∙ rw (R.before, R.this, R.table, p, next_vertex)
              (three_more j lent (omega (arith, W.closes.size)));
        }
          where
            one_more : suc j ≡ j + 1
            one_more = omega arith
