-- The steps of flip and of the splits, put together.
use Prim.Native.Nat.{ℕ, ◌+◌, ◌*◌, ◌/◌}
use native.Mathlib.Numerals.{add-one}
use mathlib.Core.Bool.{Bool, true, false}
use mathlib.Core.List.{List, [], ◌∷◌, ◌++◌}
use mathlib.Core.Path.{◌≡◌}
use lib.IntN.{ℤ}
use lib.ListN.{get_or}
use Rattle.points.specs.declared.Point.{Point}
use Rattle.points.specs.Axes.{each_axis, thirds}
use Rattle.rules.specs.Split.{Work, with_split, third_of, centre, first_third, second_third, face_cut, face_placed, rim_cut}
use Rattle.rules.specs.Split.{rim_placed, new_unlocked, flip, settle}
use Rattle.rules.specs.Tables.{Topology, Mesh, mesh_of, with_topology, origin, link, is_base, coordinate, with_counts}
use Rattle.rules.specs.Tables.{relink}
use Rattle.tables.specs.declared.Triangle.{Triangle}
use Rattle.tables.specs.Lent.{triangle_at, put, put_point}
use Rattle.split.specs.Made.{children_of, rim_children_of, blank, replaced, flipped_of}

pub flip_steps : (s u : ℕ) (m a b c d : Topology) (x y none : Triangle) (r : List Triangle)
    → x ≡ triangle_at m s → y ≡ triangle_at m u → r ≡ flipped_of x y s u
    → a ≡ relink (get_or x.links 1 0) (3 * u) m → b ≡ relink (get_or y.links 1 0) (3 * s) a
    → c ≡ put s (get_or r 0 none) b → d ≡ put u (get_or r 1 none) c → d ≡ flip s u m
unfolding flip
flip_steps s u m a b c d x y none r ex ey er ea eb ec ed = rw (ed, ec, eb, ea, er, ey, ex)

pub replace_steps : (t f h k : ℕ) (m a b c d e : Topology) (x : Triangle) (three : List Triangle)
    → a ≡ relink (get_or x.links 1 0) h m → b ≡ relink (get_or x.links 2 0) k a → c ≡ put t (get_or three 0 blank) b
    → d ≡ put f (get_or three 1 blank) c → e ≡ put (f + 1) (get_or three 2 blank) d → e ≡ replaced t f x three h k m
replace_steps t f h k m a b c d e x three ea eb ec ed ee = rw (ee, ed, ec, eb, ea)

pub third_steps : (m : Mesh) (t h i j : ℕ) (a b c r : Point)
    → a ≡ each_axis (coordinate m (origin m.topology (3 * t + h)))
    → b ≡ each_axis (coordinate m (origin m.topology (3 * t + i)))
    → c ≡ each_axis (coordinate m (origin m.topology (3 * t + j))) → r ≡ thirds a b c
    → r ≡ each_axis (third_of h i j m t)
third_steps m t h i j a b c r ea eb ec er = rw (er, ec, eb, ea)

module _ (s : ℕ) (w : Work) (b : Bool) (e : b ≡ is_base w.mesh.topology (link w.mesh.topology (3 * s))) where
  pub settle_flips : (n : Topology) → b ≡ true
      → n ≡ flip s (link w.mesh.topology (3 * s) / 3) w.mesh.topology
      → ◌≡◌ {A = Work} (record {
        mesh = with_topology n w.mesh;
        splits = w.splits;
        flips = w.flips + 1;
        report = w.report ++ (s ∷ link w.mesh.topology (3 * s) / 3 ∷ []);
      })
      (settle s w)
  unfolding settle
  settle_flips n met en = rw (settle, ← e, met, en, add-one w.flips)

  pub settle_keeps : b ≡ false → w ≡ settle s w
  unfolding settle
  settle_keeps met = rw (settle, ← e, met)

pub face_cut_steps : (t : ℕ) (w : Work) (e : Topology) (p : Point) (positions : List ℤ) (x : Triangle)
    (r : List Triangle) (locks : List ℕ)
    → let m = w.mesh.topology in
    p ≡ each_axis (third_of 0 1 2 w.mesh t) → positions ≡ put_point m.vertices p w.mesh.positions
    → x ≡ triangle_at m t → r ≡ children_of x t m.triangles m.vertices
    → e ≡ replaced t m.triangles x r (3 * m.triangles) (3 * (m.triangles + 1)) m
    → locks ≡ new_unlocked m.triangles w.mesh.locks
    → ◌≡◌ {A = Work} (record {
      mesh = mesh_of (with_counts (m.vertices + 1) (m.triangles + 2) e) positions locks w.mesh.rule;
      splits = w.splits + 1;
      flips = w.flips;
      report = w.report ++ (t ∷ m.triangles ∷ (m.triangles + 1) ∷ []);
    })
    (with_split t (face_placed t w.mesh) w)
unfolding face_placed face_cut centre
face_cut_steps t w e p positions x r locks ep eq ex er ee el =
    rw (el, ee, er, ex, eq, ep, face_placed, face_cut, centre, add-one w.splits, add-one w.mesh.topology.vertices)

pub rim_cut_steps : (t : ℕ) (w : Work) (e : Topology) (p q : Point) (one two : List ℤ) (x : Triangle)
    (r : List Triangle) (locks : List ℕ)
    → let m = w.mesh.topology in
    p ≡ each_axis (third_of 0 0 1 w.mesh t) → q ≡ each_axis (third_of 0 1 1 w.mesh t)
    → one ≡ put_point m.vertices p w.mesh.positions → two ≡ put_point (m.vertices + 1) q one
    → x ≡ triangle_at m t → r ≡ rim_children_of x t m.triangles m.vertices
    → e ≡ replaced t m.triangles x r (3 * (m.triangles + 1)) (3 * t) m
    → locks ≡ new_unlocked m.triangles w.mesh.locks
    → ◌≡◌ {A = Work} (record {
      mesh = mesh_of (with_counts (m.vertices + 2) (m.triangles + 2) e) two locks w.mesh.rule;
      splits = w.splits + 1;
      flips = w.flips;
      report = w.report ++ (t ∷ m.triangles ∷ (m.triangles + 1) ∷ []);
    })
    (with_split t (rim_placed t w.mesh) w)
unfolding rim_placed rim_cut first_third second_third
rim_cut_steps t w e p q one two x r locks ep eq eo et ex er ee el =
    rw (el, ee, er, ex, et, eo, eq, ep, rim_placed, rim_cut, first_third, second_third, add-one w.splits)
