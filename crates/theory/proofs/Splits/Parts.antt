-- A triangle cut in three: what stands in its slot and in the two new ones, read back.
use mathlib.Core.Path.{◌≡◌, refl, ◌∙◌}
use mathlib.Core.Logic.{◌≢◌, ◌⊎◌, inl, inr}
use mathlib.Core.List.{List}
use Prim.Native.Nat.{ℕ, suc, ◌+◌, ◌*◌, ◌/◌, ◌≤◌, ◌<◌}
use native.Mathlib.Omega.{arith}
use lib.ListN.{length, get_or, set, drop, length-set}
use lib.Seq.{get_or-set_same, get_or-set_other, lt-length-set, drop-set-lt}
use Rattle.theory.proofs.Links.Manifold.{Manifold, Joined}
use Rattle.theory.proofs.Links.Past.{Past, drop_put, drop_told, joined_below}
use Rattle.theory.proofs.Links.Sides.{Mutual, relinked, length_put, put_else, Row, put_row, row_else}
use Rattle.rules.specs.Actions.{rename_two}
use Rattle.rules.specs.Split.{face_cut, rim_cut}
use Rattle.rules.specs.Tables.{Topology, sides, origin, boundary, link, generation, put_three, put_triangle, relink}
use Rattle.rules.specs.Tables.{with_counts}

-- What stands in the slot of a triangle.
pub record Cell : Type 0 where
  pub corners : ℕ × ℕ × ℕ
  pub links : ℕ × ℕ × ℕ
  pub generation : ℕ

-- Slot t of m holds it.
pub record Holds (m : Topology) (t : ℕ) (c : Cell) : Type 0 where
  pub corners : Row m.corners 0 t c.corners.0 c.corners.1 c.corners.2
  pub links : Row m.links 0 t c.links.0 c.links.1 c.links.2
  pub generation : generation m t ≡ c.generation

-- What triangle t is cut into: what stands then in slot t and in the new slots f and f + 1. The sides 1 and 2 of t are
-- sides of these, at new places.
pub record Parts : Type 0 where
  pub own : Cell
  pub second : Cell
  pub third : Cell
  pub place₁ : ℕ
  pub place₂ : ℕ
  pub vertices : ℕ

-- The parts written, with the partners of the sides 1 and 2 of t told the new places.
abbrev pub parted : ℕ → Parts → Topology → Topology
parted t p m =
    let told = relink (link m (3 * t + 2)) p.place₂ (relink (link m (3 * t + 1)) p.place₁ m) in
    let one = put_triangle t p.own.corners p.own.links p.own.generation told in
    let two = put_triangle m.triangles p.second.corners p.second.links p.second.generation one in
    with_counts p.vertices (m.triangles + 2)
    (put_triangle (m.triangles + 1) p.third.corners p.third.links p.third.generation two)

-- n is m with triangle t cut into these.
pub record Parted (t : ℕ) (p : Parts) (m n : Topology) : Type 0 where
  pub makes : parted t p m ≡ n
  pub vertices : n.vertices ≡ p.vertices
  pub triangles : n.triangles ≡ m.triangles + 2
  pub own : Holds n t p.own
  pub second : Holds n m.triangles p.second
  pub third : Holds n (m.triangles + 1) p.third
  pub corners : (h : ℕ) → h < sides m → h / 3 ≢ t → origin n h ≡ origin m h
  pub links : (h : ℕ) → h < sides m → h / 3 ≢ t
      → link n h ≡ rename_two (3 * t + 1) p.place₁ (3 * t + 2) p.place₂ (link m h)
  pub generations : (x : ℕ) → x < m.triangles → x ≢ t → generation n x ≡ generation m x
  pub corner_room : length n.corners ≡ length m.corners
  pub link_room : length n.links ≡ length m.links
  pub generation_room : length n.generations ≡ length m.generations
  pub past : (b : ℕ) → m.triangles + 2 ≤ b → Past b m n

pub mutual_links : (m : Topology) → Manifold m → Mutual m.links (3 * m.triangles)
mutual_links m F h b = go (F.linked h b)
  where
    go : Joined m h → (link m h ≡ boundary) ⊎ ((link m h < sides m) × (link m (link m h) ≡ h))
    go (inl e) = inl e
    go (inr M) = inr (M.in_use, M.back)

-- Three rows written one after the other, read back.
rows : (l : List ℕ) (d t f e : ℕ) (x y z : ℕ × ℕ × ℕ) → t < f → f < e → 3 * e + 3 ≤ length l
    → let n = put_three e z (put_three f y (put_three t x l)) in
    Row n d t x.0 x.1 x.2 × Row n d f y.0 y.1 y.2 × Row n d e z.0 z.1 z.2
    × ((h : ℕ) → h / 3 ≢ t → h / 3 ≢ f → h / 3 ≢ e → get_or n h d ≡ get_or l h d)
rows l d t f e x y z p q r =
    let l₁ : List ℕ = put_three t x l in
    let l₂ : List ℕ = put_three f y l₁ in
    let x₁ : length l₁ ≡ length l = length_put l t x.0 x.1 x.2 d in
    let x₂ : length l₂ ≡ length l₁ = length_put l₁ f y.0 y.1 y.2 d in (
      row_else l₂ e z.0 z.1 z.2 d t x.0 x.1 x.2 (omega arith)
          (row_else l₁ f y.0 y.1 y.2 d t x.0 x.1 x.2 (omega arith)
          (put_row l t x.0 x.1 x.2 d (omega arith))),
      row_else l₂ e z.0 z.1 z.2 d f y.0 y.1 y.2 (omega arith)
          (put_row l₁ f y.0 y.1 y.2 d (omega arith)),
      put_row l₂ e z.0 z.1 z.2 d (omega arith),
      λ h i j k.
          put_else l₂ e z.0 z.1 z.2 d h k ∙ put_else l₁ f y.0 y.1 y.2 d h j
          ∙ put_else l t x.0 x.1 x.2 d h i,
    )

-- Three cells written one after the other, read back.
cells : (l : List ℕ) (d t f e a b c : ℕ) → t < f → f < e → e < length l
    → (get_or (set (set (set l t a) f b) e c) t d ≡ a)
    × (get_or (set (set (set l t a) f b) e c) f d ≡ b)
    × (get_or (set (set (set l t a) f b) e c) e d ≡ c)
    × ((h : ℕ) → h ≢ t → h ≢ f → h ≢ e → get_or (set (set (set l t a) f b) e c) h d ≡ get_or l h d)
cells l d t f e a b c p q r =
    let x₀ : t ≢ f = omega arith in
    let x₁ : t ≢ e = omega arith in
    let x₂ : f ≢ e = omega arith in
    let y₀ : t < length l = omega arith in
    let y₁ : f < length l = omega arith in (
      simp (get_or-set_other, get_or-set_same),
      simp (get_or-set_other, get_or-set_same, lt-length-set),
      simp (get_or-set_same, lt-length-set),
      λ h i j k. simp get_or-set_other,
    )

module _ (t : ℕ) (p : Parts) (m : Topology) (F : Manifold m) (b : t < m.triangles) where
  -- Nothing is written past them.
  past_parted : (c : ℕ) → m.triangles + 2 ≤ c → Past c m (parted t p m)
  past_parted c i =
      let l : List ℕ = set m.links (link m (3 * t + 1)) p.place₁ in
      record {
        corners = drop_three m.corners p.own.corners p.second.corners p.third.corners;
        links =
            drop_three (set l (link m (3 * t + 2)) p.place₂) p.own.links p.second.links p.third.links
            ∙ drop_told l c (link m (3 * t + 2)) p.place₂ (rw length-set F.link_slots)
            (joined_below m c (3 * t + 2) (omega arith) (F.linked (3 * t + 2) (omega arith)))
            ∙ drop_told m.links c (link m (3 * t + 1)) p.place₁ F.link_slots
            (joined_below m c (3 * t + 1) (omega arith) (F.linked (3 * t + 1) (omega arith)));
        generations =
            drop-set-lt c _ (m.triangles + 1) _ (omega arith) ∙ drop-set-lt c _ m.triangles _ (omega arith)
            ∙ drop-set-lt c _ t _ (omega arith);
      }
    where
      drop_three : (l : List ℕ) (x y z : ℕ × ℕ × ℕ)
          → drop (3 * c) (put_three (m.triangles + 1) z (put_three m.triangles y (put_three t x l))) ≡ drop (3 * c) l
      drop_three l x y z =
          drop_put (put_three m.triangles y (put_three t x l)) (m.triangles + 1) c z (omega arith)
          ∙ drop_put (put_three t x l) m.triangles c y (omega arith)
          ∙ drop_put l t c x (omega arith)

  module _ (corner_room : 3 * m.triangles + 6 ≤ length m.corners)
      (link_room : 3 * m.triangles + 6 ≤ length m.links)
      (generation_room : m.triangles + 2 ≤ length m.generations) where
    pub parted_is : Parted t p m (parted t p m)
    parted_is =
        let f : ℕ = m.triangles in
        let e : ℕ = f + 1 in
        let l : List ℕ =
        set (set m.links (link m (3 * t + 1)) p.place₁) (link m (3 * t + 2)) p.place₂ in
        let ll : length l ≡ length m.links = simp length-set in
        let C =
        rows m.corners 0 t f e p.own.corners p.second.corners p.third.corners b (omega arith)
        (omega arith) in
        let L = rows l 0 t f e p.own.links p.second.links p.third.links b (omega arith) (omega arith) in
        let G =
        cells m.generations 0 t f e p.own.generation p.second.generation p.third.generation b
        (omega arith) (omega arith) in
        record {
          makes = refl;
          vertices = refl;
          triangles = refl;
          own = record { corners = C.0; links = L.0; generation = G.0 };
          second = record { corners = C.1; links = L.1; generation = G.1 };
          third = record { corners = C.2; links = L.2; generation = G.2 };
          corners = λ h i j. C.3 h j (omega arith) (omega arith);
          links = λ h i j.
              L.3 h j (omega arith) (omega arith)
              ∙ relinked m.links (3 * f) (mutual_links m F) F.link_room
              (omega (arith, F.slots, F.generation_room)) (3 * t + 1) p.place₁ (3 * t + 2) p.place₂ h
              (omega arith) (omega arith) (omega arith) i;
          generations = λ x i j. G.3 x j (omega arith) (omega arith);
          corner_room = simp length-set;
          link_room = simp length-set;
          generation_room = simp length-set;
          past = past_parted;
        }

-- ---- a face split

-- The children of t = (A,B,C), with P for the new vertex.
abbrev pub face_parts : ℕ → Topology → Parts
face_parts t m =
    let f = m.triangles in
    let e = f + 1 in
    let p = m.vertices in
    let a = origin m (3 * t) in
    let b = origin m (3 * t + 1) in
    let c = origin m (3 * t + 2) in
    let g = suc (generation m t) in
    record {
      own = record { corners = (a, b, p); links = (link m (3 * t), 3 * f + 2, 3 * e + 1); generation = g };
      second = record { corners = (b, c, p); links = (link m (3 * t + 1), 3 * e + 2, 3 * t + 1); generation = g };
      third = record { corners = (c, a, p); links = (link m (3 * t + 2), 3 * t + 2, 3 * f + 1); generation = g };
      place₁ = 3 * f;
      place₂ = 3 * e;
      vertices = suc p;
    }

pub split_is : (t : ℕ) (m : Topology) → face_cut t m ≡ parted t (face_parts t m) m
unfolding face_cut
split_is t m = refl

-- ---- a rim split

-- The triangles in the place of t = (A,B,P), with A' and B' for the new vertices.
abbrev pub rim_parts : ℕ → Topology → Parts
rim_parts t m =
    let f = m.triangles in
    let e = f + 1 in
    let v = m.vertices in
    let a = origin m (3 * t) in
    let b = origin m (3 * t + 1) in
    let p = origin m (3 * t + 2) in
    let g = generation m t in
    record {
      own = record { corners = (p, a, v); links = (link m (3 * t + 2), boundary, 3 * f + 2); generation = g + 2 };
      second = record { corners = (v, v + 1, p); links = (boundary, 3 * e + 1, 3 * t + 2); generation = g + 3 };
      third = record { corners = (b, p, v + 1); links = (link m (3 * t + 1), 3 * f + 1, boundary); generation = g + 2 };
      place₁ = 3 * e;
      place₂ = 3 * t;
      vertices = v + 2;
    }

pub rim_is : (t : ℕ) (m : Topology) → rim_cut t m ≡ parted t (rim_parts t m) m
unfolding rim_cut
rim_is t m = refl
