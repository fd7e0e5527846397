-- Face split, rim split, flip, the base chain and the refinement of one triangle. (Face split and flip; Refine one
-- triangle; requests b, i, m)
use Rattle.std.specs.Prelude.{ℕ, zero, suc, ◌+◌, ◌*◌, ◌/◌, true, false, List, [], ◌∷◌, ◌++◌, eqb, ltb, ℤ, ◌+ℤ◌, set}
use Rattle.rules.specs.Numbers.{nearest_third}
use Rattle.rules.specs.Tables.{Topology, Mesh, mesh_of, with_topology, origin, link, boundary, generation, odd}
use Rattle.rules.specs.Tables.{is_base, coordinate, put_three, put_triangle, relink, with_counts}

-- The 1-to-3 split of t = (A,B,C), with no flip yet; refine uses it where t is even. P is the new vertex V; the new
-- slots are f = F and e = F + 1. t becomes (A,B,P), f (B,C,P) and e (C,A,P), one generation up. The old sides become
-- the bases: A→B stays, B→C moves to slot f, C→A to slot e, and their partners' links name the new places.
--
--            C                         C
--           / \                       /|\
--          /   \                     / | \
--         /  t  \                   / e|f \
--        /       \                 /  .P.  \
--       /         \               / .  t  . \
--      A-----------B             A-----------B
unfoldable pub face_cut : ℕ → Topology → Topology
face_cut t m =
    let f = m.triangles in
    let e = f + 1 in
    let p = m.vertices in
    let a = origin m (3 * t) in
    let b = origin m (3 * t + 1) in
    let c = origin m (3 * t + 2) in
    let ab = link m (3 * t) in
    let bc = link m (3 * t + 1) in
    let ca = link m (3 * t + 2) in
    let g = suc (generation m t) in
    let told = relink ca (3 * e) (relink bc (3 * f) m) in
    let one = put_triangle t (a, b, p) (ab, 3 * f + 2, 3 * e + 1) g told in
    let two = put_triangle f (b, c, p) (bc, 3 * e + 2, 3 * t + 1) g one in
    let three = put_triangle e (c, a, p) (ca, 3 * t + 2, 3 * f + 1) g two in
    with_counts (suc p) (f + 2) three

-- The 1-to-3 split of an odd t = (A,B,P) whose base A→B is on the boundary (the outline's rim), with no flip yet. A'
-- and B' are the new vertices V and V + 1; the new slots are f = F and e = F + 1. t becomes (P,A,A') and e (B,P,B'),
-- two generations up, and f (A',B',P), three up. The base goes, and the other two sides become bases: P→A moves to side
-- 0 of t, B→P to slot e, and their partners' links name the new places. (Request b)
--
--               P                            P
--             .   .                       . / \ .
--           .       .                   .  /   \  .
--         .     t     .               .   /     \   .
--       .               .           .  t /   f   \ e  .
--      A-----------------B         A----A'-------B'----B
unfoldable pub rim_cut : ℕ → Topology → Topology
rim_cut t m =
    let f = m.triangles in
    let e = f + 1 in
    let v = m.vertices in
    let a = origin m (3 * t) in
    let b = origin m (3 * t + 1) in
    let p = origin m (3 * t + 2) in
    let bp = link m (3 * t + 1) in
    let pa = link m (3 * t + 2) in
    let g = generation m t in
    let told = relink pa (3 * t) (relink bp (3 * e) m) in
    let one = put_triangle t (p, a, v) (pa, boundary, 3 * f + 2) (g + 2) told in
    let two = put_triangle f (v, v + 1, p) (boundary, 3 * e + 1, 3 * t + 2) (g + 3) one in
    let three = put_triangle e (b, p, v + 1) (bp, 3 * f + 1, boundary) (g + 2) two in
    with_counts (v + 2) (f + 2) three

-- The flip (edge flip) of s = (A,B,P) and u = (B,A,Q), whose bases meet; in sound tables both are then of one odd
-- generation. s becomes (A,Q,P) and u (B,P,Q), one generation up. B→P moves to side 0 of u and A→Q to side 0 of s; P→A
-- and Q→B stay.
--
--            P                         P
--           / \                       /|\
--          / s \                     / | \
--         A-----B                   A s|u B
--          \ u /                     \ | /
--           \ /                       \|/
--            Q                         Q
unfoldable pub flip : ℕ → ℕ → Topology → Topology
flip s u m =
    let a = origin m (3 * s) in
    let b = origin m (3 * u) in
    let p = origin m (3 * s + 2) in
    let q = origin m (3 * u + 2) in
    let bp = link m (3 * s + 1) in
    let pa = link m (3 * s + 2) in
    let aq = link m (3 * u + 1) in
    let qb = link m (3 * u + 2) in
    let g = suc (generation m s) in
    let told = relink aq (3 * s) (relink bp (3 * u) m) in
    let one = put_triangle s (a, q, p) (aq, 3 * u + 1, pa) g told in
    put_triangle u (b, p, q) (bp, 3 * s + 1, qb) g one

-- ---- counted work

-- A mesh with the splits, face and rim, and the flips made so far, counted as they are made, and the report of the
-- slots whose corners or generation they wrote, in the order of the work, repeats kept. The calls build it by the four
-- functions below alone.
pub record Work : Type 0 where
  pub mesh : Mesh
  pub splits : ℕ
  pub flips : ℕ
  pub report : List ℕ

-- Nothing made yet.
abbrev pub at_first : Mesh → Work
at_first m = record { mesh = m; splits = 0; flips = 0; report = [] }

-- One more split, of t: it reports its own slot and then the new ones. (Request m)
abbrev pub with_split : ℕ → Mesh → Work → Work
with_split t m w =
    let f = w.mesh.topology.triangles in
    record { mesh = m; splits = suc w.splits; flips = w.flips; report = w.report ++ (t ∷ f ∷ (f + 1) ∷ []) }

-- One more flip, of s and u: it reports them in this order. (Request m)
abbrev pub with_flip : ℕ → ℕ → Mesh → Work → Work
with_flip s u m w =
    record { mesh = m; splits = w.splits; flips = suc w.flips; report = w.report ++ (s ∷ u ∷ []) }

-- Another mesh.
abbrev pub with_mesh : Mesh → Work → Work
with_mesh m w = record { mesh = m; splits = w.splits; flips = w.flips; report = w.report }

-- ---- the splits with their flips

-- Coordinate k of the nearest third of the sum of the corners h, i and j of t.
abbrev pub third_of : ℕ → ℕ → ℕ → Mesh → ℕ → ℕ → ℤ
third_of h i j m t k =
    let at : ℕ → ℤ = λ corner. coordinate m (origin m.topology (3 * t + corner)) k in
    nearest_third (at h +ℤ at i +ℤ at j)

-- Coordinate k of the centre of t; of the first third of its base A→B, (2A + B) / 3; and of the second, (A + 2B) / 3.
unfoldable pub centre : Mesh → ℕ → ℕ → ℤ
centre = third_of 0 1 2

unfoldable pub first_third : Mesh → ℕ → ℕ → ℤ
first_third = third_of 0 0 1

unfoldable pub second_third : Mesh → ℕ → ℕ → ℤ
second_third = third_of 0 1 1

-- The locks with those of a split's new slots, f and f + 1, clear. (Request i)
abbrev pub new_unlocked : ℕ → List ℕ → List ℕ
new_unlocked f locks = set (set locks f 0) (f + 1) 0

-- The split with the new vertex placed at the centre.
unfoldable pub face_placed : ℕ → Mesh → Mesh
face_placed t m =
    let v = m.topology.vertices in
    mesh_of (face_cut t m.topology) (put_three v (centre m t 0, centre m t 1, centre m t 2) m.positions)
    (new_unlocked m.topology.triangles m.locks) m.rule

-- The cut of the rim split with A' and B' placed at the thirds of the base.
unfoldable pub rim_placed : ℕ → Mesh → Mesh
rim_placed t m =
    let v = m.topology.vertices in
    let one = put_three v (first_third m t 0, first_third m t 1, first_third m t 2) m.positions in
    let two = put_three (v + 1) (second_third m t 0, second_third m t 1, second_third m t 2) one in
    mesh_of (rim_cut t m.topology) two (new_unlocked m.topology.triangles m.locks) m.rule

-- Where the base of s, a triangle just made by a split, meets a base: flip the two. The boundary is no base: it reads
-- as a side of a slot past the table, whose generation is 0.
unfoldable pub settle : ℕ → Work → Work
settle s w =
    let m = w.mesh.topology in
    let h = link m (3 * s) in
    elim (is_base m h) [ true ↦ with_flip s (h / 3) (with_topology (flip s (h / 3) m) w.mesh) w | false ↦ w ]

-- These triangles settled in order.
abbrev pub settle_all : List ℕ → Work → Work
settle_all [] w = w
settle_all (s ∷ rest) w = settle_all rest (settle s w)

-- The outline's face split: the split, and then a flip wherever the base of t, F or F + 1, in this order, meets a base.
unfoldable pub face_split : ℕ → Work → Work
face_split t w =
    let f = w.mesh.topology.triangles in
    settle_all (t ∷ f ∷ (f + 1) ∷ []) (with_split t (face_placed t w.mesh) w)

-- The rim split of an odd t whose base is on the boundary: the cut, and then a flip wherever the base of t or F + 1, in
-- this order, meets a base. Slot F is even and has none. After the face split of a cage of one triangle, three rim
-- splits and their flips make nine triangles of it (Figure 8).
--
--             2                     2                     2
--            / \                   /|\                   / \
--           /   \                 / | \                 8---7
--          /     \               /  |  \               / \ / \
--         /       \             /  .3.  \             9---3---6
--        /         \           / .     . \           / \ / \ / \
--       0-----------1         0-----------1         0---4---5---1
unfoldable pub rim_split : ℕ → Work → Work
rim_split t w =
    let f = w.mesh.topology.triangles in
    settle_all (t ∷ (f + 1) ∷ []) (with_split t (rim_placed t w.mesh) w)

-- The split of the last triangle of a base chain: the face split of an even one, the rim split of an odd one.
abbrev pub split_at : ℕ → Work → Work
split_at t w = elim (odd (generation w.mesh.topology t)) [ false ↦ face_split t w | true ↦ rim_split t w ]

-- ---- the base chain: from an odd triangle on to the one across its base, until an even triangle or the boundary

-- Its last triangle, from t on, after at most n steps: an even one, or an odd one whose base is on the boundary.
unfoldable pub chain_end_within : ℕ → Topology → ℕ → ℕ
chain_end_within zero m t = t
chain_end_within (suc n) m t = elim (odd (generation m t)) [
  | false ↦ t
  | true ↦ elim (eqb (link m (3 * t)) boundary) [ true ↦ t | false ↦ chain_end_within n m (link m (3 * t) / 3) ]
]

-- The triangle that i bases lead to from t.
unfoldable pub chain_at : ℕ → Topology → ℕ → ℕ
chain_at zero m t = t
chain_at (suc i) m t = link m (3 * chain_at i m t) / 3

-- The number of odd triangles among its first n.
unfoldable pub chain_odd_within : ℕ → Topology → ℕ → ℕ
chain_odd_within zero m t = 0
chain_odd_within (suc n) m t = elim (odd (generation m t)) [
  | false ↦ 0
  | true ↦ elim (eqb (link m (3 * t)) boundary) [ true ↦ 1 | false ↦ suc (chain_odd_within n m (link m (3 * t) / 3)) ]
]

-- The chain's last triangle and its number of odd ones. In sound tables generations fall along the chain, so that the
-- generation of t bounds its steps.
abbrev pub chain_end : Topology → ℕ → ℕ
chain_end m t = chain_end_within (generation m t) m t

abbrev pub chain_odd : Topology → ℕ → ℕ
chain_odd m t = chain_odd_within (generation m t) m t

-- ---- refining a triangle

-- At most n splits, each at the end of the base chain of t, until the generation of t is above g.
unfoldable pub raise : ℕ → ℕ → ℕ → Work → Work
raise zero g t w = w
raise (suc n) g t w = elim (ltb g (generation w.mesh.topology t)) [
  | true ↦ w
  | false ↦ raise n g t (split_at (chain_end w.mesh.topology t) w)
]

-- Splits from the end of the base chain of t upwards, until t has risen: by its own split where t is that end, else by
-- its flip. Only the first can be a rim split, and this flips the odd triangle before it too. What lies across a base
-- is read from the links each time, as a flip may move it to another slot. The bound g + 1 on the splits is never
-- reached short of that.
unfoldable pub refine : ℕ → Work → Work
refine t w =
    let g = generation w.mesh.topology t in
    raise (suc g) g t w
