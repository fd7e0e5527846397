-- What splits, flips and chains make, as records of the code.
use Rattle.std.specs.Prelude.{ℕ, suc, ◌+◌, ◌*◌, ◌%◌, ◌≤◌, ◌<◌, List, [], ◌∷◌, ◌≡◌, length, get_or}
use Rattle.rules.specs.Calls.{rim_splits_of}
use Rattle.rules.specs.Conditions.{RoomFor}
use Rattle.rules.specs.Split as rules
use Rattle.rules.specs.Split.{settle_all, split_at, chain_end, chain_odd, chain_at}
use Rattle.rules.specs.Spares.{Spares}
use Rattle.rules.specs.Tables.{Topology, TablesAgree, boundary, generation, triangle_slots, relink}
use Rattle.tables.specs.declared.Counts.{Counts}
use Rattle.tables.specs.declared.Triangle.{Triangle}
use Rattle.tables.specs.Lent.{mesh_with, entries, put}
use Rattle.split.specs.declared.Chain.{Chain}
use Rattle.split.specs.declared.Work.{Work}

-- ---- work

-- Its counts, with a rule: splits and flips do not round by it.
abbrev pub counts_of : ℕ → Work → Counts
counts_of rule w = record { vertices = w.vertices; triangles = w.triangles; rule = rule }

-- The work done, with a report, which the code does not keep, and what the tables hold.
abbrev pub work_now : ℕ → List ℕ → Work → Spares → rules.Work
work_now rule report w s = record {
  mesh = mesh_with (counts_of rule w) s;
  splits = w.splits;
  flips = w.flips;
  report = report;
}

-- What a split of t asks: tables that agree, a slot for t, room, which a rim split needs for a vertex more, and a
-- generation and counts that do not overflow.
pub record MaySplit (t : ℕ) (w : rules.Work) : Type 0 where
  pub tables : TablesAgree w.mesh
  pub slot : t < triangle_slots w.mesh
  pub room : RoomFor (1 + generation w.mesh.topology t % 2) 2 w.mesh
  pub young : generation w.mesh.topology t < 20
  pub splits : w.splits < 4294967295
  pub flips : w.flips + 3 ≤ 4294967295

-- What the split of t in w hands to its flips: its cut, of which they make the split by settling these slots. The three
-- triangles are young, and no flip is counted.
pub record Hands (t : ℕ) (w : rules.Work) (slots : List ℕ) (cut : rules.Work) : Type 0 where
  pub settled : settle_all slots cut ≡ split_at t w
  pub own : generation cut.mesh.topology t < 23
  pub second : generation cut.mesh.topology w.mesh.topology.triangles < 23
  pub third : generation cut.mesh.topology (w.mesh.topology.triangles + 1) < 23
  pub flips : cut.flips ≡ w.flips

-- ---- triangles

abbrev pub triangle : ℕ × ℕ × ℕ → ℕ × ℕ × ℕ → ℕ → Triangle
triangle c l g = record {
  corners = c.0 ∷ c.1 ∷ c.2 ∷ [];
  links = l.0 ∷ l.1 ∷ l.2 ∷ [];
  generation = g;
}

-- What is read past the end of an array of triangles.
abbrev pub blank : Triangle
blank = record { corners = []; links = []; generation = 0 }

-- The children (A,B,P), (B,C,P) and (C,A,P) of x = (A,B,C), for the slots t, f and e = f + 1.
abbrev pub children_of : Triangle → ℕ → ℕ → ℕ → List Triangle
children_of x t f p =
    let c = entries x.corners in
    let l = entries x.links in
    let e = f + 1 in
    let g = suc x.generation in
    triangle (c.0, c.1, p) (l.0, 3 * f + 2, 3 * e + 1) g
    ∷ triangle (c.1, c.2, p) (l.1, 3 * e + 2, 3 * t + 1) g
    ∷ triangle (c.2, c.0, p) (l.2, 3 * t + 2, 3 * f + 1) g
    ∷ []

-- The triangles (P,A,A'), (A',B',P) and (B,P,B') of a rim split of x = (A,B,P), for the slots t, f and e = f + 1; A' is
-- v.
abbrev pub rim_children_of : Triangle → ℕ → ℕ → ℕ → List Triangle
rim_children_of x t f v =
    let c = entries x.corners in
    let l = entries x.links in
    let e = f + 1 in
    let g = x.generation in
    triangle (c.2, c.0, v) (l.2, boundary, 3 * f + 2) (g + 2)
    ∷ triangle (v, v + 1, c.2) (boundary, 3 * e + 1, 3 * t + 2) (g + 3)
    ∷ triangle (c.1, c.2, v + 1) (l.1, 3 * f + 1, boundary) (g + 2)
    ∷ []

-- Three triangles in slots t, f and f + 1, and the partners of the sides 1 and 2 of x told their new places h and k.
abbrev pub replaced : ℕ → ℕ → Triangle → List Triangle → ℕ → ℕ → Topology → Topology
replaced t f x three h k m =
    let told = relink (get_or x.links 2 0) k (relink (get_or x.links 1 0) h m) in
    put (f + 1) (get_or three 2 blank) (put f (get_or three 1 blank) (put t (get_or three 0 blank) told))

-- The flipped (A,Q,P) and (B,P,Q) of x = (A,B,P) and y = (B,A,Q), for the slots s and u.
abbrev pub flipped_of : Triangle → Triangle → ℕ → ℕ → List Triangle
flipped_of x y s u =
    let a = entries x.corners in
    let b = entries y.corners in
    let k = entries x.links in
    let l = entries y.links in
    let g = suc x.generation in
    triangle (a.0, b.2, a.2) (l.1, 3 * u + 1, k.2) g ∷ triangle (b.0, a.2, b.2) (k.1, 3 * s + 1, l.2) g ∷ []

-- ---- chains

-- The base chain of t.
pub record BaseChain (m : Topology) (t : ℕ) (c : Chain) : Type 0 where
  pub odd : c.odd ≡ chain_odd m t
  pub end : c.end ≡ chain_end m t
  pub rim : c.rim ≡ rim_splits_of m t
  pub slots : (i : ℕ) → i < c.odd → get_or c.slots i 0 ≡ chain_at i m t
  pub room : length c.slots ≡ 20
