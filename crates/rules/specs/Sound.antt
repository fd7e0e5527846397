-- When tables are sound, stated and as a test. (The cage and the lent tables, "Sound")
use Rattle.std.specs.Prelude.{ℕ, ◌+◌, ◌*◌, ◌/◌, ◌%◌, ◌≤◌, ◌<◌, Bool, true, false, not, ◌&&◌, ◌||◌, ◌≢◌, ◌⊎◌, ◌≡◌, T, eqb, leb, ltb, pos, length, get_or}
use Rattle.rules.specs.Below.{all, count}
use Rattle.rules.specs.Numbers.{InRange, in_range, KnownRule, known_rule}
use Rattle.rules.specs.Ring.{fan}
use Rattle.rules.specs.Tables.{Topology, Mesh, TablesAgree, tables_agree, vertex_slots, triangle_slots, sides}
use Rattle.rules.specs.Tables.{origin, target, link, rotate, boundary, generation, odd, lock}

-- ---- the five kinds of linked pairs

-- What a side is, with the generation of its triangle: a side of an even one, the base of an odd one, or another side
-- of an odd one, a non-base side.
pub data Role : Type 0 where
  even : ℕ → Role
  base : ℕ → Role
  other : ℕ → Role

-- Side i of a triangle of generation g.
abbrev pub role_of : ℕ → ℕ → Role
role_of g i = elim (odd g) [ false ↦ even g | true ↦ elim (eqb i 0) [ true ↦ base g | false ↦ other g ] ]

-- What side h of the tables is.
abbrev pub role : Topology → ℕ → Role
role m h = role_of (generation m (h / 3)) (h % 3)

-- The outline's list of what may be linked, each of its five kinds in both orders; two bases never meet.
abbrev pub five_kinds : Role → Role → Bool
five_kinds (even g) (even h) = eqb g h
five_kinds (even g) (base h) = eqb h (g + 1)
five_kinds (base h) (even g) = eqb h (g + 1)
five_kinds (even g) (other h) = eqb g (h + 1)
five_kinds (other h) (even g) = eqb g (h + 1)
five_kinds (other g) (other h) = eqb g h
five_kinds (base g) (other h) = eqb g (h + 2)
five_kinds (other h) (base g) = eqb g (h + 2)
five_kinds (base g) (base h) = false

-- ---- the statement

-- Side h has a partner: a side in use that links back, runs between the same two vertices the other way, and is of a
-- fitting kind.
pub record Linked (m : Topology) (h : ℕ) : Type 0 where
  pub in_use : link m h < sides m
  pub back : link m (link m h) ≡ h
  pub from : origin m (link m h) ≡ target m h
  pub onto : target m (link m h) ≡ origin m h
  pub kind : T (five_kinds (role m h) (role m (link m h)))

-- Turning about the origin of side s, each time across the side that leads into it, leads to side k.
pub data Turns (m : Topology) (s : ℕ) : ℕ → Type 0 where
  here : Turns m s s
  turn : {h k : ℕ} → Turns m s h → rotate m h ≡ k → k < sides m → Turns m s k

-- One fan: v has a triangle, and turning from one of its sides leads to the side out of v in each of its triangles. At
-- the boundary that one is the side on it.
pub record OneFan (m : Topology) (v : ℕ) : Type 0 where
  pub first : ℕ
  pub in_use : first < sides m
  pub out : origin m first ≡ v
  pub all : (h : ℕ) → h < sides m → origin m h ≡ v → Turns m first h

-- Sound. `tables` is condition 1, so that Sound can stand alone; the five kinds stand in `linked`; the rule is request
-- c's, the locks are request i's.
pub record Sound (m : Mesh) : Type 0 where
  pub tables : TablesAgree m
  pub some_vertex : 1 ≤ m.topology.vertices
  pub some_triangle : 1 ≤ m.topology.triangles
  pub vertex_room : m.topology.vertices ≤ vertex_slots m
  pub triangle_room : m.topology.triangles ≤ triangle_slots m
  pub corner : (h : ℕ) → h < sides m.topology → origin m.topology h < m.topology.vertices
  pub distinct : (h : ℕ) → h < sides m.topology → origin m.topology h ≢ target m.topology h
  pub linked : (h : ℕ) → h < sides m.topology → (link m.topology h ≡ boundary) ⊎ Linked m.topology h
  pub fans : (v : ℕ) → v < m.topology.vertices → OneFan m.topology v
  pub range : (i : ℕ) → i < 3 * m.topology.vertices → InRange (get_or m.positions i (pos 0))
  pub generations : (t : ℕ) → t < m.topology.triangles → generation m.topology t ≤ 20
  pub locks : (t : ℕ) → t < m.topology.triangles → lock m t ≤ 1
  pub rule : KnownRule m.rule

-- ---- the test, which says yes exactly for sound tables (theory/proofs/Results, sound-test)

-- Linked, as a test.
unfoldable pub is_linked : Topology → ℕ → Bool
is_linked m h =
    let k = link m h in
    ltb k (sides m)
    && eqb (link m k) h
    && eqb (origin m k) (target m h)
    && eqb (target m k) (origin m h)
    && five_kinds (role m h) (role m k)

-- The corner, its difference from the next and the link of one side.
unfoldable pub sound_side : Topology → ℕ → Bool
sound_side m h =
    ltb (origin m h) m.vertices
    && not (eqb (origin m h) (target m h))
    && (eqb (link m h) boundary || is_linked m h)

-- OneFan as a test: the walk round v meets as many triangles as v has, and at least one.
unfoldable pub has_one_fan : Topology → ℕ → Bool
has_one_fan m v =
    let n = length (fan m v) in
    ltb 0 n && eqb n (count (sides m) (λ h. eqb (origin m h) v))

-- Sound as a test.
unfoldable pub is_sound : Mesh → Bool
is_sound m =
    let t = m.topology in
    tables_agree m
    && leb 1 t.vertices
    && leb 1 t.triangles
    && leb t.vertices (vertex_slots m)
    && leb t.triangles (triangle_slots m)
    && all (sides t) (sound_side t)
    && all t.vertices (has_one_fan t)
    && all (3 * t.vertices) (λ i. in_range (get_or m.positions i (pos 0)))
    && all t.triangles (λ x. leb (generation t x) 20)
    && all t.triangles (λ x. leb (lock m x) 1)
    && known_rule m.rule
