-- A walk round a vertex, side by side, and the ring that it gives.
use borrow.Author.Tests.{ltb-true, ltb-false, lt-ltb, eq-eqb, ne_eqb}
use Prim.Native.Nat.{ℕ, zero, suc, ◌+◌, ◌-◌, ◌*◌, ◌≤◌, ◌<◌}
use native.Mathlib.Decide.{ℕ_discrete}
use native.Mathlib.Omega.{arith}
use mathlib.Core.Bool.{Bool, true, false, not, ◌&&◌}
use mathlib.Core.List.{List, [], ◌∷◌}
use mathlib.Core.Logic.{◌≢◌}
use mathlib.Core.Path.{◌≡◌, refl, sym, ◌∙◌, ap}
use lib.Dec.{eqb, ltb}
use lib.ListN.{length, get_or, drop, length-drop}
use lib.Seq.{get_or-drop, drop-drop}
use Rattle.theory.proofs.Rings.FanTotal.{walk_length}
use Rattle.rules.specs.Ring.{first_side, fan_from, fan, neighbours, ring}
use Rattle.rules.specs.Tables.{Topology, sides, origin, target, next, previous, link, rotate, boundary, topology_of}
use Rattle.rings.specs.Rings.{ring_from, goes_on, entries_at, Meets}

-- The ring of a vertex is the ring from its first side.
pub ring_from_lem : (m : Topology) (v : ℕ) → first_side m v < sides m → ring m v ≡ ring_from m (first_side m v)
unfolding ring fan ring_from
ring_from_lem m v l = simp (lt-ltb (first_side m v) (sides m) l, ring, fan, ring_from)

-- ---- lists, from place n on

-- What is left from n on is x and then xs.
record Front (r : List ℕ) (n x : ℕ) (xs : List ℕ) : Type 0 where
  size : length r ≡ n + suc (length xs)
  entry : get_or r n 0 ≡ x
  rest : drop (n + 1) r ≡ xs

front : (r : List ℕ) (n x : ℕ) (xs : List ℕ) → drop n r ≡ x ∷ xs → Front r n x xs
front r n x xs e =
    let a : length r - n ≡ suc (length xs) = sym (length-drop n r) ∙ ap length e in
    let z : n + 0 ≡ n = omega arith in
    record {
      size = omega arith;
      entry = rw z at (sym (get_or-drop n r 0 0) ∙ ap (λ (l : List ℕ). get_or l 0 0) e);
      rest = sym (drop-drop 1 n r) ∙ ap (λ (l : List ℕ). drop 1 l) e;
    }

-- The neighbours from place n on are those along the sides from there on.
neighbours_from : (m : Topology) (n : ℕ) (w : List ℕ) (h : ℕ) (l : List ℕ) → drop n w ≡ h ∷ l
    → drop n (neighbours m w) ≡ neighbours m (h ∷ l)
unfolding neighbours
neighbours_from m zero w h l e = ap (neighbours m) e
neighbours_from m (suc n) [] h l e = absurd (omega (arith, ap length e))
neighbours_from m (suc n) (a ∷ []) h l e = absurd (omega (arith, ap length e, length-drop {A = ℕ} n []))
neighbours_from m (suc n) (a ∷ b ∷ w) h l e = neighbours_from m n (b ∷ w) h l e

-- ---- the sides and the neighbours from h on, by the way that the walk goes

both : (a b : Bool) → (a && b) ≡ true → (a ≡ true) × (b ≡ true)
both true b e = (refl, e)
both false b e = (e, (cc))

fan_on : (m : Topology) (s j h : ℕ) → (ltb (rotate m h) (sides m) && not (eqb (rotate m h) s)) ≡ true
    → fan_from (suc j) m s h ≡ h ∷ fan_from j m s (rotate m h)
unfolding fan_from
fan_on m s j h e = rw (e, fan_from)

fan_back : (m : Topology) (s j h : ℕ) → (ltb (rotate m h) (sides m) && not (eqb (rotate m h) s)) ≡ false
    → fan_from (suc j) m s h ≡ h ∷ []
unfolding fan_from
fan_back m s j h e = rw (e, fan_from)

fan_full : (m : Topology) (s h : ℕ) → fan_from 1 m s h ≡ h ∷ []
unfolding fan_from
fan_full m s h = go (ltb (rotate m h) (sides m) && not (eqb (rotate m h) s))
  where
    go : (b : Bool) → ◌≡◌ {A = List ℕ} (h ∷ elim b [ true ↦ fan_from 0 m s (rotate m h) | false ↦ [] ]) (h ∷ [])
    go true = refl
    go false = refl

-- No side comes after h, because j is 0 (`more` is false) or because the walk is back at s or has left the triangles.
fan_last : (m : Topology) (s j h : ℕ) (more : Bool)
    → (more && (ltb (rotate m h) (sides m) && not (eqb (rotate m h) s))) ≡ false → (more ≡ false → j ≡ 0)
    → fan_from (suc j) m s h ≡ h ∷ []
fan_last m s j h true e z = fan_back m s j h e
fan_last m s j h false e z = rw (z refl) (fan_full m s h)

some_left : (m : Topology) (h : ℕ) (l : List ℕ) → ((xs : List ℕ) × (neighbours m (h ∷ l) ≡ target m h ∷ xs))
unfolding neighbours
some_left m h [] = (_, refl)
some_left m h (k ∷ l) = (_, refl)

last_inside : (m : Topology) (h : ℕ) → rotate m h ≢ boundary → neighbours m (h ∷ []) ≡ target m h ∷ []
unfolding neighbours
last_inside m h o = rw (ne_eqb _ _ o, neighbours)

last_at_boundary : (m : Topology) (h : ℕ) → rotate m h ≡ boundary
    → neighbours m (h ∷ []) ≡ target m h ∷ origin m (previous h) ∷ []
unfolding neighbours
last_at_boundary m h e = rw (eq-eqb _ _ e, neighbours)

-- ---- the walk from s when n sides are met and h is the next

abbrev walk : Topology → ℕ → List ℕ
walk m s = fan_from m.triangles m s s

-- What is left of the walk is the walk from h on.
abbrev AtSide : Topology → ℕ → ℕ → ℕ → Type 0
AtSide m s n h = drop n (walk m s) ≡ fan_from (m.triangles - n) m s h

begins : (m : Topology) (s : ℕ) → AtSide m s 0 s
begins m s = let e : m.triangles - 0 ≡ m.triangles = omega arith in rw e refl

-- One turn, from side h.
module _ (m : Topology) (s n h : ℕ) (room : n < m.triangles) (at : AtSide m s n h) where
  turn : (l : List ℕ) → fan_from (suc (m.triangles - (n + 1))) m s h ≡ h ∷ l → drop n (walk m s) ≡ h ∷ l
  turn l e =
      let a : m.triangles - n ≡ suc (m.triangles - (n + 1)) = omega arith in
      (rw a at at) ∙ e

  ring_turn : (l : List ℕ) → drop n (walk m s) ≡ h ∷ l → (xs : List ℕ) → neighbours m (h ∷ l) ≡ target m h ∷ xs
      → Front (ring_from m s) n (target m h) xs
  unfolding ring_from
  ring_turn l e xs f = front (ring_from m s) n (target m h) xs (neighbours_from m n (walk m s) h l e ∙ f)

  has_entry : (q : ℕ) → q ≡ next h → (n < length (ring_from m s)) × (get_or (ring_from m s) n 0 ≡ origin m q)
  unfolding fan_from
  has_entry q e =
      let k = some_left m h _ in
      let f = ring_turn _ (turn _ refl) k.0 k.1 in
      (omega (arith, f.size), rw e f.entry)

  module _ (p : ℕ) (before : p ≡ previous h) where
    goes_to_next : goes_on m.triangles s (n + 1) (link m p) ≡ true → AtSide m s (n + 1) (link m p)
    goes_to_next e =
        let b = both (ltb (n + 1) m.triangles) _ (rw before at e) in
        let j = m.triangles - (n + 1) in
        let f = front (walk m s) n h (fan_from j m s (rotate m h)) (turn _ (fan_on m s j h b.1)) in
        rw before f.rest

    module _ (e : goes_on m.triangles s (n + 1) (link m p) ≡ false) where
      last : drop n (walk m s) ≡ h ∷ []
      last =
          turn [] (fan_last m s (m.triangles - (n + 1)) h (ltb (n + 1) m.triangles) (rw before at e)
          (λ q. omega (arith, ltb-false (n + 1) m.triangles q)))

      all_met : n + 1 ≡ walk_length m s
      all_met = let f = front (walk m s) n h [] last in omega (arith, f.size)

      ends_inside : link m p ≢ boundary → n + 1 ≡ length (ring_from m s)
      ends_inside o =
          let f = ring_turn [] last [] (last_inside m h (rw before at o)) in
          omega (arith, f.size)

      ends_with : link m p ≡ boundary
          → (n + 1 + 1 ≡ length (ring_from m s)) × (get_or (ring_from m s) (n + 1) 0 ≡ origin m p)
      ends_with b =
          let o = origin m (previous h) in
          let f = ring_turn [] last (o ∷ []) (last_at_boundary m h (rw before at b)) in
          let g = front (ring_from m s) (n + 1) o [] f.rest in
          (omega (arith, g.size), rw before g.entry)

-- ---- what the loops cite: the state of a loop that walks from s, when n sides are met and h is the next

pub record OnWalk (triangles : ℕ) (links : List ℕ) (s n h : ℕ) : Type 0 where
  pub more : n < triangles
  pub in_use : h < 3 * triangles
  pub at : (v : ℕ) (c g : List ℕ) → AtSide (topology_of v triangles c links g) s n h

-- The ring from s has an entry n, which is x; it has n entries.
pub record EntryIs (triangles : ℕ) (corners links : List ℕ) (s n x : ℕ) : Type 0 where
  pub has : (v : ℕ) (g : List ℕ) → n < length (ring_from (topology_of v triangles corners links g) s)
  pub is : (v : ℕ) (g : List ℕ) → get_or (ring_from (topology_of v triangles corners links g) s) n 0 ≡ x

pub record LengthIs (triangles : ℕ) (corners links : List ℕ) (s n : ℕ) : Type 0 where
  pub all : (v : ℕ) (g : List ℕ) → n ≡ length (ring_from (topology_of v triangles corners links g) s)

pub on_walk : (t : ℕ) (links : List ℕ) (s : ℕ) → s < 3 * t → OnWalk t links s 0 s
on_walk t links s l = record { more = omega arith; in_use = l; at = λ v c g. begins _ s }

-- A side to which the walk goes on is in use.
next_in_use : (t s n k : ℕ) → goes_on t s n k ≡ true → (n < t) × (k < 3 * t)
next_in_use t s n k e =
    let b = both _ _ e in
    (ltb-true n t b.0, ltb-true k (3 * t) (both _ _ b.1).0)

-- At the boundary the walk does not go on.
ends_there : (t s n k : ℕ) → t ≤ 65536 → k ≡ boundary → goes_on t s n k ≡ false
ends_there t s n k few e = go (goes_on t s n k) refl
  where
    go : (b : Bool) → goes_on t s n k ≡ b → goes_on t s n k ≡ false
    go true q = absurd (omega (arith, (next_in_use t s n k q).1))
    go false q = q

module _ {t : ℕ} {links : List ℕ} {s n h : ℕ} (w : OnWalk t links s n h) where
  -- The next entry is the target of h.
  pub entry_at : (c : List ℕ) (q : ℕ) → q ≡ next h → EntryIs t c links s n (get_or c q 0)
  entry_at c q e = record {
    has = λ v g. (has_entry (topology_of v t c links g) s n h w.more (w.at v c g) q e).0;
    is = λ v g. (has_entry (topology_of v t c links g) s n h w.more (w.at v c g) q e).1;
  }

  module _ (p : ℕ) (before : p ≡ previous h) where
    pub walks_on : goes_on t s (n + 1) (get_or links p 0) ≡ true → OnWalk t links s (n + 1) (get_or links p 0)
    walks_on e =
        let u = next_in_use t s (n + 1) (get_or links p 0) e in
        record {
          more = u.0;
          in_use = u.1;
          at = λ v c g. goes_to_next (topology_of v t c links g) s n h w.more (w.at v c g) p before e;
        }

    pub ends : goes_on t s (n + 1) (get_or links p 0) ≡ false → get_or links p 0 ≢ boundary
        → (c : List ℕ) → LengthIs t c links s (n + 1)
    ends e o c = record {
      all = λ v g. ends_inside (topology_of v t c links g) s n h w.more (w.at v c g) p before e o;
    }

    -- At the boundary one entry more is the last: the origin of the side before h.
    pub ends_at_boundary : t ≤ 65536 → get_or links p 0 ≡ boundary
        → (c : List ℕ) → LengthIs t c links s (n + 1 + 1) × EntryIs t c links s (n + 1) (get_or c p 0)
    ends_at_boundary few b c = (
      record { all = λ v g. (last_one v g).0 },
      record {
        has = λ v g. omega (arith, (last_one v g).0);
        is = λ v g. (last_one v g).1;
      },
    )
      where
        last_one : (v : ℕ) (g : List ℕ) →
            let r = ring_from (topology_of v t c links g) s in
            (n + 1 + 1 ≡ length r) × (get_or r (n + 1) 0 ≡ get_or c p 0)
        last_one v g =
            ends_with (topology_of v t c links g) s n h w.more (w.at v c g) p before
            (ends_there t s (n + 1) (get_or links p 0) few b) b

    pub meets : t ≤ 65536 → goes_on t s (n + 1) (get_or links p 0) ≡ false → {r : ℕ}
        → r ≡ entries_at (n + 1) (get_or links p 0) → Meets t links s (n + 1) r
    unfolding entries_at
    meets few e {r} q = go (ℕ_discrete (get_or links p 0) boundary)
      where
        made : r ≤ n + 1 + 1 → ((c : List ℕ) → LengthIs t c links s r) → Meets t links s (n + 1) r
        made l f = record {
          few = omega (arith, w.more);
          few_entries = l;
          sides = λ v c g. all_met (topology_of v t c links g) s n h w.more (w.at v c g) p before e;
          ring = λ v c g. (f c).all v g;
        }

        go : Dec (get_or links p 0 ≡ boundary) → Meets t links s (n + 1) r
        go (yes b) =
            let z : r ≡ n + 1 + 1 = rw (eq-eqb _ _ b, entries_at) at q in
            made (omega arith) (λ c. rw z (ends_at_boundary few b c).0)
        go (no o) =
            let z : r ≡ n + 1 = rw (ne_eqb _ _ o, entries_at) at q in
            made (omega arith) (λ c. rw z (ends e o c))
