-- The rim from a vertex on: it goes on at every vertex, meets none twice, and closes.
use mathlib.Core.Path.{◌≡◌, refl, sym, ap, ◌∙◌, subst}
use mathlib.Core.Logic.{◌≢◌}
use mathlib.Core.Bool.{Bool, true, false}
use mathlib.Core.List.{List, [], ◌∷◌}
use Prim.Native.Nat.{ℕ, zero, suc, ◌+◌, ◌-◌, ◌%◌, ◌≤◌, ◌<◌}
use native.Mathlib.Nat.{mod_self, mod-eq_of_lt}
use native.Mathlib.Omega.{arith}
use native.Mathlib.Decide.{ℕ_discrete, dec_lt}
use lib.Dec.{eqb}
use lib.ListN.{length, get_or}
use Rattle.theory.proofs.Links.Manifold.{Manifold}
use Rattle.theory.proofs.Links.Sides.{next_lt, previous_next}
use Rattle.theory.proofs.Numbers.Decide.{Decides, is_eq, lowest_is}
use Rattle.theory.proofs.Numbers.Pigeonhole.{no_more}
use Rattle.theory.proofs.Numbers.Sums.{total_const}
use Rattle.theory.proofs.Rings.RingTheory.{ring_of_lem}
use Rattle.theory.proofs.Rings.Turning.{manifold_glued, rotate_inner}
use Rattle.rules.specs.Below.{lowest, count}
use Rattle.rules.specs.Promises.{RimMakes, RingMakes, walk_at}
use Rattle.rules.specs.Rim.{rim_from, rim}
use Rattle.rules.specs.Ring.{OnBoundary, first_side, fan}
use Rattle.rules.specs.Tables.{Topology, sides, next, previous, origin, target, boundary, link, rotate}

-- Side h is on the boundary, and leaves v.
pub record RimSide (m : Topology) (v h : ℕ) : Type 0 where
  pub in_use : h < sides m
  pub out : origin m h ≡ v
  pub edge : link m h ≡ boundary

-- The vertex after v on its rim, and the one i vertices on.
abbrev pub rim_after : Topology → ℕ → ℕ
rim_after m v = target m (first_side m v)

unfoldable pub along : Topology → ℕ → ℕ → ℕ
along m v zero = v
along m v (suc i) = rim_after m (along m v i)

module _ (m : Topology) (F : Manifold m) where
  pub ring_at : (v : ℕ) → v < m.vertices → RingMakes m v
  ring_at v i = ring_of_lem m (manifold_glued F) v (F.fan v i)

  -- ---- one side of the rim

  -- A rim vertex has its ring start at a side on the boundary,
  rim_side : {v : ℕ} → v < m.vertices → OnBoundary m v → RimSide m v (first_side m v)
  rim_side {v} i b =
      let R = ring_at v i in
      record {
        in_use = subst (λ (h : ℕ). h < sides m) R.first (R.in_use 0 R.some);
        out = R.starts_out;
        edge = R.start.0 b;
      }

  -- and the walk round it meets no other there.
  pub only_there : {v h : ℕ} → v < m.vertices → (j : ℕ) → j < length (fan m v) → walk_at m v j ≡ h
      → link m h ≡ boundary → first_side m v ≡ h
  only_there {v} i zero k e q = sym (ring_at v i).first ∙ e
  only_there {v} {h} i (suc j) k e q =
      let R = ring_at v i in
      absurd (rotate_inner m (manifold_glued F) (walk_at m v j) h (R.in_use j (omega arith))
      (subst (λ (x : ℕ). x < sides m) e (R.in_use (suc j) k)) (sym (R.turns j k) ∙ e) q)

  pub only_side : {v h : ℕ} → v < m.vertices → RimSide m v h → first_side m v ≡ h
  only_side {v} {h} i S = let (j, k, e) = (ring_at v i).meets h S.in_use S.out in only_there i j k e S.edge

  -- The side after it ends the walk round the next vertex,
  pub ends : {v h : ℕ} → RimSide m v h
      → (i : ℕ) × (suc i ≡ length (fan m (target m h))) × (walk_at m (target m h) i ≡ next h)
  ends {v} {h} S = go M.0 M.1 M.2 (ℕ_discrete (suc M.0) (length (fan m w)))
    where
      w : ℕ
      w = target m h

      R : RingMakes m w
      R = ring_at w (F.corner (next h) (next_lt h m.triangles S.in_use))

      M : (j : ℕ) × (j < length (fan m w)) × (walk_at m w j ≡ next h)
      M = R.meets (next h) (next_lt h m.triangles S.in_use) refl

      go : (j : ℕ) → j < length (fan m w) → walk_at m w j ≡ next h → Dec (suc j ≡ length (fan m w))
          → (i : ℕ) × (suc i ≡ length (fan m w)) × (walk_at m w i ≡ next h)
      go j k e (yes q) = (j, q, e)
      go j k e (no q) =
          let x : walk_at m w (suc j) ≡ boundary =
          R.turns j (omega arith) ∙ ap (λ (g : ℕ). rotate m g) e ∙ ap (λ (g : ℕ). link m g) (previous_next h)
          ∙ S.edge in
          absurd (omega (arith, R.in_use (suc j) (omega arith), (manifold_glued F).few))

  -- so that the rim goes on there,
  pub goes_on_lem : {v h : ℕ} → RimSide m v h → OnBoundary m (target m h)
  goes_on_lem {v} {h} S =
      let (i, e, q) = ends S in
      ((ring_at (target m h) (F.corner (next h) (next_lt h m.triangles S.in_use))).ends_at_boundary i e).0
      (ap (λ (g : ℕ). rotate m g) q ∙ ap (λ (g : ℕ). link m g) (previous_next h) ∙ S.edge)

  -- and no two sides lead to one vertex.
  one_before : {v u h k : ℕ} → RimSide m v h → RimSide m u k → target m h ≡ target m k → v ≡ u
  one_before {v} {u} {h} {k} S U e =
      let (i, a, p) = ends S in
      let (j, b, q) = ends U in
      let x : i ≡ j = omega (arith, ap (λ (w : ℕ). length (fan m w)) e) in
      let y : next h ≡ next k = sym p ∙ ap (λ (w : ℕ). walk_at m w i) e ∙ ap (walk_at m (target m k)) x ∙ q in
      let z : h ≡ k = sym (previous_next h) ∙ ap previous y ∙ previous_next k in
      sym S.out ∙ ap (λ (g : ℕ). origin m g) z ∙ U.out

  -- ---- the vertices along the rim of v

  module _ (v : ℕ) (i : v < m.vertices) (b : OnBoundary m v) where
    pub on_rim_lem : (j : ℕ) → (along m v j < m.vertices) × OnBoundary m (along m v j)
    unfolding along
    on_rim_lem zero = (i, b)
    on_rim_lem (suc j) =
        let (k, c) = on_rim_lem j in
        let S = rim_side k c in
        (F.corner (next (first_side m (along m v j))) (next_lt _ m.triangles S.in_use), goes_on_lem S)

    pub side_along : (j : ℕ) → RimSide m (along m v j) (first_side m (along m v j))
    side_along j = let (k, c) = on_rim_lem j in rim_side k c

    -- Where it comes to a vertex again, it has come round.
    come_round : (j d : ℕ) → along m v j ≡ along m v (j + d) → v ≡ along m v d
    unfolding along
    come_round zero d e = let q : 0 + d ≡ d = omega arith in e ∙ ap (along m v) q
    come_round (suc j) d e =
        let q : suc j + d ≡ suc (j + d) = omega arith in
        come_round j d (one_before (side_along j) (side_along (j + d)) (e ∙ ap (along m v) q))

    -- One less than the number of sides after which it is round.
    least : ℕ
    least = lowest m.vertices (λ j. eqb (along m v (suc j)) v)

    not_back : (j : ℕ) → j < least → along m v (suc j) ≢ v
    unfolding least
    not_back j k e = (lowest_is m.vertices (λ j. eqb (along m v (suc j)) v)).none j k ((is_eq _ v).passes e)

    differ : (j k : ℕ) → j < suc least → k < suc least → along m v j ≡ along m v k → j ≡ k
    differ j k l r e = go (dec_lt j k) (dec_lt k j)
      where
        apart : (a c : ℕ) → a < c → c < suc least → along m v a ≡ along m v c → a ≡ c
        apart a c p q x =
            let y : suc (c - a - 1) ≡ c - a = omega arith in
            let z : a + (c - a) ≡ c = omega arith in
            absurd (not_back (c - a - 1) (omega arith)
            (ap (along m v) y ∙ sym (come_round a (c - a) (x ∙ ap (along m v) (sym z)))))

        go : Dec (j < k) → Dec (k < j) → j ≡ k
        go (yes x) d = apart j k x r e
        go (no x) (yes y) = sym (apart k j y l (sym e))
        go (no x) (no y) = omega arith

    few : suc least ≤ m.vertices
    few =
        let a : suc least ≤ count m.vertices (λ t. true) =
        no_more m.vertices (suc least) (along m v) (λ t. true) (λ j k. (on_rim_lem j).0) (λ j k. tt) differ in
        let c = total_const m.vertices 1 in
        omega arith

    back : along m v (suc least) ≡ v
    unfolding least
    back =
        (is_eq _ v).holds ((lowest_is m.vertices (λ j. eqb (along m v (suc j)) v)).passes (omega (arith, few)))

    -- ---- the rim

    -- The rim from place j on, d vertices before it closes.
    record Lists (j d : ℕ) (l : List ℕ) : Type 0 where
      size : length l ≡ d
      entries : (k : ℕ) → k < d → get_or l k 0 ≡ along m v (j + k)

    lists_one : (j d : ℕ) (l : List ℕ) (c : Bool) → Decides c (along m v (suc j) ≡ v) → j + suc d ≡ suc least
        → (0 < d → Lists (suc j) d l) → Lists j (suc d) (along m v j ∷ elim c [ true ↦ [] | false ↦ l ])
    lists_one j d l true D e L = go (ℕ_discrete j least)
      where
        go : Dec (j ≡ least) → Lists j (suc d) (along m v j ∷ [])
        go (yes q) = record { size = omega arith; entries = λ k r. at k r }
          where
            at : (k : ℕ) → k < suc d → get_or (along m v j ∷ []) k 0 ≡ along m v (j + k)
            at zero r = ap (along m v) (omega arith)
            at (suc k) r = absurd (omega arith)
        go (no q) = absurd (not_back j (omega arith) (D.holds tt))
    lists_one j d l false D e L = go (ℕ_discrete j least)
      where
        go : Dec (j ≡ least) → Lists j (suc d) (along m v j ∷ l)
        go (yes q) = absurd (D.passes (ap (λ (k : ℕ). along m v (suc k)) q ∙ back))
        go (no q) = record { size = omega (arith, (L (omega arith)).size); entries = λ k r. at k r }
          where
            at : (k : ℕ) → k < suc d → get_or (along m v j ∷ l) k 0 ≡ along m v (j + k)
            at zero r = ap (along m v) (omega arith)
            at (suc k) r = (L (omega arith)).entries k (omega arith) ∙ ap (along m v) (omega arith)

    lists : (n j d : ℕ) → j + d ≡ suc least → 0 < d → d ≤ n → Lists j d (rim_from n m v (along m v j))
    unfolding rim_from along
    lists n j zero e o q = absurd (omega arith)
    lists zero j (suc d) e o q = absurd (omega arith)
    lists (suc n) j (suc d) e o q =
        lists_one j d (rim_from n m v (along m v (suc j))) (eqb (along m v (suc j)) v) (is_eq _ v) e
        (λ p. lists n (suc j) d (omega arith) p (omega arith))

    whole : Lists 0 (suc least) (rim m v)
    unfolding rim along
    whole = lists m.vertices 0 (suc least) (omega arith) (omega arith) few

    pub rim_entry : (j : ℕ) → j < length (rim m v) → get_or (rim m v) j 0 ≡ along m v j
    rim_entry j k =
        let q : 0 + j ≡ j = omega arith in
        whole.entries j (omega (arith, whole.size)) ∙ ap (along m v) q

    -- It closes after its last vertex, and not before.
    pub rim_closes : along m v (length (rim m v)) ≡ v
    rim_closes = ap (along m v) whole.size ∙ back

    pub rim_open : (j : ℕ) → 0 < j → j < length (rim m v) → along m v j ≢ v
    rim_open j o k e =
        let q : suc (j - 1) ≡ j = omega arith in
        not_back (j - 1) (omega (arith, whole.size)) (ap (along m v) q ∙ e)

    -- It is no longer than there are vertices, or sides.
    rim_few : length (rim m v) ≤ m.vertices
    rim_few = omega (arith, whole.size, few)

    pub rim_short : length (rim m v) ≤ sides m
    rim_short =
        let a : length (rim m v) ≤ count (sides m) (λ t. true) =
        no_more (sides m) (length (rim m v)) (λ j. first_side m (along m v j)) (λ t. true)
        (λ j k. (side_along j).in_use) (λ j k. tt)
        (λ j k l r e. differ j k (omega (arith, whole.size)) (omega (arith, whole.size))
        (sym (side_along j).out ∙ ap (λ (h : ℕ). origin m h) e ∙ (side_along k).out)) in
        let c = total_const (sides m) 1 in
        omega arith

    -- It goes on as it began.
    pub again : (j : ℕ) → along m v (j + length (rim m v)) ≡ along m v j
    unfolding along
    again zero = let q : 0 + length (rim m v) ≡ length (rim m v) = omega arith in ap (along m v) q ∙ rim_closes
    again (suc j) =
        let q : suc j + length (rim m v) ≡ suc (j + length (rim m v)) = omega arith in
        ap (along m v) q ∙ ap (rim_after m) (again j)

    from_first : along m v 0 ≡ v
    unfolding along
    from_first = refl

    -- The vertex after place j, going round.
    pub rim_next : (j : ℕ) → j < length (rim m v) → get_or (rim m v) ((j + 1) % length (rim m v)) 0 ≡ along m v (suc j)
    rim_next j k = go (ℕ_discrete (suc j) (length (rim m v)))
      where
        go : Dec (suc j ≡ length (rim m v)) → get_or (rim m v) ((j + 1) % length (rim m v)) 0 ≡ along m v (suc j)
        go (yes e) =
            let q : j + 1 ≡ length (rim m v) = omega arith in
            ap (λ (x : ℕ). get_or (rim m v) (x % length (rim m v)) 0) q
            ∙ ap (λ (x : ℕ). get_or (rim m v) x 0) (mod_self (length (rim m v)))
            ∙ rim_entry 0 (omega arith) ∙ from_first ∙ sym rim_closes ∙ ap (along m v) (sym e)
        go (no e) =
            let q : j + 1 ≡ suc j = omega arith in
            ap (λ (x : ℕ). get_or (rim m v) x 0) (mod-eq_of_lt (omega arith) ∙ q) ∙ rim_entry (suc j) (omega arith)

    -- No side runs from a vertex to itself.
    two : 2 ≤ length (rim m v)
    unfolding along
    two = go (ℕ_discrete least 0)
      where
        go : Dec (least ≡ 0) → 2 ≤ length (rim m v)
        go (yes e) =
            let S = rim_side i b in
            absurd (F.distinct (first_side m v) S.in_use
            (S.out ∙ sym back ∙ ap (λ (x : ℕ). along m v (suc x)) e))
        go (no e) = omega (arith, whole.size)

    -- The side from place j leads to the next.
    toward : (j : ℕ) → target m (first_side m (along m v j)) ≡ along m v (suc j)
    unfolding along
    toward j = refl

    pub rim_made : RimMakes m v (rim m v)
    rim_made = record {
      at_least_two = two;
      few = rim_few;
      first = rim_entry 0 (omega (arith, two)) ∙ from_first;
      in_use = λ j k. subst (λ (x : ℕ). x < m.vertices) (sym (rim_entry j k)) (on_rim_lem j).0;
      goes_on = λ j k.
          let S = side_along j in
          (first_side m (along m v j), S.in_use, S.edge, S.out ∙ sym (rim_entry j k), toward j ∙ sym (rim_next j k));
      only = λ h u e j k o.
          let q = only_side (on_rim_lem j).0 (record { in_use = u; out = o ∙ rim_entry j k; edge = e }) in
          ap (λ (x : ℕ). target m x) (sym q) ∙ toward j ∙ sym (rim_next j k);
      once = λ j k l r e.
          differ j k (omega (arith, whole.size)) (omega (arith, whole.size))
          (sym (rim_entry j l) ∙ e ∙ rim_entry k r);
    }
