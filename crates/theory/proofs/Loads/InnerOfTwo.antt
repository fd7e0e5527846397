-- Vertices off the boundary that have exactly two triangles: the test on sides, and the two triangles back to back.
use mathlib.Core.Path.{◌≡◌, refl, sym, ap, ◌∙◌, subst}
use mathlib.Core.Logic.{◌≢◌, ◌⊎◌, inl, inr}
use mathlib.Core.Bool.{Bool, true, false, not, ◌||◌}
use Prim.Native.Nat.{ℕ, zero, suc, ◌*◌, ◌/◌, ◌≤◌, ◌<◌}
use native.Mathlib.Omega.{arith}
use native.Mathlib.Decide.{ℕ_discrete}
use lib.Dec.{T, eqb}
use Rattle.theory.proofs.Links.Sides.{next_lt, previous_lt, same_triangle}
use Rattle.theory.proofs.Loads.Alike.{SameSides, inner_of_two_same}
use Rattle.theory.proofs.Loads.Load.{matches_opposite, loaded_loads, links_are, load_glued, fans_fit_is}
use Rattle.theory.proofs.Numbers.Decide.{Decides, is_eq, is_lt, is_not, is_and, is_else, is_any, stable, bit_no}
use Rattle.theory.proofs.Numbers.Pigeonhole.{each_reached, as_many}
use Rattle.theory.proofs.Numbers.Sums.{total_zero}
use Rattle.theory.proofs.Rings.Turning.{Glued, rotate_origin, rotate_target, rotate_back, rotate_inner}
use Rattle.theory.proofs.Rings.Turning.{rotate_injective, before, same_side}
use Rattle.rules.specs.Below.{any, bit}
use Rattle.rules.specs.Cage.{Cage, loaded, fans_fit, turns_back, some_inner_of_two}
use Rattle.rules.specs.Conditions.{CornersFit, SidesDiffer, FansFit, InnerOfTwo, SomeInnerOfTwo}
use Rattle.rules.specs.Promises.{BackToBack}
use Rattle.rules.specs.Ring.{OnBoundary, triangle_count}
use Rattle.rules.specs.Sound.{OneFan, Turns, here, turn}
use Rattle.rules.specs.Tables.{Topology, Mesh, TablesAgree, sides, next, previous, origin, target}
use Rattle.rules.specs.Tables.{link, rotate, vertex_slots, triangle_slots}

next_next : (h : ℕ) → next (next h) ≡ previous h
next_next h = omega arith

-- x is one of two.
abbrev pub OneOf : ℕ → ℕ → ℕ → Type 0
OneOf h k x = (x ≡ h) ⊎ (x ≡ k)

-- The first or the second of two.
abbrev choose : ℕ → ℕ → ℕ → ℕ
choose h k zero = h
choose h k (suc i) = k

-- ---- two sides out of one vertex

module _ (m : Topology) (v h k : ℕ) (l : h < sides m) (i : k < sides m) (o : origin m h ≡ v) (p : origin m k ≡ v)
    (apart : h ≢ k) where
  below : (j : ℕ) → j < 2 → choose h k j < sides m
  below zero b = l
  below (suc j) b = i

  pass : (j : ℕ) → j < 2 → T (eqb (origin m (choose h k j)) v)
  pass zero b = (is_eq (origin m h) v).passes o
  pass (suc j) b = (is_eq (origin m k) v).passes p

  differ : (j q : ℕ) → j < 2 → q < 2 → choose h k j ≡ choose h k q → j ≡ q
  differ zero zero a b e = refl
  differ zero (suc q) a b e = absurd (apart e)
  differ (suc j) zero a b e = absurd (apart (sym e))
  differ (suc j) (suc q) a b e = omega arith

  -- Where v has two triangles these are all, and where they are all it has two.
  pub all_of_two : triangle_count m v ≡ 2 → (x : ℕ) → x < sides m → origin m x ≡ v → OneOf h k x
  all_of_two e x b q =
      go (each_reached (sides m) 2 (choose h k) (λ y. eqb (origin m y) v) below pass differ (sym e) x b
      ((is_eq (origin m x) v).passes q))
    where
      go : (j : ℕ) × (j < 2) × (choose h k j ≡ x) → OneOf h k x
      go (zero, b, e) = inl (sym e)
      go (suc j, b, e) = inr (sym e)

  pub two_are_all : ((x : ℕ) → x < sides m → origin m x ≡ v → OneOf h k x) → triangle_count m v ≡ 2
  two_are_all all =
      sym (as_many (sides m) 2 (choose h k) (λ y. eqb (origin m y) v) below pass differ
      (λ x b t. go x (all x b ((is_eq (origin m x) v).holds t))))
    where
      go : (x : ℕ) → OneOf h k x → (j : ℕ) × (j < 2) × (choose h k j ≡ x)
      go x (inl e) = (0, omega arith, sym e)
      go x (inr e) = (1, omega arith, sym e)

-- ---- two sides that turn into each other

-- Side h goes out of v, and it turns into k, which turns into it.
pub record TurnBack (m : Topology) (v h k : ℕ) : Type 0 where
  pub in_use : h < sides m
  pub out : origin m h ≡ v
  pub there_in_use : k < sides m
  pub there : rotate m h ≡ k
  pub back : rotate m k ≡ h

-- A side out of v, of a vertex that has any.
pub some_out : (m : Topology) (v : ℕ) → 0 < triangle_count m v → (h : ℕ) × (h < sides m) × (origin m h ≡ v)
some_out m v n =
    go (any (sides m) (λ h. eqb (origin m h) v))
    (is_any (sides m) (λ h. eqb (origin m h) v) (λ h. origin m h ≡ v) (λ h. is_eq (origin m h) v))
  where
    go : (b : Bool) → Decides b ((h : ℕ) × (h < sides m) × (origin m h ≡ v))
        → (h : ℕ) × (h < sides m) × (origin m h ≡ v)
    go true d = d.holds tt
    go false d =
        let z = total_zero (sides m) (λ h. bit (eqb (origin m h) v))
        (λ h l. bit_no (is_eq (origin m h) v) (λ e. d.passes (h, l, e))) in
        absurd (omega arith)

module _ (m : Topology) (G : Glued m) where
  -- No side turns into itself: it would end where the side before it starts.
  no_turn_alone : (h : ℕ) → h < sides m → rotate m h ≢ h
  no_turn_alone h l e =
      G.distinct (next h) (next_lt h m.triangles l)
      (ap (λ (x : ℕ). target m x) (sym e) ∙ rotate_target m G h l (rw e l)
      ∙ ap (λ (x : ℕ). origin m x) (sym (next_next h)))

  -- Two triangles round a vertex off the boundary turn into each other.
  pub turn_back : (v : ℕ) → InnerOfTwo m v → (h : ℕ) × (k : ℕ) × TurnBack m v h k
  turn_back v (inner, two) =
      let (h, l, o) = some_out m v (omega arith) in
      let (k, i, p, e) = before m G h l (λ b. inner (h, l, o, b)) in
      let (j, u, q, f) = before m G k i (λ b. inner (k, i, p ∙ o, b)) in
      let n : h ≢ k = λ x. no_turn_alone k i (e ∙ x) in
      (h, k, go h k j l i o e f (all_of_two m v h k l i o (p ∙ o) n two j u (q ∙ p ∙ o)))
    where
      go : (h k j : ℕ) → h < sides m → k < sides m → origin m h ≡ v → rotate m k ≡ h → rotate m j ≡ k → OneOf h k j
          → TurnBack m v h k
      go h k j l i o e f (inl x) =
          record { in_use = l; out = o; there_in_use = i; there = ap (λ (y : ℕ). rotate m y) (sym x) ∙ f; back = e }
      go h k j l i o e f (inr x) = absurd (no_turn_alone k i (ap (λ (y : ℕ). rotate m y) (sym x) ∙ f))

  module _ {v h k : ℕ} (B : TurnBack m v h k) where
    there_in_use_lem : rotate m h < sides m
    there_in_use_lem = rw B.there B.there_in_use

    pub both_out : origin m k ≡ v
    both_out = ap (λ (x : ℕ). origin m x) (sym B.there) ∙ rotate_origin m G h B.in_use there_in_use_lem ∙ B.out

    pub two_sides : h ≢ k
    two_sides e = no_turn_alone h B.in_use (B.there ∙ sym e)

    -- Turning leads from these two to these two, and from no other.
    on : (y x : ℕ) → rotate m y ≡ x → OneOf h k y → OneOf h k x
    on y x e (inl q) = inr (sym e ∙ ap (λ (z : ℕ). rotate m z) q ∙ B.there)
    on y x e (inr q) = inl (sym e ∙ ap (λ (z : ℕ). rotate m z) q ∙ B.back)

    from : (y x : ℕ) → y < sides m → x < sides m → rotate m y ≡ x → OneOf h k x → OneOf h k y
    from y x l i e (inl q) =
        inr (rotate_injective m G y k l B.there_in_use (rw e i) (e ∙ q ∙ sym B.back))
    from y x l i e (inr q) = inl (rotate_injective m G y h l B.in_use (rw e i) (e ∙ q ∙ sym B.there))

    turned_on : {s x : ℕ} → Turns m s x → OneOf h k s → OneOf h k x
    turned_on here q = q
    turned_on (turn {h = y} {k = x} ts e b) q = on y x e (turned_on ts q)

    in_use_lem : {s x : ℕ} → Turns m s x → s < sides m → x < sides m
    in_use_lem here l = l
    in_use_lem (turn ts e b) l = b

    turned_from : {s x : ℕ} → Turns m s x → s < sides m → OneOf h k x → OneOf h k s
    turned_from here l q = q
    turned_from (turn {h = y} {k = x} ts e b) l q = turned_from ts l (from y x (in_use_lem ts l) b e q)

    -- In one fan they are all sides out of v, and none of them is on the boundary.
    all_out : OneFan m v → (x : ℕ) → x < sides m → origin m x ≡ v → OneOf h k x
    all_out f x l o = turned_on (f.all x l o) (turned_from (f.all h B.in_use B.out) f.in_use (inl refl))

    not_on_boundary : ((x : ℕ) → x < sides m → origin m x ≡ v → OneOf h k x) → ¬ OnBoundary m v
    not_on_boundary all (x, l, o, b) = go (all x l o)
      where
        go : OneOf h k x → ⊥
        go (inl e) =
            rotate_inner m G k h B.there_in_use B.in_use B.back (ap (λ (y : ℕ). link m y) (sym e) ∙ b)
        go (inr e) =
            rotate_inner m G h k B.in_use B.there_in_use B.there (ap (λ (y : ℕ). link m y) (sym e) ∙ b)

    pub inner_of_two : OneFan m v → InnerOfTwo m v
    inner_of_two f =
        let all = all_out f in (
          not_on_boundary all,
          two_are_all m v h k B.in_use B.there_in_use B.out both_out two_sides all,
        )

  -- ---- the test

  turns_back_is : (h : ℕ) → Decides (turns_back m h) ((rotate m h < sides m) × (rotate m (rotate m h) ≡ h))
  turns_back_is h = is_and (is_lt (rotate m h) (sides m)) (is_eq (rotate m (rotate m h)) h)

  some_is : Decides (any (sides m) (turns_back m))
      ((h : ℕ) × (h < sides m) × ((rotate m h < sides m) × (rotate m (rotate m h) ≡ h)))
  some_is = is_any (sides m) (turns_back m) _ turns_back_is

  -- A vertex off the boundary that has two triangles passes it.
  pub two_turn_back : (v : ℕ) → InnerOfTwo m v → T (any (sides m) (turns_back m))
  two_turn_back v x =
      let (h, k, B) = turn_back v x in
      some_is.passes (h, B.in_use, (there_in_use_lem B, ap (λ (y : ℕ). rotate m y) B.there ∙ B.back))

  -- Where each vertex has one fan, the test finds no other.
  pub some_two_is : (n : ℕ) → ((h : ℕ) → h < sides m → origin m h < n) → ((v : ℕ) → v < n → OneFan m v)
      → Decides (any (sides m) (turns_back m)) ((v : ℕ) × (v < n) × InnerOfTwo m v)
  some_two_is n corner fans = record {
    holds = λ t.
        let (h, l, (i, e)) = some_is.holds t in
        let B : TurnBack m (origin m h) h (rotate m h) =
        record { in_use = l; out = refl; there_in_use = i; there = refl; back = e } in
        (origin m h, corner h l, inner_of_two B (fans (origin m h) (corner h l)));
    passes = λ (v, l, x). two_turn_back v x;
  }

-- ---- a cage

-- A fact of the three sides of a triangle, from one of them on.
by_turns : (P : ℕ → Type 0) (h : ℕ) → P h → P (next h) → P (previous h) → (x : ℕ) → x / 3 ≡ h / 3 → P x
by_turns P h a b c x e = go (ℕ_discrete x h) (ℕ_discrete x (next h))
  where
    go : Dec (x ≡ h) → Dec (x ≡ next h) → P x
    go (yes q) d = subst P (sym q) a
    go (no q) (yes r) = subst P (sym r) b
    go (no q) (no r) = subst P (sym (same_triangle h x e q r ∙ next_next h)) c

module _ (c : Cage) (m : Mesh) (A : TablesAgree m)
    (vertex_room : c.vertices ≤ vertex_slots m) (triangle_room : c.triangles ≤ triangle_slots m)
    (K : CornersFit c) (D : SidesDiffer c) where
  G : Glued (loaded c m).topology
  G = load_glued c m A vertex_room triangle_room K D

  at : (h : ℕ) → h < 3 * c.triangles → origin (loaded c m).topology h ≡ c.corner h
  at = (loaded_loads c m A vertex_room triangle_room).corners

  -- The test decides the condition.
  pub some_inner_of_two_is : FansFit c m → Decides (some_inner_of_two c m) (SomeInnerOfTwo c m)
  unfolding some_inner_of_two loaded
  some_inner_of_two_is fans =
      some_two_is (loaded c m).topology G c.vertices (λ h l. rw (at h l) (K.corner h l)) fans

  -- Condition 6.
  pub six_is : Decides (not (fans_fit c m) || some_inner_of_two c m) ((¬ FansFit c m) ⊎ SomeInnerOfTwo c m)
  six_is =
      let d = fans_fit_is c m A vertex_room triangle_room K D in
      is_else (is_not d) (λ n. some_inner_of_two_is (stable d n))

  -- The third sides of two triangles that meet in the other two run between the same vertices, and so are linked.
  third_linked : {v h k : ℕ} → TurnBack (loaded c m).topology v h k → link (loaded c m).topology (next h) ≡ next k
  unfolding loaded
  third_linked {v} {h} {k} B =
      let n : Topology = (loaded c m).topology in
      let l = B.in_use in
      let i = B.there_in_use in
      let f : ℕ = c.triangles in
      let a : target n k ≡ origin n (previous h) =
      ap (λ (x : ℕ). target n x) (sym B.there) ∙ rotate_target n G h l (rw B.there i) in
      let b : target n h ≡ origin n (previous k) =
      ap (λ (x : ℕ). target n x) (sym B.back) ∙ rotate_target n G k i (rw B.back l) in
      matches_opposite (links_are c m A vertex_room triangle_room D (next h) (next_lt h f l)) (next k) (record {
        in_use = next_lt k f i;
        from =
            sym (at (next k) (next_lt k f i)) ∙ a ∙ at (previous h) (previous_lt h f l)
            ∙ ap c.corner (sym (next_next h));
        onto =
            ap c.corner (next_next k) ∙ sym (at (previous k) (previous_lt k f i)) ∙ sym b
            ∙ at (next h) (next_lt h f l);
      })

  -- Each side of the triangle of h is linked to one of the triangle of k.
  linked_across : {v h k : ℕ} → TurnBack (loaded c m).topology v h k → (x : ℕ) → x / 3 ≡ h / 3
      → link (loaded c m).topology x / 3 ≡ k / 3
  unfolding loaded
  linked_across {v} {h} {k} B =
      let n : Topology = (loaded c m).topology in
      let a : link n h ≡ previous k =
      ap (λ (x : ℕ). link n x) (sym B.back) ∙ rotate_back n G k B.there_in_use (rw B.back B.in_use) in
      by_turns (λ x. link n x / 3 ≡ k / 3) h (rw a (omega arith)) (rw (third_linked B) (omega arith))
      (rw B.there refl)

  -- A vertex off the boundary that has two triangles has them back to back.
  pub back_to_back : (v : ℕ) → InnerOfTwo (loaded c m).topology v
      → (t : ℕ) × (u : ℕ) × BackToBack (loaded c m).topology v t u
  unfolding loaded
  back_to_back v x =
      let n : Topology = (loaded c m).topology in
      let (h, k, B) = turn_back n G v x in
      let l = B.in_use in
      let i = B.there_in_use in
      let o = both_out n G B in (
        h / 3,
        k / 3,
        record {
          in_use = (omega arith, omega arith);
          apart = λ e. two_sides n G B (same_side n G h k l i e (B.out ∙ sym o));
          corner = ((h, refl, B.out), (k, refl, o));
          there = linked_across B;
          back = linked_across (record { in_use = i; out = o; there_in_use = l; there = B.back; back = B.there });
        },
      )

-- In whichever tables it is loaded, a cage has the same such vertices.
pub same_two : (c : Cage) (m n : Mesh) → TablesAgree m → TablesAgree n
    → c.vertices ≤ vertex_slots m → c.triangles ≤ triangle_slots m
    → c.vertices ≤ vertex_slots n → c.triangles ≤ triangle_slots n → SomeInnerOfTwo c n → SomeInnerOfTwo c m
same_two c m n A B v f w g (x, l, i) =
    let L = loaded_loads c m A v f in
    let N = loaded_loads c n B w g in
    let S : SameSides (loaded c m).topology (loaded c n).topology =
    record {
      triangles = L.triangles ∙ sym N.triangles;
      corner = λ h b.
          let j : h < 3 * c.triangles = omega (arith, L.triangles) in
          L.corners h j ∙ sym (N.corners h j);
      link = λ h b. let j : h < 3 * c.triangles = omega (arith, L.triangles) in L.links h j ∙ sym (N.links h j);
    } in
    (x, l, inner_of_two_same S x i)
