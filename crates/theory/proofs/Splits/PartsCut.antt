-- A triangle cut into parts, as its flips find it.
use mathlib.Core.Path.{◌≡◌, refl, sym, ap, ◌∙◌, subst}
use mathlib.Core.Logic.{◌≢◌, ◌⊎◌, inl, inr}
use mathlib.Core.List.{List, [], ◌∷◌}
use Prim.Native.Nat.{ℕ, suc, ◌+◌, ◌*◌, ◌/◌, ◌%◌, ◌≤◌, ◌<◌}
use native.Mathlib.Omega.{arith}
use Rattle.theory.proofs.Links.Manifold.{Partnered, Manifold, Joined, Base, partnered, no_self}
use Rattle.theory.proofs.Links.Sides.{rename_a, rename_b, rename_else, by_rename, by_triangle, by_slot}
use Rattle.theory.proofs.Numbers.Entries.{Each}
use Rattle.theory.proofs.Splits.Bases.{Child, boundary_not_base}
use Rattle.theory.proofs.Splits.Cut.{Cut, Onto, Spread}
use Rattle.theory.proofs.Splits.Edges.{boundary_sides}
use Rattle.theory.proofs.Splits.Following.{follows_one}
use Rattle.theory.proofs.Splits.Parts.{Parts, Parted}
use Rattle.theory.proofs.Splits.Settled.{Among, Children, Distinct, NewCorner, unchanged_not}
use Rattle.theory.proofs.Splits.Told.{Moves, side₁, side₂, Told, as_before, anew}
use Rattle.rules.specs.Actions.{Action, MayAct, acted, place_after, rename_two}
use Rattle.rules.specs.Promises.{Written}
use Rattle.rules.specs.Tables.{Topology, sides, origin, boundary, link, generation}

-- A triangle of the odd generation g is one of cs; or it is one generation above, and even.
abbrev pub Waits : List ℕ → ℕ → Topology → ℕ → Type 0
Waits cs g n x = ((generation n x ≡ g) × Among cs x) ⊎ (generation n x ≡ suc g)

-- What the cut of v leaves to its flips: v and rest, of the odd generation g, with r boundary sides more.
pub record Leaves (v g r : ℕ) (rest : List ℕ) (p : Parts) (m n : Topology) : Type 0 where
  pub action : Action
  pub may_act : MayAct action m
  pub makes : acted action m ≡ n
  pub place : (h : ℕ) → place_after action m h ≡ rename_two (3 * v + 1) p.place₁ (3 * v + 2) p.place₂ h
  pub odd : g % 2 ≡ 1
  pub high : generation m v < g
  pub children : Children m.vertices g n (v ∷ rest)
  pub distinct : Distinct (v ∷ rest)
  pub later : Each (λ c. m.triangles ≤ c) rest
  pub second : Waits (v ∷ rest) g n m.triangles
  pub third : Waits (v ∷ rest) g n (m.triangles + 1)
  pub onto₁ : Onto (v ∷ rest) p.place₁
  pub onto₂ : Onto (v ∷ rest) p.place₂
  pub boundary_count : boundary_sides n ≡ boundary_sides m + r
  pub new_corner₁ : NewCorner m.vertices n m.triangles
  pub new_corner₂ : NewCorner m.vertices n (m.triangles + 1)

-- A base is side 0.
onto_first : (cs : List ℕ) (k : ℕ) → Onto cs k → k % 3 ≡ 0
onto_first [] k e = absurd e
onto_first (c ∷ cs) k (inl e) = omega arith
onto_first (c ∷ cs) k (inr e) = onto_first cs k e

-- A new triangle is no old one.
not_later : (x f : ℕ) (cs : List ℕ) → x < f → Each (λ c. f ≤ c) cs → Among cs x → ⊥
not_later x f [] l L a = a
not_later x f (c ∷ cs) l L (inl e) = omega (arith, L.0)
not_later x f (c ∷ cs) l L (inr a) = not_later x f cs l L.1 a

module _ (v : ℕ) (p : Parts) (m n : Topology) (F : Manifold m) (b : v < m.triangles) (S : Parted v p m n)
    (N : Manifold n) where
  -- What the base of a child meets has an old corner 2.
  other : (h k : ℕ) → h < sides m → h / 3 ≡ v → link n k ≡ link m h → Base n (link n k)
      → origin n (3 * (link n k / 3) + 2) < m.vertices
  other h k l i e c =
      let r : link m h ≢ boundary = λ w. boundary_not_base n N (subst (λ (x : ℕ). Base n x) (e ∙ w) c) in
      let M : Partnered m h = partnered (F.linked h l) r in
      let s : link m h / 3 ≢ h / 3 = no_self m h F l M in
      let u : ℕ = link m h / 3 in
      let z : u < m.triangles = omega (arith, M.in_use) in
      let y : origin n (3 * u + 2) ≡ origin m (3 * u + 2) = S.corners (3 * u + 2) (omega arith) (omega arith) in
      let w : origin n (3 * (link n k / 3) + 2) ≡ origin n (3 * u + 2) =
      ap (λ (x : ℕ). origin n (3 * (x / 3) + 2)) e in
      let o : origin m (3 * u + 2) < m.vertices = F.corner (3 * u + 2) (omega arith) in
      omega arith

  -- A child whose base is side h of v and whose corner 2 is new.
  pub child : {g c : ℕ} (h : ℕ) → c < n.triangles → generation n c ≡ g → g % 2 ≡ 1 → m.vertices ≤ origin n (3 * c + 2)
      → h < sides m → h / 3 ≡ v → link n (3 * c) ≡ link m h → Child m.vertices g c n
  child {c = c} h u e o a l i q =
      record { in_use = u; generations = e; odd = o; fresh = a; other = other h (3 * c) l i q }

  -- The sides 1 and 2 of v become bases, and no other side moves.
  told : (g r : ℕ) (rest : List ℕ) → Leaves v g r rest p m n → (h : ℕ) → h < sides m → h / 3 ≢ v
      → Told (λ x. x ≡ v) m n h
  told g r rest L h l i =
      by_rename (3 * v + 1) p.place₁ (3 * v + 2) p.place₂ (λ y. link n h ≡ y → Told (λ x. x ≡ v) m n h)
      (omega arith) (link m h)
      (λ o q. anew (omega (arith, onto_first (v ∷ rest) p.place₁ L.onto₁))
      (side₁ (omega arith) (risen (omega arith))))
      (λ o q. anew (omega (arith, onto_first (v ∷ rest) p.place₂ L.onto₂))
      (side₂ (omega arith) (omega arith)))
      (λ j k q. as_before q (elsewhere j k (F.linked h l)))
      (S.links h l i)
    where
      risen : {x : ℕ} → x ≡ v → generation n x ≢ generation m x
      risen e z =
          let q : generation n v ≡ generation m v = subst (λ (y : ℕ). generation n y ≡ generation m y) e z in
          omega (arith, L.high, L.children.0.generations)

      elsewhere : link m h ≢ 3 * v + 1 → link m h ≢ 3 * v + 2 → Joined m h
          → ¬ Moves (λ x. x ≡ v) m n (link m h)
      elsewhere j k J (side₂ o e) = k (omega arith)
      elsewhere j k (inl b) (side₁ o d) = omega arith
      elsewhere j k (inr M) (side₁ o d) =
          d (S.generations (link m h / 3) (omega (arith, M.in_use)) (omega arith))

  pub cut_of : (g q r : ℕ) (rest : List ℕ) → p.vertices ≡ m.vertices + q → Leaves v g r rest p m n
      → Cut v g (v ∷ rest) q r m n
  cut_of g q r rest k L =
      let own = L.children.0.generations in
      record {
        manifold = N;
        vertices = S.vertices ∙ k;
        triangles = S.triangles;
        corner_room = S.corner_room;
        link_room = S.link_room;
        generation_room = S.generation_room;
        boundary_count = L.boundary_count;
        odd = L.odd;
        high = L.high;
        own = omega (arith, L.high);
        children = L.children;
        distinct = L.distinct;
        mine = mine;
        spread =
            by_slot v m.triangles n.triangles (Spread v g m n) S.triangles (inr (inl own))
            (made L.second) (made L.third) (λ x l i. inl (l, i, S.generations x l i));
        generations = S.generations;
        corners = S.corners;
        links = λ h l i j.
            S.links h l i
            ∙ rename_else (3 * v + 1) p.place₁ (3 * v + 2) p.place₂ (link m h) (omega arith) (omega arith);
        into = λ h l i e. subst (Onto (v ∷ rest)) (sym (S.links h l i)) (onto (link m h) e);
        bases = λ h l x. by_slot v m.triangles n.triangles (Among-or h) S.triangles (λ e. inr (inl e))
            (based h x L.second) (based h x L.third) (λ y i j e. inl (omega arith, omega arith)) (h / 3)
            (omega arith) refl;
        follows = follows_one L.action L.may_act L.makes (λ h l e.
            S.links h l (unchanged_not m n (λ z. omega (arith, L.high)) e) ∙ sym (L.place (link m h)));
        told = told g r rest L;
        new_corner = by_slot v m.triangles n.triangles (λ x. Written m n x → NewCorner m.vertices n x)
            S.triangles (λ w. (3 * v + 2, omega arith, L.children.0.fresh)) (λ w. L.new_corner₁)
            (λ w. L.new_corner₂) old;
        past = λ c i. S.past c (omega (arith, S.triangles));
      }
    where
      mine : (x : ℕ) → x < m.triangles → Among (v ∷ rest) x → x ≡ v
      mine x l (inl e) = e
      mine x l (inr a) = absurd (not_later x m.triangles rest l L.later a)

      made : {x : ℕ} → Waits (v ∷ rest) g n x → Spread v g m n x
      made (inl e) = inr (inl e.0)
      made (inr e) = inr (inr e)

      old : (x : ℕ) → x < m.triangles → x ≢ v → Written m n x → NewCorner m.vertices n x
      old x l i (inl q) = absurd (omega arith)
      old x l i (inr q) = absurd (q (S.generations x l i))

      -- A side of v at its new place is the base of a child.
      onto : (h : ℕ) → h / 3 ≡ v
          → Onto (v ∷ rest) (rename_two (3 * v + 1) p.place₁ (3 * v + 2) p.place₂ h)
      onto = by_triangle
          (λ h. h / 3 ≡ v → Onto (v ∷ rest) (rename_two (3 * v + 1) p.place₁ (3 * v + 2) p.place₂ h)) v
          (λ _. inl
          (rename_else (3 * v + 1) p.place₁ (3 * v + 2) p.place₂ (3 * v) (omega arith) (omega arith)))
          (λ _. subst (Onto (v ∷ rest)) (sym (rename_a (3 * v + 1) p.place₁ (3 * v + 2) p.place₂)) L.onto₁)
          (λ _. subst (Onto (v ∷ rest)) (sym (rename_b (3 * v + 1) p.place₁ (3 * v + 2) p.place₂ (omega arith))) L.onto₂)
          (λ h d e. absurd (d e))

      Among-or : ℕ → ℕ → Type 0
      Among-or h x = h / 3 ≡ x → ((h < sides m) × (h / 3 ≢ v)) ⊎ Among (v ∷ rest) (h / 3)

      -- An odd one of the three is a child.
      based : (h : ℕ) → Base n h → {x : ℕ} → Waits (v ∷ rest) g n x → Among-or h x
      based h B (inl w) e = inr (subst (Among (v ∷ rest)) (sym e) w.1)
      based h B {x} (inr w) e =
          absurd (omega (arith, L.odd, w, sym (ap (λ (y : ℕ). generation n y % 2) e) ∙ B.1))
