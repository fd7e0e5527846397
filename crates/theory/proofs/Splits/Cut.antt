-- A triangle cut in three and settled: what holds of any split.
use mathlib.Core.Path.{◌≡◌, refl, sym, ap, ◌∙◌, subst}
use mathlib.Core.Logic.{◌≢◌, ◌⊎◌, inl, inr}
use mathlib.Core.List.{List, [], ◌∷◌}
use Prim.Native.Nat.{ℕ, suc, ◌+◌, ◌*◌, ◌/◌, ◌%◌, ◌≤◌, ◌<◌, min}
use native.Mathlib.Omega.{arith}
use native.Mathlib.Decide.{ℕ_discrete, dec_lt}
use lib.ListN.{length}
use Rattle.theory.proofs.Splits.Bases.{partnered_base}
use Rattle.theory.proofs.Splits.Edges.{boundary_sides}
use Rattle.theory.proofs.Numbers.Entries.{Some, some_with, some_map}
use Rattle.theory.proofs.Links.Manifold.{Partnered, Manifold, level, Joined, Base, BasesMeetIn, level_of, level₀}
use Rattle.theory.proofs.Links.Manifold.{partnered, partnered_with}
use Rattle.theory.proofs.Links.Past.{Past, past_on}
use Rattle.theory.proofs.Splits.Settled.{Settled, nowhere, Among, Children, Distinct, Met, settled_manifold}
use Rattle.theory.proofs.Splits.Settled.{settled_same, settled_boundary, settled_bases, settled_past}
use Rattle.theory.proofs.Splits.Settled.{settled_generation}
use Rattle.theory.proofs.Splits.Settled.{settled_spread, settled_flips, settled_moved, settled_follow}
use Rattle.theory.proofs.Splits.Settled.{unchanged_not, NewCorner, settled_new_corner}
use Rattle.theory.proofs.Splits.Settled.{still_on, settled_still}
use Rattle.theory.proofs.Splits.Settling.{Same, Follow}
use Rattle.theory.proofs.Splits.Told.{Told, told_on, settled_told, still_rise, left_between}
use Rattle.rules.specs.Promises.{Follows, Still, Written}
use Rattle.rules.specs.Tables.{Topology, sides, origin, boundary, link, generation}

-- Side k is the base of one of them.
abbrev pub Onto : List ℕ → ℕ → Type 0
Onto cs k = Some (λ c. k ≡ 3 * c) cs

-- A triangle after the cut of v with its flips: an old one left as it was, or a child, flipped or not.
abbrev pub Spread : ℕ → ℕ → Topology → Topology → ℕ → Type 0
Spread v g m n x =
    ((x < m.triangles) × (x ≢ v) × (generation n x ≡ generation m x))
    ⊎ ((generation n x ≡ g) ⊎ (generation n x ≡ suc g))

-- v is cut in three. Its old sides become the bases of the children cs, of the odd generation g; p vertices and r
-- boundary sides more.
pub record Cut (v g : ℕ) (cs : List ℕ) (p r : ℕ) (m n : Topology) : Type 0 where
  pub manifold : Manifold n
  pub vertices : n.vertices ≡ m.vertices + p
  pub triangles : n.triangles ≡ m.triangles + 2
  pub corner_room : length n.corners ≡ length m.corners
  pub link_room : length n.links ≡ length m.links
  pub generation_room : length n.generations ≡ length m.generations
  pub boundary_count : boundary_sides n ≡ boundary_sides m + r
  pub odd : g % 2 ≡ 1
  pub high : generation m v < g
  pub own : generation m v < generation n v
  pub children : Children m.vertices g n cs
  pub distinct : Distinct cs
  pub mine : (x : ℕ) → x < m.triangles → Among cs x → x ≡ v
  pub spread : (x : ℕ) → x < n.triangles → Spread v g m n x
  pub generations : (x : ℕ) → x < m.triangles → x ≢ v → generation n x ≡ generation m x
  pub corners : (h : ℕ) → h < sides m → h / 3 ≢ v → origin n h ≡ origin m h
  pub links : (h : ℕ) → h < sides m → h / 3 ≢ v → link m h / 3 ≢ v → link n h ≡ link m h
  pub into : (h : ℕ) → h < sides m → h / 3 ≢ v → link m h / 3 ≡ v → Onto cs (link n h)
  pub bases : (h : ℕ) → h < sides n → Base n h → ((h < sides m) × (h / 3 ≢ v)) ⊎ Among cs (h / 3)
  pub follows : Follows m n
  pub told : (h : ℕ) → h < sides m → h / 3 ≢ v → Told (λ x. x ≡ v) m n h
  pub new_corner : (x : ℕ) → x < n.triangles → Written m n x → NewCorner m.vertices n x
  pub past : (b : ℕ) → n.triangles ≤ b → Past b m n

-- ---- lists of children

onto_among : (cs : List ℕ) (k : ℕ) → Onto cs k → Among cs (k / 3)
onto_among cs k = some_map (λ c e. omega arith) cs

onto_met : (n : Topology) (x : ℕ) (cs : List ℕ) (k : ℕ) → link n k ≡ 3 * x → Onto cs k → Met x n cs
onto_met n x cs k b = some_map (λ c e. ap (link n) (sym e) ∙ b) cs

met_onto : (p g : ℕ) (n : Topology) (x : ℕ) (cs : List ℕ) → Manifold n → x < n.triangles → Children p g n cs
    → Met x n cs → Onto cs (link n (3 * x))
met_onto p g n x cs F l =
    some_with (λ c C e. ap (link n) (sym e) ∙ (partnered_with F (omega (arith, C.in_use)) e (omega arith)).back) cs

onto_not_boundary : (p g : ℕ) (n : Topology) (cs : List ℕ) → Manifold n → Children p g n cs → Onto cs boundary → ⊥
onto_not_boundary p g n [] F K e = e
onto_not_boundary p g n (c ∷ cs) F K (inl e) = omega (arith, F.slots, F.generation_room, K.0.in_use)
onto_not_boundary p g n (c ∷ cs) F K (inr e) = onto_not_boundary p g n cs F K.1 e

-- What a cut and its flips bring.
pub record CutResult (v g p r : ℕ) (m n : Topology) : Type 0 where
  pub manifold : Manifold n
  pub bases_meet : BasesMeetIn nowhere m → BasesMeetIn nowhere n
  pub vertices : n.vertices ≡ m.vertices + p
  pub triangles : n.triangles ≡ m.triangles + 2
  pub corners : length n.corners ≡ length m.corners
  pub links : length n.links ≡ length m.links
  pub generations : length n.generations ≡ length m.generations
  pub boundary_count : boundary_sides n ≡ boundary_sides m + r
  pub odd : g % 2 ≡ 1
  pub own : generation m v < generation n v
  pub follow : (x t : ℕ) → x < m.triangles → g < generation m x → Follow x t m → Follow x t n
  pub turns : (t : ℕ) → t < m.triangles → t ≢ v → generation m t % 2 ≡ 1 → link m (3 * t) ≢ boundary
      → link m (3 * t) / 3 ≡ v → generation n t ≡ suc (generation m t)
  pub most : (q : ℕ) → ((x : ℕ) → x < m.triangles → generation m x ≤ q) → suc g ≤ q → (x : ℕ) → x < n.triangles
      → generation n x ≤ q
  pub keeps : (x : ℕ) → x < m.triangles → x ≢ v → generation m x % 2 ≡ 0 → generation n x ≡ generation m x
  pub spread : (x : ℕ) → x < n.triangles → Spread v g m n x
  pub moved : (x : ℕ) → x < m.triangles → x ≢ v → generation n x ≢ generation m x
      → (link m (3 * x) ≢ boundary) × (link m (3 * x) / 3 ≡ v) × (generation m x ≡ g) × (generation n x ≡ suc g)
  pub still : Still m n
  -- A triangle that is left is told where the sides 1 and 2 of v, and 1 of each other triangle that is written anew, are.
  pub told : (h : ℕ) → h < sides m → generation n (h / 3) ≡ generation m (h / 3) → Told (λ x. x ≡ v) m n h
  pub new_corner : (x : ℕ) → x < n.triangles → Written m n x → NewCorner m.vertices n x
  pub past : (b : ℕ) → n.triangles ≤ b → Past b m n

module _ (v g : ℕ) (cs : List ℕ) (p r : ℕ) (m one n : Topology) (F : Manifold m) (b : v < m.triangles)
    (C : Cut v g cs p r m one) (S : Settled cs one n) where
  bases_of_cut : BasesMeetIn nowhere m → BasesMeetIn (Among cs) one
  bases_of_cut K h l x y = go (C.bases h l x)
    where
      O : Manifold one
      O = C.manifold

      M : Partnered one h
      M = partnered_base O l y

      old : (k : ℕ) → k < sides m → k / 3 ≢ v → Base one k → Base m k
      old k i j z = (z.0, sym (ap (λ (a : ℕ). a % 2) (C.generations (k / 3) (omega arith) j)) ∙ z.1)

      both : h < sides m → h / 3 ≢ v → link one h < sides m → link one h / 3 ≢ v → Dec (link m h / 3 ≡ v)
          → Among cs (h / 3) ⊎ Among cs (link one h / 3)
      both i j i' j' (yes q) = inr (onto_among cs (link one h) (C.into h i j q))
      both i j i' j' (no q) =
          let e : link one h ≡ link m h = C.links h i j q in
          elim (K h i (old h i j x) (subst (λ (a : ℕ). Base m a) e (old (link one h) i' j' y)))
          [ inl a ↦ absurd a | inr a ↦ absurd a ]

      by_kind : h < sides m → h / 3 ≢ v → ((link one h < sides m) × (link one h / 3 ≢ v)) ⊎ Among cs (link one h / 3)
          → Among cs (h / 3) ⊎ Among cs (link one h / 3)
      by_kind i j (inr a) = inr a
      by_kind i j (inl a) = both i j a.0 a.1 (ℕ_discrete (link m h / 3) v)

      go : ((h < sides m) × (h / 3 ≢ v)) ⊎ Among cs (h / 3) → Among cs (h / 3) ⊎ Among cs (link one h / 3)
      go (inr a) = inl a
      go (inl a) = by_kind a.0 a.1 (C.bases (link one h) M.in_use y)

  -- The triangles whose base meets v are of generation g or below.
  near : (x : ℕ) → x < m.triangles → link m (3 * x) ≢ boundary → link m (3 * x) / 3 ≡ v → generation m x ≤ g
  near x l q e =
      let M : Partnered m (3 * x) = partnered (F.linked (3 * x) (omega arith)) q in
      let k : ℕ = link m (3 * x) in
      let z : level m k ≡ (generation m v + min 1 (k % 3)) / 2 = level_of m k v (k % 3) e refl in
      let a : level m k ≡ level m (3 * x) = M.level in
      let c : level m (3 * x) ≡ generation m x / 2 = level₀ m x in
      omega (arith, C.odd, C.high)

  met : (t : ℕ) → t < m.triangles → t ≢ v → link m (3 * t) ≢ boundary → link m (3 * t) / 3 ≡ v → Met t one cs
  met t l ne q e =
      let w = C.triangles in
      let o : Onto cs (link one (3 * t)) = C.into (3 * t) (omega arith) (omega arith) e in
      let M : Partnered one (3 * t) =
      partnered (C.manifold.linked (3 * t) (omega arith))
      (λ z. onto_not_boundary m.vertices g one cs C.manifold C.children (subst (Onto cs) z o)) in
      onto_met one t cs (link one (3 * t)) M.back o

  back : (x : ℕ) → x < m.triangles → x ≢ v → Met x one cs → (link m (3 * x) ≢ boundary) × (link m (3 * x) / 3 ≡ v)
  back x l ne e =
      let w = C.triangles in
      let o : Onto cs (link one (3 * x)) =
      met_onto m.vertices g one x cs C.manifold (omega arith) C.children e in
      let q : link m (3 * x) / 3 ≡ v = go o (ℕ_discrete (link m (3 * x) / 3) v) (F.linked (3 * x) (omega arith)) in
      ((λ z. omega (arith, F.slots, F.generation_room)), q)
    where
      go : Onto cs (link one (3 * x)) → Dec (link m (3 * x) / 3 ≡ v) → Joined m (3 * x) → link m (3 * x) / 3 ≡ v
      go o (yes q) L = q
      go o (no q) (inl z) =
          absurd
          (onto_not_boundary m.vertices g one cs C.manifold C.children
          (subst (Onto cs) (C.links (3 * x) (omega arith) (omega arith) q ∙ z) o))
      go o (no q) (inr M) =
          let a : Among cs (link m (3 * x) / 3) =
          onto_among cs (link m (3 * x)) (subst (Onto cs) (C.links (3 * x) (omega arith) (omega arith) q) o) in
          absurd (q (C.mine (link m (3 * x) / 3) (omega (arith, M.in_use)) a))

  rest : (x : ℕ) → generation one x ≢ g → generation n x ≡ generation one x
  rest x e = settled_generation m.vertices g x S C.children C.distinct e

  follow : (x t : ℕ) → x < m.triangles → g < generation m x → Follow x t m → Follow x t n
  follow x t l i f =
      let ne : x ≢ v = λ q. omega (arith, C.high, ap (λ (y : ℕ). generation m y) q) in
      let e : generation one x ≡ generation m x = C.generations x l ne in
      let w : link m (3 * x) / 3 ≢ v = λ q. omega (arith, near x l f.0 q) in
      let k : link one (3 * x) ≡ link m (3 * x) = C.links (3 * x) (omega arith) (omega arith) w in
      let M : Partnered m (3 * x) = partnered (F.linked (3 * x) (omega arith)) f.0 in
      settled_follow m.vertices g x t S C.manifold C.children C.distinct (omega (arith, C.triangles))
      (omega arith)
      ((λ q. f.0 (sym k ∙ q)), go w M.in_use k f.1)
    where
      go : link m (3 * x) / 3 ≢ v → link m (3 * x) < sides m → link one (3 * x) ≡ link m (3 * x)
          → (link m (3 * x) / 3 ≡ t) ⊎ (generation m (link m (3 * x) / 3) % 2 ≡ 0)
          → (link one (3 * x) / 3 ≡ t) ⊎ (generation one (link one (3 * x) / 3) % 2 ≡ 0)
      go w i e (inl q) = inl (ap (λ (z : ℕ). z / 3) e ∙ q)
      go w i e (inr q) =
          inr
          (ap (λ (z : ℕ). generation one (z / 3) % 2) e ∙ ap (λ (z : ℕ). z % 2)
          (C.generations (link m (3 * x) / 3) (omega arith) w) ∙ q)

  turns : (t : ℕ) → t < m.triangles → t ≢ v → generation m t % 2 ≡ 1 → link m (3 * t) ≢ boundary
      → link m (3 * t) / 3 ≡ v → generation n t ≡ suc (generation m t)
  turns t l ne o q e =
      let k : generation one t ≡ generation m t = C.generations t l ne in
      settled_flips m.vertices g t S C.manifold C.children C.distinct (omega (arith, C.triangles))
      (omega arith) (met t l ne q e) ∙ ap suc k

  keeps : (x : ℕ) → x < m.triangles → x ≢ v → generation m x % 2 ≡ 0 → generation n x ≡ generation m x
  keeps x l ne e =
      let a : generation one x ≡ generation m x = C.generations x l ne in
      rest x (omega (arith, C.odd)) ∙ a

  spread : (x : ℕ) → x < n.triangles → Spread v g m n x
  spread x l =
      go (settled_spread m.vertices g x S C.children C.distinct)
      (C.spread x (omega (arith, (settled_same S).triangles)))
    where
      go : (generation n x ≡ generation one x) ⊎ (generation n x ≡ suc g) → Spread v g m one x → Spread v g m n x
      go (inr z) w = inr (inr z)
      go (inl z) (inl w) = inl (w.0, w.1, z ∙ w.2)
      go (inl z) (inr (inl w)) = inr (inl (z ∙ w))
      go (inl z) (inr (inr w)) = inr (inr (z ∙ w))

  most : (q : ℕ) → ((x : ℕ) → x < m.triangles → generation m x ≤ q) → suc g ≤ q → (x : ℕ) → x < n.triangles
      → generation n x ≤ q
  most q K i x l = go (spread x l)
    where
      go : Spread v g m n x → generation n x ≤ q
      go (inl a) = omega (arith, a.2, K x a.0)
      go (inr (inl a)) = omega arith
      go (inr (inr a)) = omega arith

  moved : (x : ℕ) → x < m.triangles → x ≢ v → generation n x ≢ generation m x
      → (link m (3 * x) ≢ boundary) × (link m (3 * x) / 3 ≡ v) × (generation m x ≡ g) × (generation n x ≡ suc g)
  moved x l ne d = go (ℕ_discrete (generation m x) g)
    where
      e : generation one x ≡ generation m x
      e = C.generations x l ne

      by_kind : Among cs x ⊎ Met x one cs → (link m (3 * x) ≢ boundary) × (link m (3 * x) / 3 ≡ v)
      by_kind (inl a) = absurd (ne (C.mine x l a))
      by_kind (inr a) = back x l ne a

      up : (generation n x ≡ generation one x) ⊎ (generation n x ≡ suc g) → generation n x ≡ suc g
      up (inl a) = absurd (d (a ∙ e))
      up (inr a) = a

      go : Dec (generation m x ≡ g)
          → (link m (3 * x) ≢ boundary) × (link m (3 * x) / 3 ≡ v) × (generation m x ≡ g) × (generation n x ≡ suc g)
      go (no q) = absurd (d (rest x (λ w. q (sym e ∙ w)) ∙ e))
      go (yes q) =
          let a =
          by_kind
          (settled_moved m.vertices g x S C.children C.distinct (λ w. d (w ∙ e))
          (ap (λ (y : ℕ). y % 2) (e ∙ q) ∙ C.odd)) in
          (a.0, a.1, q, up (settled_spread m.vertices g x S C.children C.distinct))

  cut_still : Still m one
  cut_still = record {
    grows = omega (arith, C.triangles);
    mono = λ x l. up x l (ℕ_discrete x v);
    corners = λ h l e. C.corners h l (not_v (h / 3) e);
    links = λ h l e f. C.links h l (not_v (h / 3) e) (away h f);
    shift = λ h l e. slide h l (not_v (h / 3) e) (ℕ_discrete (link m h / 3) v);
    follows = C.follows;
  }
    where
      not_v : (x : ℕ) → generation one x ≡ generation m x → x ≢ v
      not_v x = unchanged_not m one (λ z. omega (arith, C.own))

      child_written : (y : ℕ) → Among cs y → Dec (y < m.triangles) → Written m one y
      child_written y a (yes q) = inr (λ z. not_v y z (C.mine y q a))
      child_written y a (no q) = inl (omega arith)

      slide : (h : ℕ) → h < sides m → h / 3 ≢ v → Dec (link m h / 3 ≡ v)
          → (link one h ≡ link m h) ⊎ Written m one (link one h / 3)
      slide h l i (no q) = inl (C.links h l i q)
      slide h l i (yes q) =
          inr
          (child_written (link one h / 3) (onto_among cs (link one h) (C.into h l i q))
          (dec_lt (link one h / 3) m.triangles))

      up : (x : ℕ) → x < m.triangles → Dec (x ≡ v) → generation m x ≤ generation one x
      up x l (yes q) = rw q (omega (arith, C.own))
      up x l (no q) = omega (arith, C.generations x l q)

      away : (h : ℕ)
          → (link m h ≡ boundary) ⊎ ((link m h < sides m)
          × (generation one (link m h / 3) ≡ generation m (link m h / 3)))
          → link m h / 3 ≢ v
      away h (inl e) = omega (arith, F.slots, F.generation_room)
      away h (inr e) = not_v (link m h / 3) e.1

  told : (h : ℕ) → h < sides m → generation n (h / 3) ≡ generation m (h / 3) → Told (λ x. x ≡ v) m n h
  told h l e =
      let up = still_rise cut_still (settled_still S C.manifold) in
      let x = left_between up (omega arith) e in
      told_on up h (F.linked h l)
      (C.told h l (unchanged_not m one (λ z. omega (arith, C.own)) x.0))
      (settled_told h S C.manifold (omega (arith, C.triangles)) x.1)

  -- Every triangle that is written anew has a new corner.
  new_corner_lem : (x : ℕ) → x < n.triangles → Written m n x → NewCorner m.vertices n x
  new_corner_lem x l w =
      settled_new_corner m.vertices g x S C.children C.distinct
      (λ e. C.new_corner x (omega (arith, (settled_same S).triangles)) (by_cut e w))
    where
      by_cut : generation n x ≡ generation one x → Written m n x → Written m one x
      by_cut e (inl q) = inl q
      by_cut e (inr q) = inr (λ z. q (e ∙ z))

  pub cut_settled : CutResult v g p r m n
  cut_settled =
      let E : Same one n = settled_same S in
      let T : Still one n = settled_still S C.manifold in
      record {
        manifold = settled_manifold S C.manifold;
        bases_meet = λ K. settled_bases m.vertices g S C.manifold C.children C.distinct (bases_of_cut K);
        vertices = E.vertices ∙ C.vertices;
        triangles = E.triangles ∙ C.triangles;
        corners = E.corners ∙ C.corner_room;
        links = E.links ∙ C.link_room;
        generations = E.generations ∙ C.generation_room;
        boundary_count = settled_boundary S C.manifold ∙ C.boundary_count;
        odd = C.odd;
        own = omega (arith, C.own, T.mono v (omega (arith, C.triangles)));
        follow = follow;
        turns = turns;
        most = most;
        keeps = keeps;
        spread = spread;
        moved = moved;
        still = still_on m one n cut_still T;
        told = told;
        new_corner = new_corner_lem;
        past = λ b i.
            past_on (C.past b (omega (arith, E.triangles))) (settled_past b S (omega (arith, E.triangles)));
      }
