-- The face split and the rim split, with their flips.
use mathlib.Core.Path.{◌≡◌, refl, sym, ap, ap₂, ◌∙◌, subst}
use mathlib.Core.Logic.{inl, inr}
use mathlib.Core.Bool.{Bool, true, false}
use mathlib.Core.List.{List, [], ◌∷◌, ◌++◌, append-nil, append_assoc}
use Prim.Native.Nat.{ℕ, suc, ◌+◌, ◌*◌, ◌/◌, ◌%◌, ◌≤◌, ◌<◌}
use native.Mathlib.Omega.{arith}
use lib.ListN.{length, get_or}
use lib.IntN.{pos}
use Rattle.theory.proofs.Splits.After.{split_after, pairs_after, settles_after, settled_slides, face_after}
use Rattle.theory.proofs.Splits.After.{rim_after_lem}
use Rattle.theory.proofs.Splits.Bases.{Settles, reached, settle_settles, settling_manifold}
use Rattle.theory.proofs.Splits.Cut.{Cut, Onto, CutResult, cut_settled}
use Rattle.theory.proofs.Splits.Edges.{split_boundary, rim_boundary}
use Rattle.theory.proofs.Splits.Flipped.{BaseAt, flips_some, flips_once, pair_at, pair_of, pairs_of, pair_of_side}
use Rattle.theory.proofs.Splits.Flipped.{report_is}
use Rattle.theory.proofs.Links.Manifold.{Manifold}
use Rattle.theory.proofs.Splits.Odds.{split_odds, rim_odds, settling_odds}
use Rattle.theory.proofs.Splits.Parts.{Parts, Parted, face_parts, parted_is, split_is, rim_parts, rim_is}
use Rattle.theory.proofs.Splits.PartsCut.{child, cut_of}
use Rattle.theory.proofs.Splits.Places.{Places, places_stay, places_on, places_new}
use Rattle.theory.proofs.Splits.Reported.{Telling, telling_none, telling_on, settles_telling, cut_telling}
use Rattle.theory.proofs.Splits.Unlocking.{unlocks_stay, unlocks_new}
use Rattle.theory.proofs.Numbers.Rounding.{third_in_range}
use Rattle.theory.proofs.Splits.Settled.{Settled, done, then, Children, Distinct, children_on}
use Rattle.theory.proofs.Splits.RimKeeps.{rim_manifold}
use Rattle.theory.proofs.Splits.SplitKeeps.{split_manifold}
use Rattle.rules.specs.Actions.{cuts_face, cuts_rim}
use Rattle.rules.specs.Numbers.{InRange}
use Rattle.rules.specs.Promises.{odds, Listed}
use Rattle.rules.specs.Split.{Work, face_cut, flip, with_split, with_flip, centre, face_placed, settle, settle_all}
use Rattle.rules.specs.Split.{face_split, new_unlocked, third_of, first_third, second_third, rim_cut, rim_placed, rim_split}
use Rattle.rules.specs.Tables.{Topology, Mesh, mesh_of, with_topology, origin, boundary, link, generation, is_base}
use Rattle.rules.specs.Tables.{coordinate, put_three, with_counts}

-- Room for 2k triangles more.
pub record Room (k : ℕ) (m : Topology) : Type 0 where
  pub corners : 3 * (m.triangles + 2 * k) ≤ length m.corners
  pub links : 3 * (m.triangles + 2 * k) ≤ length m.links
  pub generations : m.triangles + 2 * k ≤ length m.generations

pub room_fewer : (s k : ℕ) (m : Topology) → Room s m → k ≤ s → Room k m
room_fewer s k m R i = omega arith

-- ---- the face split

module _ (v : ℕ) (m n : Topology) (F : Manifold m) (b : v < m.triangles) (even : generation m v % 2 ≡ 0)
    (S : Parted v (face_parts v m) m n) (N : Manifold n) where
  face_cut_lem : Cut v (suc (generation m v)) (v ∷ m.triangles ∷ (m.triangles + 1) ∷ []) 1 0 m n
  face_cut_lem =
      let f : ℕ = m.triangles in
      let e : ℕ = f + 1 in
      let p : Parts = face_parts v m in
      let o : suc (generation m v) % 2 ≡ 1 = omega arith in
      let w = S.triangles in
      cut_of v p m n F b S N (suc (generation m v)) 1 0 (f ∷ e ∷ []) (omega arith) (record {
        action = cuts_face v;
        may_act = (b, even);
        makes = split_is v m ∙ S.makes;
        place = λ h. refl;
        odd = o;
        high = omega arith;
        children = (
          child v p m n F b S N (3 * v) (omega arith) S.own.generation o (omega (arith, S.own.corners.2))
              (omega arith) (omega arith) S.own.links.0,
          (
            child v p m n F b S N (3 * v + 1) (omega arith) S.second.generation o
                (omega (arith, S.second.corners.2)) (omega arith) (omega arith) S.second.links.0,
            (
              child v p m n F b S N (3 * v + 2) (omega arith) S.third.generation o
                  (omega (arith, S.third.corners.2)) (omega arith) (omega arith) S.third.links.0,
              tt,
            ),
          ),
        );
        distinct = ((omega arith, (omega arith, tt)), ((omega arith, tt), (tt, tt)));
        later = (omega arith, (omega arith, tt));
        second = inl (S.second.generation, inr (inl refl));
        third = inl (S.third.generation, inr (inr (inl refl)));
        onto₁ = inr (inl refl);
        onto₂ = inr (inr (inl refl));
        boundary_count = split_boundary v m n F b S;
        new_corner₁ = (3 * f + 2, omega arith, omega (arith, S.second.corners.2));
        new_corner₂ = (3 * e + 2, omega arith, omega (arith, S.third.corners.2));
      })

-- ---- the rim split

module _ (v : ℕ) (m n : Topology) (F : Manifold m) (b : v < m.triangles) (odd : generation m v % 2 ≡ 1)
    (edge : link m (3 * v) ≡ boundary) (S : Parted v (rim_parts v m) m n) (N : Manifold n) where
  rim_cut_lem : Cut v (generation m v + 2) (v ∷ (m.triangles + 1) ∷ []) 2 2 m n
  rim_cut_lem =
      let f : ℕ = m.triangles in
      let e : ℕ = f + 1 in
      let p : Parts = rim_parts v m in
      let o : (generation m v + 2) % 2 ≡ 1 = omega arith in
      let w = S.triangles in
      cut_of v p m n F b S N (generation m v + 2) 2 2 (e ∷ []) refl (record {
        action = cuts_rim v;
        may_act = (b, odd, edge);
        makes = rim_is v m ∙ S.makes;
        place = λ h. refl;
        odd = o;
        high = omega arith;
        children = (
          child v p m n F b S N (3 * v + 2) (omega arith) S.own.generation o (omega (arith, S.own.corners.2))
              (omega arith) (omega arith) S.own.links.0,
          (
            child v p m n F b S N (3 * v + 1) (omega arith) S.third.generation o
                (omega (arith, S.third.corners.2)) (omega arith) (omega arith) S.third.links.0,
            tt,
          ),
        );
        distinct = ((omega arith, tt), (tt, tt));
        later = (omega arith, tt);
        second = inr (omega (arith, S.second.generation));
        third = inl (S.third.generation, inr (inl refl));
        onto₁ = inr (inl refl);
        onto₂ = inl refl;
        boundary_count = rim_boundary v m n F b edge S;
        new_corner₁ = (3 * f, omega arith, omega (arith, S.second.corners.0));
        new_corner₂ = (3 * e + 2, omega arith, omega (arith, S.third.corners.2));
      })

-- ---- with the flips

-- Settling children one after the other, with what is counted.
pub data SettlesAll : List ℕ → Work → Work → Type 0 where
  all_done : {w : Work} → SettlesAll [] w w
  next_child : {c : ℕ} {cs : List ℕ} {w v x : Work} → Settles c w v → SettlesAll cs v x → SettlesAll (c ∷ cs) w x

settles_all : (p g : ℕ) (cs : List ℕ) (w : Work) → Manifold (reached w) → Children p g (reached w) cs → Distinct cs
    → SettlesAll cs w (settle_all cs w)
settles_all p g [] w F K D = all_done
settles_all p g (c ∷ cs) w F K D =
    let S = settle_settles p g c w F K.0 in
    let m : Topology = reached w in
    let n : Topology = reached (settle c w) in
    next_child S (settles_all p g cs (settle c w) (settling_manifold c m n F S.settling)
    (children_on p g c m n cs S.settling K.0 K.1 D.0) D.1)

settled_of : {cs : List ℕ} {w x : Work} → SettlesAll cs w x → Settled cs (reached w) (reached x)
settled_of all_done = done
settled_of (next_child S s) = then S.settling (settled_of s)

-- Settling counts no split, and each flip takes two odd triangles away.
record Counted (w x : Work) : Type 0 where
  splits : x.splits ≡ w.splits
  odd : 2 * x.flips + odds (reached x) ≡ 2 * w.flips + odds (reached w)

counted_on : {c : ℕ} {w v x : Work} → Settles c w v → Counted v x → Counted w x
counted_on S C = record {
  splits = C.splits ∙ S.splits;
  odd = omega (arith, C.odd, S.flips, settling_odds S.settling);
}

counted : {cs : List ℕ} {w x : Work} → SettlesAll cs w x → Counted w x
counted all_done = record { splits = refl; odd = refl }
counted (next_child S s) = counted_on S (counted s)

-- What they report.
told_all : {cs : List ℕ} {w x : Work} → SettlesAll cs w x → Telling w x
told_all (all_done {w = w}) = telling_none w
told_all (next_child S s) =
    telling_on (settles_telling S) (told_all s)

told_after : (p g : ℕ) {cs : List ℕ} {w x : Work} → SettlesAll cs w x → Manifold (reached w)
    → Children p g (reached w) cs → Distinct cs → x.report ≡ w.report ++ pairs_after (reached x) cs
told_after p g (all_done {w = w}) F K D = sym (append-nil w.report)
told_after p g (next_child {c = c} {cs = cs} {w = w} {v = v} {x = x} S s) F K D =
    settles_after p g c x S (settled_of s) F K.0 K.1 D.0 D.1
    (told_after p g s (settling_manifold c (reached w) (reached v) F S.settling)
    (children_on p g c (reached w) (reached v) cs S.settling K.0 K.1 D.0) D.1)

-- ---- the new vertices

-- Settling changes the topology alone.
settle_leaves : (s : ℕ) (w : Work) → ((settle s w).mesh.positions ≡ w.mesh.positions)
    × ((settle s w).mesh.rule ≡ w.mesh.rule) × ((settle s w).mesh.locks ≡ w.mesh.locks)
unfolding settle
settle_leaves s w = go (is_base m (link m (3 * s)))
  where
    m : Topology
    m = reached w

    go : (b : Bool) →
        let x : Work = elim b as (λ _. Work) [
          | true ↦ with_flip s (link m (3 * s) / 3) (with_topology (flip s (link m (3 * s) / 3) m) w.mesh) w
          | false ↦ w
        ] in
        (x.mesh.positions ≡ w.mesh.positions) × (x.mesh.rule ≡ w.mesh.rule)
        × (x.mesh.locks ≡ w.mesh.locks)
    go true = (refl, refl, refl)
    go false = (refl, refl, refl)

settle_positions : (s : ℕ) (w : Work) → (settle s w).mesh.positions ≡ w.mesh.positions
settle_positions s w = (settle_leaves s w).0

settled_leaves : (cs : List ℕ) (w : Work) → ((settle_all cs w).mesh.positions ≡ w.mesh.positions)
    × ((settle_all cs w).mesh.rule ≡ w.mesh.rule) × ((settle_all cs w).mesh.locks ≡ w.mesh.locks)
settled_leaves [] w = (refl, refl, refl)
settled_leaves (c ∷ cs) w =
    let x = settled_leaves cs (settle c w) in
    let y = settle_leaves c w in
    (x.0 ∙ y.0, x.1 ∙ y.1, x.2 ∙ y.2)

-- A face split places its vertex at the centre, and no other.
pub face_positions : (t : ℕ) (w : Work)
    → (face_split t w).mesh.positions
    ≡ put_three (reached w).vertices (centre w.mesh t 0, centre w.mesh t 1, centre w.mesh t 2)
    w.mesh.positions
unfolding face_split face_placed
face_positions t w = simp settle_positions

-- It clears the locks of its new slots, and no other.
pub face_locks : (t : ℕ) (w : Work)
    → (face_split t w).mesh.locks ≡ new_unlocked (reached w).triangles w.mesh.locks
unfolding face_split face_placed
face_locks t w =
    let f = (reached w).triangles in
    (settled_leaves (t ∷ f ∷ (f + 1) ∷ []) (with_split t (face_placed t w.mesh) w)).2

-- ---- any split, with what is counted and placed

-- The split of v into children of generation g, with p vertices and r boundary sides more. The face split has r = 0 and
-- makes three odd triangles, the rim split r = 2 and makes one.
pub record Splitting (v g p r : ℕ) (w x : Work) : Type 0 where
  pub result : CutResult v g p r (reached w) (reached x)
  pub splits : x.splits ≡ suc w.splits
  pub odd : 2 * x.flips + odds (reached x) + r ≡ 2 * w.flips + odds (reached w) + 3
  pub places : Places w.mesh x.mesh
  pub telling : Telling w x
  pub after : x.report ≡ w.report ++ split_after (reached x).links (reached x).generations v (reached w).triangles
  pub some : (h : ℕ) → BaseAt v (reached w) h → w.flips + 1 ≤ x.flips
  pub once : ((h k : ℕ) → BaseAt v (reached w) h → BaseAt v (reached w) k → h ≡ k) → x.flips ≤ w.flips + 1

-- A cut whose new vertices are placed, counted and settled.
splitting_of : (v g p r : ℕ) (cs : List ℕ) (w : Work) (k : Mesh) → Manifold (reached w) → v < (reached w).triangles
    → Cut v g cs p r (reached w) k.topology
    → ((h : ℕ) → Onto cs h →
    let f = (reached w).triangles in
    Listed (v ∷ f ∷ (f + 1) ∷ []) (h / 3))
    → ((n : Topology) → Settled cs k.topology n →
    let f = (reached w).triangles in
    v ∷ f ∷ (f + 1) ∷ pairs_after n cs ≡ split_after n.links n.generations v f)
    → odds k.topology + r ≡ odds (reached w) + 3 → Places w.mesh k
    → Splitting v g p r w (settle_all cs (with_split v k w))
splitting_of v g p r cs w k F b C into told o P =
    let A = settles_all (reached w).vertices g cs (with_split v k w) C.manifold C.children C.distinct in
    let K = counted A in
    let x : Work = settle_all cs (with_split v k w) in
    let result = cut_settled v g cs p r (reached w) k.topology (reached x) F b C (settled_of A) in
    let L = settled_leaves cs (with_split v k w) in
    record {
      result = result;
      splits = K.splits;
      odd = omega (arith, K.odd);
      places = places_on P (places_stay k x.mesh L.0 (result.vertices ∙ sym C.vertices)
          (unlocks_stay k x.mesh L.2 (result.triangles ∙ sym C.triangles)) L.1);
      telling = telling_on (cut_telling w k C into) (told_all A);
      after =
          let f : ℕ = (reached w).triangles in
          told_after (reached w).vertices g A C.manifold C.children C.distinct
          ∙ append_assoc w.report (v ∷ f ∷ (f + 1) ∷ []) (pairs_after (reached x) cs)
          ∙ ap (λ (l : List ℕ). w.report ++ l) (told (reached x) (settled_of A));
      some = flips_some (with_split v k w) F C (told_all A) K.splits;
      once = flips_once (with_split v k w) F C (told_all A) K.splits;
    }

-- A third of corners of a triangle in use is in range where the vertices are.
third_fits : (h i j : ℕ) (m : Mesh) (t : ℕ) → Manifold m.topology → t < m.topology.triangles → h < 3 → i < 3
    → j < 3
    → ((i : ℕ) → i < 3 * m.topology.vertices → InRange (get_or m.positions i (pos 0)))
    → InRange (third_of h i j m t 0) × InRange (third_of h i j m t 1) × InRange (third_of h i j m t 2)
third_fits h i j m t F b x y z a = (all 0 (omega arith), all 1 (omega arith), all 2 (omega arith))
  where
    at : (i k : ℕ) → i < 3 → k < 3 → InRange (coordinate m (origin m.topology (3 * t + i)) k)
    at i k l q =
        a (3 * origin m.topology (3 * t + i) + k) (omega (arith, F.corner (3 * t + i) (omega arith)))

    all : (k : ℕ) → k < 3 → InRange (third_of h i j m t k)
    all k q = third_in_range (at h k x q) (at i k y q) (at j k z q)

module _ (v : ℕ) (w : Work) (F : Manifold (reached w)) (b : v < (reached w).triangles) (R : Room 1 (reached w)) where
  pub face_parted : Parted v (face_parts v (reached w)) (reached w) (face_cut v (reached w))
  face_parted =
      let rc = R.corners in
      let rl = R.links in
      let rg = R.generations in
      let m : Topology = reached w in
      rw (split_is v m) (parted_is v (face_parts v m) m F b (omega arith) (omega arith) (omega arith))

  module _ (even : generation (reached w) v % 2 ≡ 0) where
    face_cut_made :
        let m : Topology = reached w in
        Cut v (suc (generation m v)) (v ∷ m.triangles ∷ (m.triangles + 1) ∷ []) 1 0 m (face_cut v m)
    face_cut_made =
        let rc = R.corners in
        let rl = R.links in
        let rg = R.generations in
        let m : Topology = reached w in
        face_cut_lem v m (face_cut v m) F b even face_parted
        (split_manifold v m (face_cut v m) F b even face_parted (omega arith) (omega arith) (omega arith))

    pub face_settled : Settled (v ∷ (reached w).triangles ∷ ((reached w).triangles + 1) ∷ [])
        (face_cut v (reached w)) (reached (face_split v w))
    unfolding face_split face_placed
    face_settled =
        let C = face_cut_made in
        settled_of (settles_all (reached w).vertices _ _ (with_split v (face_placed v w.mesh) w) C.manifold
        C.children C.distinct)

    pub face_splitting : Splitting v (suc (generation (reached w) v)) 1 0 w (face_split v w)
    unfolding face_split face_placed centre
    face_splitting =
        let m : Topology = reached w in
        let S = face_parted in
        splitting_of v _ 1 0 _ w (face_placed v w.mesh) F b face_cut_made
        (λ h o. elim o [
          | inl e ↦ inl (omega arith)
          | inr (inl e) ↦ inr (inl (omega arith))
          | inr (inr (inl e)) ↦ inr (inr (inl (omega arith)))
          | inr (inr (inr e)) ↦ absurd e
        ])
        (λ n s. face_after v m.triangles (face_cut v m) n
        (settled_slides m.triangles s (omega (arith, S.triangles))) S.second.links.2)
        (split_odds v m (face_cut v m) b even S)
        (places_new w.mesh (face_placed v w.mesh) _ S.vertices refl
        (unlocks_new w.mesh (face_placed v w.mesh) S.triangles refl) refl
        (third_fits 0 1 2 w.mesh v F b (omega arith) (omega arith) (omega arith)))

  pub rim_splitting : generation (reached w) v % 2 ≡ 1 → link (reached w) (3 * v) ≡ boundary
      → Splitting v (generation (reached w) v + 2) 2 2 w (rim_split v w)
  unfolding rim_split rim_placed first_third second_third
  rim_splitting odd edge =
      let rc = R.corners in
      let rl = R.links in
      let rg = R.generations in
      let m : Topology = reached w in
      let S : Parted v (rim_parts v m) m (rim_cut v m) =
      rw (rim_is v m) (parted_is v (rim_parts v m) m F b (omega arith) (omega arith) (omega arith)) in
      let N : Manifold (rim_cut v m) =
      rim_manifold v m (rim_cut v m) F b odd edge S (omega arith) (omega arith) (omega arith) in
      -- With the first of the two vertices placed.
      let k : Mesh =
      mesh_of (with_counts (m.vertices + 1) m.triangles m)
      (put_three m.vertices (first_third w.mesh v 0, first_third w.mesh v 1, first_third w.mesh v 2)
      w.mesh.positions)
      w.mesh.locks w.mesh.rule in
      let one : Places w.mesh k =
      places_new w.mesh k _ (omega arith) refl (unlocks_stay w.mesh k refl refl) refl
      (third_fits 0 0 1 w.mesh v F b (omega arith) (omega arith) (omega arith)) in
      let two : Places k (rim_placed v w.mesh) =
      places_new k (rim_placed v w.mesh) _ (omega (arith, S.vertices)) refl
      (unlocks_new k (rim_placed v w.mesh) S.triangles refl) refl
      (λ a. third_fits 0 1 1 w.mesh v F b (omega arith) (omega arith) (omega arith)
      (λ i l. subst InRange (one.old i l) (a i (omega arith)))) in
      splitting_of v _ 2 2 _ w (rim_placed v w.mesh) F b (rim_cut_lem v m (rim_cut v m) F b odd edge S N)
      (λ h o. elim o [
        | inl e ↦ inl (omega arith)
        | inr (inl e) ↦ inr (inr (inl (omega arith)))
        | inr (inr e) ↦ absurd e
      ])
      (λ n s. rim_after_lem v m.triangles (rim_cut v m) n
      (settled_slides m.triangles s (omega (arith, S.triangles))) S.second.links.2)
      (rim_odds v m (rim_cut v m) b odd S) (places_on one two)

-- ---- what a split reports, read before it

-- What the flips of the split of v report, of a rim split or of a face split.
abbrev pub flips_told : Bool → Topology → ℕ → List ℕ
flips_told true m v = pair_at m v (3 * v + 2) ++ pair_at m (m.triangles + 1) (3 * v + 1)
flips_told false m v =
    let f = m.triangles in
    pair_at m v (3 * v) ++ (pair_at m f (3 * v + 1) ++ pair_at m (f + 1) (3 * v + 2))

-- Its own slot, the new ones, and then what they do.
abbrev pub told_as : Bool → Topology → ℕ → List ℕ
told_as rim m v = v ∷ m.triangles ∷ (m.triangles + 1) ∷ flips_told rim m v

module _ (v : ℕ) (w : Work) (F : Manifold (reached w)) (b : v < (reached w).triangles) (R : Room 1 (reached w)) where
  pub face_report : generation (reached w) v % 2 ≡ 0
      → (face_split v w).report ≡ w.report ++ told_as false (reached w) v
  unfolding face_split face_placed
  face_report even =
      let m : Topology = reached w in
      let n : Topology = face_cut v m in
      let f : ℕ = m.triangles in
      let S = face_parted v w F b R in
      let C = face_cut_made v w F b R even in
      let N : Manifold n = C.manifold in
      let k : Mesh = face_placed v w.mesh in
      let x : pair_of n v ≡ pair_at m v (3 * v) =
      pair_of_side v v (3 * v) m n F N C.generations (omega arith) (omega arith) S.own.links.0 in
      let y : pair_of n f ≡ pair_at m f (3 * v + 1) =
      pair_of_side v f (3 * v + 1) m n F N C.generations (omega arith) (omega arith) S.second.links.0 in
      let z : pair_of n (f + 1) ≡ pair_at m (f + 1) (3 * v + 2) =
      pair_of_side v (f + 1) (3 * v + 2) m n F N C.generations (omega arith) (omega arith) S.third.links.0 in
      report_is m.vertices _ (v ∷ f ∷ (f + 1) ∷ []) (with_split v k w) N C.children C.distinct
      ∙ append_assoc w.report (v ∷ f ∷ (f + 1) ∷ []) (pairs_of n (v ∷ f ∷ (f + 1) ∷ []))
      ∙ ap (λ (l : List ℕ). w.report ++ (v ∷ f ∷ (f + 1) ∷ l))
      (ap₂ (λ (l j : List ℕ). l ++ j) x (ap₂ (λ (l j : List ℕ). l ++ j) y (append-nil (pair_of n (f + 1)) ∙ z)))

  pub rim_report : generation (reached w) v % 2 ≡ 1 → link (reached w) (3 * v) ≡ boundary
      → (rim_split v w).report ≡ w.report ++ told_as true (reached w) v
  unfolding rim_split rim_placed
  rim_report odd edge =
      let rc = R.corners in
      let rl = R.links in
      let rg = R.generations in
      let m : Topology = reached w in
      let n : Topology = rim_cut v m in
      let f : ℕ = m.triangles in
      let S : Parted v (rim_parts v m) m n =
      rw (rim_is v m) (parted_is v (rim_parts v m) m F b (omega arith) (omega arith) (omega arith)) in
      let N : Manifold n = rim_manifold v m n F b odd edge S (omega arith) (omega arith) (omega arith) in
      let C = rim_cut_lem v m n F b odd edge S N in
      let k : Mesh = rim_placed v w.mesh in
      let x : pair_of n v ≡ pair_at m v (3 * v + 2) =
      pair_of_side v v (3 * v + 2) m n F N C.generations (omega arith) (omega arith) S.own.links.0 in
      let y : pair_of n (f + 1) ≡ pair_at m (f + 1) (3 * v + 1) =
      pair_of_side v (f + 1) (3 * v + 1) m n F N C.generations (omega arith) (omega arith) S.third.links.0 in
      report_is m.vertices _ (v ∷ (f + 1) ∷ []) (with_split v k w) N C.children C.distinct
      ∙ append_assoc w.report (v ∷ f ∷ (f + 1) ∷ []) (pairs_of n (v ∷ (f + 1) ∷ []))
      ∙ ap (λ (l : List ℕ). w.report ++ (v ∷ f ∷ (f + 1) ∷ l))
      (ap₂ (λ (l j : List ℕ). l ++ j) x (append-nil (pair_of n (f + 1)) ∙ y))
