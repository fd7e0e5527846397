-- Base chains, splits with their flips and refines are the same in tables into which what is in use is copied.
use mathlib.Core.Path.{◌≡◌, refl, sym, ap, ap₂, ◌∙◌}
use mathlib.Core.Logic.{inl, inr}
use mathlib.Core.Bool.{Bool, true, false, ◌&&◌}
use mathlib.Core.List.{List, [], ◌∷◌, ◌++◌}
use Prim.Native.Nat.{ℕ, zero, suc, ◌+◌, ◌*◌, ◌/◌, ◌%◌, ◌<◌, ◌≤◌, min, max}
use native.Mathlib.Omega.{arith}
use native.Mathlib.Decide.{dec_lt}
use lib.Dec.{eqb}
use lib.IntN.{ℤ, pos}
use lib.ListN.{length, get_or-eq_default}
use Rattle.theory.proofs.Chains.Raise.{raise_stops, raise_splits}
use Rattle.theory.proofs.Links.Manifold.{Base}
use Rattle.theory.proofs.Numbers.Decide.{is_eq, when_true, when_false}
use Rattle.theory.proofs.Numbers.Entries.{Each}
use Rattle.theory.proofs.Spares.Copies.{Copy, copy_set, copy_three}
use Rattle.theory.proofs.Spares.CopiedCuts.{LinkIn, Copied, slots_of_both, flip_copied, face_cut_copied}
use Rattle.theory.proofs.Spares.CopiedCuts.{rim_cut_copied}
use Rattle.theory.proofs.Spares.Growing.{Counted, Grown, flip_counted, face_cut_counted, rim_cut_counted}
use Rattle.theory.proofs.Spares.Growing.{face_split_counted, rim_split_counted, raise_grows}
use Rattle.theory.proofs.Splits.Bases.{reached, base_is}
use Rattle.rules.specs.Split.{Work, with_split, with_flip, flip, third_of, centre, first_third, second_third}
use Rattle.rules.specs.Split.{new_unlocked, face_placed, rim_placed, settle, settle_all, face_split, rim_split, split_at}
use Rattle.rules.specs.Split.{chain_end_within, chain_odd_within, chain_end, raise, refine}
use Rattle.rules.specs.Tables.{Topology, Mesh, TablesAgree, vertex_slots, with_topology, origin, link, boundary}
use Rattle.rules.specs.Tables.{generation, odd, is_base, coordinate, put_three}

-- k is s with the positions of the first v vertices of l copied into it.
abbrev Placed : ℕ → List ℤ → List ℤ → List ℤ → List ℤ → Type 0
Placed v r s l k = Copy (λ _. Unit {0}) (pos 0) (3 * v) r s l k

-- The tables of x are those of s with what w has in use, V = v and F = f, copied into them; both counted the same. The
-- tables of w are as long as those of r.
pub record Over (r s : Mesh) (v f : ℕ) (w x : Work) : Type 0 where
  pub counts : Counted v f (reached w)
  pub copy_counts : Counted v f (reached x)
  pub tables : Copied r s v f f (reached w) (reached x)
  pub positions : Placed v r.positions s.positions w.mesh.positions x.mesh.positions
  pub locks : Copy (λ _. Unit {0}) 0 f r.locks s.locks w.mesh.locks x.mesh.locks
  pub rule : x.mesh.rule ≡ w.mesh.rule
  pub splits : x.splits ≡ w.splits
  pub flips : x.flips ≡ w.flips
  pub report : x.report ≡ w.report

-- ---- the base chain

-- What is read at a triangle of a chain: x where it is even, y where its base is on the boundary, else z.
abbrev along : Bool → Bool → ℕ → ℕ → ℕ → ℕ
along o b x y z = elim o [ false ↦ x | true ↦ elim b [ true ↦ y | false ↦ z ] ]

along_both : (R : ℕ → ℕ → Type 0) (o b : Bool) {x y z z' : ℕ} → R x x → R y y → (b ≡ false → R z' z)
    → R (along o b x y z') (along o b x y z)
along_both R false b p q r = p
along_both R true true p q r = q
along_both R true false p q r = r refl

across_below : {f h : ℕ} → eqb h boundary ≡ false → LinkIn f h → h / 3 < f
across_below {h = h} e (inl q) = absurd (when_false (is_eq h boundary) e q)
across_below e (inr l) = omega arith

module _ {r s : Mesh} {v f : ℕ} {m n : Topology} (C : Copied r s v f f m n) where
  -- It ends at the same triangle, in use.
  pub chain_end_same : (k t : ℕ) → t < f
      → (chain_end_within k n t ≡ chain_end_within k m t) × (chain_end_within k m t < f)
  unfolding chain_end_within
  chain_end_same zero t l = (refl, l)
  chain_end_same (suc k) t l =
      let i = C.links.used (3 * t) (omega arith) in
      let e =
      ap₂ (λ (g h : ℕ). along (odd g) (eqb h boundary) t t (chain_end_within k n (h / 3)))
      (C.generations.used t l).0 i.0 in
      let x =
      along_both (λ a b. (a ≡ b) × (b < f)) (odd (generation m t)) (eqb (link m (3 * t)) boundary) (refl, l) (refl, l)
      (λ b. chain_end_same k (link m (3 * t) / 3) (across_below b i.1)) in
      (e ∙ x.0, x.1)

  pub chain_odd_same : (k t : ℕ) → t < f → chain_odd_within k n t ≡ chain_odd_within k m t
  unfolding chain_odd_within
  chain_odd_same zero t l = refl
  chain_odd_same (suc k) t l =
      let i = C.links.used (3 * t) (omega arith) in
      ap₂ (λ (g h : ℕ). along (odd g) (eqb h boundary) 0 1 (suc (chain_odd_within k n (h / 3))))
      (C.generations.used t l).0 i.0
      ∙ along_both ◌≡◌ (odd (generation m t)) (eqb (link m (3 * t)) boundary) refl refl
      (λ b. ap suc (chain_odd_same k (link m (3 * t) / 3) (across_below b i.1)))

-- ---- splits

-- One vertex more.
placed : {r s l k : List ℤ} (v u : ℕ) {a b : ℕ} {p q : ℕ → ℤ} → a ≡ v → b ≡ v → u ≡ suc v
    → 3 * u ≤ length r → 3 * u ≤ length s → ((c : ℕ) → c < 3 → q c ≡ p c) → Placed v r s l k
    → Placed u r s (put_three a (p 0, p 1, p 2) l) (put_three b (q 0, q 1, q 2) k)
placed v u i j e g h f C =
    let z : max v (suc v) ≡ u = omega arith in
    rw (i, j, f 0 (omega arith), f 1 (omega arith), f 2 (omega arith), ← z)
    (copy_three C v _ (omega arith) (omega arith) (omega arith) (tt, tt, tt))

-- Two triangles more, unlocked.
unlocked_over : {r s l k : List ℕ} {f a b : ℕ} → a ≡ f → b ≡ f → f + 2 ≤ length r → f + 2 ≤ length s
    → Copy (λ _. Unit {0}) 0 f r s l k → Copy (λ _. Unit {0}) 0 (f + 2) r s (new_unlocked a l) (new_unlocked b k)
unlocked_over {f = f} i j g h C =
    let e : max (max f (suc f)) (suc (f + 1)) ≡ f + 2 = omega arith in
    rw (i, j, ← e)
    (copy_set (copy_set C f 0 (omega arith) (omega arith) (omega arith) tt) (f + 1) 0 (omega arith) (omega arith)
    (omega arith) tt)

-- Both have slots for v vertices and f triangles.
pub record SlotsFor (r s : Mesh) (v f : ℕ) : Type 0 where
  pub vertices : v ≤ min (vertex_slots r) (vertex_slots s)
  pub triangles : f ≤ slots_of_both r s

-- For what n has in use.
abbrev pub SlotsOf : Mesh → Mesh → Topology → Type 0
SlotsOf r s n = SlotsFor r s n.vertices n.triangles

slots_before : {r s : Mesh} {m n : Topology} → Grown m n → SlotsOf r s n → SlotsOf r s m
slots_before G Z = record {
  vertices = omega (arith, G.vertices, Z.vertices);
  triangles = omega (arith, G.triangles, Z.triangles);
}

slots_counted : {r s : Mesh} {v f a b : ℕ} → (a ≡ v) × (b ≡ f) → SlotsFor r s a b → SlotsFor r s v f
slots_counted M Z = record {
  vertices = omega (arith, M.0, Z.vertices);
  triangles = omega (arith, M.1, Z.triangles);
}

module _ {r s : Mesh} (A : TablesAgree r) (B : TablesAgree s) where
  module _ {v f : ℕ} {m n : Topology} (C : Copied r s v f f m n) (h : ℕ) where
    -- The boundary reads as a side of a slot past the tables.
    met_same : LinkIn f h → generation n (h / 3) ≡ generation m (h / 3)
    met_same (inl e) =
        get_or-eq_default n.generations 0 {n = h / 3} (omega (arith, C.generations.copy_size))
        ∙ sym (get_or-eq_default m.generations 0 {n = h / 3} (omega (arith, C.generations.size)))
    met_same (inr l) = (C.generations.used (h / 3) (omega arith)).0

    base_below : LinkIn f h → Base m h → h / 3 < f
    base_below (inl e) b =
        let z = get_or-eq_default m.generations 0 {n = h / 3} (omega (arith, C.generations.size)) in
        absurd (omega (arith, b.1))
    base_below (inr l) b = omega arith

  settle_over : {v f : ℕ} {w x : Work} → f ≤ slots_of_both r s → Over r s v f w x → (c : ℕ) → c < f
      → Over r s v f (settle c w) (settle c x)
  unfolding settle
  settle_over {v} {f} {w} {x} z O c l =
      let k = O.tables.links.used (3 * c) (omega arith) in
      let e : settle c x ≡ settle_at x h (generation (reached w) (h / 3)) =
      ap (λ (h : ℕ). settle_at x h (generation (reached x) (h / 3))) k.0
      ∙ ap (settle_at x h) (met_same O.tables h k.1) in
      rw e (go (is_base (reached w) h) refl k.1)
    where
      h : ℕ
      h = link (reached w) (3 * c)

      flipped : Work → ℕ → Work
      flipped w h = with_flip c (h / 3) (with_topology (flip c (h / 3) (reached w)) w.mesh) w

      settle_at : Work → ℕ → ℕ → Work
      settle_at w h g = elim (eqb (h % 3) 0 && odd g) [ true ↦ flipped w h | false ↦ w ]

      go : (b : Bool) → is_base (reached w) h ≡ b → LinkIn f h →
          let made : Work → Work = λ w. elim b [ true ↦ flipped w h | false ↦ w ] in
          Over r s v f (made w) (made x)
      go true e i = record {
        counts = flip_counted c (reached w) O.counts (h / 3);
        copy_counts = flip_counted c (reached x) O.copy_counts (h / 3);
        tables =
            flip_copied A B z O.tables c (h / 3) l
            (base_below O.tables h i (when_true (base_is (reached w) h) e));
        positions = O.positions;
        locks = O.locks;
        rule = O.rule;
        splits = O.splits;
        flips = ap suc O.flips;
        report = ap (λ (l : List ℕ). l ++ (c ∷ h / 3 ∷ [])) O.report;
      }
      go false e i = O

  settle_all_over : {v f : ℕ} {w x : Work} (cs : List ℕ) → f ≤ slots_of_both r s → Over r s v f w x
      → Each (λ c. c < f) cs → Over r s v f (settle_all cs w) (settle_all cs x)
  settle_all_over [] z O l = O
  settle_all_over {w = w} (c ∷ cs) z O l = settle_all_over {w = settle c w} cs z (settle_over z O c l.0) l.1

  module _ {v f : ℕ} {w x : Work} (O : Over r s v f w x) (t : ℕ) (l : t < f) where
    corner_same : (c k : ℕ) → c < 3 → k < 3
        → coordinate x.mesh (origin (reached x) (3 * t + c)) k
        ≡ coordinate w.mesh (origin (reached w) (3 * t + c)) k
    corner_same c k i j =
        let o = O.tables.corners.used (3 * t + c) (omega arith) in
        rw o.0
        (O.positions.used (3 * origin (reached w) (3 * t + c) + k) (omega (arith, o.1))).0

    third_same : (h i j k : ℕ) → h < 3 → i < 3 → j < 3 → k < 3
        → third_of h i j x.mesh t k ≡ third_of h i j w.mesh t k
    third_same h i j k a b c d = simp corner_same

    -- The new slots are the same.
    split_reported :
        let new : Work → List ℕ = λ y. t ∷ (reached y).triangles ∷ ((reached y).triangles + 1) ∷ [] in
        x.report ++ new x ≡ w.report ++ new w
    split_reported =
        ap₂ (λ (l : List ℕ) (f : ℕ). l ++ (t ∷ f ∷ (f + 1) ∷ [])) O.report (O.copy_counts.1 ∙ sym O.counts.1)

    face_placed_over : SlotsFor r s (suc v) (f + 2)
        → Over r s (suc v) (f + 2) (with_split t (face_placed t w.mesh) w) (with_split t (face_placed t x.mesh) x)
    unfolding face_placed centre
    face_placed_over Z = record {
      counts = face_cut_counted t (reached w) O.counts;
      copy_counts = face_cut_counted t (reached x) O.copy_counts;
      tables = face_cut_copied A B Z.triangles O.counts O.copy_counts O.tables t l;
      positions =
          placed v (suc v) O.counts.0 O.copy_counts.0 refl (omega (arith, Z.vertices))
          (omega (arith, Z.vertices)) (λ c. third_same 0 1 2 c (omega arith) (omega arith) (omega arith))
          O.positions;
      locks =
          unlocked_over O.counts.1 O.copy_counts.1 (omega (arith, Z.triangles)) (omega (arith, Z.triangles))
          O.locks;
      rule = O.rule;
      splits = ap suc O.splits;
      flips = O.flips;
      report = split_reported;
    }

    rim_placed_over : SlotsFor r s (v + 2) (f + 2)
        → Over r s (v + 2) (f + 2) (with_split t (rim_placed t w.mesh) w) (with_split t (rim_placed t x.mesh) x)
    unfolding rim_placed first_third second_third
    rim_placed_over Z = record {
      counts = rim_cut_counted t (reached w) O.counts;
      copy_counts = rim_cut_counted t (reached x) O.copy_counts;
      tables = rim_cut_copied A B Z.triangles O.counts O.copy_counts O.tables t l;
      positions =
          placed (v + 1) (v + 2) (omega (arith, O.counts.0)) (omega (arith, O.copy_counts.0)) (omega arith)
          (omega (arith, Z.vertices)) (omega (arith, Z.vertices))
          (λ c. third_same 0 1 1 c (omega arith) (omega arith) (omega arith))
          (placed v (v + 1) O.counts.0 O.copy_counts.0 (omega arith) (omega (arith, Z.vertices))
          (omega (arith, Z.vertices))
          (λ c. third_same 0 0 1 c (omega arith) (omega arith) (omega arith)) O.positions);
      locks =
          unlocked_over O.counts.1 O.copy_counts.1 (omega (arith, Z.triangles)) (omega (arith, Z.triangles))
          O.locks;
      rule = O.rule;
      splits = ap suc O.splits;
      flips = O.flips;
      report = split_reported;
    }

    -- What a split makes, settled, in slots that F gives.
    children_over : {u : ℕ} {y z : Work} (cs : ℕ → List ℕ) → f + 2 ≤ slots_of_both r s → Over r s u (f + 2) y z
        → Each (λ c. c < f + 2) (cs f)
        → Over r s u (f + 2) (settle_all (cs (reached w).triangles) y) (settle_all (cs (reached x).triangles) z)
    children_over cs Z P i = rw (O.counts.1, O.copy_counts.1) (settle_all_over (cs f) Z P i)

    split_over : SlotsOf r s (reached (split_at t w)) → (u : ℕ) × Over r s u (f + 2) (split_at t w) (split_at t x)
    unfolding face_split rim_split
    split_over = rw ((O.tables.generations.used t l).0, split_at) (go (odd (generation (reached w) t)))
      where
        go : (b : Bool) →
            let made : Work → Work = λ w. elim b [ false ↦ face_split t w | true ↦ rim_split t w ] in
            SlotsOf r s (reached (made w)) → (u : ℕ) × Over r s u (f + 2) (made w) (made x)
        go false Z =
            let Y = slots_counted (face_split_counted t w O.counts) Z in (
              suc v,
              children_over (λ f. t ∷ f ∷ (f + 1) ∷ []) Y.triangles (face_placed_over Y)
                  (omega arith, (omega arith, (omega arith, tt))),
            )
        go true Z =
            let Y = slots_counted (rim_split_counted t w O.counts) Z in (
              v + 2,
              children_over (λ f. t ∷ (f + 1) ∷ []) Y.triangles (rim_placed_over Y)
                  (omega arith, (omega arith, tt)),
            )

  -- ---- refines

  raise_over : {v f : ℕ} {w x : Work} (k g t : ℕ) → Over r s v f w x → t < f → SlotsOf r s (reached (raise k g t w))
      → (u : ℕ) × (e : ℕ) × Over r s u e (raise k g t w) (raise k g t x)
  unfolding raise
  raise_over {v} {f} zero g t O l Z = (v, f, O)
  raise_over {v} {f} {w} {x} (suc k) g t O l Z =
      let c = chain_end_same O.tables (generation (reached w) t) t l in
      go (dec_lt g (generation (reached w) t)) c.0 (λ Y.
      let G = raise_grows k g t (split_at end w) in
      let S = split_over O end c.1 (slots_before G Y) in
      raise_over {v = S.0} {f = f + 2} {w = split_at end w} {x = split_at end x} k g t S.1 (omega arith) Y) Z
    where
      end : ℕ
      end = chain_end (reached w) t

      go : Dec (g < generation (reached w) t) → chain_end_within (generation (reached w) t) (reached x) t ≡ end
          → (SlotsOf r s (reached (raise k g t (split_at end w)))
          → (u : ℕ) × (e : ℕ) × Over r s u e (raise k g t (split_at end w)) (raise k g t (split_at end x)))
          → SlotsOf r s (reached (raise (suc k) g t w))
          → (u : ℕ) × (e : ℕ) × Over r s u e (raise (suc k) g t w) (raise (suc k) g t x)
      go (yes i) c ih Z =
          let e = (O.tables.generations.used t l).0 in
          rw (raise_stops (suc k) g t w i, raise_stops (suc k) g t x (omega arith)) (v, f, O)
      go (no i) c ih Z =
          let e = (O.tables.generations.used t l).0 in
          let z = raise_splits k g t end w (omega arith) refl in
          rw (z, raise_splits k g t end x (omega arith) (rw e c)) (ih (rw z at Z))

  -- Where both have the slots that it takes.
  pub refine_over : {v f : ℕ} {w x : Work} → Over r s v f w x → (t : ℕ) → t < f → SlotsOf r s (reached (refine t w))
      → (u : ℕ) × (e : ℕ) × Over r s u e (refine t w) (refine t x)
  unfolding refine
  refine_over {w = w} O t l Z =
      rw (O.tables.generations.used t l).0
      (raise_over (suc (generation (reached w) t)) (generation (reached w) t) t O l Z)
