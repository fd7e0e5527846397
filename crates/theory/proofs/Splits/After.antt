-- What a split reports, read from the tables that it leaves: a settled child was flipped exactly if its generation is
-- even, with the triangle that its side 1 leads to. (Request m)
use mathlib.Core.Path.{◌≡◌, refl, sym, ap, ◌∙◌}
use mathlib.Core.Logic.{◌≢◌, ◌⊎◌, inl, inr}
use mathlib.Core.Bool.{Bool, true, false, not, ◌&&◌}
use mathlib.Core.List.{List, [], ◌∷◌, ◌++◌, append-nil, append_assoc}
use Prim.Native.Nat.{ℕ, ◌+◌, ◌*◌, ◌/◌, ◌%◌, ◌<◌}
use native.Mathlib.Decide.{ℕ_discrete}
use native.Mathlib.Omega.{arith}
use lib.Dec.{eqb}
use lib.ListN.{get_or}
use Rattle.theory.proofs.Links.Manifold.{Manifold}
use Rattle.theory.proofs.Numbers.Decide.{is_eq, is_same, is_true, is_false, odd_test, even_test}
use Rattle.theory.proofs.Splits.Bases.{reached, Child, Settling, kept, flipped, Settles, report_of}
use Rattle.theory.proofs.Splits.Bases.{settling_manifold}
use Rattle.theory.proofs.Splits.FlipKeeps.{BasesMeet}
use Rattle.theory.proofs.Splits.FlipRead.{Flips, by_flip_name}
use Rattle.theory.proofs.Splits.Flipped.{pair_if}
use Rattle.theory.proofs.Splits.Settled.{Settled, done, then, Children, Without, Distinct, children_on}
use Rattle.theory.proofs.Splits.Settled.{settled_generation, settled_still}
use Rattle.theory.proofs.Splits.Settling.{settling_child, settling_same}
use Rattle.rules.specs.Split.{Work}
use Rattle.rules.specs.Tables.{Topology, link, generation, odd}

-- Child c was flipped, by the generations that are left.
abbrev pub is_flipped : List ℕ → ℕ → Bool
is_flipped generations c = not (odd (get_or generations c 0))

-- The second child f of the split of t was. Where this was a rim split, f is even without a flip; there alone its
-- side 2 leads to side 2 of t.
abbrev pub is_second_flipped : List ℕ → List ℕ → ℕ → ℕ → Bool
is_second_flipped links generations t f =
    is_flipped generations f && not (eqb (get_or links (3 * f + 2) 0) (3 * t + 2))

-- What its flip reports, if there was one.
abbrev pub flip_after : List ℕ → Bool → ℕ → List ℕ
flip_after links b c = pair_if b c (get_or links (3 * c + 1) 0)

-- What the split of t into t, f and f + 1 reports: its own slot, the new ones, and its flips.
abbrev pub split_after : List ℕ → List ℕ → ℕ → ℕ → List ℕ
split_after l g t f =
    t ∷ f ∷ (f + 1) ∷ (flip_after l (is_flipped g t) t
    ++ (flip_after l (is_second_flipped l g t f) f ++ flip_after l (is_flipped g (f + 1)) (f + 1)))

abbrev pub pair_after : Topology → ℕ → List ℕ
pair_after m c = flip_after m.links (is_flipped m.generations c) c

abbrev pub pairs_after : Topology → List ℕ → List ℕ
pairs_after m [] = []
pairs_after m (c ∷ cs) = pair_after m c ++ pairs_after m cs

-- ---- a child, once all are settled

child_on : (p g c d : ℕ) {m k n : Topology} → Settling d m k → Child p g d m → Child p g c m → d ≢ c
    → (Child p g c k → Child p g c n) → Child p g c n
child_on p g c d {m} {k} o D C ne ih = ih (settling_child p g d c m k o D C (λ e. ne (sym e)))

settled_child : (p g c : ℕ) {cs : List ℕ} {m n : Topology} → Settled cs m n → Child p g c m → Children p g m cs
    → Without c cs → Distinct cs → Child p g c n
settled_child p g c done C K w D = C
settled_child p g c (then {c = d} {cs = cs} {m = m} {k = k} {n = n} o s) C K w D =
    child_on p g c d o K.0 C w.0
    (λ X. settled_child p g c s X (children_on p g d m k cs o K.0 K.1 D.0) w.1 D.1)

-- It was not flipped, and is none that others are flipped with.
unflipped_after : (p g c : ℕ) (n : Topology) → Child p g c n → pair_after n c ≡ []
unflipped_after p g c n C = rw (odd_test (generation n c) (ap (λ (x : ℕ). x % 2) C.generations ∙ C.odd)) refl

-- It was flipped with u: no flip is of a triangle whose generation is even.
flipped_after : (p g c u : ℕ) {cs : List ℕ} {m k n : Topology} → BasesMeet c u m → Flips c u m k → Manifold k
    → Settled cs k n → Children p g k cs → Distinct cs → Child p g c m → pair_after n c ≡ c ∷ u ∷ []
flipped_after p g c u {cs} {m} {k} {n} B S F s K D C =
    rw (even_test (generation n c) (omega (arith, x, S.generation_s, C.generations, C.odd)))
    (ap (λ (y : ℕ). c ∷ y ∷ []) (omega (arith, z, S.links_s.1)))
  where
    x : generation n c ≡ generation k c
    x = settled_generation p g c s K D (λ e. omega (arith, S.generation_s, C.generations))

    y : generation n u ≡ generation k u
    y = settled_generation p g u s K D (λ e. omega (arith, S.generation_u, C.generations))

    z : link n (3 * c + 1) ≡ link k (3 * c + 1)
    z =
        let i : (3 * c + 1) / 3 ≡ c = omega arith in
        let j : link k (3 * c + 1) / 3 ≡ u = omega (arith, S.links_s.1) in
        (settled_still s F).links (3 * c + 1) (omega (arith, B.use_s, S.triangles)) (rw i x)
        (inr (omega (arith, B.use_u, S.triangles, S.links_s.1), rw j y))

child_after : (p g c : ℕ) {cs : List ℕ} {m k n : Topology} (o : Settling c m k) → Settled cs k n → Manifold m
    → Child p g c m → Children p g m cs → Without c cs → Distinct cs → report_of o ≡ pair_after n c
child_after p g c (kept y) s F C K w D = sym (unflipped_after p g c _ (settled_child p g c s C K w D))
child_after p g c {cs} {m} {k} (flipped u B S) s F C K w D =
    sym
    (flipped_after p g c u B S (settling_manifold c m k F (flipped u B S)) s
    (children_on p g c m k cs (flipped u B S) C K w) D C)

-- What settling c, and then the others, reports.
pub settles_after : (p g c : ℕ) {cs : List ℕ} {w v : Work} (x : Work) (S : Settles c w v)
    → Settled cs (reached v) (reached x) → Manifold (reached w) → Child p g c (reached w) → Children p g (reached w) cs
    → Without c cs → Distinct cs
    → x.report ≡ v.report ++ pairs_after (reached x) cs
    → x.report ≡ w.report ++ pairs_after (reached x) (c ∷ cs)
settles_after p g c {cs} {w} x S s F C K q D e =
    e
    ∙ ap (λ (l : List ℕ). l ++ pairs_after (reached x) cs)
    (S.report ∙ ap (λ (l : List ℕ). w.report ++ l) (child_after p g c S.settling s F C K q D))
    ∙ append_assoc w.report (pair_after (reached x) c) (pairs_after (reached x) cs)

-- ---- the links of sides 2

-- A link is as before, or it did not lead to a side 2 and does not then.
abbrev pub Slid : ℕ → ℕ → Type 0
Slid a b = (b ≡ a) ⊎ ((a % 3 ≢ 2) × (b % 3 ≢ 2))

slid_on : (a b c : ℕ) → Slid a b → Slid b c → Slid a c
slid_on a b c (inl p) (inl q) = inl (q ∙ p)
slid_on a b c (inl p) (inr q) = inr ((λ e. q.0 (ap (λ (x : ℕ). x % 3) p ∙ e)), q.1)
slid_on a b c (inr p) (inl q) = inr (p.0, (λ e. p.1 (sym (ap (λ (x : ℕ). x % 3) q) ∙ e)))
slid_on a b c (inr p) (inr q) = inr (p.0, q.1)

settling_slides : (c x : ℕ) (m k : Topology) → Settling c m k → x < m.triangles
    → Slid (link m (3 * x + 2)) (link k (3 * x + 2))
settling_slides c x m k (kept y) l = inl refl
settling_slides c x m k (flipped u B S) l = go (ℕ_discrete x c) (ℕ_discrete x u)
  where
    go : Dec (x ≡ c) → Dec (x ≡ u) → Slid (link m (3 * x + 2)) (link k (3 * x + 2))
    go (yes e) d = inl (rw e S.links_s.2)
    go (no e) (yes f) = inl (rw f S.links_u.2)
    go (no e) (no f) =
        rw (S.links (3 * x + 2) (omega arith) (λ q. e (omega arith)) (λ q. f (omega arith)))
        (by_flip_name c u (Slid (link m (3 * x + 2))) B.differ (link m (3 * x + 2))
        (λ q. inr (omega arith, omega arith)) (λ q. inr (omega arith, omega arith)) (λ i j. inl refl))

pub settled_slides : (x : ℕ) {cs : List ℕ} {m n : Topology} → Settled cs m n → x < m.triangles
    → Slid (link m (3 * x + 2)) (link n (3 * x + 2))
settled_slides x done l = inl refl
settled_slides x (then {c = c} {m = m} {k = k} {n = n} o s) l =
    slid_on (link m (3 * x + 2)) (link k (3 * x + 2)) (link n (3 * x + 2)) (settling_slides c x m k o l)
    (settled_slides x s (omega (arith, (settling_same c m k o).triangles)))

-- ---- a split

-- With the test of a rim split decided.
after_face : (b : Bool) (f h : ℕ) → pair_if b f h ≡ pair_if (b && true) f h
after_face true f h = refl
after_face false f h = refl

after_rim : (b : Bool) (f h : ℕ) → [] ≡ pair_if (b && false) f h
after_rim true f h = refl
after_rim false f h = refl

module _ (t f : ℕ) (m n : Topology) (s : Slid (link m (3 * f + 2)) (link n (3 * f + 2))) where
  abbrev told : List ℕ → List ℕ
  told second = t ∷ f ∷ (f + 1) ∷ (pair_after n t ++ (second ++ pair_after n (f + 1)))

  pub face_after : link m (3 * f + 2) ≡ 3 * t + 1
      → t ∷ f ∷ (f + 1) ∷ pairs_after n (t ∷ f ∷ (f + 1) ∷ []) ≡ split_after n.links n.generations t f
  face_after e =
      rw (is_same (is_eq (link n (3 * f + 2)) (3 * t + 2)) (is_false (go s)), append-nil (pair_after n (f + 1)))
      (ap told (after_face (is_flipped n.generations f) f (link n (3 * f + 1))))
    where
      go : Slid (link m (3 * f + 2)) (link n (3 * f + 2)) → link n (3 * f + 2) ≢ 3 * t + 2
      go (inl p) q = omega arith
      go (inr p) q = p.1 (omega arith)

  pub rim_after_lem : link m (3 * f + 2) ≡ 3 * t + 2
      → t ∷ f ∷ (f + 1) ∷ pairs_after n (t ∷ (f + 1) ∷ []) ≡ split_after n.links n.generations t f
  rim_after_lem e =
      rw (is_same (is_eq (link n (3 * f + 2)) (3 * t + 2)) (is_true (go s)), append-nil (pair_after n (f + 1)))
      (ap told (after_rim (is_flipped n.generations f) f (link n (3 * f + 1))))
    where
      go : Slid (link m (3 * f + 2)) (link n (3 * f + 2)) → link n (3 * f + 2) ≡ 3 * t + 2
      go (inl p) = p ∙ e
      go (inr p) = absurd (p.0 (omega arith))
