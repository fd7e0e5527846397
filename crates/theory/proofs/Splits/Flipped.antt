-- What the flips that settle the children of a cut report: each child whose base meets a base, and the triangle
-- across, which no flip before it changes.
use mathlib.Core.Path.{◌≡◌, refl, sym, ap, ap₂, ◌∙◌, subst}
use mathlib.Core.Logic.{◌≢◌, ◌⊎◌, inl, inr}
use mathlib.Core.Bool.{Bool, true, false}
use mathlib.Core.List.{List, [], ◌∷◌, ◌++◌, append-nil, append_assoc}
use Prim.Native.Nat.{ℕ, ◌+◌, ◌*◌, ◌/◌, ◌%◌, ◌≤◌, ◌<◌}
use native.Mathlib.Decide.{ℕ_discrete}
use native.Mathlib.Omega.{arith}
use lib.ListN.{length, length-append}
use Rattle.theory.proofs.Links.Manifold.{Manifold, Base, Joined, Partnered, partnered, partnered_with, no_self}
use Rattle.theory.proofs.Numbers.Decide.{Decides, is_iff, is_same, is_true, is_false, when_true}
use Rattle.theory.proofs.Splits.Bases.{reached, base_is, Child, Settling, kept, flipped, report_of}
use Rattle.theory.proofs.Splits.Bases.{settling_manifold, settle_settles, not_child, partnered_base}
use Rattle.theory.proofs.Splits.Bases.{boundary_not_base}
use Rattle.theory.proofs.Splits.Cut.{Cut, Onto}
use Rattle.theory.proofs.Splits.FlipKeeps.{BasesMeet}
use Rattle.theory.proofs.Splits.FlipRead.{Flips, by_flip_name}
use Rattle.theory.proofs.Splits.Reported.{Telling}
use Rattle.theory.proofs.Splits.Settled.{Among, Children, Distinct, Without, children_on}
use Rattle.rules.specs.Split.{Work, settle, settle_all}
use Rattle.rules.specs.Tables.{Topology, sides, origin, link, generation, is_base}

-- What settling these reports: each whose base meets a base, and the triangle across.
abbrev pub pair_if : Bool → ℕ → ℕ → List ℕ
pair_if true c h = c ∷ (h / 3) ∷ []
pair_if false c h = []

-- The child c whose base lies where side h of m lay.
abbrev pub pair_at : Topology → ℕ → ℕ → List ℕ
pair_at m c h = pair_if (is_base m (link m h)) c (link m h)

abbrev pub pair_of : Topology → ℕ → List ℕ
pair_of m c = pair_at m c (3 * c)

abbrev pub pairs_of : Topology → List ℕ → List ℕ
pairs_of m [] = []
pairs_of m (c ∷ cs) = pair_of m c ++ pairs_of m cs

same_pair : {P : Type 0} (b : Bool) → Decides b P → (c h k : ℕ) → (P → h ≡ k) → pair_if b c h ≡ pair_if b c k
same_pair true e c h k f = let q : h / 3 ≡ k / 3 = ap (λ (x : ℕ). x / 3) (f (when_true e refl)) in rw q refl
same_pair false e c h k f = refl

module _ (p g c d : ℕ) (m n : Topology) (F : Manifold m) (C : Child p g c m) (D : Child p g d m) (ne : d ≢ c) where
  -- After the flip of c and u the base of another child d meets a base just where it did.
  meets_still : (u : ℕ) → BasesMeet c u m → Flips c u m n → is_base n (link n (3 * d)) ≡ is_base m (link m (3 * d))
  meets_still u B S =
      let e = S.links (3 * d) (omega (arith, D.in_use)) (λ q. ne (omega arith)) (λ q. other (omega arith)) in
      ap (is_base n) e
      ∙ by_flip_name c u (λ y. is_base n y ≡ is_base m (link m (3 * d))) B.differ (link m (3 * d))
      (λ q. none_then_none (3 * u) (even_not u (omega (arith, S.generation_u, B.odd))) (λ b. omega (arith, b.0)))
      (λ q. none_then_none (3 * c) (even_not c (omega (arith, S.generation_s, B.odd))) (λ b. omega (arith, b.0)))
      (λ i j. elsewhere (ℕ_discrete (link m (3 * d) / 3) c) (ℕ_discrete (link m (3 * d) / 3) u) i j)
    where
      other : d ≢ u
      other = not_child p g c u d m B C D

      even_not : (x : ℕ) → generation n x % 2 ≡ 0 → ¬ Base n (3 * x)
      even_not x z b = let y : 3 * x / 3 ≡ x = omega arith in omega (arith, subst (λ (i : ℕ). generation n i % 2 ≡ 1) y b.1)

      none_then_none : (y : ℕ) → ¬ Base n y → ¬ Base m (link m (3 * d)) → is_base n y ≡ is_base m (link m (3 * d))
      none_then_none y f h = is_same (base_is n y) (is_iff (λ b. absurd (h b)) (λ b. absurd (f b)) (base_is m (link m (3 * d))))

      -- The base of c is met by that of u alone, and that of u by that of c.
      not_c : link m (3 * d) / 3 ≡ c → ¬ Base m (link m (3 * d))
      not_c q b = omega (arith, D.other b, C.fresh, ap (λ (x : ℕ). origin m (3 * x + 2)) q)

      not_u : link m (3 * d) / 3 ≡ u → ¬ Base m (link m (3 * d))
      not_u q b =
          let e : link m (3 * d) ≡ 3 * u = omega (arith, b.0) in
          let M : Partnered m (3 * d) = partnered_with F (omega (arith, D.in_use)) e (omega (arith, B.use_u)) in
          let N : Partnered m (3 * c) = partnered_with F (omega (arith, C.in_use)) B.meet (omega (arith, B.use_u)) in
          ne (omega (arith, M.back, N.back, ap (link m) (e ∙ sym B.meet)))

      same_there : (x : ℕ) → generation n x ≡ generation m x → link m (3 * d) / 3 ≡ x
          → is_base n (link m (3 * d)) ≡ is_base m (link m (3 * d))
      same_there x z q =
          let y : generation n (link m (3 * d) / 3) ≡ generation m (link m (3 * d) / 3) =
          subst (λ (i : ℕ). generation n i ≡ generation m i) (sym q) z in
          rw y refl

      lost : (x : ℕ) → link m (3 * d) / 3 ≡ x → generation n x % 2 ≡ 0 → ¬ Base m (link m (3 * d))
          → is_base n (link m (3 * d)) ≡ is_base m (link m (3 * d))
      lost x q z f =
          none_then_none (link m (3 * d))
          (λ b. omega (arith, subst (λ (i : ℕ). generation n i % 2 ≡ 1) q b.1)) f

      elsewhere : Dec (link m (3 * d) / 3 ≡ c) → Dec (link m (3 * d) / 3 ≡ u) → link m (3 * d) ≢ 3 * c + 1
          → link m (3 * d) ≢ 3 * u + 1 → is_base n (link m (3 * d)) ≡ is_base m (link m (3 * d))
      elsewhere (yes q) _ i j = lost c q (omega (arith, S.generation_s, B.odd)) (not_c q)
      elsewhere (no _) (yes q) i j = lost u q (omega (arith, S.generation_u, B.odd)) (not_u q)
      elsewhere (no x) (no y) i j = same_there (link m (3 * d) / 3) (S.generations _ x y) refl

  still_met : Settling c m n → is_base n (link n (3 * d)) ≡ is_base m (link m (3 * d))
  still_met = go refl
    where
      go : {k : Topology} → k ≡ n → Settling c m k → is_base n (link n (3 * d)) ≡ is_base m (link m (3 * d))
      go e (kept y) = subst (λ (j : Topology). is_base j (link j (3 * d)) ≡ is_base m (link m (3 * d))) e refl
      go e (flipped u B S) = meets_still u B (subst (Flips c u m) e S)

  link_still : (u : ℕ) → BasesMeet c u m → Flips c u m n → Base m (link m (3 * d)) → link n (3 * d) ≡ link m (3 * d)
  link_still u B S b =
      S.links (3 * d) (omega (arith, D.in_use)) (λ q. ne (omega arith)) (λ q. not_child p g c u d m B C D (omega arith))
      ∙ by_flip_name c u (λ y. y ≡ link m (3 * d)) B.differ (link m (3 * d)) (λ q. absurd (omega (arith, b.0)))
      (λ q. absurd (omega (arith, b.0))) (λ i j. refl)

  same_link : Settling c m n → Base m (link m (3 * d)) → link n (3 * d) ≡ link m (3 * d)
  same_link = go refl
    where
      go : {k : Topology} → k ≡ n → Settling c m k → Base m (link m (3 * d)) → link n (3 * d) ≡ link m (3 * d)
      go e (kept y) b = subst (λ (j : Topology). link j (3 * d) ≡ link m (3 * d)) e refl
      go e (flipped u B S) b = link_still u B (subst (Flips c u m) e S) b

  pair_still : Settling c m n → pair_of n d ≡ pair_of m d
  pair_still S =
      ap (λ (b : Bool). pair_if b d (link n (3 * d))) (still_met S)
      ∙ same_pair (is_base m (link m (3 * d))) (base_is m (link m (3 * d))) d (link n (3 * d)) (link m (3 * d)) (same_link S)

pairs_still : (p g c : ℕ) (m n : Topology) (cs : List ℕ) → Manifold m → Settling c m n → Child p g c m
    → Children p g m cs → Without c cs → pairs_of n cs ≡ pairs_of m cs
pairs_still p g c m n [] F o C K D = refl
pairs_still p g c m n (d ∷ cs) F o C K D =
    ap₂ (λ (x y : List ℕ). x ++ y) (pair_still p g c d m n F C K.0 D.0 o)
    (pairs_still p g c m n cs F o C K.1 D.1)

-- The base of a child that is flipped meets a base.
base_met : {c u : ℕ} {m : Topology} → BasesMeet c u m → Base m (link m (3 * c))
base_met {c} {u} {m} B =
    let z : 3 * u / 3 ≡ u = omega arith in
    subst (Base m) (sym B.meet)
    (omega arith, subst (λ (i : ℕ). generation m i % 2 ≡ 1) (sym z) (ap (λ (g : ℕ). g % 2) B.same ∙ B.odd))

told_pair : {c : ℕ} {m n : Topology} (S : Settling c m n) → report_of S ≡ pair_of m c
told_pair {c} {m} (kept y) =
    sym (ap (λ (b : Bool). pair_if b c (link m (3 * c))) (is_same (base_is m (link m (3 * c))) (is_false y)))
told_pair {c} {m} (flipped u B S) =
    let x : is_base m (link m (3 * c)) ≡ true = is_same (base_is m (link m (3 * c))) (is_true (base_met B)) in
    let e : link m (3 * c) / 3 ≡ u = omega (arith, B.meet) in
    sym (ap (λ (b : Bool). pair_if b c (link m (3 * c))) x ∙ ap (λ (y : ℕ). c ∷ y ∷ []) e)

pub report_is : (p g : ℕ) (cs : List ℕ) (w : Work) → Manifold (reached w) → Children p g (reached w) cs → Distinct cs
    → (settle_all cs w).report ≡ w.report ++ pairs_of (reached w) cs
report_is p g [] w F K D = sym (append-nil w.report)
report_is p g (c ∷ cs) w F K D =
    let S = settle_settles p g c w F K.0 in
    let m : Topology = reached w in
    let n : Topology = reached (settle c w) in
    report_is p g cs (settle c w) (settling_manifold c m n F S.settling)
    (children_on p g c m n cs S.settling K.0 K.1 D.0) D.1
    ∙ ap₂ (λ (x y : List ℕ). x ++ y) (S.report ∙ ap (λ (x : List ℕ). w.report ++ x) (told_pair S.settling))
    (pairs_still p g c m n cs F S.settling K.0 K.1 D.0)
    ∙ append_assoc w.report (pair_of m c) (pairs_of m cs)

-- Where base c of n is side h of v, what it meets is a base just where it was in m.
pub pair_of_side : (v c h : ℕ) (m n : Topology) → Manifold m → Manifold n
    → ((x : ℕ) → x < m.triangles → x ≢ v → generation n x ≡ generation m x) → h < sides m → h / 3 ≡ v
    → link n (3 * c) ≡ link m h → pair_of n c ≡ pair_at m c h
pair_of_side v c h m n F N same l i e =
    ap (λ (y : ℕ). pair_if (is_base n y) c y) e ∙ ap (λ (b : Bool). pair_if b c (link m h)) (go (F.linked h l))
  where
    go : Joined m h → is_base n (link m h) ≡ is_base m (link m h)
    go (inl q) =
        is_same (base_is n (link m h)) (is_iff (λ b. absurd (boundary_not_base m F (subst (Base m) q b)))
        (λ b. absurd (boundary_not_base n N (subst (Base n) q b))) (base_is m (link m h)))
    go (inr M) =
        let y : generation n (link m h / 3) ≡ generation m (link m h / 3) =
        same (link m h / 3) (omega (arith, M.in_use)) (λ q. no_self m h F l M (q ∙ sym i)) in
        rw y refl

-- ---- at most one

-- Side h is the base of a triangle other than v, and lies across from a side of v.
abbrev pub BaseAt : ℕ → Topology → ℕ → Type 0
BaseAt v m h = (h < sides m) × (h / 3 ≢ v) × Base m h × (link m h / 3 ≡ v)

child_at : (p g : ℕ) (m : Topology) (cs : List ℕ) → Children p g m cs → (x : ℕ) → Among cs x → Child p g x m
child_at p g m [] K x e = absurd e
child_at p g m (c ∷ cs) K x (inl e) = subst (λ (y : ℕ). Child p g y m) (sym e) K.0
child_at p g m (c ∷ cs) K x (inr e) = child_at p g m cs K.1 x e

module _ {v g p r : ℕ} {cs : List ℕ} {m n : Topology} (F : Manifold m) (C : Cut v g cs p r m n) where
  -- The base that meets that of a child is of an old triangle, and met v.
  met_old : (c : ℕ) → Child m.vertices g c n → Base n (link n (3 * c)) → BaseAt v m (link n (3 * c))
  met_old c K b = go (C.bases h M.in_use b)
    where
      h : ℕ
      h = link n (3 * c)

      M : Partnered n (3 * c)
      M = partnered_base C.manifold (omega (arith, K.in_use)) b

      meets : h < sides m → h / 3 ≢ v → Dec (link m h / 3 ≡ v) → link m h / 3 ≡ v
      meets l i (yes e) = e
      meets l i (no e) =
          let q : link m h ≡ 3 * c = sym (C.links h l i e) ∙ M.back in
          let N : Partnered m h =
          partnered (F.linked h l) (λ z. omega (arith, K.in_use, C.manifold.slots, C.manifold.generation_room)) in
          let a : 3 * c + 2 < sides m = omega (arith, N.in_use) in
          let j : (3 * c + 2) / 3 ≢ v = λ z. e (omega arith) in
          absurd (omega (arith, C.corners (3 * c + 2) a j, F.corner (3 * c + 2) a, K.fresh))

      go : ((h < sides m) × (h / 3 ≢ v)) ⊎ Among cs (h / 3) → BaseAt v m h
      go (inr a) = absurd (omega (arith, (child_at m.vertices g n cs C.children (h / 3) a).fresh, K.other b))
      go (inl (l, i)) = (
        l,
        i,
        (b.0, sym (ap (λ (a : ℕ). a % 2) (C.generations (h / 3) (omega arith) i)) ∙ b.1),
        meets l i (ℕ_discrete (link m h / 3) v),
      )

  module _ (alone : (h k : ℕ) → BaseAt v m h → BaseAt v m k → h ≡ k) where
    met_alone : (c d : ℕ) → Child m.vertices g c n → Child m.vertices g d n → Base n (link n (3 * c))
        → Base n (link n (3 * d)) → c ≡ d
    met_alone c d K L b e =
        let M : Partnered n (3 * c) = partnered_base C.manifold (omega (arith, K.in_use)) b in
        let N : Partnered n (3 * d) = partnered_base C.manifold (omega (arith, L.in_use)) e in
        let q = alone _ _ (met_old c K b) (met_old d L e) in
        omega (arith, M.back, N.back, ap (link n) q)

    no_other : (c : ℕ) (ds : List ℕ) → Child m.vertices g c n → Base n (link n (3 * c))
        → Children m.vertices g n ds → Without c ds → pairs_of n ds ≡ []
    no_other c [] K b L D = refl
    no_other c (d ∷ ds) K b L D =
        let x : is_base n (link n (3 * d)) ≡ false =
        is_same (base_is n (link n (3 * d))) (is_false (λ e. D.0 (met_alone d c L.0 K e b))) in
        ap (λ (b : Bool). pair_if b d (link n (3 * d)) ++ pairs_of n ds) x ∙ no_other c ds K b L.1 D.1

    met_once : (ds : List ℕ) → Children m.vertices g n ds → Distinct ds → length (pairs_of n ds) ≤ 2
    met_once [] K D = omega arith
    met_once (c ∷ ds) K D = go (met_once ds K.1 D.1) (is_base n (link n (3 * c))) (base_is n (link n (3 * c)))
      where
        go : length (pairs_of n ds) ≤ 2 → (b : Bool) → Decides b (Base n (link n (3 * c)))
            → length (pair_if b c (link n (3 * c)) ++ pairs_of n ds) ≤ 2
        go i true e = omega (arith, ap length (no_other c ds K.0 (when_true e refl) K.1 D.0))
        go i false e = i

  -- A base that meets v meets the base of a child then.
  met_some : (h : ℕ) → BaseAt v m h → 2 ≤ length (pairs_of n cs)
  met_some h (l, i, b, e) = go cs (C.into h l i e)
    where
      base : Base n h
      base = (b.0, ap (λ (a : ℕ). a % 2) (C.generations (h / 3) (omega arith) i) ∙ b.1)

      in_use : (ds : List ℕ) → Children m.vertices g n ds → Onto ds (link n h) → link n h < sides n
      in_use [] K o = absurd o
      in_use (c ∷ ds) K (inl q) = omega (arith, K.0.in_use)
      in_use (c ∷ ds) K (inr o) = in_use ds K.1 o

      back : link n (link n h) ≡ h
      back =
          let u = in_use cs C.children (C.into h l i e) in
          (partnered_with C.manifold (omega (arith, C.triangles)) refl u).back

      go : (ds : List ℕ) → Onto ds (link n h) → 2 ≤ length (pairs_of n ds)
      go [] o = absurd o
      go (c ∷ ds) (inl q) =
          let z : link n (3 * c) ≡ h = ap (link n) (sym q) ∙ back in
          let x : is_base n (link n (3 * c)) ≡ true =
          is_same (base_is n (link n (3 * c))) (is_true (subst (Base n) (sym z) base)) in
          omega (arith, ap (λ (d : Bool). length (pair_if d c (link n (3 * c)) ++ pairs_of n ds)) x)
      go (c ∷ ds) (inr o) = omega (arith, length-append (pair_of n c) (pairs_of n ds), go ds o)

-- Twice the flips that settle the children.
flips_are : {v g p r : ℕ} {cs : List ℕ} {m : Topology} (w : Work) → Cut v g cs p r m (reached w)
    → Telling w (settle_all cs w) → (settle_all cs w).splits ≡ w.splits
    → 2 * (settle_all cs w).flips ≡ 2 * w.flips + length (pairs_of (reached w) cs)
flips_are {g = g} {cs = cs} {m = m} w C T e =
    let R = report_is m.vertices g cs w C.manifold C.children C.distinct in
    omega (
      arith,
      ap length (sym T.report ∙ R),
      length-append w.report T.more,
      length-append w.report (pairs_of (reached w) cs),
      T.size,
    )

-- Where a base meets v, the split of v flips.
pub flips_some : {v g p r : ℕ} {cs : List ℕ} {m : Topology} (w : Work) → Manifold m → Cut v g cs p r m (reached w)
    → Telling w (settle_all cs w) → (settle_all cs w).splits ≡ w.splits
    → (h : ℕ) → BaseAt v m h → w.flips + 1 ≤ (settle_all cs w).flips
flips_some w F C T e h a = omega (arith, flips_are w C T e, met_some F C h a)

-- Where one base alone meets v, the split of v flips at most once.
pub flips_once : {v g p r : ℕ} {cs : List ℕ} {m : Topology} (w : Work) → Manifold m → Cut v g cs p r m (reached w)
    → Telling w (settle_all cs w) → (settle_all cs w).splits ≡ w.splits
    → ((h k : ℕ) → BaseAt v m h → BaseAt v m k → h ≡ k) → (settle_all cs w).flips ≤ w.flips + 1
flips_once {cs = cs} w F C T e alone =
    omega (arith, flips_are w C T e, met_once F C alone cs C.children C.distinct)
