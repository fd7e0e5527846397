-- What splits and flips report, and that what they do not report stands.
use mathlib.Core.Path.{◌≡◌, refl, sym, ap, ap₂, ◌∙◌, subst}
use mathlib.Core.Logic.{◌≢◌, ◌⊎◌, inl, inr}
use mathlib.Core.List.{List, [], ◌∷◌, ◌++◌, append-nil, append_assoc}
use Prim.Native.Nat.{ℕ, ◌+◌, ◌*◌, ◌/◌, ◌<◌}
use native.Mathlib.Decide.{ℕ_discrete}
use native.Mathlib.Omega.{arith}
use lib.ListN.{length, length-append}
use Rattle.theory.proofs.Splits.Bases.{reached, Settling, kept, flipped, Settles, flips_of, report_of}
use Rattle.theory.proofs.Splits.Cut.{Cut, Onto}
use Rattle.theory.proofs.Splits.FlipRead.{by_flip_name}
use Rattle.rules.specs.Promises.{Listed, Unreported, added}
use Rattle.rules.specs.Split.{Work, at_first, with_split}
use Rattle.rules.specs.Tables.{Topology, Mesh, sides, link}

-- ---- reports joined

listed_left : (l k : List ℕ) (x : ℕ) → Listed l x → Listed (l ++ k) x
listed_left [] k x e = absurd e
listed_left (y ∷ l) k x (inl e) = inl e
listed_left (y ∷ l) k x (inr e) = inr (listed_left l k x e)

listed_right : (l k : List ℕ) (x : ℕ) → Listed k x → Listed (l ++ k) x
listed_right [] k x e = e
listed_right (y ∷ l) k x e = inr (listed_right l k x e)

-- Every slot in use in n that is not in the report l was in use in m and stands.
abbrev pub Tells : List ℕ → Topology → Topology → Type 0
Tells l m n = (x : ℕ) → x < n.triangles → ¬ Listed l x → (x < m.triangles) × Unreported l m n x

tells_none : (m : Topology) → Tells [] m m
tells_none m x l f = (l, record { corners = λ i b. refl; generation = refl; links = λ i b. inl refl })

tells_on : {l l' : List ℕ} {m k n : Topology} → Tells l m k → Tells l' k n → Tells (l ++ l') m n
tells_on {l} {l'} {m} {k} {n} A B x b f =
    let (d, Y) = B x b (λ e. f (listed_right l l' _ e)) in
    let (e, X) = A x d (λ e. f (listed_left l l' _ e)) in (
      e,
      record {
        corners = λ i c. Y.corners i c ∙ X.corners i c;
        generation = Y.generation ∙ X.generation;
        links = λ i c. go i (X.links i c) (Y.links i c);
      },
    )
  where
    go : (i : ℕ) →
        let a = link m (3 * x + i) in
        let b = link k (3 * x + i) in
        let c = link n (3 * x + i) in
        (b ≡ a) ⊎ (Listed l (a / 3) × Listed l (b / 3))
        → (c ≡ b) ⊎ (Listed l' (b / 3) × Listed l' (c / 3))
        → (c ≡ a) ⊎ (Listed (l ++ l') (a / 3) × Listed (l ++ l') (c / 3))
    go i (inl p) (inl q) = inl (q ∙ p)
    go i (inl p) (inr (q, r)) =
        inr (listed_right l l' _ (subst (λ (h : ℕ). Listed l' (h / 3)) p q), listed_right l l' _ r)
    go i (inr (p, q)) (inl r) =
        inr (listed_left l l' _ p, listed_left l l' _ (subst (λ (h : ℕ). Listed l (h / 3)) (sym r) q))
    go i (inr (p, q)) (inr (r, s)) = inr (listed_left l l' _ p, listed_right l l' _ s)

-- ---- work

-- From w to x this much more is reported: three slots for each split and two for each flip.
pub record Telling (w x : Work) : Type 0 where
  pub more : List ℕ
  pub report : x.report ≡ w.report ++ more
  pub size : length more + (3 * w.splits + 2 * w.flips) ≡ 3 * x.splits + 2 * x.flips
  pub tells : Tells more (reached w) (reached x)

pub telling_none : (w : Work) → Telling w w
telling_none w = record {
  more = [];
  report = sym (append-nil w.report);
  size = omega arith;
  tells = tells_none (reached w);
}

pub telling_on : {w v x : Work} → Telling w v → Telling v x → Telling w x
telling_on {w} A B = record {
  more = A.more ++ B.more;
  report =
      B.report ∙ ap (λ (l : List ℕ). l ++ B.more) A.report ∙ append_assoc w.report A.more B.more;
  size = omega (arith, length-append A.more B.more, A.size, B.size);
  tells = tells_on A.tells B.tells;
}

-- Work that goes on from w as from the start.
pub telling_added : {v w x : Work} → Telling v w → Telling (at_first w.mesh) x → Telling v (added w x)
telling_added {v} A B = record {
  more = A.more ++ B.more;
  report =
      ap₂ (λ (l k : List ℕ). l ++ k) A.report B.report ∙ append_assoc v.report A.more B.more;
  size = omega (arith, length-append A.more B.more, A.size, B.size);
  tells = tells_on A.tells B.tells;
}

-- ---- flips and cuts

settling_tells : {c : ℕ} {m n : Topology} (S : Settling c m n) → Tells (report_of S) m n
settling_tells {m = m} (kept y) x l f = tells_none m x l f
settling_tells {c} {m} {n} (flipped u B S) x l f =
    let i : x ≢ c = λ e. f (inl e) in
    let j : x ≢ u = λ e. f (inr (inl e)) in
    let d : x < m.triangles = omega (arith, S.triangles) in (
      d,
      record {
        corners = λ k b. S.corners (3 * x + k) (λ e. i (omega arith)) (λ e. j (omega arith));
        generation = S.generations x i j;
        links = λ k b.
            let h = 3 * x + k in
            subst (λ (y : ℕ). (y ≡ link m h) ⊎ (Listed (c ∷ u ∷ []) (link m h / 3) × Listed (c ∷ u ∷ []) (y / 3)))
            (sym (S.links h (omega arith) (λ e. i (omega arith)) (λ e. j (omega arith))))
            (by_flip_name c u
            (λ y. (y ≡ link m h) ⊎ (Listed (c ∷ u ∷ []) (link m h / 3) × Listed (c ∷ u ∷ []) (y / 3)))
            B.differ (link m h)
            (λ e. inr (inl (omega arith), inr (inl (omega arith))))
            (λ e. inr (inr (inl (omega arith)), inl (omega arith)))
            (λ _ _. inl refl));
      },
    )

settling_size : {c : ℕ} {m n : Topology} (S : Settling c m n) → length (report_of S) ≡ 2 * flips_of S
settling_size (kept y) = refl
settling_size (flipped u B S) = refl

pub settles_telling : {c : ℕ} {w x : Work} → Settles c w x → Telling w x
settles_telling S = record {
  more = report_of S.settling;
  report = S.report;
  size = omega (arith, settling_size S.settling, S.splits, S.flips);
  tells = settling_tells S.settling;
}

-- A cut of v whose children are among its own slot and the new ones.
pub cut_telling : {v g p r : ℕ} {cs : List ℕ} (w : Work) (k : Mesh) → Cut v g cs p r (reached w) k.topology
    → ((h : ℕ) → Onto cs h →
    let f = (reached w).triangles in
    Listed (v ∷ f ∷ (f + 1) ∷ []) (h / 3))
    → Telling w (with_split v k w)
cut_telling {v} w k C into = record {
  more = v ∷ (reached w).triangles ∷ ((reached w).triangles + 1) ∷ [];
  report = refl;
  size = omega arith;
  tells = λ x l f.
      let i : x ≢ v = λ e. f (inl e) in
      let j : x ≢ (reached w).triangles = λ e. f (inr (inl e)) in
      let k : x ≢ (reached w).triangles + 1 = λ e. f (inr (inr (inl e))) in
      let l : x < (reached w).triangles = omega (arith, C.triangles) in (
        l,
        record {
          corners = λ j b. C.corners (3 * x + j) (omega arith) (λ e. i (omega arith));
          generation = C.generations x l i;
          links = λ j b.
              let h = 3 * x + j in
              go h (omega arith) (λ e. i (omega arith)) (ℕ_discrete (link (reached w) h / 3) v);
        },
      );
}
  where
    go : (h : ℕ) → h < sides (reached w) → h / 3 ≢ v → Dec (link (reached w) h / 3 ≡ v) →
        let f = (reached w).triangles in
        let a = link (reached w) h in
        let b = link k.topology h in
        (b ≡ a) ⊎ (Listed (v ∷ f ∷ (f + 1) ∷ []) (a / 3) × Listed (v ∷ f ∷ (f + 1) ∷ []) (b / 3))
    go h l i (no e) = inl (C.links h l i e)
    go h l i (yes e) = inr (inl e, into _ (C.into h l i e))
