-- A refine writes anew exactly the slots that are known before the work.
use mathlib.Core.Path.{◌≡◌, refl, sym, ap, ◌∙◌, subst}
use mathlib.Core.Logic.{◌≢◌, ◌⊎◌, inl, inr}
use Prim.Native.Nat.{ℕ, zero, suc, ◌+◌, ◌*◌, ◌/◌, ◌≤◌, ◌<◌}
use native.Mathlib.Omega.{arith}
use native.Mathlib.Decide.{ℕ_discrete}
use Rattle.theory.proofs.Calls.Carried.{RefineFound}
use Rattle.theory.proofs.Chains.Altering.{AltersFrom, at_end, meets_end, at_place, alters_from, from_end, at_place_lem}
use Rattle.theory.proofs.Chains.Chain.{Path, path_odd, path_meets, path_next, falls, shortens}
use Rattle.theory.proofs.Chains.RefineLoop.{split_ends, Leads, Ahead, End, ahead_end, ahead_splitting, ahead_on}
use Rattle.theory.proofs.Chains.RefineLoop.{path_of_two, path_after, ahead_stays, ahead_across, ahead}
use Rattle.theory.proofs.Chains.RefineLoop.{refine_is_split_ends}
use Rattle.theory.proofs.Chains.Remembered.{path_none, path_from, path_within}
use Rattle.theory.proofs.Chains.Runs.{not_splittable}
use Rattle.theory.proofs.Links.Manifold.{Partnered, Manifold, BasesMeetIn, partnered}
use Rattle.theory.proofs.Links.Sides.{next_lt}
use Rattle.theory.proofs.Splits.Bases.{reached}
use Rattle.theory.proofs.Splits.Cut.{CutResult}
use Rattle.theory.proofs.Splits.Settled.{nowhere, unchanged_not}
use Rattle.rules.specs.Calls.{splits_of}
use Rattle.rules.specs.Conditions.{Splittable, Alters, split_first, meets_first, in_chain, further}
use Rattle.rules.specs.Promises.{Written}
use Rattle.rules.specs.Split.{Work, at_first, chain_end, chain_at, split_at, refine}
use Rattle.rules.specs.Tables.{Topology, Mesh, sides, next, origin, target, boundary, link, generation}

-- ---- one split

-- A side that neither starts nor ends at corner i of its triangle lies across from it.
opposite : (h i : ℕ) → i / 3 ≡ h / 3 → i ≢ h → i ≢ next h → h ≡ next i
opposite h i e x y = omega arith

module _ {v g p r : ℕ} {m n : Topology} (S : CutResult v g p r m n) (F : Manifold m) (fit : Splittable m v) where
  -- A split of v writes anew what v alters, and this rises.
  split_alters : (x : ℕ) → x < m.triangles → generation n x ≢ generation m x → Alters m v x
  split_alters x l d = go (ℕ_discrete x v)
    where
      go : Dec (x ≡ v) → Alters m v x
      go (yes e) = split_first fit e
      go (no e) =
          let w = S.moved x l e d in
          let w₂ = w.2 in
          meets_first {x = x} fit (omega (arith, S.odd)) w.0 w.1

  split_raises : (x : ℕ) → x < m.triangles → Alters m v x → generation m x < generation n x
  split_raises x l (split_first _ e) = rw e S.own
  split_raises x l (meets_first _ o q e) =
      let d : x ≢ v = λ z. not_splittable (subst (Splittable m) (sym z) fit) o q in
      omega (arith, S.turns x l d o q e)
  split_raises x l (in_chain o q _) = not_splittable fit o q
  split_raises x l (further o q _) = not_splittable fit o q

  -- The side across from a triangle that is left runs between old vertices.
  between_old : (h : ℕ) → h < sides m → generation n (h / 3) ≡ generation m (h / 3) → link n h ≢ boundary
      → (origin n (link n h) < m.vertices) × (target n (link n h) < m.vertices)
  between_old h l e q =
      let w = S.triangles in
      let M : Partnered n h = partnered (S.manifold.linked h (omega arith)) q in
      let i = next_lt h m.triangles l in
      let a : next h / 3 ≡ h / 3 = omega arith in
      let c : origin n h ≡ origin m h = S.still.corners h l e in
      let d : target n h ≡ target m h = S.still.corners (next h) i (rw a e) in (
        omega (arith, M.from, F.corner (next h) i),
        omega (arith, M.onto, F.corner h l),
      )

  -- A side between old vertices lies across from the new corner.
  across_new : (h i : ℕ) → i / 3 ≡ h / 3 → m.vertices ≤ origin n i
      → (origin n h < m.vertices) × (target n h < m.vertices) → h ≡ next i
  across_new h i e o b =
      opposite h i e (λ q. omega (arith, b.0, ap (origin n) q)) (λ q. omega (arith, b.1, ap (origin n) q))

  -- Of the triangles that are left, one side at most meets a triangle that is written anew.
  only_one : (h k : ℕ) → h < sides m → k < sides m → generation n (h / 3) ≡ generation m (h / 3)
      → generation n (k / 3) ≡ generation m (k / 3) → link n h ≢ boundary → link n k ≢ boundary
      → link n h / 3 ≡ link n k / 3 → Written m n (link n k / 3) → h ≡ k
  only_one h k lh lk eh ek qh qk e w =
      let s = S.triangles in
      let H : Partnered n h = partnered (S.manifold.linked h (omega arith)) qh in
      let K : Partnered n k = partnered (S.manifold.linked k (omega arith)) qk in
      let (i, j, o) = S.new_corner (link n k / 3) (omega (arith, K.in_use)) w in
      let a = across_new (link n h) i (j ∙ sym e) o (between_old h lh eh qh) in
      let b = across_new (link n k) i j o (between_old k lk ek qk) in
      sym H.back ∙ ap (link n) (a ∙ sym b) ∙ K.back

  -- From two odd triangles before v on, the chain then meets a triangle that is written anew.
  meets_written : BasesMeetIn nowhere m → v < m.triangles → (y : ℕ) → y < m.triangles → Path m y v 2
      → (generation n y ≡ generation m y) × (link n (3 * y) ≢ boundary) × Written m n (link n (3 * y) / 3)
  meets_written K b y l P =
      let a = shortens v g p r m n F K b fit S l refl P in
      let u = (falls m F K y l (path_odd P) (path_meets P)).0 in
      let z : 3 * y / 3 ≡ y = omega arith in (
        a.0,
        path_meets a.1.2,
        go (shortens v g p r m n F K b fit S u refl (path_next P))
            (S.still.shift (3 * y) (omega arith) (rw z a.0)),
      )
    where
      go : generation n (link m (3 * y) / 3) ≡ suc (generation m (link m (3 * y) / 3))
          → (link n (3 * y) ≡ link m (3 * y)) ⊎ Written m n (link n (3 * y) / 3) → Written m n (link n (3 * y) / 3)
      go c (inr w) = w
      go c (inl e) =
          inr (λ q. omega (arith, subst (λ (h : ℕ). generation n (h / 3) ≡ generation m (h / 3)) e q))

-- ---- all splits

-- What the next split of the refinement of t makes.
abbrev pub after_next : ℕ → Work → Topology
after_next t w = reached (split_at (chain_end (reached w) t) w)

-- A triangle that is left is none that is written anew.
pub left_not : (m n : Topology) {x y : ℕ} → x < m.triangles → generation n x ≡ generation m x → Written m n y → x ≢ y
left_not m n l e (inl w) q = omega arith
left_not m n l e (inr w) q = unchanged_not m n w e q

next_alters : {k g t : ℕ} {w : Work} → Ahead (suc k) g t w → (x : ℕ) → x < (reached w).triangles
    → generation (after_next t w) x ≢ generation (reached w) x → Alters (reached w) t x
next_alters A x l d =
    from_end A.rising.1.path (split_alters (ahead_splitting A).result A.manifold (ahead_end A).fit x l d)

pub still_in_use : {k g t : ℕ} {w : Work} {x : ℕ} → Ahead (suc k) g t w → x < (reached w).triangles
    → x < (after_next t w).triangles
still_in_use A l = omega (arith, (ahead_splitting A).result.triangles)

module _ {k g t : ℕ} {w : Work} (A : Ahead (suc (suc k)) g t w) where
  -- The last place of the chain that the next split leaves then meets a triangle that is written anew.
  pub last_met :
      let m = reached w in
      let n = after_next t w in
      let y = chain_at k m t in
      (y < m.triangles) × (generation n y ≡ generation m y) × (link n (3 * y) ≢ boundary)
      × Written m n (link n (3 * y) / 3)
  last_met =
      let E = ahead_end A in
      let l = path_within k 2 A.manifold A.bases_meet A.in_use (omega arith) (path_of_two A) in
      let (e, q, o) =
      meets_written (ahead_splitting A).result A.manifold E.fit A.bases_meet E.in_use
      (chain_at k (reached w) t) l (path_from k 2 (omega arith) (path_of_two A)) in
      (l, e, q, o)

  -- Of the triangles that are left, no other side meets this one, which is split next.
  pub last_alone : (h : ℕ) → h < sides (reached w) → generation (after_next t w) (h / 3) ≡ generation (reached w) (h / 3)
      → link (after_next t w) h ≢ boundary → link (after_next t w) h / 3 ≡ chain_end (after_next t w) t
      → h ≡ 3 * chain_at k (reached w) t
  last_alone h l e q i =
      let (u, f, r, o) = last_met in
      let z : 3 * chain_at k (reached w) t / 3 ≡ chain_at k (reached w) t = omega arith in
      only_one (ahead_splitting A).result A.manifold (ahead_end A).fit h (3 * chain_at k (reached w) t) l
      (omega arith) e (rw z f) q r (i ∙ (ahead_across A).next) o

module _ {k g t : ℕ} {w : Work} (A : Ahead (suc (suc k)) g t w) (x : ℕ) (l : x < (reached w).triangles) where
  -- What the splits after the next alter, of the triangles that this leaves, are places of the chain.
  alters_before : generation (after_next t w) x ≡ generation (reached w) x → Alters (after_next t w) t x
      → Alters (reached w) t x
  alters_before left a = go (alters_from (path_after A).0 a)
    where
      m : Topology
      m = reached w

      n : Topology
      n = after_next t w

      go : AltersFrom n (chain_end n t) (suc k) t x → Alters m t x
      go (at_end e) = absurd (left_not m n l left (last_met A).3 (e ∙ (ahead_across A).next))
      go (meets_end o q e) =
          let z : 3 * x / 3 ≡ x = omega arith in
          let y : 3 * x ≡ 3 * chain_at k m t = last_alone A (3 * x) (omega arith) (rw z left) q e in
          at_place_lem k (omega arith) (path_of_two A) (omega arith)
      go (at_place i b e) = at_place_lem i (omega arith) (path_of_two A) (e ∙ ahead_stays (suc k) A i b)

  alters_on : {h : ℕ} → h ≢ generation (reached w) x
      → (h ≢ generation (after_next t w) x → Alters (after_next t w) t x) → Alters (reached w) t x
  alters_on d later = go (ℕ_discrete (generation (after_next t w) x) (generation (reached w) x))
    where
      go : Dec (generation (after_next t w) x ≡ generation (reached w) x) → Alters (reached w) t x
      go (no e) = next_alters A x l e
      go (yes e) = alters_before e (later (λ z. d (z ∙ e)))

ends_alter : {g t : ℕ} (k : ℕ) (w : Work) → Ahead (suc k) g t w → (x : ℕ) → x < (reached w).triangles
    → generation (reached (split_ends (suc k) t w)) x ≢ generation (reached w) x → Alters (reached w) t x
unfolding split_ends
ends_alter zero w A x l d = next_alters A x l d
ends_alter (suc k) w A x l d =
    alters_on A x l d (ends_alter k _ (ahead_on A) x (still_in_use A l))

-- No split lowers a generation.
pub ends_mono : {g t : ℕ} (k : ℕ) (w : Work) → Ahead k g t w → (x : ℕ) → x < (reached w).triangles
    → generation (reached w) x ≤ generation (reached (split_ends k t w)) x
unfolding split_ends
ends_mono zero w A x l = omega arith
ends_mono (suc k) w A x l =
    let a = (ahead_splitting A).result.still.mono x l in
    let b = ends_mono k _ (ahead_on A) x (still_in_use A l) in
    omega arith

-- What is altered rises with the next split, or is a place of the chain that this leaves.
rises_on : {k g t h : ℕ} {w : Work} (A : Ahead (suc k) g t w) (x : ℕ) → x < (reached w).triangles
    → generation (after_next t w) x ≤ h
    → ((i : ℕ) → i < k → x ≡ chain_at i (reached w) t → generation (after_next t w) x < h)
    → Alters (reached w) t x → generation (reached w) x < h
rises_on {k} {g} {t} {h} {w} A x l up later a = go (alters_from L.path a)
  where
    m : Topology
    m = reached w

    L : Leads (suc k) t m
    L = A.rising.1

    E : End g (chain_end m t) m
    E = ahead_end A

    raises : Alters m (chain_end m t) x → generation m x < h
    raises c = omega (arith, split_raises (ahead_splitting A).result A.manifold E.fit x l c)

    place : (i : ℕ) → i < L.steps → x ≡ chain_at i m t → Dec (L.steps ≡ i + 1) → generation m x < h
    place i b e (yes q) =
        let p = path_from i 1 q L.path in
        raises
        (meets_first {x = x} E.fit (rw e (path_odd p)) (rw e (path_meets p)) (rw e (sym (path_none (path_next p)))))
    place i b e (no q) =
        omega (arith, later i (omega (arith, L.splits)) e, (ahead_splitting A).result.still.mono x l)

    go : AltersFrom m (chain_end m t) L.steps t x → generation m x < h
    go (at_end e) = raises (split_first E.fit e)
    go (meets_end o q e) = raises (meets_first E.fit o q e)
    go (at_place i b e) = place i b e (ℕ_discrete L.steps (i + 1))

pub ends_rise : {g t : ℕ} (k : ℕ) (w : Work) → Ahead (suc k) g t w → (x : ℕ) → x < (reached w).triangles
    → Alters (reached w) t x → generation (reached w) x < generation (reached (split_ends (suc k) t w)) x
unfolding split_ends
ends_rise zero w A x l = rises_on A x l (omega arith) (λ i b e. absurd (omega arith))
ends_rise (suc k) w A x l =
    rises_on A x l (ends_mono (suc k) _ (ahead_on A) x (still_in_use A l))
    (λ i b e. ends_rise k _ (ahead_on A) x (still_in_use A l)
    (at_place_lem i b (path_after A).0 (e ∙ sym (ahead_stays (suc k) A i b))))

-- ---- refine

-- A refine that is carried out makes one split at least.
pub refine_splits : {t : ℕ} {m : Mesh} → RefineFound t m
    → (k : ℕ) × Ahead (suc k) (generation m.topology t) t (at_first m)
    × (refine t (at_first m) ≡ split_ends (suc k) t (at_first m))
refine_splits {t} {m} R = go (splits_of m.topology t) refl (ahead R) (refine_is_split_ends R)
  where
    go : (s : ℕ) → splits_of m.topology t ≡ s → Ahead s (generation m.topology t) t (at_first m)
        → refine t (at_first m) ≡ split_ends s t (at_first m)
        → (k : ℕ) × Ahead (suc k) (generation m.topology t) t (at_first m)
        × (refine t (at_first m) ≡ split_ends (suc k) t (at_first m))
    go zero e A q = absurd (omega arith)
    go (suc k) e A q = (k, A, q)

-- A refine writes no old slots anew but these.
pub refine_alters : {t : ℕ} {m : Mesh} → RefineFound t m → (x : ℕ) → x < m.topology.triangles
    → generation (reached (refine t (at_first m))) x ≢ generation m.topology x → Alters m.topology t x
refine_alters {m = m} R x l d =
    let (k, A, e) = refine_splits R in
    ends_alter k (at_first m) A x l (λ z. d (ap (λ (y : Work). generation (reached y) x) e ∙ z))

-- Each of them rises.
pub alters_rise : {t : ℕ} {m : Mesh} → RefineFound t m → (x : ℕ) → x < m.topology.triangles
    → Alters m.topology t x → generation m.topology x < generation (reached (refine t (at_first m))) x
alters_rise {m = m} R x l a =
    let (k, A, e) = refine_splits R in
    rw e (ends_rise k (at_first m) A x l a)
