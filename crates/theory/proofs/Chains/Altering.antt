-- Which triangles a refine splits or flips, found before the work, and whether one of them is locked.
use mathlib.Core.Path.{◌≡◌, refl, sym, ap, ◌∙◌, subst}
use mathlib.Core.Bool.{◌&&◌}
use mathlib.Core.Logic.{◌≢◌, ◌⊎◌, inl, inr}
use Prim.Native.Nat.{ℕ, zero, suc, ◌+◌, ◌-◌, ◌*◌, ◌/◌, ◌%◌, ◌<◌}
use native.Mathlib.Decide.{dec_lt}
use native.Mathlib.Omega.{arith}
use Rattle.theory.proofs.Chains.Chain.{Path, ends, across, path_fit, path_use}
use Rattle.theory.proofs.Chains.Refine.{chain_path}
use Rattle.theory.proofs.Chains.Remembered.{path_last, path_within}
use Rattle.theory.proofs.Chains.Runs.{not_splittable}
use Rattle.theory.proofs.Links.Manifold.{Partnered, Base, partnered}
use Rattle.theory.proofs.Numbers.Decide.{Decides, is_eq, is_and, is_or, is_any, is_iff}
use Rattle.theory.proofs.Soundness.Relaxed.{sound_manifold, sound_bases}
use Rattle.theory.proofs.Splits.Bases.{base_is, partnered_base}
use Rattle.rules.specs.Calls.{alters_locked}
use Rattle.rules.specs.Conditions.{Splittable, is_even, on_boundary, Alters, split_first, meets_first, in_chain}
use Rattle.rules.specs.Conditions.{further, AltersLocked}
use Rattle.rules.specs.Sound.{Sound}
use Rattle.rules.specs.Split.{chain_end, chain_odd, chain_at}
use Rattle.rules.specs.Tables.{Topology, Mesh, boundary, link, generation, is_base, lock, locked}

-- ---- the places of the chain

-- What refining t alters, where its base chain leads over k odd triangles to v.
pub data AltersFrom (m : Topology) (v k t x : ℕ) : Type 0 where
  at_end : x ≡ v → AltersFrom m v k t x
  meets_end : generation m x % 2 ≡ 1 → link m (3 * x) ≢ boundary → link m (3 * x) / 3 ≡ v → AltersFrom m v k t x
  at_place : (i : ℕ) → i < k → x ≡ chain_at i m t → AltersFrom m v k t x

-- The places after the first are those from the next triangle on.
place_on : (i : ℕ) (m : Topology) (t : ℕ) → chain_at (suc i) m t ≡ chain_at i m (link m (3 * t) / 3)
unfolding chain_at
place_on zero m t = refl
place_on (suc i) m t = ap (λ (y : ℕ). link m (3 * y) / 3) (place_on i m t)

module _ {m : Topology} where
  place_here : {v k t x : ℕ} → x ≡ t → AltersFrom m v (suc k) t x
  unfolding chain_at
  place_here e = at_place 0 (omega arith) e

  place_further : {v k t x : ℕ} → AltersFrom m v k (link m (3 * t) / 3) x → AltersFrom m v (suc k) t x
  place_further (at_end e) = at_end e
  place_further (meets_end o r e) = meets_end o r e
  place_further {t = t} (at_place i l e) = at_place (suc i) (omega arith) (e ∙ sym (place_on i m t))

  pub alters_from : {t v k x : ℕ} → Path m t v k → Alters m t x → AltersFrom m v k t x
  alters_from (ends f) (split_first _ e) = at_end e
  alters_from (ends f) (meets_first _ o r e) = meets_end o r e
  alters_from (ends f) (in_chain o r _) = not_splittable f o r
  alters_from (ends f) (further o r _) = not_splittable f o r
  alters_from (across o r p) (split_first f _) = not_splittable f o r
  alters_from (across o r p) (meets_first f _ _ _) = not_splittable f o r
  alters_from (across o r p) (in_chain _ _ e) = place_here e
  alters_from (across o r p) (further _ _ a) = place_further (alters_from p a)

  -- What the end of a chain alters, the chain does.
  pub from_end : {t v k x : ℕ} → Path m t v k → Alters m v x → Alters m t x
  from_end (ends f) a = a
  from_end (across o r p) a = further o r (from_end p a)

  -- Each odd triangle before the end is altered.
  pub at_place_lem : {t v k x : ℕ} (i : ℕ) → i < k → Path m t v k → x ≡ chain_at i m t → Alters m t x
  unfolding chain_at
  at_place_lem i l (ends f) e = absurd (omega arith)
  at_place_lem zero l (across o r p) e = in_chain o r e
  at_place_lem (suc i) l (across {t = t} o r p) e = further o r (at_place_lem i (omega arith) p (e ∙ place_on i m t))

-- ---- where they are found

-- Slot x is that of an odd triangle of the base chain of t, of its end, or of a triangle beside its end.
pub data AlteredAt (m : Topology) (t x : ℕ) : Type 0 where
  on_chain : (i : ℕ) → i < chain_odd m t → x ≡ chain_at i m t → AlteredAt m t x
  is_end : x ≡ chain_end m t → AlteredAt m t x
  beside_end : (i : ℕ) → i < 3 → x ≡ link m (3 * chain_end m t + i) / 3 → AlteredAt m t x

-- A triangle whose base meets v lies beside v.
pub beside : {m : Topology} {v : ℕ} (x : ℕ) → Partnered m (3 * x) → link m (3 * x) / 3 ≡ v
    → link m (3 * v + link m (3 * x) % 3) ≡ 3 * x
beside {m} {v} x M e =
    let h : 3 * v + link m (3 * x) % 3 ≡ link m (3 * x) = omega arith in
    ap (link m) h ∙ M.back

pub alters_known : {m : Mesh} {t x : ℕ} → Sound m → t < m.topology.triangles → x < m.topology.triangles
    → Alters m.topology t x → AlteredAt m.topology t x
alters_known {m} {t} {x} S b l a = go (alters_from (chain_path t m S b) a)
  where
    go : AltersFrom m.topology (chain_end m.topology t)
        (chain_odd m.topology t - generation m.topology (chain_end m.topology t) % 2) t x
        → AlteredAt m.topology t x
    go (at_end e) = is_end e
    go (meets_end o q e) =
        let y = beside x (partnered ((sound_manifold S).linked (3 * x) (omega arith)) q) e in
        beside_end (link m.topology (3 * x) % 3) (omega arith) (omega arith)
    go (at_place i j e) = on_chain i (omega arith) e

-- What is found there is altered, beside the end where a base meets this.
module _ (t : ℕ) (m : Mesh) (S : Sound m) (b : t < m.topology.triangles) where
  way : Path m.topology t (chain_end m.topology t)
      (chain_odd m.topology t - generation m.topology (chain_end m.topology t) % 2)
  way = chain_path t m S b

  pub end_altered :
      let v = chain_end m.topology t in
      (v < m.topology.triangles) × Alters m.topology t v
  end_altered =
      (path_use (sound_manifold S) (sound_bases S) b way, from_end way (split_first (path_fit way) refl))

  pub place_altered : (i : ℕ) → i < chain_odd m.topology t →
      let x = chain_at i m.topology t in
      (x < m.topology.triangles) × Alters m.topology t x
  place_altered i l = go (dec_lt i k)
    where
      k : ℕ
      k = chain_odd m.topology t - generation m.topology (chain_end m.topology t) % 2

      go : Dec (i < k) → (chain_at i m.topology t < m.topology.triangles)
          × Alters m.topology t (chain_at i m.topology t)
      go (yes q) = (
        path_within i (k - i) (sound_manifold S) (sound_bases S) b (omega arith) way,
        at_place_lem i q way refl,
      )
      go (no q) =
          let z : i ≡ k = omega arith in
          let y : chain_end m.topology t ≡ chain_at i m.topology t =
          path_last way ∙ ap (λ (j : ℕ). chain_at j m.topology t) (sym z) in
          subst (λ (x : ℕ). (x < m.topology.triangles) × Alters m.topology t x) y end_altered

  pub met_altered : (i : ℕ) → i < 3 → Base m.topology (link m.topology (3 * chain_end m.topology t + i)) →
      let x = link m.topology (3 * chain_end m.topology t + i) / 3 in
      (x < m.topology.triangles) × Alters m.topology t x
  met_altered i l o =
      let F = sound_manifold S in
      let v : ℕ = chain_end m.topology t in
      let u = end_altered.0 in
      let h : ℕ = link m.topology (3 * v + i) in
      let M : Partnered m.topology (3 * v + i) = partnered_base F (omega arith) o in
      let c : 3 * (h / 3) ≡ h = omega (arith, o.0) in
      let q : link m.topology (3 * (h / 3)) ≡ 3 * v + i = ap (link m.topology) c ∙ M.back in (
        omega (arith, M.in_use),
        from_end way (meets_first {x = h / 3} (path_fit way) o.1 (λ z. omega (arith, F.slots, F.generation_room))
            (omega arith)),
      )

-- ---- in a mesh that has the same triangles in use

-- With f triangles in use, whose links stay among them, m and n have the same generations and links.
pub record SameWays (f : ℕ) (m n : Topology) : Type 0 where
  pub generations : (t : ℕ) → t < f → generation n t ≡ generation m t
  pub links : (h : ℕ) → h < 3 * f → link n h ≡ link m h
  pub in_use : (h : ℕ) → h < 3 * f → link m h ≢ boundary → link m h < 3 * f

pub ways_back : {f : ℕ} {m n : Topology} → SameWays f m n → SameWays f n m
ways_back W = record {
  generations = λ t l. sym (W.generations t l);
  links = λ h l. sym (W.links h l);
  in_use = λ h l. rw (W.links h l) (W.in_use h l);
}

module _ {f : ℕ} {m n : Topology} (W : SameWays f m n) where
  parity : {t k : ℕ} → t < f → generation m t % 2 ≡ k → generation n t % 2 ≡ k
  parity l e = rw (W.generations _ l) e

  splittable_in : {t : ℕ} → t < f → Splittable m t → Splittable n t
  splittable_in l (is_even e) = is_even (parity l e)
  splittable_in {t} l (on_boundary o q) = on_boundary (parity l o) (W.links (3 * t) (omega arith) ∙ q)

  pub alters_in : {t x : ℕ} → t < f → x < f → Alters m t x → Alters n t x
  alters_in l u (split_first s e) = split_first (splittable_in l s) e
  alters_in {x = x} l u (meets_first s o q e) =
      meets_first (splittable_in l s) (parity u o) (rw (W.links (3 * x) (omega arith)) q)
      (rw (W.links (3 * x) (omega arith)) e)
  alters_in {t} l u (in_chain o q e) = in_chain (parity l o) (rw (W.links (3 * t) (omega arith)) q) e
  alters_in {t} {x} l u (further o q A) =
      let e = W.links (3 * t) (omega arith) in
      let b = W.in_use (3 * t) (omega arith) q in
      further (parity l o) (rw e q)
      (subst (λ (h : ℕ). Alters n (h / 3) x) (sym e) (alters_in (omega arith) u A))

-- ---- where one of them is locked

module _ (t : ℕ) (m : Mesh) (S : Sound m) (b : t < m.topology.triangles) where
  tri : Topology
  tri = m.topology

  e : ℕ
  e = chain_end tri t

  k : ℕ
  k = chain_odd tri t - generation tri e % 2

  -- The triangles that the test looks at.
  Looked : Type 0
  Looked =
      (((i : ℕ) × (i < chain_odd tri t) × (lock m (chain_at i tri t) ≡ 1)) ⊎ (lock m e ≡ 1))
      ⊎ ((i : ℕ) × (i < 3) × (Base tri (link tri (3 * e + i)) × (lock m (link tri (3 * e + i) / 3) ≡ 1)))

  altered_there : Looked → AltersLocked t m
  unfolding Looked tri e
  altered_there (inl (inl (i, l, d))) =
      let (u, a) = place_altered t m S b i l in
      (chain_at i tri t, (u, d), a)
  altered_there (inl (inr d)) = let (u, a) = end_altered t m S b in (e, (u, d), a)
  altered_there (inr (i, l, (o, d))) =
      let (u, a) = met_altered t m S b i l o in
      (link tri (3 * e + i) / 3, (u, d), a)

  looked_at : AltersLocked t m → Looked
  unfolding Looked tri e k
  looked_at (x, (l, d), a) = go (alters_from (chain_path t m S b) a)
    where
      go : AltersFrom tri e k t x → Looked
      go (at_end q) = inl (inr (ap (lock m) (sym q) ∙ d))
      go (at_place i j q) = inl (inl (i, omega arith, ap (lock m) (sym q) ∙ d))
      go (meets_end o r q) =
          let M : Partnered tri (3 * x) = partnered ((sound_manifold S).linked (3 * x) (omega arith)) r in
          let i : ℕ = link tri (3 * x) % 3 in
          let y : link tri (3 * e + i) ≡ 3 * x = beside x M q in
          let z : link tri (3 * e + i) / 3 ≡ x = omega arith in
          inr (i, omega arith, ((omega arith, ap (λ (j : ℕ). generation tri j % 2) z ∙ o), ap (lock m) z ∙ d))

  pub alters_locked_is : Decides (alters_locked t m) (AltersLocked t m)
  unfolding alters_locked Looked tri e
  alters_locked_is =
      is_iff altered_there looked_at
      (is_or (is_or
      (is_any (chain_odd tri t) (λ i. locked m (chain_at i tri t)) (λ i. lock m (chain_at i tri t) ≡ 1)
      (λ i. is_eq (lock m (chain_at i tri t)) 1))
      (is_eq (lock m e) 1))
      (is_any 3 (λ i. is_base tri (link tri (3 * e + i)) && locked m (link tri (3 * e + i) / 3))
      (λ i. Base tri (link tri (3 * e + i)) × (lock m (link tri (3 * e + i) / 3) ≡ 1))
      (λ i. is_and (base_is tri (link tri (3 * e + i))) (is_eq (lock m (link tri (3 * e + i) / 3)) 1))))
