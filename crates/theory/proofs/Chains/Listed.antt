-- The old slots that a refine changes, listed before the work: they are 25 at most.
use mathlib.Core.Path.{◌≡◌, refl, sym, ap, ◌∙◌, subst}
use mathlib.Core.List.{List, [], ◌∷◌}
use mathlib.Core.Logic.{◌≢◌, ◌⊎◌, ◌↔◌, inl, inr}
use Prim.Native.Nat.{ℕ, zero, suc, ◌+◌, ◌-◌, ◌*◌, ◌/◌, ◌%◌, ◌≤◌, ◌<◌}
use native.Mathlib.Decide.{ℕ_discrete, dec_lt}
use native.Mathlib.Omega.{arith}
use lib.Dec.{T}
use lib.ListN.{length}
use Rattle.theory.proofs.Calls.Carried.{RefineFound, found_young}
use Rattle.theory.proofs.Chains.Altering.{AltersFrom, at_end, meets_end, at_place, alters_from, beside, end_altered}
use Rattle.theory.proofs.Chains.Altering.{place_altered, met_altered}
use Rattle.theory.proofs.Chains.Chain.{path_meets, path_next}
use Rattle.theory.proofs.Chains.Noted.{AltersOrNames, altered, names₁, names₂, differs_exactly}
use Rattle.theory.proofs.Chains.Refine.{chain_path, chain_bound}
use Rattle.theory.proofs.Chains.Remembered.{path_none, path_from}
use Rattle.theory.proofs.Links.Manifold.{Partnered, Manifold, Base, partnered, few}
use Rattle.theory.proofs.Numbers.Entries.{Some}
use Rattle.theory.proofs.Numbers.Pigeonhole.{those_few}
use Rattle.theory.proofs.Soundness.Relaxed.{sound_manifold}
use Rattle.theory.proofs.Splits.Bases.{boundary_not_base}
use Rattle.theory.proofs.Splits.Told.{names_in_use}
use Rattle.rules.specs.Conditions.{Alters}
use Rattle.rules.specs.Notes.{differs, changed_slots, refined}
use Rattle.rules.specs.Sound.{Sound}
use Rattle.rules.specs.Split.{chain_end, chain_odd, chain_at}
use Rattle.rules.specs.Tables.{Topology, Mesh, sides, boundary, link, generation}

-- ---- where they are found

-- Slot x is listed before the work: it is an odd triangle of the base chain of t, or lies across the side 1 of one; it
-- is the end of the chain, or lies across its side 1 or 2; its base meets the end, or it lies across the side 1 of one
-- whose base does.
pub data Changes (m : Topology) (t x : ℕ) : Type 0 where
  on_chain : (i : ℕ) → i < chain_odd m t → x ≡ chain_at i m t → Changes m t x
  beside_chain : (i : ℕ) → i < chain_odd m t → link m (3 * chain_at i m t + 1) ≢ boundary
      → x ≡ link m (3 * chain_at i m t + 1) / 3 → Changes m t x
  is_end : x ≡ chain_end m t → Changes m t x
  beside_end : (i : ℕ) → i < 3 → link m (3 * chain_end m t + i) ≢ boundary
      → (1 ≤ i) ⊎ Base m (link m (3 * chain_end m t + i)) → x ≡ link m (3 * chain_end m t + i) / 3 → Changes m t x
  beside_met : (i : ℕ) → i < 3 → Base m (link m (3 * chain_end m t + i))
      → link m (3 * (link m (3 * chain_end m t + i) / 3) + 1) ≢ boundary
      → x ≡ link m (3 * (link m (3 * chain_end m t + i) / 3) + 1) / 3 → Changes m t x

-- x is y, or lies across the side 1 of y.
abbrev Near : Topology → ℕ → ℕ → Type 0
Near m y x = (x ≡ y) ⊎ ((link m (3 * y + 1) ≢ boundary) × (x ≡ link m (3 * y + 1) / 3))

-- x is an altered triangle, or lies across the side 1 of one or the side 2 of the end.
data NearAltered (m : Topology) (t x : ℕ) : Type 0 where
  near_one : (y : ℕ) → y < m.triangles → Alters m t y → Near m y x → NearAltered m t x
  across_end : link m (3 * chain_end m t + 2) ≢ boundary → x ≡ link m (3 * chain_end m t + 2) / 3 → NearAltered m t x

-- The partner of side 3 y + i is linked to it.
owned : {m : Topology} (h y i : ℕ) → Manifold m → h < sides m → y < m.triangles → i < 3 → link m h ≡ 3 * y + i
    → (link m (3 * y + i) ≢ boundary) × (h ≡ link m (3 * y + i))
owned {m} h y i F l u j e =
    let M : Partnered m h = partnered (F.linked h l) (λ z. omega (arith, few m F)) in
    let b : link m (3 * y + i) ≡ h = ap (link m) (sym e) ∙ M.back in
    ((λ z. omega (arith, few m F)), sym b)

-- ---- a list in which they all stand

-- The triangles f i, i below n, each with the one across its side 1, and then the rest.
with_neighbours : Topology → (ℕ → ℕ) → List ℕ → ℕ → List ℕ
with_neighbours m f rest zero = rest
with_neighbours m f rest (suc n) = f n ∷ link m (3 * f n + 1) / 3 ∷ with_neighbours m f rest n

module _ (m : Topology) (f : ℕ → ℕ) (rest : List ℕ) where
  with_length : (n : ℕ) → length (with_neighbours m f rest n) ≡ 2 * n + length rest
  unfolding with_neighbours
  with_length zero = omega arith
  with_length (suc n) = omega (arith, with_length n)

  with_rest : (n x : ℕ) → Some (λ c. x ≡ c) rest → Some (λ c. x ≡ c) (with_neighbours m f rest n)
  unfolding with_neighbours
  with_rest zero x s = s
  with_rest (suc n) x s = inr (inr (with_rest n x s))

  with_near : (n i x : ℕ) → i < n → Near m (f i) x → Some (λ c. x ≡ c) (with_neighbours m f rest n)
  unfolding with_neighbours
  with_near zero i x l N = absurd (omega arith)
  with_near (suc n) i x l N = go (ℕ_discrete i n) N (λ k. with_near n i x k N)
    where
      go : Dec (i ≡ n) → Near m (f i) x → (i < n → Some (λ c. x ≡ c) (with_neighbours m f rest n))
          → Some (λ c. x ≡ c) (f n ∷ link m (3 * f n + 1) / 3 ∷ with_neighbours m f rest n)
      go (yes e) (inl q) s = inl (q ∙ ap f e)
      go (yes e) (inr (_, q)) s = inr (inl (q ∙ ap (λ (j : ℕ). link m (3 * f j + 1) / 3) e))
      go (no e) _ s = inr (inr (s (omega arith)))

-- The three triangles beside v, each with the one across its side 1, and v.
end_list : Topology → ℕ → List ℕ
end_list m v = with_neighbours m (λ i. link m (3 * v + i) / 3) (v ∷ []) 3

-- The first k places of the chain in the same way, and these.
slot_list : Topology → ℕ → ℕ → ℕ → List ℕ
slot_list m v k t = with_neighbours m (λ i. chain_at i m t) (end_list m v) k

slot_length : (m : Topology) (v k t : ℕ) → length (slot_list m v k t) ≡ 2 * k + 7
unfolding slot_list end_list
slot_length m v k t =
    let a = with_length m (λ i. link m (3 * v + i) / 3) (v ∷ []) 3 in
    let b = with_length m (λ i. chain_at i m t) (end_list m v) k in
    omega arith

module _ (m : Topology) (v k t x : ℕ) where
  on_list : (i : ℕ) → i < k → Near m (chain_at i m t) x → Some (λ c. x ≡ c) (slot_list m v k t)
  unfolding slot_list
  on_list i l N = with_near m (λ j. chain_at j m t) (end_list m v) k i x l N

  beside_list : (i : ℕ) → i < 3 → Near m (link m (3 * v + i) / 3) x → Some (λ c. x ≡ c) (slot_list m v k t)
  unfolding slot_list end_list
  beside_list i l N =
      with_rest m (λ j. chain_at j m t) (end_list m v) k x
      (with_near m (λ j. link m (3 * v + j) / 3) (v ∷ []) 3 i x l N)

  end_list_lem : Near m v x → Some (λ c. x ≡ c) (slot_list m v k t)
  unfolding slot_list end_list
  end_list_lem (inl e) =
      with_rest m (λ j. chain_at j m t) (end_list m v) k x
      (with_rest m (λ j. link m (3 * v + j) / 3) (v ∷ []) 3 x (inl e))
  end_list_lem (inr (_, e)) = beside_list 1 (omega arith) (inl e)

-- ---- found before the work

module _ {t : ℕ} {m : Mesh} (S : Sound m) (b : t < m.topology.triangles) where
  F : Manifold m.topology
  F = sound_manifold S

  by_near : {x : ℕ} → x < m.topology.triangles → AltersOrNames m.topology t x → NearAltered m.topology t x
  by_near {x} l (altered a) = near_one x l a (inl refl)
  by_near {x} l (names₁ h e o a) =
      let y : ℕ = link m.topology h / 3 in
      let u = names_in_use h (F.linked h (omega arith)) o in
      let (q, z) = owned h y 1 F (omega arith) u (omega arith) (omega arith) in
      near_one y u a (inr (q, sym e ∙ ap (λ (k : ℕ). k / 3) z))
  by_near {x} l (names₂ h e q) =
      let (r, z) = owned h (chain_end m.topology t) 2 F (omega arith) (end_altered t m S b).0 (omega arith) q in
      across_end r (sym e ∙ ap (λ (k : ℕ). k / 3) z)

  -- Each of these is changed.
  near_all : {x y : ℕ} → y < m.topology.triangles → Alters m.topology t y → Near m.topology y x
      → AltersOrNames m.topology t x
  near_all u a (inl e) = altered (subst (Alters m.topology t) (sym e) a)
  near_all {x} {y} u a (inr (q, e)) =
      let h : ℕ = link m.topology (3 * y + 1) in
      let M : Partnered m.topology (3 * y + 1) = partnered (F.linked (3 * y + 1) (omega arith)) q in
      let z : link m.topology h / 3 ≡ y = omega (arith, M.back) in
      names₁ h (sym e) (omega (arith, M.back)) (subst (Alters m.topology t) (sym z) a)

  -- A triangle whose base meets the end is across from a side of the end.
  met_at : (y : ℕ) → y < m.topology.triangles → link m.topology (3 * y) ≢ boundary
      → link m.topology (3 * y) / 3 ≡ chain_end m.topology t
      → (i : ℕ) × (i < 3) × (link m.topology (3 * chain_end m.topology t + i) ≡ 3 * y)
  met_at y u q e =
      (link m.topology (3 * y) % 3, omega arith, beside y (partnered (F.linked (3 * y) (omega arith)) q) e)

  near_listed : {x y : ℕ} → y < m.topology.triangles → Alters m.topology t y → Near m.topology y x
      → Changes m.topology t x
  near_listed {x} {y} u a N = go (alters_from (chain_path t m S b) a)
    where
      n : Topology
      n = m.topology

      v : ℕ
      v = chain_end n t

      at_end_lem : Near n v x → Changes n t x
      at_end_lem (inl e) = is_end e
      at_end_lem (inr (q, e)) = beside_end 1 (omega arith) q (inl (omega arith)) e

      on_chain_lem : (i : ℕ) → i < chain_odd n t → Near n (chain_at i n t) x → Changes n t x
      on_chain_lem i l (inl e) = on_chain i l e
      on_chain_lem i l (inr (q, e)) = beside_chain i l q e

      at_met : (i : ℕ) → i < 3 → Base n (link n (3 * v + i)) → Near n (link n (3 * v + i) / 3) x → Changes n t x
      at_met i l B (inl e) =
          beside_end i l (λ z. boundary_not_base n F (subst (Base n) z B)) (inr B) e
      at_met i l B (inr (q, e)) = beside_met i l B q e

      go : AltersFrom n v (chain_odd n t - generation n v % 2) t y → Changes n t x
      go (at_end e) = at_end_lem (subst (λ (z : ℕ). Near n z x) e N)
      go (at_place i j e) = on_chain_lem i (omega arith) (subst (λ (z : ℕ). Near n z x) e N)
      go (meets_end o q e) =
          let (i, j, k) = met_at y u q e in
          let z : link n (3 * v + i) / 3 ≡ y = omega arith in
          at_met i j (omega arith, ap (λ (d : ℕ). generation n d % 2) z ∙ o) (subst (λ (d : ℕ). Near n d x) (sym z) N)

  listed : {x : ℕ} → x < m.topology.triangles → AltersOrNames m.topology t x → Changes m.topology t x
  listed {x} l a = go (by_near l a)
    where
      go : NearAltered m.topology t x → Changes m.topology t x
      go (near_one y u c N) = near_listed u c N
      go (across_end q e) = beside_end 2 (omega arith) q (inl (omega arith)) e

  across_end_lem : {x : ℕ} (i : ℕ) → i < 3 → 1 ≤ i → link m.topology (3 * chain_end m.topology t + i) ≢ boundary
      → x ≡ link m.topology (3 * chain_end m.topology t + i) / 3 → AltersOrNames m.topology t x
  across_end_lem zero l o q e = absurd (omega arith)
  across_end_lem (suc zero) l o q e = let (u, a) = end_altered t m S b in near_all u a (inr (q, e))
  across_end_lem (suc (suc zero)) l o q e =
      let u = (end_altered t m S b).0 in
      let h : ℕ = 3 * chain_end m.topology t + 2 in
      let M : Partnered m.topology h = partnered (F.linked h (omega arith)) q in
      names₂ (link m.topology h) (sym e) M.back
  across_end_lem (suc (suc (suc i))) l o q e = absurd (omega arith)

  unlisted : {x : ℕ} → Changes m.topology t x → AltersOrNames m.topology t x
  unlisted (on_chain i l e) = let (u, a) = place_altered t m S b i l in near_all u a (inl e)
  unlisted (beside_chain i l q e) = let (u, a) = place_altered t m S b i l in near_all u a (inr (q, e))
  unlisted (is_end e) = let (u, a) = end_altered t m S b in near_all u a (inl e)
  unlisted (beside_end i l q (inr B) e) = let (u, a) = met_altered t m S b i l B in near_all u a (inl e)
  unlisted (beside_end i l q (inl o) e) = across_end_lem i l o q e
  unlisted (beside_met i l B q e) = let (u, a) = met_altered t m S b i l B in near_all u a (inr (q, e))

  -- The last odd triangle before the end lies beside it, so that one place less is listed.
  covered : {x : ℕ} → x < m.topology.triangles → AltersOrNames m.topology t x
      → Some (λ c. x ≡ c) (slot_list m.topology (chain_end m.topology t)
      (chain_odd m.topology t - generation m.topology (chain_end m.topology t) % 2 - 1) t)
  covered {x} l a = go (by_near l a)
    where
      n : Topology
      n = m.topology

      v : ℕ
      v = chain_end n t

      k : ℕ
      k = chain_odd n t - generation n v % 2

      meets : (y : ℕ) → y < n.triangles → link n (3 * y) ≢ boundary → link n (3 * y) / 3 ≡ v → Near n y x
          → Some (λ c. x ≡ c) (slot_list n v (k - 1) t)
      meets y u q e N =
          let (i, j, d) = met_at y u q e in
          let z : y ≡ link n (3 * v + i) / 3 = omega arith in
          beside_list n v (k - 1) t x i j (subst (λ (d : ℕ). Near n d x) z N)

      place : (y i : ℕ) → y < n.triangles → i < k → y ≡ chain_at i n t → Near n y x → Dec (suc i < k)
          → Some (λ c. x ≡ c) (slot_list n v (k - 1) t)
      place y i u j e N (yes d) =
          on_list n v (k - 1) t x i (omega arith) (subst (λ (d : ℕ). Near n d x) e N)
      place y i u j e N (no d) =
          let p = path_from i 1 (omega arith) (chain_path t m S b) in
          meets y u (rw e (path_meets p)) (rw e (sym (path_none (path_next p)))) N

      near : (y : ℕ) → y < n.triangles → AltersFrom n v k t y → Near n y x
          → Some (λ c. x ≡ c) (slot_list n v (k - 1) t)
      near y u (at_end e) N = end_list_lem n v (k - 1) t x (subst (λ (d : ℕ). Near n d x) e N)
      near y u (meets_end o q e) N = meets y u q e N
      near y u (at_place i j e) N = place y i u j e N (dec_lt (suc i) k)

      go : NearAltered n t x → Some (λ c. x ≡ c) (slot_list n v (k - 1) t)
      go (near_one y u c N) = near y u (alters_from (chain_path t m S b) c) N
      go (across_end q e) = beside_list n v (k - 1) t x 2 (omega arith) (inl e)

module _ {t : ℕ} {m : Mesh} (R : RefineFound t m) where
  -- A refine changes exactly the old slots that are listed before the work.
  pub changes_exactly : (x : ℕ) → x < m.topology.triangles
      → T (differs m (refined t m) x) ↔ Changes m.topology t x
  changes_exactly x l =
      let (f, g) = differs_exactly R x l in
      ((λ d. listed R.sound R.in_use l (f d)), (λ c. g (unlisted R.sound R.in_use c)))

  -- A chain has ten odd triangles at most, of which the last before the end lies beside it.
  pub at_most_25 : length (changed_slots m (refined t m)) ≤ 25
  at_most_25 =
      let v : ℕ = chain_end m.topology t in
      let k : ℕ = chain_odd m.topology t - generation m.topology v % 2 - 1 in
      omega (
        arith,
        those_few m.topology.triangles (differs m (refined t m)) (slot_list m.topology v k t) (λ x l d.
            covered R.sound R.in_use l ((differs_exactly R x l).0 d)),
        slot_length m.topology v k t,
        chain_bound t m R.sound R.in_use,
        found_young R,
      )
