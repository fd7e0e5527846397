-- The box's tests decide its conditions.
use mathlib.Core.Logic.{◌⊎◌, inl, inr}
use mathlib.Core.Path.{◌≡◌, refl}
use Prim.Native.Nat.{ℕ, zero, suc, ◌+◌, ◌*◌, ◌<◌}
use native.Mathlib.Decide.{dec_lt}
use native.Mathlib.Omega.{arith}
use lib.IntN.{ℤ}
use Rattle.theory.proofs.Numbers.Decide.{Decides, is_lt, is_le, is_and, is_or, is_iff, lowest_is}
use Rattle.theory.proofs.Soundness.SoundTest.{le_is}
use Rattle.rules.specs.Boxes.{Box, between, in_box, wanted, lowest_wanted, box_fits}
use Rattle.rules.specs.Conditions.{Between, BoxFits, InBox, Wanted, LowestWanted}
use Rattle.rules.specs.Tables.{Mesh, origin, generation, coordinate}

between_is : (low high x : ℤ) → Decides (between low high x) (Between low high x)
between_is low high x = is_and (le_is low x) (le_is x high)

pub box_fits_is : (b : Box) → Decides (box_fits b) (BoxFits b)
box_fits_is b =
    is_iff
    (λ p. record { below = p.0.0.0; x = p.0.0.1; y = p.0.1; z = p.1 })
    (λ F. (((F.below, F.x), F.y), F.z))
    (is_and (is_and (is_and (is_le b.below 20) (le_is _ _)) (le_is _ _)) (le_is _ _))

module _ (b : Box) (m : Mesh) where
  in_box_is : (v : ℕ) → Decides (in_box b m v) (InBox b m v)
  in_box_is v =
      is_iff
      (λ p. record { x = p.0.0; y = p.0.1; z = p.1 })
      (λ I. ((I.x, I.y), I.z))
      (is_and (is_and (between_is _ _ _) (between_is _ _ _)) (between_is _ _ _))

  pub wanted_is : (t : ℕ) → Decides (wanted b m t) (Wanted b m t)
  unfolding wanted
  wanted_is t =
      is_iff
      (λ p. record { below = p.0; corner = some p.1 })
      (λ W. (W.below, one W.corner))
      (is_and (is_lt _ b.below) (is_or (is_or (in_box_is _) (in_box_is _)) (in_box_is _)))
    where
      At : ℕ → Type 0
      At i = InBox b m (origin m.topology (3 * t + i))

      some : (At 0 ⊎ At 1) ⊎ At 2 → (i : ℕ) × (i < 3) × At i
      some (inl (inl p)) = (0, omega arith, p)
      some (inl (inr p)) = (1, omega arith, p)
      some (inr p) = (2, omega arith, p)

      one : (i : ℕ) × (i < 3) × At i → (At 0 ⊎ At 1) ⊎ At 2
      one (zero, l, p) = inl (inl p)
      one (suc zero, l, p) = inl (inr p)
      one (suc (suc zero), l, p) = inr p
      one (suc (suc (suc i)), l, p) = absurd (omega arith)

  -- The lowest wanted slot, or none.
  pub wanted_next : lowest_wanted b m < m.topology.triangles → LowestWanted b m (lowest_wanted b m)
  wanted_next l =
      let L = lowest_is m.topology.triangles (wanted b m) in
      record {
        in_use = l;
        wanted = (wanted_is _).holds (L.passes l);
        lowest = λ s i W. L.none s i ((wanted_is s).passes W);
      }

  pub none_wanted : ¬ (lowest_wanted b m < m.topology.triangles) → (t : ℕ) → t < m.topology.triangles
      → ¬ Wanted b m t
  none_wanted n t l W =
      let L = lowest_is m.topology.triangles (wanted b m) in
      L.none t (omega arith) ((wanted_is t).passes W)

-- Where a triangle has the same generation, corners and positions of these, it is wanted alike.
pub record Alike (t : ℕ) (m n : Mesh) : Type 0 where
  pub generation : generation n.topology t ≡ generation m.topology t
  pub corners : (i : ℕ) → i < 3 → origin n.topology (3 * t + i) ≡ origin m.topology (3 * t + i)
  pub places : (i k : ℕ) → i < 3 → k < 3 →
      let v = origin m.topology (3 * t + i) in
      coordinate n v k ≡ coordinate m v k

pub wanted_alike : (b : Box) {t : ℕ} {m n : Mesh} → Alike t m n → wanted b n t ≡ wanted b m t
unfolding wanted
wanted_alike b {t} {m} {n} A =
    rw (A.generation, at 0 (omega arith), at 1 (omega arith), at 2 (omega arith)) refl
  where
    at : (i : ℕ) → i < 3
        → in_box b n (origin n.topology (3 * t + i)) ≡ in_box b m (origin m.topology (3 * t + i))
    at i l =
        rw (
          A.corners i l,
          A.places i 0 l (omega arith),
          A.places i 1 l (omega arith),
          A.places i 2 l (omega arith),
        ) refl

-- There is one alone.
pub lowest_same : {b : Box} {m : Mesh} {s t : ℕ} → LowestWanted b m s → LowestWanted b m t → s ≡ t
lowest_same {s = s} {t} M N = go (dec_lt s t) (dec_lt t s)
  where
    go : Dec (s < t) → Dec (t < s) → s ≡ t
    go (yes i) d = absurd (N.lowest s i M.wanted)
    go (no i) (yes j) = absurd (M.lowest t j N.wanted)
    go (no i) (no j) = omega arith

pub lowest_computed : {b : Box} {m : Mesh} {t : ℕ} → LowestWanted b m t → lowest_wanted b m ≡ t
lowest_computed {b} {m} {t} N = go (dec_lt (lowest_wanted b m) m.topology.triangles)
  where
    go : Dec (lowest_wanted b m < m.topology.triangles) → lowest_wanted b m ≡ t
    go (yes l) = lowest_same (wanted_next b m l) N
    go (no n) = absurd (none_wanted b m n _ N.in_use N.wanted)
