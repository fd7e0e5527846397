-- A triangle that a refine does not write anew is wanted after it as before.
use mathlib.Core.Path.{◌≡◌}
use mathlib.Core.Logic.{◌⊎◌, inl, inr}
use Prim.Native.Nat.{ℕ, ◌+◌, ◌*◌, ◌/◌, ◌<◌}
use native.Mathlib.Decide.{ℕ_discrete}
use native.Mathlib.Omega.{arith}
use Rattle.theory.proofs.Boxes.Wanting.{Alike, wanted_alike}
use Rattle.theory.proofs.Calls.Carried.{RefineFound, found_refined}
use Rattle.theory.proofs.Chains.Altered.{refine_alters}
use Rattle.theory.proofs.Chains.Altering.{AlteredAt, alters_known}
use Rattle.rules.specs.Boxes.{Box, wanted}
use Rattle.rules.specs.Split.{at_first, refine}
use Rattle.rules.specs.Tables.{Mesh, generation}

module _ {t : ℕ} {m : Mesh} (F : RefineFound t m) (b : Box) (j : ℕ) (l : j < m.topology.triangles) where
  abbrev after : Mesh
  after = (refine t (at_first m)).mesh

  stays_alike : generation after.topology j ≡ generation m.topology j → Alike j m after
  stays_alike e =
      let R = found_refined F in
      record {
        generation = e;
        corners = λ i d.
            let q : (3 * j + i) / 3 ≡ j = omega arith in
            R.still.corners (3 * j + i) (omega arith) (rw q e);
        places = λ i k d g.
            R.places.old _ (omega (arith, F.sound.corner (3 * j + i) (omega arith)));
      }

  pub wanted_stays : AlteredAt m.topology t j ⊎ (wanted b after j ≡ wanted b m j)
  wanted_stays = go (ℕ_discrete (generation after.topology j) (generation m.topology j))
    where
      go : Dec (generation after.topology j ≡ generation m.topology j)
          → AlteredAt m.topology t j ⊎ (wanted b after j ≡ wanted b m j)
      go (yes e) = inr (wanted_alike b {t = j} (stays_alike e))
      go (no n) = inl (alters_known F.sound F.in_use l (refine_alters F j l n))
