-- Refines one after the other, from a sound mesh: what they keep and what they count.
use mathlib.Core.Path.{◌≡◌, refl, ◌∙◌}
use Prim.Native.Nat.{ℕ, ◌+◌, ◌*◌, ◌≤◌, ◌<◌}
use native.Mathlib.Omega.{arith}
use lib.IntN.{pos, ◌+ℤ◌, ◌-ℤ◌}
use Rattle.theory.proofs.Calls.Carried.{RefineFound, found_refined}
use Rattle.theory.proofs.Chains.Refine.{Refined}
use Rattle.theory.proofs.Chains.Flipping.{refine_flips}
use Rattle.theory.proofs.Links.Past.{Past, past_same, past_on}
use Rattle.theory.proofs.Numbers.Differences.{nat, add, sub, equal}
use Rattle.theory.proofs.Soundness.Relaxed.{SameSlots}
use Rattle.theory.proofs.Spares.Adds.{refine_adds}
use Rattle.theory.proofs.Splits.Bases.{reached}
use Rattle.theory.proofs.Splits.Places.{Places, places_same, places_on}
use Rattle.theory.proofs.Splits.Reported.{Telling, telling_none, telling_added}
use Rattle.theory.proofs.Splits.Settled.{still_all, still_on}
use Rattle.rules.specs.Calls.{splits_of, rim_splits_of}
use Rattle.rules.specs.History.{edges, characteristic}
use Rattle.rules.specs.Promises.{SamePast, Still, odds}
use Rattle.rules.specs.Sound.{Sound}
use Rattle.rules.specs.Split.{Work, at_first, refine}
use Rattle.rules.specs.Tables.{Mesh, generation}

-- s splits, q of them rim splits, keep the characteristic.
pub same_characteristic : (v e f s q : ℕ) {v' e' f' : ℕ} → v' ≡ v + s + q → e' ≡ e + 3 * s + q → f' ≡ f + 2 * s
    → pos v' -ℤ pos e' +ℤ pos f' ≡ pos v -ℤ pos e +ℤ pos f
same_characteristic v e f s q {v'} {e'} {f'} a b c =
    equal (add (sub (nat v') (nat e')) (nat f')) (add (sub (nat v) (nat e)) (nat f)) (omega arith)

-- Work that refines have made of the mesh m, which is sound.
pub record Going (m : Mesh) (w : Work) : Type 0 where
  pub sound : Sound w.mesh
  pub euler : characteristic (reached w) ≡ characteristic m.topology
  pub triangles : (reached w).triangles ≡ m.topology.triangles + 2 * w.splits
  pub flips : w.flips ≤ 3 * w.splits
  pub odd : 2 * w.flips + odds (reached w) ≤ odds m.topology + 3 * w.splits
  pub still : Still m.topology (reached w)
  pub room : SameSlots m w.mesh
  pub past : (b : ℕ) → (reached w).triangles ≤ b → Past b m.topology (reached w)
  pub places : Places m w.mesh
  pub telling : Telling (at_first m) w

pub going_begins : {m : Mesh} → Sound m → Going m (at_first m)
going_begins {m} S = record {
  sound = S;
  euler = refl;
  triangles = omega arith;
  flips = omega arith;
  odd = omega arith;
  still = still_all m.topology;
  room = record { positions = refl; corners = refl; links = refl; generations = refl; locks = refl };
  past = λ b i. past_same b m.topology;
  places = places_same m;
  telling = telling_none (at_first m);
}

-- A refine more, of a triangle that may be refined.
pub going_on : {m : Mesh} {w : Work} {t : ℕ} → Going m w → RefineFound t w.mesh → Going m (refine t w)
going_on {m} {w} {t} G F = rw (refine_adds t w) (record {
  sound = R.sound;
  euler =
      same_characteristic (reached w).vertices (edges (reached w)) (reached w).triangles (splits_of (reached w) t)
      (rim_splits_of (reached w) t) R.vertices R.edges R.triangles
      ∙ G.euler;
  triangles = omega (arith, R.triangles, R.splits, G.triangles);
  flips = omega (arith, refine_flips F, R.splits, G.flips);
  odd = omega (arith, R.odd, R.splits, G.odd);
  still = still_on m.topology (reached w) (reached (refine t (at_first w.mesh))) G.still R.still;
  room = record {
    positions = R.places.size ∙ G.room.positions;
    corners = R.corner_room ∙ G.room.corners;
    links = R.link_room ∙ G.room.links;
    generations = R.generation_room ∙ G.room.generations;
    locks = R.places.locks.size ∙ G.room.locks;
  };
  past = λ b i. past_on (G.past b (omega (arith, R.triangles))) (R.past b i);
  places = places_on G.places R.places;
  telling = telling_added G.telling R.telling;
})
  where
    R : Refined t (splits_of (reached w) t) (rim_splits_of (reached w) t) w.mesh (refine t (at_first w.mesh))
    R = found_refined F

-- It rises, and what is not written anew stands.
pub refine_rises : (w : Work) {t : ℕ} → RefineFound t w.mesh
    → (generation (reached w) t < generation (reached (refine t w)) t) × Still (reached w) (reached (refine t w))
refine_rises w {t} F = rw (refine_adds t w) ((found_refined F).rises, (found_refined F).still)

-- Nothing past the counts is written.
pub same_past : {m : Mesh} {w : Work} → Going m w → SamePast m w.mesh
same_past {w = w} G =
    let P = G.past (reached w).triangles (omega arith) in
    record {
      corner_slots = G.room.corners;
      link_slots = G.room.links;
      generation_slots = G.room.generations;
      lock_slots = G.room.locks;
      position_slots = G.room.positions;
      corners = P.corners;
      links = P.links;
      generations = P.generations;
      locks = G.places.locks.past (reached w).triangles (omega arith);
      positions = G.places.past (reached w).vertices (omega arith);
    }
