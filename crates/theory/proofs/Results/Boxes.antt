-- What is proved of a box. (Request h)
use mathlib.Core.Path.{◌≡◌}
use mathlib.Core.Logic.{◌≢◌}
use Prim.Native.Nat.{ℕ, ◌+◌, ◌≤◌, ◌<◌}
use Rattle.theory.proofs.Boxes.BoxCall.{box_makes, box_refused_first, box_stops, fails_same, box_in_spares}
use Rattle.theory.proofs.Boxes.BoxCall.{nothing_wanted, box_twice, turn_takes}
use Rattle.rules.specs.Boxes.{Box, refine_in_box, box_refusal, box_call}
use Rattle.rules.specs.Calls.{spare_room, refused_with}
use Rattle.rules.specs.Conditions.{TooOld, TooFewSlots, BoxFits, Wanted, LowestWanted, TurnFails}
use Rattle.rules.specs.Lists.{begun, all_or_nothing}
use Rattle.rules.specs.Promises.{BoxMakes}
use Rattle.rules.specs.Sound.{Sound}
use Rattle.rules.specs.Spares.{Spares, copied, mesh_in, SameSizes}
use Rattle.rules.specs.Split.{Work, at_first, refine}
use Rattle.rules.specs.Tables.{Mesh, generation}

-- A box that is carried out answers and leaves what its turns make, each a refine of the lowest triangle below the
-- generation with a corner in it; their splits and flips are added up and their reports joined (list-sums). Then no
-- such triangle is left, which is what the engraver relies on.
pub box_carried : (b : Box) (spares : Spares) (m : Mesh) → (box_call b spares m).answer.refusal ≡ 0
    → let p = refine_in_box b m in
    (box_call b spares m ≡ all_or_nothing 0 p spares m) × BoxMakes b m p
box_carried = box_makes

-- One that is refused with 1, 17, 18 or 7, which `box_refusal` computes, answers zeros and leaves the spare tables too.
pub box_refused : (b : Box) (spares : Spares) (m : Mesh) → box_refusal b spares m ≢ 0
    → box_call b spares m ≡ refused_with (box_refusal b spares m) m (spare_room spares)
box_refused = box_refused_first

-- One that is refused after 7 tells after how many turns, and leaves the mesh, and in the spare tables what these made.
-- The next triangle fails, and is not skipped.
pub box_stopped : (b : Box) (spares : Spares) (m : Mesh) → SameSizes spares m → BoxFits b → Sound m
    → (box_call b spares m).answer.refusal ≢ 0
    → let p = refine_in_box b m in
    (box_call b spares m ≡ all_or_nothing p.refusal p spares m) × TurnFails b m p.handled p.work p.refusal
box_stopped = box_stops

-- The turn that fails is the one computed, and so is its number.
pub box_fails_once : {b : Box} {m : Mesh} {k n : ℕ} {w : Work} → Sound m → TurnFails b m k w n →
    let p = refine_in_box b m in
    (k ≡ p.handled) × (n ≡ p.refusal)
box_fails_once {b} {m} S = fails_same b m S

-- After 7, carried out or refused, the spare tables hold what the turns made of the mesh, and it is sound there; their
-- other slots keep their content.
pub box_held : (b : Box) (spares : Spares) (m : Mesh) → SameSizes spares m → BoxFits b → Sound m
    → let n = (refine_in_box b m).work.mesh in
    ((box_call b spares m).room ≡ spare_room (copied n spares)) × Sound (mesh_in (copied n spares) n)
box_held = box_in_spares

-- Where no triangle below the generation has a corner in the box, it is carried out, with zeros: the mesh stands, and
-- the spare tables hold it. So it is with generation 0.
pub box_nothing : (b : Box) (spares : Spares) (m : Mesh) → SameSizes spares m → BoxFits b → Sound m
    → ((t : ℕ) → t < m.topology.triangles → ¬ Wanted b m t)
    → box_call b spares m ≡ all_or_nothing 0 (begun m) spares m
box_nothing = nothing_wanted

-- So it is where the box was carried out before.
pub box_again : (b : Box) (s t : Spares) (m : Mesh) → (box_call b s m).answer.refusal ≡ 0 →
    let n = (box_call b s m).mesh in
    SameSizes t n → box_call b t n ≡ all_or_nothing 0 (begun n) t n
box_again = box_twice

-- Each turn raises the triangle that it refines and takes two triangle slots at least, so that the turns end
-- (box-carried, box-stopped).
pub box_turn : {b : Box} {t : ℕ} {m : Mesh} → Sound m → LowestWanted b m t → ¬ TooOld m.topology t
    → ¬ TooFewSlots t m →
    let n = (refine t (at_first m)).mesh in
    (generation m.topology t < generation n.topology t)
    × (m.topology.triangles + 2 ≤ n.topology.triangles)
box_turn = turn_takes
