-- What is proved of load. (Load)
use mathlib.Core.Path.{◌≡◌}
use mathlib.Core.Logic.{◌↔◌}
use mathlib.Core.List.{List}
use Prim.Native.Nat.{ℕ, ◌*◌, ◌≤◌, ◌<◌}
use lib.Dec.{T}
use Rattle.theory.proofs.Loads.InnerOfTwo.{some_inner_of_two_is, back_to_back}
use Rattle.theory.proofs.Loads.Load.{links_are}
use Rattle.theory.proofs.Calls.Outcomes.{load_makes}
use Rattle.rules.specs.Cage.{Cage, cage_of, loaded, some_inner_of_two}
use Rattle.rules.specs.Calls.{worked, load_call}
use Rattle.rules.specs.Conditions.{SidesDiffer, CornersFit, FansFit, InnerOfTwo, SomeInnerOfTwo}
use Rattle.rules.specs.Promises.{Matches, Loaded, BackToBack}
use Rattle.rules.specs.Split.{at_first}
use Rattle.rules.specs.Tables.{Mesh, TablesAgree, vertex_slots, triangle_slots, link, with_rule}

-- A load that is carried out answers no splits and no flips, and leaves the cage, sound and linked, with its rule.
pub load_carried : (rule : ℕ) (bytes : List ℕ) (m : Mesh) → (load_call rule bytes m).answer.refusal ≡ 0
    → let n = with_rule rule (loaded (cage_of bytes) m) in
    (load_call rule bytes m ≡ worked (at_first n)) × Loaded rule (cage_of bytes) m n
load_carried = load_makes

-- The test on sides says yes exactly where some vertex off the boundary has exactly two triangles, in a cage that
-- passes 3 and 5 and whose fans fit. (Request g)
pub two_test : (c : Cage) (m : Mesh) → TablesAgree m → c.vertices ≤ vertex_slots m → c.triangles ≤ triangle_slots m
    → CornersFit c → SidesDiffer c → FansFit c m → T (some_inner_of_two c m) ↔ SomeInnerOfTwo c m
two_test c m A v f K D F =
    let d = some_inner_of_two_is c m A v f K D F in
    (d.holds, d.passes)

-- Such a vertex has two triangles back to back, which are a component of their own, whether the fans fit or not.
pub two_back_to_back : (c : Cage) (m : Mesh) → TablesAgree m
    → c.vertices ≤ vertex_slots m → c.triangles ≤ triangle_slots m → CornersFit c → SidesDiffer c
    → (v : ℕ) → InnerOfTwo (loaded c m).topology v → (t : ℕ) × (u : ℕ) × BackToBack (loaded c m).topology v t u
two_back_to_back = back_to_back

-- In the tables that condition 6 is judged in, the links are the matching opposite sides.
pub links_match : (c : Cage) (m : Mesh) → TablesAgree m → c.vertices ≤ vertex_slots m → c.triangles ≤ triangle_slots m
    → SidesDiffer c → (h : ℕ) → h < 3 * c.triangles → Matches c h (link (loaded c m).topology h)
links_match = links_are
