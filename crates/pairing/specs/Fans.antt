-- What the test of a cage's fans says.
use Rattle.std.specs.Prelude.{ℕ, Bool, not, ◌&&◌, List, [], ◌≡◌}
use Rattle.theory.proofs.Rings.Turning.{Glued}
use Rattle.rules.specs.Below.{all, any}
use Rattle.rules.specs.Cage.{turns_back}
use Rattle.rules.specs.Sound.{has_one_fan}
use Rattle.rules.specs.Tables.{topology_of, sides}

-- Where the triangles are glued, r says whether each vertex has one fan and no side turns back.
abbrev pub TellsFit : ℕ → ℕ → List ℕ → List ℕ → Bool → Type 0
TellsFit vertices triangles corners links r =
    let m = topology_of vertices triangles corners links [] in
    Glued m → r ≡ all vertices (has_one_fan m) && not (any (sides m) (turns_back m))
