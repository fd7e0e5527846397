-- What a load leaves of the tables of corners and links.
use mathlib.Core.Path.{◌≡◌}
use mathlib.Core.List.{List}
use Prim.Native.Nat.{ℕ, ◌*◌}
use lib.ListN.{get_or}
use Rattle.theory.proofs.Numbers.Fill.{fill_same}
use Rattle.rules.specs.Below.{fill}
use Rattle.rules.specs.Cage.{Cage}
use Rattle.judging.specs.Answers.{SidesLeft}
use Rattle.judging.specs.Loading.{Holds}

-- Where it is not refused, they hold what is copied, the origins and partners of the cage.
pub hold : {c : Cage} {r f : ℕ} {origins partners : List ℕ} (corners links : List ℕ) {corners' links' : List ℕ} → r ≡ 0
    → c.triangles ≡ f → Holds c origins partners
    → corners' ≡ fill (3 * f) (λ i. get_or origins i 0) corners
    → links' ≡ fill (3 * f) (λ i. get_or partners i 0) links
    → SidesLeft c r corners links corners' links'
hold corners links z e H p q = record {
  refused = λ n. absurd (n z);
  written = λ _.
      (rw (p, ← e) (fill_same _ _ _ corners H.origin), rw (q, ← e) (fill_same _ _ _ links H.partner));
}
