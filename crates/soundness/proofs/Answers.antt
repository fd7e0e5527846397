-- What the answer of the test says of soundness, and of the start of a ring.
use mathlib.Core.Bool.{Bool, true, false}
use mathlib.Core.Path.{◌≡◌, refl}
use Prim.Native.Nat.{ℕ}
use Rattle.std.specs.Option.{is_some}
use Rattle.std.specs.Prelude.{Some, None}
use Rattle.rules.specs.Ring.{first_side}
use Rattle.rules.specs.Tables.{Topology}
use Rattle.soundness.specs.Parts.{start_if}

-- A start is told where it is to be told.
pub told : (b : Bool) (m : Topology) (v : ℕ) → is_some (start_if b m v) ≡ b
told true m v = refl
told false m v = refl

-- None tells that there is none, and some number the side.
pub start_none : (b : Bool) (m : Topology) (v : ℕ) → None ≡ start_if b m v → b ≡ false
start_none true m v e = cc
start_none false m v e = refl

pub start_some : (b : Bool) (m : Topology) (v : ℕ) {k : ℕ} → Some k ≡ start_if b m v → (b ≡ true) × (k ≡ first_side m v)
start_some true m v e = (refl, cc)
start_some false m v e = cc
