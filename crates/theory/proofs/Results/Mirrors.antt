-- What is proved of mirror images. (Request c)
use mathlib.Core.Path.{◌≡◌}
use mathlib.Core.List.{List}
use Prim.Native.Nat.{ℕ}
use Rattle.theory.proofs.Mirrors.MirrorCalls.{call_mirror, history_mirror}
use Rattle.rules.specs.History.{Call, outcome, after}
use Rattle.rules.specs.Mirror.{mirror, mirror_outcome, Mirrors, Rounds, MirrorsEach}
use Rattle.rules.specs.Tables.{Mesh}

-- A call of the mirrored mesh, with what it is given mirrored too, gives the mirrored outcome, refusals and counts with
-- it, on every content of the tables; a call that rounds by the rule does so under rule 2.
pub mirrored : (k : ℕ) {c c' : Call} (m : Mesh) → Mirrors k c c' → (Rounds c → m.rule ≡ 2)
    → outcome c' (mirror k m) ≡ mirror_outcome k (outcome c m)
mirrored k m = call_mirror k m

-- So lists of calls that mirror each other leave mirror images.
pub mirrored_after : (k : ℕ) {cs cs' : List Call} (m : Mesh) → MirrorsEach k cs cs' m
    → after cs' (mirror k m) ≡ mirror k (after cs m)
mirrored_after k m = history_mirror k m
