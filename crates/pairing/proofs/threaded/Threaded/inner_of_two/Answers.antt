-- `pairing::threaded::Threaded::inner_of_two` meets its contract: the thread of v has two sides, and neither is on the boundary.
use native.Mathlib.Omega.{arith}
use mathlib.Core.List.{List}
use mathlib.Core.Path.{refl}
use Prim.Native.Nat.{ℕ, ◌*◌, ◌<◌}
use Rattle.theory.proofs.Numbers.Decide.{is_false}
use Rattle.decoding.specs.Decoded.{decoded}
use Rattle.pairing.specs.Pairing.{Threads}
use Rattle.pairing.proofs.fans.Counted.{AtVertex, none_out, only_one, third_out, just_two}
use Rattle.pairing.proofs.threaded.Threaded.inner_of_two.Goals as goal

known : {v f w : ℕ} {corners links heads nexts : List ℕ} → Threads (decoded v f corners) (3 * f) heads nexts → w < v
    → AtVertex v f corners links heads nexts w
known T l = record { threads = T; in_use = l }

pub returns-then-h-eq0 : goal.returns-then-h-eq0
returns-then-h-eq0 c = is_false (none_out (known c.args.self.now.threads c.requires.v_in_use) refl c.if-h-eq0.true)

pub returns-then-k-eq0 : goal.returns-then-k-eq0
returns-then-k-eq0 c =
    is_false (only_one (known c.args.self.now.threads c.requires.v_in_use) refl c.if-h-eq0.false
    refl c.if-k-eq0.true)

pub returns-then-self-k-ne0 : goal.returns-then-self-k-ne0
returns-then-self-k-ne0 c =
    is_false (third_out (known c.args.self.now.threads c.requires.v_in_use) refl c.if-h-eq0.false
    refl c.if-k-eq0.false c.if-self-k-ne0.true)

pub returns : goal.returns
returns c =
    just_two (known c.args.self.now.threads c.requires.v_in_use) refl c.if-h-eq0.false
    refl c.if-k-eq0.false (omega arith) c.if-links-h.false
