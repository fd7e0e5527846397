-- `pairing::threaded::Threaded::some_inner_of_two` meets its contract.
use borrow.Author.Rules.{rules}
use native.Mathlib.Omega.{arith}
use mathlib.Core.Bool.{Bool, true, false}
use mathlib.Core.List.{[]}
use mathlib.Core.Path.{◌≡◌, refl}
use Prim.Native.Nat.{ℕ, ◌<◌}
use lib.ListN.{length, get_or}
use Rattle.std.specs.Prelude.{MatchBool}
use Rattle.std.specs.List.{AllWithin, HoldsAt, range_with_len}
use Rattle.std.proofs.lemmas.Iterator.{cases_from_any, YieldsList-from_range}
use Rattle.std.proofs.lemmas.List.FromFn.{length-range_with_len, get_or-range_with_len}
use Rattle.theory.proofs.Numbers.Decide.{Decides, is_true, is_false, when_true, when_false}
use Rattle.rules.specs.Conditions.{InnerOfTwo}
use Rattle.rules.specs.Tables.{topology_of}
use Rattle.pairing.proofs.threaded.Threaded.some_inner_of_two.Goals as goal

-- What a search among the numbers below n says.
decided : (P : ℕ → Type 0) (n : ℕ) (r : Bool)
    → MatchBool r ((k : ℕ) × (k < length (range_with_len 0 n)) × HoldsAt P (range_with_len 0 n) k)
    (AllWithin (λ x. ¬ P x) (range_with_len 0 n) 0 (length (range_with_len 0 n)))
    → Decides r ((x : ℕ) × (x < n) × P x)
decided P n true (k, l, h) =
    let m : k < n = omega (arith, length-range_with_len 0 n) in
    let e : get_or (range_with_len 0 n) k 0 ≡ k = omega (arith, get_or-range_with_len 0 n k 0 m) in
    is_true (k, m, rw e at (h 0))
decided P n false h =
    is_false (λ (k, m, x).
    let e : get_or (range_with_len 0 n) k 0 ≡ k = omega (arith, get_or-range_with_len 0 n k 0 m) in
    (rw e at (h k 0 (omega arith) (omega (arith, length-range_with_len 0 n)))) x)

pub returns : goal.returns
returns c =
    let two : ℕ → Type 0 = InnerOfTwo (topology_of c.args.self.now.vertices c.args.self.now.triangles c.args.self.now.corners.now c.args.links.now []) in
    decided two c.args.self.now.vertices _
    (cases_from_any _ _ _ two (λ v. ¬ two v) c.any.ensures.ran
    (YieldsList-from_range 0 c.args.self.now.vertices c.args.self.now.vertices refl (omega arith))
    (λ v q k. search (rules, when_true)) (λ v q k. search (rules, when_false)))
