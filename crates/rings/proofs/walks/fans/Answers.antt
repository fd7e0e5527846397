-- `rings::walks::fans` meets its contract.
use borrow.Author.Tests.{lt-ltb, le-ltb}
use Prim.Native.Nat.{ℕ, ◌+◌, ◌<◌}
use native.Mathlib.Numerals.{add-one}
use native.Mathlib.Omega.{arith}
use mathlib.Core.List.{List}
use mathlib.Core.Path.{◌≡◌, refl}
use lib.ListN.{length, get_or, take}
use Rattle.std.proofs.lemmas.List.{length-take, get_or-take}
use Rattle.theory.proofs.Numbers.Decide.{all_more}
use Rattle.rules.specs.Below.{all, total}
use Rattle.rules.specs.Tables.{Topology, topology_of}
use Rattle.rings.proofs.walks.Told.{has_start, length_from, no_start, made}
use Rattle.rings.proofs.walks.fans.Goals as goal

more : {s r : ℕ} (n : ℕ) (f : ℕ → ℕ) → s ≡ total n f → r ≡ f n → s + r ≡ total (n + 1) f
unfolding total
more n f a b = rw (add-one, a, b)

-- What stands in place i of the first n entries.
at_first : (l : List ℕ) (n i : ℕ) → i < length (take n l) → (i < n) × (get_or (take n l) i 0 ≡ get_or l i 0)
at_first l n i b =
    let u : i < n = omega (arith, length-take n l) in
    (u, get_or-take n l i 0 u)

pub loop-s-init : goal.loop-s-init
unfolding all total
loop-s-init c =
    (omega arith, refl, λ d g. refl)

pub returns-then-s-eq0 : goal.returns-then-s-eq0
returns-then-s-eq0 c d U A g G =
    let topology : List ℕ → List ℕ → Topology = λ corners generations. topology_of c.args.vertices c.args.triangles corners c.args.links.now generations in
    let (b, e) = at_first c.args.starts.now c.args.vertices _ c.loop-s-test.true in
    let none = le-ltb 0 (get_or c.args.starts.now c.loop-s.s-index 0) (omega arith) in
    no_start (topology d g) G U c.args.starts.now A _ b none

pub loop-s-preserved : goal.loop-s-preserved
loop-s-preserved c =
    let topology : List ℕ → List ℕ → Topology = λ corners generations. topology_of c.args.vertices c.args.triangles corners c.args.links.now generations in
    let (_, e) = at_first c.args.starts.now c.args.vertices _ c.loop-s-test.true in
    let some = lt-ltb 0 (get_or c.args.starts.now c.loop-s.s-index 0) (omega arith) in (
      omega arith,
      all_more _ (has_start c.args.starts.now) c.loop-s.invariant.1 some,
      λ d g.
          more _ (length_from (topology d g) c.args.starts.now) (c.loop-s.invariant.2 d g)
          (rw e at (c.walk_from-met.ensures.sides c.args.vertices d g)),
    )

pub returns : goal.returns
returns c d U A g G =
    let topology : List ℕ → List ℕ → Topology = λ corners generations. topology_of c.args.vertices c.args.triangles corners c.args.links.now generations in
    let e : c.loop-s.s-index ≡ c.args.vertices = omega (arith, length-take c.args.vertices c.args.starts.now) in
    made (topology d g) G U c.args.starts.now A _ c.loop-s.s-index e c.loop-s.invariant.1
    (c.loop-s.invariant.2 d g)
