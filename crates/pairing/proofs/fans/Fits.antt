-- What the fans' test says, from what its parts say.
use Prim.Native.Nat.{ℕ, ◌*◌, ◌-◌, ◌<◌}
use native.Mathlib.Omega.{arith}
use mathlib.Core.Bool.{Bool, true, false, not, ◌&&◌}
use mathlib.Core.List.{List}
use mathlib.Core.Logic.{inr}
use mathlib.Core.Path.{◌≡◌, refl, sym}
use lib.Dec.{T}
use lib.ListN.{get_or}
use Rattle.theory.proofs.Loads.InnerOfTwo.{two_turn_back, some_two_is}
use Rattle.theory.proofs.Numbers.Decide.{Decides, is_all, is_same, is_false, when_true}
use Rattle.theory.proofs.Rings.FanTest.{one_fan_is}
use Rattle.theory.proofs.Rings.Turning.{Glued}
use Rattle.rules.specs.Below.{all, any}
use Rattle.rules.specs.Cage.{turns_back}
use Rattle.rules.specs.Conditions.{InnerOfTwo}
use Rattle.rules.specs.Sound.{OneFan, has_one_fan}
use Rattle.rules.specs.Tables.{Topology, sides, origin}
use Rattle.rings.specs.Walks.{AllBegun}
use Rattle.decoding.specs.Decoded.{decoded}
use Rattle.pairing.specs.Pairing.{Threads}

-- The threads' heads are sides to walk from, before the boundary is looked at.
pub threads_begin : {v f : ℕ} {origins partners heads nexts : List ℕ}
    → Threads (decoded v f origins) (3 * f) heads nexts → AllBegun v origins partners (3 * f) 0 heads
threads_begin {heads} T = record {
  size = T.head_room;
  each = λ x l.
      let L = T.head x l in
      let p : ℕ = get_or heads x 0 in
      record {
        none = λ e h i. L.none h (omega arith) i;
        in_use = L.most;
        out = λ k. L.from (p - 1) (omega arith);
        best = λ k. inr (λ h i. absurd (omega arith));
      };
}

fails : (a b : Bool) → T b → false ≡ a && not b
fails true true t = refl
fails true false t = absurd t
fails false b t = refl

module _ (m : Topology) (G : Glued m) (n : ℕ) where
  -- Some vertex off the boundary has two triangles.
  pub two_found : (v : ℕ) × (v < n) × InnerOfTwo m v → false ≡ all n (has_one_fan m) && not (any (sides m) (turns_back m))
  two_found (v, l, x) = fails (all n (has_one_fan m)) (any (sides m) (turns_back m)) (two_turn_back m G v x)

  -- None has, and r says whether each has one fan.
  pub none_found : {r : Bool} → ((h : ℕ) → h < sides m → origin m h < n) → ¬ ((v : ℕ) × (v < n) × InnerOfTwo m v)
      → r ≡ all n (has_one_fan m) → r ≡ all n (has_one_fan m) && not (any (sides m) (turns_back m))
  none_found {r} corner none e = go r e
    where
      fans : Decides (all n (has_one_fan m)) ((v : ℕ) → v < n → OneFan m v)
      fans = is_all n (has_one_fan m) (OneFan m) (λ v l. one_fan_is m G v)

      go : (r : Bool) → r ≡ all n (has_one_fan m) → r ≡ all n (has_one_fan m) && not (any (sides m) (turns_back m))
      go true e =
          let d = some_two_is m G n corner (when_true fans (sym e)) in
          rw (← e, is_same d (is_false none)) refl
      go false e = rw (← e) refl
