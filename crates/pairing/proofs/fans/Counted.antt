-- The sides out of a vertex, counted along its thread: p is one more than the last of them, q than the one before.
use Prim.Native.Nat.{ℕ, ◌-◌, ◌*◌, ◌≤◌, ◌<◌}
use native.Mathlib.Decide.{ℕ_discrete, dec_lt}
use native.Mathlib.Omega.{arith}
use mathlib.Core.Bool.{not}
use mathlib.Core.List.{List, []}
use mathlib.Core.Logic.{◌≢◌, inl, inr}
use mathlib.Core.Path.{◌≡◌, ap, sym, ◌∙◌}
use lib.Dec.{eqb}
use lib.ListN.{get_or}
use Rattle.theory.proofs.Loads.InnerOfTwo.{OneOf, all_of_two, two_are_all, some_out}
use Rattle.theory.proofs.Numbers.Decide.{Decides, is_eq, is_iff, is_not, bit_yes, bit_no}
use Rattle.theory.proofs.Numbers.Sums.{total_one}
use Rattle.rules.specs.Below.{bit}
use Rattle.rules.specs.Conditions.{InnerOfTwo}
use Rattle.rules.specs.Ring.{OnBoundary}
use Rattle.rules.specs.Tables.{topology_of, boundary}
use Rattle.decoding.specs.Decoded.{decoded}
use Rattle.pairing.specs.Pairing.{Last, Threads}

-- Vertex w, with the threads of all.
pub record AtVertex (v f : ℕ) (corners links heads nexts : List ℕ) (w : ℕ) : Type 0 where
  pub threads : Threads (decoded v f corners) (3 * f) heads nexts
  pub in_use : w < v

module _ {v f : ℕ} {corners links heads nexts : List ℕ} {w : ℕ} (K : AtVertex v f corners links heads nexts w)
    {p : ℕ} (e : p ≡ get_or heads w 0) where
  T : Threads (decoded v f corners) (3 * f) heads nexts
  T = K.threads

  L : Last (decoded v f corners) (3 * f) w (get_or heads w 0)
  L = T.head w K.in_use

  pub none_out : p ≡ 0 → ¬ InnerOfTwo (topology_of v f corners links []) w
  none_out z x =
      let (h, l, o) = some_out (topology_of v f corners links []) w (omega (arith, x.1)) in
      L.none h (omega arith) l o

  module _ (n : p ≢ 0) where
    pub first_in_use : p - 1 < 3 * f
    first_in_use = omega (arith, L.most)

    first_out : get_or corners (p - 1) 0 ≡ w
    first_out = L.from (p - 1) (omega arith)

    module _ {q : ℕ} (d : q ≡ get_or nexts (p - 1) 0) where
      below_first : q ≤ p - 1
      below_first = omega (arith, (T.next (p - 1) first_in_use).most)

      -- The sides out of w from q on: the last of all, and no other.
      from_second : (x : ℕ) → q ≤ x → x < 3 * f → get_or corners x 0 ≡ w → x ≡ p - 1
      from_second x l i o = go (ℕ_discrete x (p - 1)) (dec_lt x (p - 1))
        where
          go : Dec (x ≡ p - 1) → Dec (x < p - 1) → x ≡ p - 1
          go (yes s) t = s
          go (no s) (yes t) =
              absurd ((T.next (p - 1) first_in_use).none x (omega arith) t (o ∙ sym first_out))
          go (no s) (no t) = absurd (L.none x (omega arith) i o)

      pub only_one : q ≡ 0 → ¬ InnerOfTwo (topology_of v f corners links []) w
      only_one z x =
          let one =
          total_one (3 * f) (p - 1) (λ h. bit (eqb (get_or corners h 0) w)) first_in_use (λ h l s.
          bit_no (is_eq (get_or corners h 0) w) (λ o. s (from_second h (omega arith) l o))) in
          let yes = bit_yes (is_eq (get_or corners (p - 1) 0) w) first_out in
          omega (arith, x.1)

      module _ (k : q ≢ 0) where
        pub second_in_use : q - 1 < 3 * f
        second_in_use = omega (arith, below_first, first_in_use)

        second_out : get_or corners (q - 1) 0 ≡ w
        second_out = (T.next (p - 1) first_in_use).from (q - 1) (omega arith) ∙ first_out

        apart : p - 1 ≢ q - 1
        apart = omega (arith, below_first)

        pub third_out : get_or nexts (q - 1) 0 ≢ 0 → ¬ InnerOfTwo (topology_of v f corners links []) w
        third_out z x =
            let r : ℕ = get_or nexts (q - 1) 0 in
            let N = T.next (q - 1) second_in_use in
            let most : r ≤ q - 1 = N.most in
            go (all_of_two (topology_of v f corners links []) w (p - 1) (q - 1) first_in_use second_in_use first_out
            second_out apart x.1 (r - 1) (omega (arith, second_in_use))
            (N.from (r - 1) (omega arith) ∙ second_out)) (omega (arith, below_first)) (omega arith)
          where
            go : {y : ℕ} → OneOf (p - 1) (q - 1) y → y ≢ p - 1 → y ≢ q - 1 → ⊥
            go (inl s) i j = i s
            go (inr s) i j = j s

        pub first_on_boundary : get_or links (p - 1) 0 ≡ boundary → ¬ InnerOfTwo (topology_of v f corners links []) w
        first_on_boundary s x = x.0 (p - 1, first_in_use, first_out, s)

        module _ (z : get_or nexts (q - 1) 0 ≡ 0) where
          both : (x : ℕ) → x < 3 * f → get_or corners x 0 ≡ w → OneOf (p - 1) (q - 1) x
          both x l o = go (ℕ_discrete x (q - 1)) (dec_lt x (q - 1))
            where
              go : Dec (x ≡ q - 1) → Dec (x < q - 1) → OneOf (p - 1) (q - 1) x
              go (yes s) t = inr s
              go (no s) (yes t) =
                  absurd ((T.next (q - 1) second_in_use).none x (omega arith) t (o ∙ sym second_out))
              go (no s) (no t) = inl (from_second x (omega arith) l o)

          inner : get_or links (p - 1) 0 ≢ boundary → get_or links (q - 1) 0 ≢ boundary
              → ¬ OnBoundary (topology_of v f corners links []) w
          inner i j (x, l, o, s) = go (both x l o)
            where
              go : OneOf (p - 1) (q - 1) x → ⊥
              go (inl t) = i (ap (λ (y : ℕ). get_or links y 0) (sym t) ∙ s)
              go (inr t) = j (ap (λ (y : ℕ). get_or links y 0) (sym t) ∙ s)

          pub just_two : get_or links (p - 1) 0 ≢ boundary
              → Decides (not (eqb (get_or links (q - 1) 0) boundary)) (InnerOfTwo (topology_of v f corners links []) w)
          just_two i =
              is_iff (λ j. (
                inner i j,
                two_are_all (topology_of v f corners links []) w (p - 1) (q - 1) first_in_use second_in_use first_out
                    second_out apart both,
              ))
              (λ x s. x.0 (q - 1, second_in_use, second_out, s))
              (is_not (is_eq (get_or links (q - 1) 0) boundary))
