-- Links that fit, each told from its own side, are links as the rules ask.
use Prim.Native.Nat.{ℕ, ◌<◌}
use native.Mathlib.Omega.{arith}
use mathlib.Core.Logic.{◌⊎◌, inl, inr}
use mathlib.Core.Path.{◌≡◌, sym, ap, ◌∙◌}
use lib.Dec.{T}
use Rattle.theory.proofs.Numbers.Decide.{Decides, is_self, is_eq, is_lt, is_iff, is_and, is_or}
use Rattle.rules.specs.Sound.{Linked, role, five_kinds}
use Rattle.rules.specs.Tables.{Topology, sides, origin, target, boundary, link}
use Rattle.sides.specs.Parts.{partner_fits, link_fits}

module _ (m : Topology) where
  pub record PartnerFits (h k : ℕ) : Type 0 where
    pub back : link m k ≡ h
    pub from : origin m k ≡ target m h
    pub kind : T (five_kinds (role m h) (role m k))

  partner_is : (h k : ℕ) → Decides (partner_fits m h k) (PartnerFits h k)
  unfolding partner_fits
  partner_is h k = is_iff (λ ((b, f), t). record { back = b; from = f; kind = t })
      (λ P. ((P.back, P.from), P.kind))
      (is_and (is_and (is_eq (link m k) h) (is_eq (origin m k) (target m h)))
      (is_self (five_kinds (role m h) (role m k))))

  abbrev pub LinkFits : ℕ → Type 0
  LinkFits h = (link m h ≡ boundary) ⊎ ((link m h < sides m) × PartnerFits h (link m h))

  pub link_is : (h : ℕ) → Decides (link_fits m h) (LinkFits h)
  unfolding link_fits
  link_is h = is_or (is_eq (link m h) boundary) (is_and (is_lt (link m h) (sides m)) (partner_is h (link m h)))

  -- What the partner k of h tells: it ends where h starts.
  onto : sides m < boundary → (h k : ℕ) → h < sides m → link m k ≡ h → LinkFits k → target m k ≡ origin m h
  onto few h k l b (inl e) = absurd (omega arith)
  onto few h k l b (inr (_, P)) = sym P.from ∙ ap (λ (x : ℕ). origin m x) b

  pub links_fit : sides m < boundary → ((h : ℕ) → h < sides m → LinkFits h) → (h : ℕ) → h < sides m
      → (link m h ≡ boundary) ⊎ Linked m h
  links_fit few f h l = go (f h l)
    where
      go : LinkFits h → (link m h ≡ boundary) ⊎ Linked m h
      go (inl e) = inl e
      go (inr (u, P)) = inr (record {
        in_use = u;
        back = P.back;
        from = P.from;
        onto = onto few h (link m h) l P.back (f (link m h) u);
        kind = P.kind;
      })

  pub link_fits_lem : (h : ℕ) → (link m h ≡ boundary) ⊎ Linked m h → LinkFits h
  link_fits_lem h (inl e) = inl e
  link_fits_lem h (inr L) = inr (L.in_use, record { back = L.back; from = L.from; kind = L.kind })
