-- Cuts and flips one after the other, and the links that follow their sides.
use mathlib.Core.Path.{◌≡◌, refl, sym, ap, ◌∙◌, subst}
use mathlib.Core.List.{List, [], ◌∷◌, ◌++◌}
use Prim.Native.Nat.{ℕ, ◌/◌, ◌≤◌, ◌<◌}
use native.Mathlib.Omega.{arith}
use Rattle.rules.specs.Actions.{Action, MayAct, acted, place_after, MayActAll, acted_all, place_after_all}
use Rattle.rules.specs.Actions.{LeadsTo, new_place}
use Rattle.rules.specs.Promises.{Follows}
use Rattle.rules.specs.Tables.{Topology, sides, link, generation}

-- ---- lists of actions

acted_then : (xs ys : List Action) (m : Topology) → acted_all (xs ++ ys) m ≡ acted_all ys (acted_all xs m)
acted_then [] ys m = refl
acted_then (x ∷ xs) ys m = acted_then xs ys (acted x m)

place_then : (xs ys : List Action) (m : Topology) (h : ℕ)
    → place_after_all (xs ++ ys) m h ≡ place_after_all ys (acted_all xs m) (place_after_all xs m h)
place_then [] ys m h = refl
place_then (x ∷ xs) ys m h = place_then xs ys (acted x m) (place_after x m h)

may_then : (xs ys : List Action) (m : Topology) → MayActAll xs m → MayActAll ys (acted_all xs m) → MayActAll (xs ++ ys) m
may_then [] ys m p q = q
may_then (x ∷ xs) ys m p q = (p.0, may_then xs ys (acted x m) p.1 q)

abbrev pub leads_none : (m : Topology) → LeadsTo m m
leads_none m = record { actions = []; may_act = tt; makes = refl }

module _ {m k n : Topology} (A : LeadsTo m k) (B : LeadsTo k n) where
  pub leads_on : LeadsTo m n
  leads_on = record {
    actions = A.actions ++ B.actions;
    may_act =
        may_then A.actions B.actions m A.may_act
        (subst (MayActAll B.actions) (sym A.makes) B.may_act);
    makes = acted_then A.actions B.actions m ∙ ap (acted_all B.actions) A.makes ∙ B.makes;
  }

  pub place_on : (h : ℕ) → new_place B (new_place A h) ≡ new_place leads_on h
  unfolding leads_on
  place_on h =
      ap (λ (j : Topology). place_after_all B.actions j (new_place A h)) (sym A.makes)
      ∙ sym (place_then A.actions B.actions m h)

-- ---- links that follow

pub follows_none : (m : Topology) → Follows m m
follows_none m = record { leads = leads_none m; links = λ h l e. refl }

pub follows_one : {m n : Topology} (a : Action) → MayAct a m → acted a m ≡ n
    → ((h : ℕ) → h < sides m → generation n (h / 3) ≡ generation m (h / 3) → link n h ≡ place_after a m (link m h))
    → Follows m n
follows_one a may e links = record {
  leads = record { actions = a ∷ []; may_act = (may, tt); makes = e };
  links = links;
}

-- A triangle that keeps its generation from m to n has it at k too.
pub follows_on : {m k n : Topology} → m.triangles ≤ k.triangles
    → ((x : ℕ) → x < m.triangles → generation n x ≡ generation m x
    → (generation k x ≡ generation m x) × (generation n x ≡ generation k x))
    → Follows m k → Follows k n → Follows m n
follows_on {m} grows kept A B = record {
  leads = leads_on A.leads B.leads;
  links = λ h l e.
      let x = kept (h / 3) (omega arith) e in
      B.links h (omega arith) x.1 ∙ ap (new_place B.leads) (A.links h l x.0)
      ∙ place_on A.leads B.leads (link m h);
}
