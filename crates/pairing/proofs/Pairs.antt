-- The sides of all vertices, one vertex after the other.
use mathlib.Core.Path.{◌≡◌, sym, ap, subst, ◌∙◌}
use mathlib.Core.List.{List}
use Prim.Native.Nat.{ℕ, ◌+◌, ◌*◌, ◌<◌}
use native.Mathlib.Omega.{arith}
use native.Mathlib.Decide.{ℕ_discrete}
use lib.ListN.{get_or}
use Rattle.rules.specs.Promises.{Matches}
use Rattle.theory.proofs.Links.Sides.{next_lt, previous_next}
use Rattle.rules.specs.Cage.{Cage}
use Rattle.rules.specs.Tables.{next, previous}
use Rattle.pairing.specs.Pairing.{Stamps, Stamping, Linking, Matched}

-- The sides into the vertices below v are linked, and no two sides out of them run the same way.
pub record Pairing (c : Cage) (v : ℕ) (slots links : List ℕ) : Type 0 where
  pub stamps : Stamps c v slots
  pub linking : Linking c v (3 * c.triangles) links
  pub differ : (h k : ℕ) → h < 3 * c.triangles → k < 3 * c.triangles → c.corner h < v → c.corner h ≡ c.corner k
      → c.corner (next h) ≡ c.corner (next k) → h ≡ k

-- One vertex more.
pub pairing_more : {c : Cage} {v : ℕ} {slots slots' links links' : List ℕ} → Pairing c v slots links
    → Stamping c v 0 slots' → Linking c v 0 links' → Pairing c (v + 1) slots' links'
pairing_more {c} {v} {slots' = slots'} {links' = links'} P S K = record {
  stamps = S.stamps;
  linking = record {
    room = K.room;
    before = λ h l b. linked h l b (ℕ_discrete (c.corner h) v);
    here = λ h l e a. absurd (omega arith);
  };
  differ = λ h k l i b x y. same h k l i b x y (ℕ_discrete (c.corner h) v);
}
  where
    linked : (h : ℕ) → h < 3 * c.triangles → c.corner h < v + 1 → Dec (c.corner h ≡ v)
        → Matches c (previous h) (get_or links' (previous h) 0)
    linked h l b (yes e) = K.here h l e (omega arith)
    linked h l b (no e) = K.before h l (omega arith)

    same : (h k : ℕ) → h < 3 * c.triangles → k < 3 * c.triangles → c.corner h < v + 1 → c.corner h ≡ c.corner k
        → c.corner (next h) ≡ c.corner (next k) → Dec (c.corner h ≡ v) → h ≡ k
    same h k l i b x y (yes e) =
        let p = S.seen h (omega arith) l e in
        let q = S.seen k (omega arith) i (sym x ∙ e) in
        omega (arith, sym p ∙ ap (λ (w : ℕ). get_or slots' w 0) y ∙ q)
    same h k l i b x y (no e) = P.differ h k l i (omega arith) x y

pub all_matched : {c : Cage} {v : ℕ} {slots links : List ℕ} → ((h : ℕ) → h < 3 * c.triangles → c.corner h < v)
    → Pairing c v slots links → Matched c links
all_matched {c} {links = links} b P = record {
  differ = λ h k l i. P.differ h k l i (b h l);
  room = P.linking.room;
  match = λ h l.
      let i = next_lt h c.triangles l in
      subst (λ (k : ℕ). Matches c k (get_or links k 0)) (previous_next h) (P.linking.before (next h) i (b (next h) i));
}
