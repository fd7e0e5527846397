-- The links of the sides into one vertex.
use mathlib.Core.Path.{◌≡◌, sym, ap, ◌∙◌}
use mathlib.Core.Logic.{◌≢◌}
use mathlib.Core.List.{List}
use Prim.Native.Nat.{ℕ, ◌+◌, ◌*◌, ◌≤◌, ◌<◌}
use native.Mathlib.Omega.{arith}
use native.Mathlib.Decide.{ℕ_discrete, dec_lt}
use lib.ListN.{length, get_or, set, length-set}
use lib.Seq.{get_or-set_same, get_or-set_other}
use Rattle.rules.specs.Promises.{Opposite, Matches, only, alone}
use Rattle.theory.proofs.Links.Sides.{next_previous, previous_lt}
use Rattle.rules.specs.Cage.{Cage}
use Rattle.rules.specs.Tables.{next, previous}
use Rattle.pairing.specs.Pairing.{Last, Stamping, Stamp, taken, free, Linking}
use Rattle.pairing.proofs.Stamps.{Cursor}

-- Sides that follow different sides are different.
apart : (j h : ℕ) → j ≢ h → previous j ≢ previous h
apart j h n e = n (sym (next_previous j) ∙ ap next e ∙ next_previous h)

-- Side h is the next of the thread, so that the previous one runs into v.
module _ {c : Cage} {v p : ℕ} (h : ℕ) (C : Cursor c v p) (e : p ≡ h + 1) where
  onto : c.corner (next (previous h)) ≡ v
  onto = ap c.corner (next_previous h) ∙ C.from h e

  -- Each side opposite to it is stamped at its origin.
  stamped : {slots : List ℕ} {w : ℕ} → Stamping c v 0 slots → c.corner (previous h) ≡ w → (j : ℕ)
      → Opposite c (previous h) j → get_or slots w 0 ≡ j + 1
  stamped {slots} S t j O =
      sym (ap (λ (x : ℕ). get_or slots x 0) (O.onto ∙ t)) ∙ S.seen j (omega arith) O.in_use (O.from ∙ onto)

  -- So the stamp there says what it matches.
  pub matches : {slots : List ℕ} {w r : ℕ} → Stamping c v 0 slots → c.corner (previous h) ≡ w → w < c.vertices
      → Stamp c.corner slots v w r → Matches c (previous h) r
  matches {slots} {w} S t b (taken {k} f o) =
      let E = S.stamps.each w k b f in
      only (record { in_use = E.in_use; from = o ∙ sym onto; onto = E.onto ∙ sym t })
      (λ j O. omega (arith, sym f ∙ stamped S t j O))
  matches {slots} {w} S t b (free n) = alone (λ j O. n j (stamped S t j O) (O.from ∙ onto))

  pub linking_more : {q r : ℕ} {links : List ℕ} → Linking c v p links → Last c h v q → Matches c (previous h) r
      → Linking c v q (set links (previous h) r)
  linking_more {q} {r} {links} K L M =
      let l : h < 3 * c.triangles = omega (arith, C.most) in
      let b : previous h < length links = omega (arith, previous_lt h c.triangles l, K.room) in
      record {
        room = simp length-set K.room;
        before = λ j i o. at b j (λ n. K.before j i o) (ℕ_discrete j h);
        here = λ j i o a. at b j (λ n. later j i o a n (dec_lt j h)) (ℕ_discrete j h);
      }
    where
      at : previous h < length links → (j : ℕ) → (j ≢ h → Matches c (previous j) (get_or links (previous j) 0))
          → Dec (j ≡ h)
          → Matches c (previous j) (get_or (set links (previous h) r) (previous j) 0)
      at b j old (yes x) = rw (x, get_or-set_same links (previous h) r 0 b) M
      at b j old (no x) = rw (get_or-set_other links (previous h) (previous j) r 0 (apart j h x)) (old x)

      later : (j : ℕ) → j < 3 * c.triangles → c.corner j ≡ v → q ≤ j → j ≢ h → Dec (j < h)
          → Matches c (previous j) (get_or links (previous j) 0)
      later j i o a n (yes x) = absurd (L.none j a x o)
      later j i o a n (no x) = K.here j i o (omega arith)
