-- The links of triangles that are left, which are told where the sides that they name have moved.
use mathlib.Core.Path.{◌≡◌, refl, ◌∙◌, subst}
use mathlib.Core.Logic.{◌≢◌, inl, inr}
use mathlib.Core.List.{List}
use Prim.Native.Nat.{ℕ, ◌+◌, ◌*◌, ◌/◌, ◌%◌, ◌≤◌, ◌<◌}
use native.Mathlib.Omega.{arith}
use native.Mathlib.Decide.{ℕ_discrete}
use Rattle.theory.proofs.Links.Manifold.{Manifold, Joined}
use Rattle.theory.proofs.Splits.Bases.{Settling, kept, flipped, settling_manifold}
use Rattle.theory.proofs.Splits.FlipRead.{by_flip_name}
use Rattle.theory.proofs.Splits.Settled.{Settled, done, then, nowhere, unchanged_not, settling_still}
use Rattle.theory.proofs.Splits.Settled.{settled_still}
use Rattle.rules.specs.Promises.{Still}
use Rattle.rules.specs.Tables.{Topology, sides, link, generation}

-- From m to n side k moves: the side 1 of a triangle that is written anew, or the side 2 of one that X names.
pub data Moves (X : ℕ → Type 0) (m n : Topology) (k : ℕ) : Type 0 where
  side₁ : k % 3 ≡ 1 → generation n (k / 3) ≢ generation m (k / 3) → Moves X m n k
  side₂ : k % 3 ≡ 2 → X (k / 3) → Moves X m n k

-- The link of side h is as before, or it names a side that moves; this is then side 0 of a triangle.
pub data Told (X : ℕ → Type 0) (m n : Topology) (h : ℕ) : Type 0 where
  as_before : link n h ≡ link m h → ¬ Moves X m n (link m h) → Told X m n h
  anew : link n h % 3 ≡ 0 → Moves X m n (link m h) → Told X m n h

-- The boundary does not move.
pub names_in_use : {m : Topology} (h : ℕ) → Joined m h → link m h % 3 ≡ 1 → link m h / 3 < m.triangles
names_in_use h (inl e) o = absurd (omega arith)
names_in_use h (inr M) o = omega (arith, M.in_use)

-- A link changes exactly if its side moves.
pub told_moves : {X : ℕ → Type 0} {m n : Topology} {h : ℕ} → Told X m n h → link n h ≢ link m h
    → Moves X m n (link m h)
told_moves (as_before e s) d = absurd (d e)
told_moves (anew z M) d = M

pub moves_told : {X : ℕ → Type 0} {m n : Topology} {h : ℕ} → Told X m n h → Moves X m n (link m h)
    → link n h ≢ link m h
moves_told (as_before e s) M = absurd (s M)
moves_told (anew z M) (side₁ o _) = λ e. omega arith
moves_told (anew z M) (side₂ o _) = λ e. omega arith

-- Where X does not name the triangle of the link, X does not matter.
pub told_less : {X : ℕ → Type 0} {m n : Topology} {h : ℕ} → (link m h % 3 ≡ 2 → ¬ X (link m h / 3)) → Told X m n h
    → Told nowhere m n h
told_less f (as_before e s) = as_before e (λ M. elim M [ side₁ o d ↦ s (side₁ o d) | side₂ _ b ↦ b ])
told_less f (anew z (side₁ o d)) = anew z (side₁ o d)
told_less f (anew z (side₂ o x)) = absurd (f o x)

-- ---- one after the other

-- Generations rise from m to k, and from there to n.
pub record Rise (m k n : Topology) : Type 0 where
  pub early : (x : ℕ) → x < m.triangles → generation m x ≤ generation k x
  pub late : (x : ℕ) → x < m.triangles → generation k x ≤ generation n x

pub still_rise : {m k n : Topology} → Still m k → Still k n → Rise m k n
still_rise A B = record { early = A.mono; late = λ x l. let g = A.grows in B.mono x (omega arith) }

module _ {m k n : Topology} (up : Rise m k n) where
  -- What is left from m to n is left on the way.
  pub left_between : {x : ℕ} → x < m.triangles → generation n x ≡ generation m x
      → (generation k x ≡ generation m x) × (generation n x ≡ generation k x)
  left_between {x} l e = let a = up.early x l in let b = up.late x l in (omega arith, omega arith)

  module _ {X : ℕ → Type 0} (h : ℕ) (J : Joined m h) where
    moves_first : Moves X m k (link m h) → Moves X m n (link m h)
    moves_first (side₂ o x) = side₂ o x
    moves_first (side₁ o d) = side₁ o (λ q. d (left_between (names_in_use h J o) q).0)

    moves_second : Moves nowhere k n (link m h) → Moves X m n (link m h)
    moves_second (side₂ _ b) = absurd b
    moves_second (side₁ o d) = side₁ o (λ q. d (left_between (names_in_use h J o) q).1)

    moves_never : ¬ Moves X m k (link m h) → ¬ Moves nowhere k n (link m h) → ¬ Moves X m n (link m h)
    moves_never s r (side₂ o x) = s (side₂ o x)
    moves_never s r (side₁ o d) = go (ℕ_discrete (generation k (link m h / 3)) (generation m (link m h / 3)))
      where
        go : Dec (generation k (link m h / 3) ≡ generation m (link m h / 3)) → ⊥
        go (no e) = s (side₁ o e)
        go (yes e) = r (side₁ o (λ q. d (q ∙ e)))

    -- A side that has moved is side 0, and does not move again.
    pub told_on : Told X m k h → Told nowhere k n h → Told X m n h
    told_on (as_before e s) (as_before f r) =
        as_before (f ∙ e) (moves_never s (subst (λ (y : ℕ). ¬ Moves nowhere k n y) e r))
    told_on (as_before e s) (anew z M) = anew z (moves_second (subst (Moves nowhere k n) e M))
    told_on (anew z M) (as_before f r) = anew (omega arith) (moves_first M)
    told_on (anew z M) (anew _ (side₁ o _)) = absurd (omega arith)
    told_on (anew z M) (anew _ (side₂ _ b)) = absurd b

-- ---- flips

-- No side moves where nothing changes.
none_moves : (m : Topology) (h : ℕ) → Told nowhere m m h
none_moves m h = as_before refl (λ M. elim M [ side₁ o d ↦ d refl | side₂ _ b ↦ b ])

settling_told : (c h : ℕ) (m n : Topology) → Settling c m n → h < sides m → generation n (h / 3) ≡ generation m (h / 3)
    → Told nowhere m n h
settling_told c h m n (kept y) l e = none_moves m h
settling_told c h m n (flipped u B S) l e =
    by_flip_name c u (λ y. link n h ≡ y → Told nowhere m n h) B.differ (link m h)
    (λ o q. to_base c u o q (λ z. omega (arith, S.generation_s)))
    (λ o q. to_base u c o q (λ z. omega (arith, S.generation_u, B.same)))
    (λ i j q. as_before q (elsewhere i j))
    (S.links h l (unchanged_not m n (λ z. omega (arith, S.generation_s)) e)
    (unchanged_not m n (λ z. omega (arith, S.generation_u, B.same)) e))
  where
    to_base : (x y : ℕ) → link m h ≡ 3 * x + 1 → link n h ≡ 3 * y → generation n x ≢ generation m x
        → Told nowhere m n h
    to_base x y o q d =
        let z : link m h / 3 ≡ x = omega arith in
        anew (omega arith)
        (side₁ (omega arith) (λ p. d (subst (λ (i : ℕ). generation n i ≡ generation m i) z p)))

    elsewhere : link m h ≢ 3 * c + 1 → link m h ≢ 3 * u + 1 → ¬ Moves nowhere m n (link m h)
    elsewhere i j (side₁ o d) = d (S.generations (link m h / 3) (omega arith) (omega arith))
    elsewhere i j (side₂ _ b) = b

-- One flip, and then the others.
flip_told_on : (c h : ℕ) (m k n : Topology) → Manifold m → Settling c m k → Still k n → h < sides m
    → generation n (h / 3) ≡ generation m (h / 3)
    → (h < sides k → generation n (h / 3) ≡ generation k (h / 3) → Told nowhere k n h) → Told nowhere m n h
flip_told_on c h m k n F o T l e ih =
    let A = settling_still c m k F o in
    let up : Rise m k n = still_rise A T in
    let x = left_between up (omega arith) e in
    told_on up h (F.linked h l) (settling_told c h m k o l x.0) (ih (omega (arith, A.grows)) x.1)

pub settled_told : (h : ℕ) {cs : List ℕ} {m n : Topology} → Settled cs m n → Manifold m → h < sides m
    → generation n (h / 3) ≡ generation m (h / 3) → Told nowhere m n h
settled_told h (done {m = m}) F l e = none_moves m h
settled_told h (then {c = c} {m = m} {k = k} {n = n} o s) F l e =
    flip_told_on c h m k n F o (settled_still s (settling_manifold c m k F o)) l e
    (settled_told h s (settling_manifold c m k F o))
