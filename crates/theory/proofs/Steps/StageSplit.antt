-- The whole step on its way: the next triangle is split.
use mathlib.Core.Path.{◌≡◌, sym, ap, ◌∙◌}
use mathlib.Core.Logic.{◌≢◌, inl, inr}
use Prim.Native.Nat.{ℕ, suc, ◌+◌, ◌*◌, ◌/◌, ◌≤◌, ◌<◌}
use native.Mathlib.Omega.{arith}
use native.Mathlib.Decide.{ℕ_discrete}
use Rattle.theory.proofs.Links.Sides.{next_0, next_1, next_2, by_triangle, Row, rename_a, rename_b, rename_else}
use Rattle.theory.proofs.Splits.Parts.{Parted, face_parts}
use Rattle.theory.proofs.Steps.Children.{Mates, child_of, base_name, later, inward, slot_lt, slot_not, slot₀}
use Rattle.theory.proofs.Steps.Children.{slot₁}
use Rattle.theory.proofs.Steps.Children.{slot₂, name_split, name_waits, name_is, name_lt, inward_waits}
use Rattle.theory.proofs.Steps.Children.{inward_is}
use Rattle.theory.proofs.Steps.Children.{inward_lt}
use Rattle.theory.proofs.Steps.Stage.{Stage}
use Rattle.rules.specs.Actions.{rename_two}
use Rattle.rules.specs.Tables.{Topology, sides, origin, link, generation, next, previous}

-- The child at side h of the triangle that is split.
record Third (d e e' : Topology) (h : ℕ) : Type 0 where
  generation : generation e' (child_of d h) ≡ suc (generation e (h / 3))
  first : origin e' (3 * child_of d h) ≡ origin e h
  third : origin e' (3 * child_of d h + 2) ≡ e.vertices
  base : link e' (3 * child_of d h) ≡ link e h
  inwards : link e' (3 * child_of d h + 1) ≡ 3 * child_of d (next h) + 2
  outward : link e' (3 * child_of d h + 2) ≡ 3 * child_of d (previous h) + 1

third_of_lem : (d e e' : Topology) (t h x y z c : ℕ) → h / 3 ≡ t → child_of d h ≡ x → child_of d (next h) ≡ y
    → child_of d (previous h) ≡ z
    → Row e'.corners 0 x (origin e h) c e.vertices → Row e'.links 0 x (link e h) (3 * y + 2) (3 * z + 1)
    → generation e' x ≡ suc (generation e t) → Third d e e' h
third_of_lem d e e' t h x y z c ht hx hy hz C L G = record {
  generation = rw (ht, hx) G;
  first = rw hx C.0;
  third = rw hx C.2;
  base = rw hx L.0;
  inwards = rw (hx, hy) L.1;
  outward = rw (hx, hz) L.2;
}

module _ (g i : ℕ) (d e e' : Topology) (M : Mates d) (I : Stage g i (3 * i) d e) (more : i < d.triangles)
    (old : (h : ℕ) → h / 3 ≡ i → origin e h ≡ origin d h) (vertices : e.vertices ≡ d.vertices + i)
    (S : Parted i (face_parts i e) e e') where
  -- The child at side 0 keeps the slot, and the two new slots are the first that are free.
  kept₀ : child_of d (3 * i) ≡ i
  kept₀ = slot₀ d.triangles i

  free₁ : child_of d (3 * i + 1) ≡ e.triangles
  free₁ = slot₁ d.triangles i ∙ sym I.triangles

  free₂ : child_of d (3 * i + 2) ≡ e.triangles + 1
  free₂ = slot₂ d.triangles i ∙ ap (λ (x : ℕ). x + 1) (sym I.triangles)

  at : {h k x : ℕ} → k ≡ h → child_of d h ≡ x → child_of d k ≡ x
  at q z = ap (child_of d) q ∙ z

  thirds : (h : ℕ) → h / 3 ≡ i → Third d e e' h
  thirds = by_triangle (λ h. h / 3 ≡ i → Third d e e' h) i
      (λ q. third_of_lem d e e' i (3 * i) i e.triangles (e.triangles + 1) _ q kept₀ (at (next_0 i) free₁)
      (at (omega arith) free₂) S.own.corners S.own.links S.own.generation)
      (λ q. third_of_lem d e e' i (3 * i + 1) e.triangles (e.triangles + 1) i _ q free₁ (at (next_1 i) free₂)
      (at (omega arith) kept₀) S.second.corners S.second.links S.second.generation)
      (λ q. third_of_lem d e e' i (3 * i + 2) (e.triangles + 1) i e.triangles _ q free₂ (at (next_2 i) kept₀)
      (at (omega arith) free₁) S.third.corners S.third.links S.third.generation)
      (λ h n q. absurd (n q))

  -- ---- names

  -- What the split calls an old side.
  abbrev name : ℕ → ℕ
  name = rename_two (3 * i + 1) (3 * e.triangles) (3 * i + 2) (3 * (e.triangles + 1))

  name_else : (h : ℕ) → h ≢ 3 * i + 1 → h ≢ 3 * i + 2 → name h ≡ h
  name_else = rename_else (3 * i + 1) (3 * e.triangles) (3 * i + 2) (3 * (e.triangles + 1))

  name₁ : name (3 * i + 1) ≡ 3 * e.triangles
  name₁ = rename_a (3 * i + 1) (3 * e.triangles) (3 * i + 2) (3 * (e.triangles + 1))

  name₂ : name (3 * i + 2) ≡ 3 * (e.triangles + 1)
  name₂ = rename_b (3 * i + 1) (3 * e.triangles) (3 * i + 2) (3 * (e.triangles + 1)) (omega arith)

  name_same : (h : ℕ) → h / 3 ≢ i → base_name d (suc i) h ≡ base_name d i h
  name_same h ne = elim (name_is d i h) [
    | inl (a, b) ↦ name_split d (suc i) h (omega arith) ∙ sym b
    | inr (a, b) ↦ name_waits d (suc i) h (omega arith) ∙ sym b
  ]

  name_not : (h : ℕ) → h / 3 ≢ i → base_name d i h / 3 ≢ i
  name_not h ne q = elim (name_is d i h) [
    | inl (a, b) ↦ slot_not d h i more ne (omega arith)
    | inr (a, b) ↦ omega arith
  ]

  name_split_on : (h : ℕ) → name (base_name d i h) ≡ base_name d (suc i) h
  name_split_on = by_triangle (λ h. name (base_name d i h) ≡ base_name d (suc i) h) i
      (on (3 * i) (omega arith) (name_else (3 * i) (omega arith) (omega arith) ∙ three kept₀))
      (on (3 * i + 1) (omega arith) (name₁ ∙ three free₁))
      (on (3 * i + 2) (omega arith) (name₂ ∙ three free₂))
      (λ h n.
      let k = name_not h n in
      name_else (base_name d i h) (omega arith) (omega arith) ∙ sym (name_same h n))
    where
      three : {x y : ℕ} → x ≡ y → 3 * y ≡ 3 * x
      three q = ap (λ (z : ℕ). 3 * z) (sym q)

      on : (h : ℕ) → h / 3 ≡ i → name h ≡ 3 * child_of d h → name (base_name d i h) ≡ base_name d (suc i) h
      on h q z = ap name (name_waits d i h (omega arith)) ∙ z ∙ sym (name_split d (suc i) h (omega arith))

  inward_not : (h : ℕ) → h / 3 < i → inward d (3 * i) h / 3 ≢ i
  inward_not h l q = elim (inward_is d (3 * i) h) [
    | inl (a, b) ↦ slot_not d (link d h) i more (omega arith) (omega arith)
    | inr (a, b) ↦ slot_not d h i more (omega arith) (omega arith)
  ]

  -- A link to a side of another triangle stays.
  stays : (k : ℕ) → k / 3 ≢ i → name k ≡ k
  stays k ne = name_else k (omega arith) (omega arith)

  -- ---- the stage

  use_lt : (h : ℕ) → h < sides d → h / 3 < i → 3 * child_of d h + 2 < sides e
  use_lt h l j = omega (arith, slot_lt d h i l j, I.triangles)

  -- What holds of the triangle that is split, and of those split before.
  by_now : (P : ℕ → Type 0) (h : ℕ) → h / 3 < suc i → (h / 3 ≡ i → P h) → (h / 3 < i → P h) → P h
  by_now P h l p q = elim (ℕ_discrete (h / 3) i) [ yes e ↦ p e | no e ↦ q (omega arith) ]

  pub split_stage : Stage g (suc i) (3 * i) d e'
  split_stage = record {
    triangles = omega (arith, S.triangles, I.triangles);
    waiting = λ t j l. S.generations t (omega (arith, I.triangles)) (omega arith) ∙ I.waiting t (omega arith) l;
    risen = λ h l j q. by_now (λ h. generation e' (child_of d h) ≡ suc g) h j
        (λ x. (thirds h x).generation ∙ ap suc (I.waiting (h / 3) (omega arith) (omega arith)))
        (λ x. S.generations (child_of d h) (omega (arith, use_lt h l x)) (slot_not d h i more (omega arith))
        ∙ I.risen h l x q);
    base = λ h l q. base h l q (ℕ_discrete (h / 3) i);
    first = λ h l j. by_now (λ h. origin e' (3 * child_of d h) ≡ origin d h) h j
        (λ x. (thirds h x).first ∙ old h x)
        (λ x. cornered h l x (3 * child_of d h) (omega arith) ∙ I.first h l x);
    second = λ h l j q.
        cornered h l (omega arith) (3 * child_of d h + 1) (omega arith) ∙ I.second h l (omega arith) q;
    third = λ h l j. by_now (λ h. origin e' (3 * child_of d h + 2) ≡ d.vertices + h / 3) h j
        (λ x. (thirds h x).third ∙ omega arith)
        (λ x. cornered h l x (3 * child_of d h + 2) (omega arith) ∙ I.third h l x);
    outward = λ h l j. by_now (λ h. link e' (3 * child_of d h + 2) ≡ inward d (3 * i) (previous h)) h j
        (λ x. (thirds h x).outward ∙ sym (inward_waits d (3 * i) (previous h) (omega arith)))
        (λ x. renamed (3 * child_of d h + 2) (use_lt h l x) (child_not h x (3 * child_of d h + 2) (omega arith))
        (I.outward h l x) ∙ stays _ (inward_not (previous h) (omega arith)));
    inwards = λ h l j. by_now (λ h. link e' (inward d (3 * i) h) ≡ 3 * child_of d (next h) + 2) h j
        (λ x. ap (λ (k : ℕ). link e' k) (inward_waits d (3 * i) h (omega arith)) ∙ (thirds h x).inwards)
        (λ x. renamed (inward d (3 * i) h)
        (omega (arith, inward_lt d M i (3 * i) h (omega arith) l x, I.triangles)) (inward_not h x) (I.inwards h l x)
        ∙ stays _ (child_not (next h) (omega arith) (3 * child_of d (next h) + 2) (omega arith)));
    across = λ h l j q.
        let x : h / 3 < i = omega arith in
        renamed (3 * child_of d h + 1) (omega (arith, use_lt h l x))
        (child_not h x (3 * child_of d h + 1) (omega arith)) (I.across h l x q)
        ∙ stays _ (child_not (link d h) (omega arith) (3 * child_of d (link d h) + 1) (omega arith));
  }
    where
      child_not : (h : ℕ) → h / 3 < i → (k : ℕ) → k / 3 ≡ child_of d h → k / 3 ≢ i
      child_not h x k q z = slot_not d h i more (omega arith) (omega arith)

      cornered : (h : ℕ) → h < sides d → h / 3 < i → (k : ℕ) → k / 3 ≡ child_of d h → origin e' k ≡ origin e k
      cornered h l x k q = S.corners k (omega (arith, use_lt h l x)) (child_not h x k q)

      renamed : (k : ℕ) → k < sides e → k / 3 ≢ i → {x : ℕ} → link e k ≡ x → link e' k ≡ name x
      renamed k l n q = S.links k l n ∙ ap name q

      base : (h : ℕ) → h < sides d → 3 * i ≤ later d h → Dec (h / 3 ≡ i)
          → link e' (base_name d (suc i) h) ≡ base_name d (suc i) (link d h)
      base h l q (yes x) =
          let z = M.other h l in
          ap (λ (k : ℕ). link e' k) (name_split d (suc i) h (omega arith)) ∙ (thirds h x).base
          ∙ ap (λ (k : ℕ). link e k) (sym (name_waits d i h (omega arith))) ∙ I.base h l q
          ∙ sym (name_same (link d h) (omega arith))
      base h l q (no x) =
          ap (λ (k : ℕ). link e' k) (name_same h x)
          ∙ renamed (base_name d i h) (omega (arith, name_lt d i h l, I.triangles)) (name_not h x) (I.base h l q)
          ∙ name_split_on (link d h)
