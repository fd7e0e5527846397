-- Notes of a mirrored mesh, which are the same.
use Prim.Native.Nat.{ℕ, zero, suc, ◌+◌, ◌-◌, ◌*◌}
use mathlib.Core.Bool.{Bool, ◌&&◌}
use mathlib.Core.List.{List, [], ◌∷◌}
use mathlib.Core.Path.{◌≡◌, refl, ap, ap₂, ◌∙◌}
use lib.Dec.{eqb, ltb, leb}
use lib.ListN.{length}
use Rattle.theory.proofs.Mirrors.MirrorRefusals.{tables_mirror, sound_mirror, refine_refused}
use Rattle.theory.proofs.Mirrors.MirrorTables.{get_or_mirror}
use Rattle.theory.proofs.Mirrors.MirrorWork.{refine_mirror}
use Rattle.theory.proofs.Mirrors.Opposites.{mirror_same}
use Rattle.rules.specs.Below.{all}
use Rattle.rules.specs.Calls.{first_of, ◌if◌, refine_refusal}
use Rattle.rules.specs.Mirror.{mirror}
use Rattle.rules.specs.Notes.{differs, changed_slots, nines_of, note_of, refined, noted_refusal, noted_triangle}
use Rattle.rules.specs.Notes.{old_v, old_f, note_slots, note_nine, put_back, put_back_all, restored}
use Rattle.rules.specs.Notes.{same_in_use, accepted, take_back_refusal}
use Rattle.rules.specs.Sound.{is_sound}
use Rattle.rules.specs.Split.{Work, at_first}
use Rattle.rules.specs.Tables.{Mesh, with_topology, with_counts}

and_same : {a a' b b' c c' : Bool} (first : Bool) → a ≡ a' → b ≡ b' → c ≡ c'
    → (first && a && b && c) ≡ (first && a' && b' && c')
and_same first e f g = rw (e, f, g)

module _ (k : ℕ) where
  refined_mirror : (t : ℕ) (m : Mesh) → refined t (mirror k m) ≡ mirror k (refined t m)
  refined_mirror t m = ap (λ (w : Work). w.mesh) (refine_mirror k t (at_first m))

  -- ---- what is noted

  slots_mirror : (m n : Mesh) → changed_slots (mirror k m) (mirror k n) ≡ changed_slots m n
  unfolding differs
  slots_mirror m n = refl

  nines_mirror : (m : Mesh) (slots : List ℕ) → nines_of (mirror k m) slots ≡ nines_of m slots
  unfolding nines_of
  nines_mirror m [] = refl
  nines_mirror m (s ∷ rest) = rw (nines_mirror m rest)

  pub note_mirror : (t : ℕ) (m : Mesh)
      → note_of t (mirror k m) (refined t (mirror k m)) ≡ note_of t m (refined t m)
  note_mirror t m =
      let head : List ℕ → List ℕ → List ℕ =
      λ slots nines. t ∷ m.topology.vertices ∷ m.topology.triangles ∷ length slots ∷ nines in
      ap (note_of t (mirror k m)) (refined_mirror t m)
      ∙ ap (λ (slots : List ℕ). head slots (nines_of (mirror k m) slots)) (slots_mirror m (refined t m))
      ∙ ap (head (changed_slots m (refined t m))) (nines_mirror m (changed_slots m (refined t m)))

  pub noted_refused : (t : ℕ) (note : List ℕ) (m : Mesh) → noted_refusal t note (mirror k m) ≡ noted_refusal t note m
  unfolding noted_refusal
  noted_refused t note m =
      ap₂
      (λ (r : ℕ) (l : List ℕ). elim r [
        | zero ↦ first_of (22 if ltb (length note) (length l) ∷ [])
        | suc n ↦ suc n
      ])
      (refine_refused k m t) (note_mirror t m)

  -- ---- what is taken back

  put_back_mirror : (note : List ℕ) (n : ℕ) (m : Mesh) → put_back_all note n (mirror k m) ≡ mirror k (put_back_all note n m)
  unfolding put_back_all
  put_back_mirror note zero m = refl
  put_back_mirror note (suc n) m = ap (put_back note n) (put_back_mirror note n m)

  pub restored_mirror : (note : List ℕ) (m : Mesh) → restored note (mirror k m) ≡ mirror k (restored note m)
  unfolding restored
  restored_mirror note m =
      ap (λ (n : Mesh). with_topology (with_counts (old_v note) (old_f note) n.topology) n)
      (put_back_mirror note (note_slots note) m)

  same_mirror : (m n : Mesh) → same_in_use (mirror k m) (mirror k n) ≡ same_in_use m n
  unfolding same_in_use
  same_mirror m n = simp (get_or_mirror, mirror_same)

  accepted_mirror : (note : List ℕ) (m : Mesh) → accepted note (mirror k m) ≡ accepted note m
  unfolding accepted
  accepted_mirror note m =
      let t = noted_triangle note in
      let old = restored note m in
      let e = restored_mirror note m in
      and_same
      (leb (4 + 9 * note_slots note) (length note)
      && all (note_slots note - 1) (λ i. ltb (note_nine note i 0) (note_nine note (suc i) 0))
      && all (note_slots note) (λ i. ltb (note_nine note i 0) (old_f note)))
      (ap is_sound e ∙ sound_mirror k old)
      (ap (λ (n : Mesh). eqb (refine_refusal t n) 0) e ∙ ap (λ (r : ℕ). eqb r 0) (refine_refused k old t))
      (ap (λ (n : Mesh). same_in_use (mirror k m) (refined t n)) e
      ∙ ap (same_in_use (mirror k m)) (refined_mirror t old)
      ∙ same_mirror m (refined t old))

  pub take_back_refused : (note : List ℕ) (m : Mesh) → take_back_refusal note (mirror k m) ≡ take_back_refusal note m
  unfolding take_back_refusal
  take_back_refused note m = rw (tables_mirror k m, sound_mirror k m, accepted_mirror note m)
