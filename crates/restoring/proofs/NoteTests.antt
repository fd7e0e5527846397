-- Notes that fit, and that every accepted note does.
use mathlib.Core.List.{List}
use mathlib.Core.Logic.{◌⊎◌, inl, inr}
use mathlib.Core.Path.{◌≡◌, refl, ◌∙◌}
use Prim.Native.Nat.{ℕ, zero, suc, ◌+◌, ◌-◌, ◌*◌, ◌≤◌, ◌<◌}
use native.Mathlib.Decide.{ℕ_discrete}
use native.Mathlib.Omega.{arith}
use lib.ListN.{length, get_or, set, length-set}
use lib.Seq.{get_or-set_same, get_or-set_other}
use Rattle.theory.proofs.Numbers.Decide.{Decides, is_eq, is_lt, is_le, is_iff, is_and, is_or, is_all}
use Rattle.rules.specs.Notes.{old_f, note_slots, note_nine, put_back_all, restored, Accepted}
use Rattle.rules.specs.Sound.{Sound}
use Rattle.rules.specs.Tables.{Mesh}
use Rattle.restoring.specs.Fitting.{slot_rises, slot_fits, note_fits, NoteFits}

-- ---- the test as a statement

module _ (note : List ℕ) where
  abbrev Rises : ℕ → Type 0
  Rises i = (i ≡ 0) ⊎ (note_nine note (i - 1) 0 < note_nine note i 0)

  -- What the tests of slot i say.
  record SlotFits (i : ℕ) : Type 0 where
    rises : Rises i
    in_use : note_nine note i 0 < old_f note
    generation : note_nine note i 7 ≤ 20
    lock : note_nine note i 8 ≤ 1

  slot_rises_is : (i : ℕ) → Decides (slot_rises note i) (Rises i)
  slot_rises_is i = is_or (is_eq i 0) (is_lt (note_nine note (i - 1) 0) (note_nine note i 0))

  slot_fits_is : (i : ℕ) → Decides (slot_fits note i) (SlotFits i)
  unfolding slot_fits
  slot_fits_is i =
      is_iff (λ (((r, u), g), k). record { rises = r; in_use = u; generation = g; lock = k })
      (λ S. (((S.rises, S.in_use), S.generation), S.lock))
      (is_and (is_and (is_and
      (slot_rises_is i)
      (is_lt (note_nine note i 0) (old_f note)))
      (is_le (note_nine note i 7) 20))
      (is_le (note_nine note i 8) 1))

  rises_after : (i : ℕ) → Rises (suc i) → note_nine note i 0 < note_nine note (suc i) 0
  rises_after i (inl e) = absurd (omega arith)
  rises_after i (inr l) = let e : suc i - 1 ≡ i = omega arith in rw e at l

  rises_at : (i : ℕ) → ((j : ℕ) → suc j ≡ i → note_nine note j 0 < note_nine note (suc j) 0) → Rises i
  rises_at zero f = inl refl
  rises_at (suc i) f = let e : suc i - 1 ≡ i = omega arith in inr (rw e (f i refl))

  pub note_fits_is : Decides (note_fits note) (NoteFits note)
  unfolding note_fits
  note_fits_is =
      is_iff
      (λ (long, each). record {
        long = long;
        rising = λ i l. rises_after i (each (suc i) l).rises;
        in_use = λ i l. (each i l).in_use;
        generations = λ i l. (each i l).generation;
        locks = λ i l. (each i l).lock;
      })
      (λ N. (
        N.long,
        λ i l. record {
          rises = rises_at i (λ j e. N.rising j (omega arith));
          in_use = N.in_use i l;
          generation = N.generations i l;
          lock = N.locks i l;
        },
      ))
      (is_and (is_le (4 + 9 * note_slots note) (length note))
      (is_all (note_slots note) (slot_fits note) SlotFits (λ i l. slot_fits_is i)))

-- ---- what stands in the restored tables

-- A list with the first n of these values in these places, one after the other.
stored : (ℕ → ℕ) → (ℕ → ℕ) → ℕ → List ℕ → List ℕ
stored place value zero l = l
stored place value (suc n) l = set (stored place value n l) (place n) (value n)

module _ (place value : ℕ → ℕ) (l : List ℕ) where
  length_stored : (n : ℕ) → length (stored place value n l) ≡ length l
  unfolding stored
  length_stored zero = refl
  length_stored (suc n) = length-set (stored place value n l) (place n) (value n) ∙ length_stored n

  -- Places that rise keep what is put there.
  get_or_stored : (n : ℕ) → ((i : ℕ) → suc i < n → place i < place (suc i)) → (i : ℕ) → i < n → place i < length l
      → get_or (stored place value n l) (place i) 0 ≡ value i
  unfolding stored
  get_or_stored zero up i b r = absurd (omega arith)
  get_or_stored (suc n) up i b r = go (ℕ_discrete i n) (λ c. get_or_stored n (λ j d. up j (omega arith)) i c r)
    where
      far : (d j : ℕ) → j + suc d < suc n → place j < place (j + suc d)
      far zero j c =
          let e : j + 1 ≡ suc j = omega arith in
          rw e (up j (omega arith))
      far (suc d) j c =
          let e : j + suc (suc d) ≡ suc (j + suc d) = omega arith in
          let below = far d j (omega arith) in
          let last = up (j + suc d) (omega arith) in
          rw e (omega arith)

      apart : i < n → place i < place n
      apart c =
          let e : i + suc (n - suc i) ≡ n = omega arith in
          rw e at (far (n - suc i) i (omega arith))

      go : Dec (i ≡ n) → (i < n → get_or (stored place value n l) (place i) 0 ≡ value i)
          → get_or (set (stored place value n l) (place n) (value n)) (place i) 0 ≡ value i
      go (yes e) ih =
          let b : place i < length (stored place value n l) = omega (arith, length_stored n) in
          rw e (get_or-set_same (stored place value n l) (place n) (value n) 0 (rw e at b))
      go (no e) ih =
          let c : i < n = omega arith in
          let p = apart c in
          get_or-set_other (stored place value n l) (place n) (place i) (value n) 0 (λ q. omega arith) ∙ ih c

module _ (note : List ℕ) (m : Mesh) where
  put_generations : (n : ℕ)
      → (put_back_all note n m).topology.generations
      ≡ stored (λ i. note_nine note i 0) (λ i. note_nine note i 7) n m.topology.generations
  unfolding put_back_all stored
  put_generations zero = refl
  put_generations (suc n) = rw (put_generations n) refl

  put_locks : (n : ℕ)
      → (put_back_all note n m).locks ≡ stored (λ i. note_nine note i 0) (λ i. note_nine note i 8) n m.locks
  unfolding put_back_all stored
  put_locks zero = refl
  put_locks (suc n) = rw (put_locks n) refl

  module _ (rising : (i : ℕ) → suc i < note_slots note → note_nine note i 0 < note_nine note (suc i) 0)
      (S : Sound (restored note m)) (i : ℕ) (b : i < note_slots note) (u : note_nine note i 0 < old_f note) where
    young : note_nine note i 7 ≤ 20
    unfolding restored
    young =
        let slot : ℕ → ℕ = λ j. note_nine note j 0 in
        let value : ℕ → ℕ = λ j. note_nine note j 7 in
        let e = put_generations (note_slots note) in
        let size = length_stored slot value m.topology.generations (note_slots note) in
        let room : old_f note ≤ length m.topology.generations = rw (← size, ← e) S.triangle_room in
        rw (← get_or_stored slot value m.topology.generations (note_slots note) rising i b (omega arith), ← e)
        (S.generations (slot i) u)

    locked_or_not : note_nine note i 8 ≤ 1
    unfolding restored
    locked_or_not =
        let slot : ℕ → ℕ = λ j. note_nine note j 0 in
        let value : ℕ → ℕ = λ j. note_nine note j 8 in
        let e = put_locks (note_slots note) in
        let size = length_stored slot value m.locks (note_slots note) in
        let slots : length (put_back_all note (note_slots note) m).locks
        ≡ length (put_back_all note (note_slots note) m).topology.generations = S.tables.locks in
        let many : old_f note ≤ length (put_back_all note (note_slots note) m).topology.generations
        = S.triangle_room in
        let room : old_f note ≤ length m.locks = rw (← size, ← e) (omega arith) in
        rw (← get_or_stored slot value m.locks (note_slots note) rising i b (omega arith), ← e)
        (S.locks (slot i) u)

  -- An accepted note fits: in a sound mesh no generation is above 20 and no lock above 1.
  pub accepted_fits : Accepted note m → NoteFits note
  accepted_fits A = record {
    long = A.long;
    rising = A.rising;
    in_use = A.in_use;
    generations = λ i l. young A.rising A.sound i l (A.in_use i l);
    locks = λ i l. locked_or_not A.rising A.sound i l (A.in_use i l);
  }
