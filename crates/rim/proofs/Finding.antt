-- The rim of a vertex is found: what each test tells; and the outcome of its curve.
use Rattle.std.proofs.Common.{Some, None, ℕ, ◌*◌, ◌<◌, ◌≤◌, arith, Bool, true, false, not, leb, ltb, List, [], ◌∷◌, length}
use Rattle.std.proofs.Common.{ℤ, ◌≡◌, ◌≢◌, refl, ap, ◌∙◌, subst, le-leb, lt-ltb, le-ltb}
use borrow.Author.Tests.{lt-leb}
use Rattle.theory.proofs.Calls.CallRefusals.{on_rim_is}
use Rattle.theory.proofs.Calls.FirstThatHolds.{refuses, carries}
use Rattle.theory.proofs.Numbers.Decide.{is_same, is_true, is_false, when_true}
use Rattle.theory.proofs.Rings.RingTheory.{ring_makes}
use Rattle.theory.proofs.Soundness.Relaxed.{sound_manifold}
use Rattle.theory.proofs.Soundness.SoundTest.{sound_is}
use Rattle.rules.specs.Below.{fill}
use Rattle.rules.specs.Calls.{outcome_of, answer_of, refused_with, table_room, zero_point, first_of, ◌if◌}
use Rattle.rules.specs.Promises.{RingMakes}
use Rattle.rules.specs.Rim.{on_rim, rim, curve_at, curve_refusal, curve_read, curve_call}
use Rattle.rules.specs.Ring.{first_side}
use Rattle.rules.specs.Sound.{Sound, is_sound}
use Rattle.rules.specs.Tables.{Topology, Mesh, tables_agree, sides, origin, boundary, link}
use Rattle.soundness.proofs.Answers.{start_none, start_some}
use Rattle.soundness.specs.Parts.{start_if}
use Rattle.rim.proofs.Writing.{few}
use Rattle.tables.specs.Refusals.{number}
use Rattle.tables.specs.declared.refusals.Refusal.{Refusal}
use Rattle.tables.proofs.Refusing.{number_some}
use Rattle.rim.specs.Traced.{OnRimSide, Closes, Traced, Refused, Found}
use Rattle.rim.specs.declared.FoundRim.{FoundRim}
use Rattle.rim.specs.declared.Trace.{Trace}

module _ (v room : ℕ) (m : Mesh) where
  abbrev t : Topology
  t = m.topology

  -- The refusal by the answers of its tests. A test that was not made stands for itself.
  by_tests : (table : List ℤ) {a b d e f : Bool} → tables_agree m ≡ a → is_sound m ≡ b → leb t.vertices v ≡ d
      → on_rim t v ≡ e → ltb (length table) (9 * length (rim t v)) ≡ f
      → first_of (1 if not a ∷ 7 if not b ∷ 8 if d ∷ 24 if not e ∷ 25 if f ∷ []) ≡ curve_refusal v table m
  unfolding curve_refusal
  by_tests table a b d e f = rw (curve_refusal, a, b, d, e, f)

  pub finds_one : tables_agree m ≡ false → Refused v room 1 m
  finds_one a = record { first = λ b _. by_tests b a refl refl refl refl }

  module _ (a : tables_agree m ≡ true) where
    pub finds_seven : None ≡ start_if (is_sound m) t v → Refused v room 7 m
    finds_seven s =
        record { first = λ b _. by_tests b a (start_none (is_sound m) t v s) refl refl refl }

    module _ {start : ℕ} (s : Some start ≡ start_if (is_sound m) t v) where
      sound : is_sound m ≡ true
      sound = (start_some (is_sound m) t v s).0

      first : start ≡ first_side t v
      first = (start_some (is_sound m) t v s).1

      pub finds_eight : t.vertices ≤ v → Refused v room 8 m
      finds_eight l =
          record { first = λ b _. by_tests b a sound (le-leb _ _ l) refl refl }

      module _ (l : v < t.vertices) where
        S : Sound m
        S = when_true (sound_is m) sound

        R : RingMakes t v
        R = ring_makes S v l

        first_in_use : start < sides t
        first_in_use = rw first (subst (λ (h : ℕ). h < sides t) R.first (R.in_use 0 R.some))

        pub first_read : start < length t.links
        first_read = omega (arith, first_in_use, S.tables.links, S.triangle_room)

        pub finds_twenty_four : link t start ≢ boundary → Refused v room 24 m
        finds_twenty_four n =
            let off = is_same (on_rim_is t v) (is_false (λ x. n (ap (λ (h : ℕ). link t h) first ∙ R.start.0 x))) in
            record { first = λ b _. by_tests b a sound (lt-leb _ _ l) off refl }

        module _ (e : link t start ≡ boundary) where
          out : origin t start ≡ v
          out = ap (λ (h : ℕ). origin t h) first ∙ R.starts_out

          on : on_rim t v ≡ true
          on = is_same (on_rim_is t v) (is_true (start, first_in_use, out, e))

          pub first_on_rim : OnRimSide t start
          first_on_rim = record {
            manifold = sound_manifold S;
            side = record { in_use = first_in_use; out = refl; edge = e };
          }

          module _ {trace : Trace} (follows : OnRimSide t start → Closes t start trace) where
            C : Closes t start trace
            C = follows first_on_rim

            traced : Traced m start trace
            traced = record { sound = S; on_rim = first_on_rim; closes = C }

            pub few_on_rim : trace.length ≤ 32768
            few_on_rim = few m traced

            size : trace.length ≡ length (rim t v)
            size = C.size ∙ ap (λ (x : ℕ). length (rim t x)) out

            pub finds_twenty_five : room < 9 * trace.length → Refused v room 25 m
            finds_twenty_five k =
                record {
                  first = λ b r.
                      by_tests b a sound (lt-leb _ _ l) on (lt-ltb (length b) (9 * length (rim t v)) (omega (arith, size)));
                }

            pub finds : 9 * trace.length ≤ room → Found v room m (record { first = start; trace = trace })
            finds k = record {
              traced = traced;
              from = out;
              fits = k;
              accepted = record {
                first = λ b r.
                    by_tests b a sound (lt-leb _ _ l) on (le-ltb (length b) (9 * length (rim t v)) (omega (arith, size)));
              };
            }

module _ (v : ℕ) (table : List ℤ) (m : Mesh) where
  pub curve_refused : (e : Refusal) → Refused v (length table) (number e) m
      → refused_with (number e) m (table_room table) ≡ curve_call v table m
  unfolding curve_call
  curve_refused e R =
      refuses m (table_room table) (curve_read v table m) (curve_refusal v table m) (number e) (R.first table refl)
      (number_some e)

  -- The curve as it is written and answered, from its first side.
  pub curve_carried : {a : FoundRim} {after : List ℤ} → Found v (length table) m a
      → after ≡ fill (9 * a.trace.length) (curve_at m (rim m.topology (origin m.topology a.first))) table
      → outcome_of (answer_of 0 0 0 a.trace.length zero_point m) m (table_room after) ≡ curve_call v table m
  unfolding curve_call
  curve_carried F w =
      let q = F.traced.closes.size in
      rw (w, q, F.from)
      (carries m (table_room table) (curve_read v table m) (curve_refusal v table m) 0 (F.accepted.first table refl) refl)
