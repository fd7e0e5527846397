-- The first refusal of a call that reads, found test by test.
use Rattle.std.proofs.Common.{Result, Err, ℕ, ◌*◌, ◌<◌, ◌≤◌, Bool, true, false, not, eqb, leb, ltb, List, [], ◌∷◌, length, ℤ, ◌≡◌}
use Rattle.std.proofs.Common.{◌≢◌, refl, sym, ap, ◌∙◌, le-leb, lt-ltb, le-ltb}
use borrow.Author.Tests.{lt-leb}
use Rattle.theory.proofs.Calls.CallRefusals.{position_refusal_first}
use Rattle.theory.proofs.Numbers.Decide.{stable}
use Rattle.theory.proofs.Calls.FirstThatHolds.{two_kept, refuses, carries, none_hold}
use Rattle.theory.proofs.Soundness.SoundTest.{tables_agree_is}
use Rattle.points.specs.declared.Point.{Point}
use Rattle.rules.specs.Calls.{◌if◌, first_of, answer_of, outcome_of, no_room, buffer_room}
use Rattle.rules.specs.Calls.{refused_with, closed_even, long_ring}
use Rattle.rules.specs.Calls.{limit_refusal, ring_refusal, ring_read, ring_call, position_refusal}
use Rattle.rules.specs.Calls.{position_read, position_call}
use Rattle.rules.specs.Ring.{ring}
use Rattle.rules.specs.Sound.{is_sound}
use Rattle.rules.specs.Tables.{Mesh, TablesAgree, tables_agree}
use Rattle.std.specs.Result.{IsErrAnd}
use Rattle.std.proofs.lemmas.Result.{err_from_is_err_and}
use Rattle.tables.specs.Lent.{point_in}
use Rattle.tables.specs.Refusals.{number, refused}
use Rattle.tables.specs.declared.refusals.Refusal.{Refusal}
use Rattle.tables.proofs.Refusing.{number_some}
use Rattle.reading.specs.Answers.{point_outcome}
use Rattle.tables.specs.Standing.{standing, slot_refusal}

pub limit_standing : (table : List ℤ) (m : Mesh) (r : ℕ) → r ≡ standing m → r ≢ 0 → r ≡ limit_refusal table m
unfolding limit_refusal
limit_standing table m r =
    two_kept (not (tables_agree m)) (not (is_sound m)) (
    12 if not (closed_even m.topology)
    ∷ 13 if long_ring m.topology
    ∷ 15 if not (eqb (length table) (3 * m.topology.vertices))
    ∷ []
    ) r

-- ---- ring

module _ (v : ℕ) (buffer : List ℕ) (m : Mesh) where
  -- The refusal by the answers of its tests. A test that was not made stands for itself.
  ring_by_tests : {a b d e : Bool} → tables_agree m ≡ a → is_sound m ≡ b → leb m.topology.vertices v ≡ d
      → ltb (length buffer) (length (ring m.topology v)) ≡ e
      → first_of (1 if not a ∷ 7 if not b ∷ 8 if d ∷ 14 if e ∷ []) ≡ ring_refusal v buffer m
  unfolding ring_refusal
  ring_by_tests a b d e = rw (ring_refusal, a, b, d, e)

  pub ring_one : tables_agree m ≡ false → 1 ≡ ring_refusal v buffer m
  ring_one a = ring_by_tests a refl refl refl

  module _ (a : tables_agree m ≡ true) where
    pub ring_seven : is_sound m ≡ false → 7 ≡ ring_refusal v buffer m
    ring_seven b = ring_by_tests a b refl refl

    module _ (b : is_sound m ≡ true) where
      pub ring_eight : m.topology.vertices ≤ v → 8 ≡ ring_refusal v buffer m
      ring_eight l = ring_by_tests a b (le-leb _ _ l) refl

      module _ (l : v < m.topology.vertices) where
        pub ring_fourteen : length buffer < length (ring m.topology v) → 14 ≡ ring_refusal v buffer m
        ring_fourteen k = ring_by_tests a b (lt-leb _ _ l) (lt-ltb _ _ k)

        pub ring_none : length (ring m.topology v) ≤ length buffer → 0 ≡ ring_refusal v buffer m
        ring_none k = ring_by_tests a b (lt-leb _ _ l) (le-ltb _ _ k)

-- ---- outcomes

module _ (v : ℕ) (buffer : List ℕ) (m : Mesh) (r : ℕ) (e : r ≡ ring_refusal v buffer m) where
  pub ring_refused : r ≢ 0 → refused_with r m (buffer_room buffer) ≡ ring_call v buffer m
  unfolding ring_call
  ring_refused = refuses m (buffer_room buffer) (ring_read v buffer m) (ring_refusal v buffer m) r e

  pub ring_carried : r ≡ 0 → ring_read v buffer m ≡ ring_call v buffer m
  unfolding ring_call
  ring_carried = carries m (buffer_room buffer) (ring_read v buffer m) (ring_refusal v buffer m) r e

module _ (v : ℕ) (m : Mesh) (r : ℕ) (e : r ≡ slot_refusal m.topology.vertices v m) where
  of_position : r ≡ position_refusal v m
  unfolding position_refusal
  of_position = e

  pub position_refused : r ≢ 0 → refused_with r m no_room ≡ position_call v m
  unfolding position_call
  position_refused = refuses m no_room (position_read v m) (position_refusal v m) r of_position

  module _ (z : r ≡ 0) where
    pub position_carried : {p : Point} → p ≡ point_in m.positions v
        → outcome_of (answer_of 0 0 0 0 (p.x, p.y, p.z) m) m no_room ≡ position_call v m
    unfolding position_call
    position_carried i =
        ap (λ (p : Point). outcome_of (answer_of 0 0 0 0 (p.x, p.y, p.z) m) m no_room) i
        ∙ carries m no_room (position_read v m) (position_refusal v m) r of_position z

    pub position_agrees : TablesAgree m
    position_agrees = stable (tables_agree_is m) (none_hold (position_refusal_first v m) (sym of_position ∙ z) tt).0

-- A refusal that is passed on.
pub position_passed : (v : ℕ) (m : Mesh) (r : Result Point Refusal) {s : Result (Unit {0}) Refusal} {x : Refusal} → s ≡ Err x
    → IsErrAnd r (λ y. y ≡ x) → refused s ≡ slot_refusal m.topology.vertices v m → point_outcome r m ≡ position_call v m
position_passed v m r was q e =
    let (y, is, same) = err_from_is_err_and r q in
    rw is (position_refused v m (number y) (ap number same ∙ sym (ap refused was) ∙ e) (number_some y))
