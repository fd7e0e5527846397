-- What a viewer is given of one vertex and of all triangles, by the outcomes of the calls.
use Rattle.std.proofs.Common.{ℕ, zero, suc, ◌+◌, ◌*◌, ◌/◌, ◌%◌, ◌≤◌, arith, List, length, ◌≡◌, ◌≢◌, refl, sym, ap}
use Rattle.std.proofs.Common.{◌∙◌, Float}
use Rattle.theory.proofs.Calls.CallRefusals.{position_judged, position_refusal_first, view_refusal_first}
use Rattle.theory.proofs.Calls.FirstThatHolds.{Judged, carried, refused, judged_carried, none_hold}
use Rattle.theory.proofs.Numbers.Decide.{is_lt, stable}
use Rattle.theory.proofs.Numbers.Fill.{length_fill, get_or_fill, drop_fill}
use Rattle.theory.proofs.Soundness.SoundTest.{sound_is}
use Rattle.rules.specs.Below.{fill}
use Rattle.rules.specs.Calls.{Outcome, no_room, refused_with, unless, zero_point, position_refusal, position_read}
use Rattle.rules.specs.Calls.{position_call, view_refusal, view_read, view_call}
use Rattle.rules.specs.Numbers.{InRange}
use Rattle.rules.specs.Sound.{Sound}
use Rattle.rules.specs.Tables.{Mesh, origin}
use Rattle.viewer.specs.declared.Seen.TheVariants as Seen·
use Rattle.viewer.specs.declared.ViewPoint.{ViewPoint}
use Rattle.viewer.specs.View.{in_millimetres, told, seen_unless, seen_of, entry_of, shown, shown_unless}
use Rattle.viewer.specs.View.{Corners, ShownIn}

-- A table that is long enough holds the corners' points in slot order.
pub shown_holds : (m : Mesh) (table : List Float) → 9 * m.topology.triangles ≤ length table
    → ShownIn m table (shown m table)
unfolding shown
shown_holds m table l = record {
  size = length_fill (9 * m.topology.triangles) (entry_of m.positions m.topology.corners) table;
  entries = λ t c k a b d e.
      let q : (9 * t + 3 * c + k) / 3 ≡ 3 * t + c = omega arith in
      let r : (9 * t + 3 * c + k) % 3 ≡ k = omega arith in
      get_or_fill (9 * m.topology.triangles) (entry_of m.positions m.topology.corners) table (9 * t + 3 * c + k) e l
      (omega arith)
      ∙ rw (q, r) refl;
  later =
      drop_fill (9 * m.topology.triangles) (entry_of m.positions m.topology.corners) table
      (9 * m.topology.triangles) (omega arith);
}

-- ---- the point of a vertex

refused_number : (n : ℕ) (p : ViewPoint) → n ≢ 0 → Seen·.Refused n ≡ seen_unless n p
refused_number zero p x = absurd (x refl)
refused_number (suc n) p x = refl

told_number : (n : ℕ) → n ≢ 0 → told (seen_unless n (in_millimetres zero_point)) ≡ (n, in_millimetres zero_point)
told_number zero x = absurd (x refl)
told_number (suc n) x = refl

-- The answer tells the number, and the point, which is zeros on a refusal.
pub position_told : (v : ℕ) (m : Mesh) →
    let o = position_call v m in
    told (seen_of o) ≡ (o.answer.refusal, in_millimetres o.answer.point)
position_told v m = go (position_judged v m)
  where
    go : {o : Outcome} → Judged (position_refusal v m) m no_room (position_read v m) o
        → told (seen_of o) ≡ (o.answer.refusal, in_millimetres o.answer.point)
    go (carried e) = refl
    go (refused x) = told_number (position_refusal v m) x

module _ (v : ℕ) (m : Mesh) (o : Outcome) (e : o ≡ position_call v m) where
  pub refused_seen : o.answer.refusal ≢ 0 → Seen·.Refused o.answer.refusal ≡ seen_of (position_call v m)
  refused_seen x = refused_number o.answer.refusal (in_millimetres o.answer.point) x ∙ ap seen_of e

  module _ (z : o.answer.refusal ≡ 0) where
    pub read_seen : Seen·.Point (in_millimetres o.answer.point) ≡ seen_of (position_call v m)
    read_seen = ap (λ (n : ℕ). seen_unless n (in_millimetres o.answer.point)) (sym z) ∙ ap seen_of e

    pub read_near : InRange o.answer.point.0 × InRange o.answer.point.1 × InRange o.answer.point.2
    read_near =
        let read = judged_carried (position_judged v m) (ap (λ (x : Outcome). x.answer.refusal) (sym e) ∙ z) in
        let N = none_hold (position_refusal_first v m) read.0 tt in
        let S = stable (sound_is m) N.1.0 in
        let l = stable (is_lt v m.topology.vertices) N.1.1.0 in
        rw (e, read.1)
        (S.range (3 * v + 0) (omega arith), S.range (3 * v + 1) (omega arith), S.range (3 * v + 2) (omega arith))

-- ---- all triangles

-- Refused or not, the answer has the refusal's number and nothing else.
answered : (n : ℕ) (m : Mesh) → refused_with n m no_room ≡ unless n m no_room (view_read m)
answered zero m = refl
answered (suc n) m = refl

kept : (n : ℕ) (m : Mesh) (table : List Float) → n ≢ 0 → table ≡ shown_unless n m table
kept zero m table x = absurd (x refl)
kept (suc n) m table x = refl

module _ (n : ℕ) (m : Mesh) (r : ℕ) (e : r ≡ view_refusal n m) where
  pub view_answered : refused_with r m no_room ≡ view_call n m
  unfolding view_call
  view_answered = answered r m ∙ ap (λ (k : ℕ). unless k m no_room (view_read m)) e

  pub view_kept : (table : List Float) → r ≢ 0 → table ≡ shown_unless (view_refusal n m) m table
  view_kept table x = kept r m table x ∙ ap (λ (k : ℕ). shown_unless k m table) e

  module _ (z : r ≡ 0) where
    pub passed : Sound m × (9 * m.topology.triangles ≤ n)
    passed =
        let N = none_hold (view_refusal_first n m) (sym e ∙ z) tt in
        let l : 9 * m.topology.triangles ≤ n = omega (arith, N.1.1.0) in
        (stable (sound_is m) N.1.0, l)

    pub view_fits : 3 * (3 * m.topology.triangles) ≤ n
    view_fits = omega (arith, passed.1)

    pub view_corners : Corners (3 * m.topology.triangles) m.positions m.topology.corners
    view_corners =
        let S = passed.0 in
        record {
          held = omega (arith, S.triangle_room, S.tables.corners);
          few = omega (arith, S.triangle_room, S.tables.few_triangles);
          vertex = λ h l. omega (arith, S.corner h l, S.vertex_room);
          in_range = λ h l.
              let c = S.corner h l in
              record {
                x = S.range (3 * origin m.topology h + 0) (omega (arith, c));
                y = S.range (3 * origin m.topology h + 1) (omega (arith, c));
                z = S.range (3 * origin m.topology h + 2) (omega (arith, c));
              };
        }

    pub view_shown : (before : List Float) {after : List Float}
        → after ≡ fill (3 * (3 * m.topology.triangles)) (entry_of m.positions m.topology.corners) before
        → after ≡ shown_unless (view_refusal n m) m before
    unfolding shown
    view_shown before x =
        let nine : 3 * (3 * m.topology.triangles) ≡ 9 * m.topology.triangles = omega arith in
        x ∙ ap (λ (k : ℕ). fill k (entry_of m.positions m.topology.corners) before) nine
        ∙ ap (λ (k : ℕ). shown_unless k m before) (sym z ∙ e)
