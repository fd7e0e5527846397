-- The stamps of the sides out of one vertex.
use mathlib.Core.Path.{◌≡◌, refl, sym, ap, ◌∙◌}
use mathlib.Core.Logic.{◌≢◌}
use mathlib.Core.List.{List}
use Prim.Native.Nat.{ℕ, ◌+◌, ◌-◌, ◌*◌, ◌≤◌, ◌<◌}
use native.Mathlib.Omega.{arith}
use native.Mathlib.Decide.{ℕ_discrete, dec_lt}
use lib.ListN.{length, get_or, set, length-set}
use lib.Seq.{get_or-set_same, get_or-set_other}
use Rattle.rules.specs.Cage.{Cage}
use Rattle.rules.specs.Conditions.{SidesDiffer}
use Rattle.rules.specs.Tables.{next, boundary}
use Rattle.decoding.specs.Decoded.{Readable}
use Rattle.pairing.specs.Pairing.{Last, Threads, EndsAt, Stamps, Stamping, Stamp, taken, free}

-- ---- along a thread

-- p is one more than a side out of v, or 0.
pub record Cursor (c : Cage) (v p : ℕ) : Type 0 where
  pub most : p ≤ 3 * c.triangles
  pub from : (h : ℕ) → p ≡ h + 1 → c.corner h ≡ v

pub cursor : {c : Cage} {i v p : ℕ} → i ≤ 3 * c.triangles → Last c i v p → Cursor c v p
cursor b L = record { most = omega (arith, L.most); from = L.from }

-- The thread of v starts, and goes on from side h.
pub starts : {c : Cage} {heads nexts : List ℕ} {v p : ℕ} → Threads c (3 * c.triangles) heads nexts → v < c.vertices
    → p ≡ get_or heads v 0 → Last c (3 * c.triangles) v p
starts {v = v} T l e = rw e (T.head v l)

pub goes_on : {c : Cage} {heads nexts : List ℕ} {v p q : ℕ} (h : ℕ) → Threads c (3 * c.triangles) heads nexts
    → Cursor c v p → p ≡ h + 1 → q ≡ get_or nexts h 0 → Last c h v q
goes_on h T C e f = rw f (rw (C.from h e) at (T.next h (omega (arith, C.most))))

-- The corner at a place that a call names is a vertex.
pub corner_read : {v f k n : ℕ} {corners : List ℕ} → Readable v f corners → k < 3 * f → n ≡ k
    → (get_or corners k 0 ≡ get_or corners n 0) × (get_or corners n 0 < v)
corner_read R l e = rw e (refl, R.corner _ l)

-- ---- stamps

pub stamp_most : {c : Cage} {v : ℕ} {slots : List ℕ} → Stamps c v slots → (w : ℕ) → w < c.vertices
    → get_or slots w 0 ≤ 3 * c.triangles
stamp_most {c} {slots = slots} S w b = go (ℕ_discrete (get_or slots w 0) 0)
  where
    go : Dec (get_or slots w 0 ≡ 0) → get_or slots w 0 ≤ 3 * c.triangles
    go (yes e) = omega arith
    go (no e) = omega (arith, (S.each w (get_or slots w 0 - 1) b (omega arith)).in_use)

-- No side out of v is stamped yet.
pub stamping_none : {c : Cage} {v p : ℕ} {slots : List ℕ} → Last c (3 * c.triangles) v p → Stamps c v slots
    → Stamping c v p slots
stamping_none L S = record {
  stamps = record {
    room = S.room;
    each = λ w k b e.
        let E = S.each w k b e in
        record { in_use = E.in_use; onto = E.onto; from = omega (arith, E.from) };
  };
  late = λ w k b e f. absurd (omega (arith, (S.each w k b e).from));
  seen = λ h a l e. absurd (L.none h a l e);
}

-- What holds of a new stamp and of the old ones holds of each.
each_stamp : (P : ℕ → ℕ → Type 0) (slots : List ℕ) (n w p h : ℕ) → w < length slots → p ≡ h + 1 → P w h
    → ((x k : ℕ) → x < n → get_or slots x 0 ≡ k + 1 → P x k) → (x k : ℕ) → x < n → get_or (set slots w p) x 0 ≡ k + 1
    → P x k
each_stamp P slots n w p h l e new old x k b f = go (ℕ_discrete x w)
  where
    go : Dec (x ≡ w) → P x k
    go (yes i) =
        let g : get_or (set slots w p) w 0 ≡ k + 1 = rw i at f in
        let z : k ≡ h = omega (arith, get_or-set_same slots w p 0 l) in
        rw (i, z) new
    go (no i) = old x k b (sym (get_or-set_other slots w x p 0 i) ∙ f)

-- Side h, the next of the thread, ends at w.
module _ {c : Cage} {v p w : ℕ} {slots : List ℕ} (h : ℕ) (S : Stamping c v p slots) (C : Cursor c v p) (e : p ≡ h + 1)
    (t : c.corner (next h) ≡ w) (b : w < c.vertices) where
  -- A side out of v is stamped there.
  pub twice : {k : ℕ} → get_or slots w 0 ≡ k + 1 → c.corner k ≡ v → ¬ SidesDiffer c
  twice {k} f o D =
      let E = S.stamps.each w k b f in
      let i = D k h E.in_use (omega (arith, C.most)) (o ∙ sym (C.from h e)) (E.onto ∙ sym t) in
      omega (arith, S.late w k b f o)

  -- None is stamped there.
  pub stamping_more : {q : ℕ} → ((k : ℕ) → get_or slots w 0 ≡ k + 1 → c.corner k ≢ v) → Last c h v q
      → Stamping c v q (set slots w p)
  stamping_more {q} n L =
      let r : w < length slots = omega (arith, S.stamps.room) in
      let l : h < 3 * c.triangles = omega (arith, C.most) in
      record {
        stamps = record {
          room = simp length-set S.stamps.room;
          each =
              each_stamp (EndsAt c (v + 1)) slots c.vertices w p h r e
              (record { in_use = l; onto = t; from = omega (arith, C.from h e) }) S.stamps.each;
        };
        late =
            each_stamp (λ x k. c.corner k ≡ v → q ≤ k) slots c.vertices w p h r e (λ o. L.most)
            (λ x k b f o. omega (arith, S.late x k b f o, L.most));
        seen = λ j a i o. seen' r j a i o (ℕ_discrete j h) (dec_lt j h) (ℕ_discrete (c.corner (next j)) w);
      }
    where
      seen' : w < length slots → (j : ℕ) → q ≤ j → j < 3 * c.triangles → c.corner j ≡ v → Dec (j ≡ h) → Dec (j < h)
          → Dec (c.corner (next j) ≡ w) → get_or (set slots w p) (c.corner (next j)) 0 ≡ j + 1
      seen' r j a i o (yes x) y z = rw (x, t) (get_or-set_same slots w p 0 r ∙ e)
      seen' r j a i o (no x) (yes y) z = absurd (L.none j a y o)
      seen' r j a i o (no x) (no y) (yes z) =
          absurd (n j (ap (λ (k : ℕ). get_or slots k 0) (sym z) ∙ S.seen j (omega arith) i o) o)
      seen' r j a i o (no x) (no y) (no z) =
          get_or-set_other slots w (c.corner (next j)) p 0 z ∙ S.seen j (omega arith) i o

-- ---- what a stamp says

pub is_taken : {corner : ℕ → ℕ} {slots : List ℕ} {v w r : ℕ} → Stamp corner slots v w r → r ≢ boundary
    → (k : ℕ) × (get_or slots w 0 ≡ k + 1) × (corner k ≡ v)
is_taken (taken {k} e f) n = (k, e, f)
is_taken (free f) n = absurd (n refl)

pub is_free : {corner : ℕ → ℕ} {slots : List ℕ} {v w r : ℕ} → Stamp corner slots v w r → r ≡ boundary
    → get_or slots w 0 ≤ boundary → (k : ℕ) → get_or slots w 0 ≡ k + 1 → corner k ≢ v
is_free (taken e f) i b = absurd (omega arith)
is_free (free f) i b = f
