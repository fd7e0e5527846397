-- Marks put right for one slot after the other.
use borrow.Author.Tests.{eq-eqb, ne_eqb, lt-ltb, le-ltb}
use mathlib.Core.Bool.{Bool, true, false}
use mathlib.Core.List.{List}
use mathlib.Core.Logic.{◌≢◌}
use mathlib.Core.Path.{◌≡◌, refl, sym, ap, ◌∙◌}
use Prim.Native.Nat.{ℕ, ◌+◌, ◌*◌, ◌≤◌, ◌<◌}
use native.Mathlib.Decide.{ℕ_discrete, dec_lt}
use native.Mathlib.Omega.{arith}
use lib.IntN.{ℤ}
use lib.ListN.{length, get_or}
use Rattle.marks.specs.Marks.{marked, Levels, MarkPut}
use Rattle.points.specs.Axes.{in_box}
use Rattle.points.specs.declared.Point.{Point}
use Rattle.rules.specs.Boxes.{Box, wanted}
use Rattle.rules.specs.Tables.{Mesh}
use Rattle.tables.specs.Lent.{point_in}
use Rattle.wanting.specs.Wanting.{Looks, SeenFrom, is_wanted, Right, MarksFit, MarkedFrom, Mended}

-- Whether the marks fit depends on the number of slots, the number of words and the two levels alone.
pub fit_as : {m n : Mesh} {x y v w : List ℕ} → MarksFit m x v
    → length n.topology.generations ≡ length m.topology.generations → length y ≡ length x → Levels y w
    → MarksFit n y w
fit_as F g e L = record { levels = L; room = omega (arith, F.room); few = omega (arith, F.few) }

-- A slot below the count is in use.
pub slot_used : {t f n : ℕ} → f ≡ n → t < f → t < n
slot_used e u = omega arith

module _ {b : Box} {m : Mesh} {c g inside : List ℕ} {k : ℕ} (X : Looks b m c g inside k) {bits words : List ℕ} where
  -- Each slot in use has a mark.
  pub has_mark : MarksFit m bits words → {t : ℕ} → t < m.topology.triangles → t < 64 * length bits
  has_mark F u = omega (arith, F.room, X.sound.triangle_room)

  -- The marks fit each mesh that is read from the same tables.
  pub fit_for : {d : Box} {n : Mesh} → Looks d n c g inside k → MarksFit n bits words → MarksFit m bits words
  fit_for Y F = fit_as F (ap length (sym X.generations ∙ Y.generations)) refl F.levels

-- The mark of slot t is put right, and the other marks stay.
pub record PutRight (t : ℕ) (b : Box) (m : Mesh) (before after words : List ℕ) : Type 0 where
  pub fit : MarksFit m after words
  pub right : Right b m after t
  pub others : (j : ℕ) → j ≢ t → marked after j ≡ marked before j

-- For a slot in use, the test of its triangle alone decides.
used_wanted : (b : Box) (m : Mesh) (t : ℕ) → t < m.topology.triangles → wanted b m t ≡ is_wanted b m t
used_wanted b m t l = rw (lt-ltb t m.topology.triangles l) refl

module _ {t : ℕ} {b : Box} {m : Mesh} {before words : List ℕ} (F : MarksFit m before words)
    (l : t < m.topology.triangles) where
  -- Marking what the test answers puts the mark right.
  pub mark_right : {on : Bool} {after above : List ℕ} → on ≡ wanted b m t
      → MarkPut t on before after × Levels after above × (length above ≡ length words)
      → PutRight t b m before after above
  mark_right e (P, L, _) = record {
    fit = fit_as F refl P.size L;
    right = rw (P.marks t, eq-eqb t t refl) (e ∙ used_wanted b m t l);
    others = λ j n. rw (P.marks j, ne_eqb j t n) refl;
  }

  -- Where the mark is off and the slot is not wanted, nothing is to be put.
  pub off_right : marked before t ≡ false → false ≡ wanted b m t → PutRight t b m before before words
  off_right o e = record { fit = F; right = o ∙ e ∙ used_wanted b m t l; others = λ j n. refl }

-- What was right stays right where a mark is put right.
pub put_keeps : {t : ℕ} {b : Box} {m : Mesh} {before after words : List ℕ} → PutRight t b m before after words
    → (j : ℕ) → Right b m before j → Right b m after j
put_keeps {t} {b} {m} {after = after} P j r = go (ℕ_discrete j t)
  where
    go : Dec (j ≡ t) → Right b m after j
    go (yes e) = rw e P.right
    go (no n) = P.others j n ∙ r

-- ---- the last slots, one after the other

-- The marks from f up to t are right, those before f stay, and those from t on are off.
pub record MarkedTo (f t : ℕ) (b : Box) (m : Mesh) (before after words : List ℕ) : Type 0 where
  pub begun : f ≤ t
  pub fit : MarksFit m after words
  pub stay : (j : ℕ) → j < f → marked after j ≡ marked before j
  pub right : (j : ℕ) → f ≤ j → j < t → Right b m after j
  pub off : (j : ℕ) → t ≤ j → marked after j ≡ false

module _ {f : ℕ} {b : Box} {m : Mesh} {before : List ℕ} where
  pub marked_begins : {words : List ℕ} → MarksFit m before words → ((j : ℕ) → f ≤ j → marked before j ≡ false)
      → MarkedTo f f b m before before words
  marked_begins F o = record {
    begun = omega arith;
    fit = F;
    stay = λ j l. refl;
    right = λ j k l. absurd (omega arith);
    off = o;
  }

  pub marked_on : {t : ℕ} {now words after above : List ℕ} → MarkedTo f t b m before now words
      → PutRight t b m now after above → MarkedTo f (t + 1) b m before after above
  marked_on {t} {after = after} M P = record {
    begun = omega (arith, M.begun);
    fit = P.fit;
    stay = λ j l. P.others j (λ e. omega (arith, M.begun)) ∙ M.stay j l;
    right = λ j h l. go j h l (ℕ_discrete j t);
    off = λ j l. P.others j (λ e. omega arith) ∙ M.off j (omega arith);
  }
    where
      go : (j : ℕ) → f ≤ j → j < t + 1 → Dec (j ≡ t) → Right b m after j
      go j h l (yes e) = rw e P.right
      go j h l (no n) = put_keeps P j (M.right j h (omega arith))

  -- No slot past those in use is wanted, so that marks which are off are right there.
  pub marked_ends : {t : ℕ} {after words : List ℕ} → MarkedTo f t b m before after words → m.topology.triangles ≤ t
      → MarkedFrom f b m before after words
  marked_ends {t} {after} M u = record { fit = M.fit; stay = M.stay; right = λ j h. go j h (dec_lt j t) }
    where
      go : (j : ℕ) → f ≤ j → Dec (j < t) → Right b m after j
      go j h (yes l) = M.right j h l
      go j h (no n) = rw (M.off j (omega arith), le-ltb j m.topology.triangles (omega arith)) refl

-- ---- listed slots, one after the other

module _ {slots : List ℕ} {b : Box} {m : Mesh} {before : List ℕ} where
  pub mended_begins : {words : List ℕ} → MarksFit m before words → Mended 0 slots b m before before words
  mended_begins F = record { fit = F; stay = λ j r. r; right = λ i l u. absurd (omega arith) }

  module _ {i : ℕ} {now words : List ℕ} (M : Mended i slots b m before now words) where
    -- The entry after those is treated alone, and what is right for them stays right.
    entry : (x : List ℕ) → ((j : ℕ) → Right b m now j → Right b m x j)
        → (get_or slots i 0 < m.topology.triangles → Right b m x (get_or slots i 0)) → (k : ℕ) → k < i + 1
        → get_or slots k 0 < m.topology.triangles → Right b m x (get_or slots k 0)
    entry x keeps next k l u = go (ℕ_discrete k i)
      where
        go : Dec (k ≡ i) → Right b m x (get_or slots k 0)
        go (yes e) = rw e (next (rw e at u))
        go (no n) = keeps (get_or slots k 0) (M.right k (omega arith) u)

    pub mended_on : {after above : List ℕ} → PutRight (get_or slots i 0) b m now after above
        → Mended (i + 1) slots b m before after above
    mended_on {after} P = record {
      fit = P.fit;
      stay = λ j r. put_keeps P j (M.stay j r);
      right = entry after (put_keeps P) (λ u. P.right);
    }

    -- An entry past the slots in use is passed over.
    pub mended_past : m.topology.triangles ≤ get_or slots i 0 → Mended (i + 1) slots b m before now words
    mended_past l = record {
      fit = M.fit;
      stay = M.stay;
      right = entry now (λ j r. r) (λ u. absurd (omega arith));
    }

    pub mended_ends : {k : ℕ} → k ≤ i → Mended k slots b m before now words
    mended_ends l = record { fit = M.fit; stay = M.stay; right = λ j u. M.right j (omega arith) }

-- ---- the last vertices, one after the other

module _ {f : ℕ} {low high : Point} {p : List ℤ} {before : List ℕ} where
  pub seen_begins : ((v : ℕ) → f ≤ v → marked before v ≡ false) → SeenFrom f f low high p before before
  seen_begins o = record {
    size = refl;
    stay = λ v l. refl;
    right = λ v k l. absurd (omega arith);
    off = λ v l _. o v l;
  }

  module _ {v : ℕ} {now : List ℕ} (l : f ≤ v) (S : SeenFrom f v low high p before now) where
    -- With the mark of v put right, or right as it is.
    seen_on : {after : List ℕ} → length after ≡ length now → marked after v ≡ in_box low high (point_in p v)
        → ((w : ℕ) → w ≢ v → marked after w ≡ marked now w) → SeenFrom f (v + 1) low high p before after
    seen_on {after} e r others = record {
      size = e ∙ S.size;
      stay = λ w i. others w (λ q. omega arith) ∙ S.stay w i;
      right = λ w i j. go w i j (ℕ_discrete w v);
      off = λ w i j. others w (λ q. omega arith) ∙ S.off w (omega arith) j;
    }
      where
        go : (w : ℕ) → f ≤ w → w < v + 1 → Dec (w ≡ v) → marked after w ≡ in_box low high (point_in p w)
        go w i j (yes q) = rw q r
        go w i j (no n) = others w n ∙ S.right w i (omega arith)

    pub seen_put : {after : List ℕ} → true ≡ in_box low high (point_in p v) → MarkPut v true now after
        → SeenFrom f (v + 1) low high p before after
    seen_put e P =
        seen_on P.size (rw (P.marks v, eq-eqb v v refl) e) (λ w n. rw (P.marks w, ne_eqb w v n) refl)

    pub seen_past : false ≡ in_box low high (point_in p v) → SeenFrom f (v + 1) low high p before now
    seen_past e = seen_on refl (S.off v (omega arith) l ∙ e) (λ w n. refl)

  pub seen_ends : {v n : ℕ} {now : List ℕ} → SeenFrom f v low high p before now → n ≤ v → (n < v → v ≤ f)
      → SeenFrom f n low high p before now
  seen_ends {v} {n} S u e = record {
    size = S.size;
    stay = S.stay;
    right = λ w i j. S.right w i (omega arith);
    off = λ w i j. S.off w (past w i j (dec_lt n v)) j;
  }
    where
      past : (w : ℕ) → n ≤ w → f ≤ w → Dec (n < v) → v ≤ w
      past w i j (yes l) = let q = e l in omega arith
      past w i j (no l) = omega arith
