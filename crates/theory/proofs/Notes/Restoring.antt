-- What a note restores: its slots hold what it says, the others what they held.
use mathlib.Core.Path.{◌≡◌, refl, sym, ap, ◌∙◌, subst}
use mathlib.Core.Logic.{◌≢◌}
use mathlib.Core.List.{List}
use Prim.Native.Nat.{ℕ, zero, suc, ◌+◌, ◌*◌, ◌/◌, ◌≤◌, ◌<◌}
use native.Mathlib.Omega.{arith}
use native.Mathlib.Decide.{ℕ_discrete}
use lib.ListN.{length, get_or, set, drop, length-set}
use lib.Seq.{get_or-set_same, get_or-set_other, drop-set-lt}
use Rattle.theory.proofs.Links.Past.{Past, past_same, past_on, drop_put}
use Rattle.theory.proofs.Links.Sides.{by_triangle, put_else, put_row, Row}
use Rattle.theory.proofs.Soundness.Relaxed.{SameSlots}
use Rattle.rules.specs.Notes.{nine_of, note_nine, put_back, put_back_all}
use Rattle.rules.specs.Tables.{Mesh, origin, link, generation, lock, with_locks, with_topology, put_triangle}

-- ---- slots compared

-- Slot s holds the same in m and n.
pub record SlotSame (m n : Mesh) (s : ℕ) : Type 0 where
  pub corners : (h : ℕ) → h / 3 ≡ s → origin m.topology h ≡ origin n.topology h
  pub links : (h : ℕ) → h / 3 ≡ s → link m.topology h ≡ link n.topology h
  pub generations : generation m.topology s ≡ generation n.topology s
  pub locks : lock m s ≡ lock n s

pub slot_same : (m : Mesh) (s : ℕ) → SlotSame m m s
slot_same m s = record { corners = λ h e. refl; links = λ h e. refl; generations = refl; locks = refl }

pub slot_on : {m k n : Mesh} {s : ℕ} → SlotSame m k s → SlotSame k n s → SlotSame m n s
slot_on A B = record {
  corners = λ h e. A.corners h e ∙ B.corners h e;
  links = λ h e. A.links h e ∙ B.links h e;
  generations = A.generations ∙ B.generations;
  locks = A.locks ∙ B.locks;
}

-- Three entries that are equal in turn.
row_same : (l k : List ℕ) (s : ℕ)
    → Row l 0 s (get_or k (3 * s) 0) (get_or k (3 * s + 1) 0) (get_or k (3 * s + 2) 0)
    → (h : ℕ) → h / 3 ≡ s → get_or l h 0 ≡ get_or k h 0
row_same l k s r =
    by_triangle (λ h. h / 3 ≡ s → get_or l h 0 ≡ get_or k h 0) s (λ _. r.0) (λ _. r.1) (λ _. r.2)
    (λ h d q. absurd (d q))

-- It does where its nine numbers are the same.
pub nine_same : (m n : Mesh) (s : ℕ) → nine_of m s ≡ nine_of n s → SlotSame m n s
nine_same m n s e = record {
  corners = row_same m.topology.corners n.topology.corners s (at 1, at 2, at 3);
  links = row_same m.topology.links n.topology.links s (at 4, at 5, at 6);
  generations = at 7;
  locks = at 8;
}
  where
    at : (j : ℕ) → get_or (nine_of m s) j 0 ≡ get_or (nine_of n s) j 0
    at j = ap (λ (l : List ℕ). get_or l j 0) e

pub slots_same : (m : Mesh) → SameSlots m m
slots_same m = record { positions = refl; corners = refl; links = refl; generations = refl; locks = refl }

pub slots_on : {m k n : Mesh} → SameSlots m k → SameSlots k n → SameSlots m n
slots_on A B = record {
  positions = B.positions ∙ A.positions;
  corners = B.corners ∙ A.corners;
  links = B.links ∙ A.links;
  generations = B.generations ∙ A.generations;
  locks = B.locks ∙ A.locks;
}

-- The tables have slot s.
pub record HasSlot (m : Mesh) (s : ℕ) : Type 0 where
  pub corners : 3 * s + 3 ≤ length m.topology.corners
  pub links : 3 * s + 3 ≤ length m.topology.links
  pub generations : s < length m.topology.generations
  pub locks : s < length m.locks

has_on : {m n : Mesh} {s : ℕ} → SameSlots m n → HasSlot m s → HasSlot n s
has_on L H = record {
  corners = omega (arith, L.corners, H.corners);
  links = omega (arith, L.links, H.links);
  generations = omega (arith, L.generations, H.generations);
  locks = omega (arith, L.locks, H.locks);
}

-- ---- one slot put back

module _ (note : List ℕ) (i : ℕ) (m : Mesh) where
  put_sizes : SameSlots m (put_back note i m)
  put_sizes = record {
    positions = refl;
    corners = simp length-set;
    links = simp length-set;
    generations = simp length-set;
    locks = simp length-set;
  }

  -- Another slot.
  put_other : (s : ℕ) → s ≢ note_nine note i 0 → SlotSame (put_back note i m) m s
  put_other s d = record {
    corners = λ h e. put_else m.topology.corners _ _ _ _ 0 h (λ q. d (sym e ∙ q));
    links = λ h e. put_else m.topology.links _ _ _ _ 0 h (λ q. d (sym e ∙ q));
    generations = get_or-set_other m.topology.generations _ s _ 0 d;
    locks = get_or-set_other m.locks _ s _ 0 d;
  }

  -- This slot, where the note has what it holds in n.
  put_this : (n : Mesh) (s : ℕ) → HasSlot m s → s ≡ note_nine note i 0
      → ((j : ℕ) → j < 9 → note_nine note i j ≡ get_or (nine_of n s) j 0) → SlotSame (put_back note i m) n s
  put_this n s H e f =
      let c = put_row m.topology.corners s (at 1) (at 2) (at 3) 0 H.corners in
      let l = put_row m.topology.links s (at 4) (at 5) (at 6) 0 H.links in
      subst (λ (k : ℕ). SlotSame (put_at k) n s) e (record {
        corners =
            row_same (put_at s).topology.corners n.topology.corners s
            (c.0 ∙ f 1 (omega arith), c.1 ∙ f 2 (omega arith), c.2 ∙ f 3 (omega arith));
        links =
            row_same (put_at s).topology.links n.topology.links s
            (l.0 ∙ f 4 (omega arith), l.1 ∙ f 5 (omega arith), l.2 ∙ f 6 (omega arith));
        generations = get_or-set_same m.topology.generations s (at 7) 0 H.generations ∙ f 7 (omega arith);
        locks = get_or-set_same m.locks s (at 8) 0 H.locks ∙ f 8 (omega arith);
      })
    where
      at : ℕ → ℕ
      at = note_nine note i

      put_at : ℕ → Mesh
      put_at s =
          with_locks (set m.locks s (at 8))
          (with_topology (put_triangle s (at 1, at 2, at 3) (at 4, at 5, at 6) (at 7) m.topology) m)

-- ---- the first k slots put back

module _ (note : List ℕ) (m : Mesh) where
  -- Positions, rule and counts are left, and the tables keep their slots.
  pub all_positions : (k : ℕ) → (put_back_all note k m).positions ≡ m.positions
  unfolding put_back_all
  all_positions zero = refl
  all_positions (suc k) = all_positions k

  pub all_rule : (k : ℕ) → (put_back_all note k m).rule ≡ m.rule
  unfolding put_back_all
  all_rule zero = refl
  all_rule (suc k) = all_rule k

  pub all_sizes : (k : ℕ) → SameSlots m (put_back_all note k m)
  unfolding put_back_all
  all_sizes zero = slots_same m
  all_sizes (suc k) = slots_on (all_sizes k) (put_sizes note k (put_back_all note k m))

  -- From slot b on nothing is written where the noted ones lie below it.
  pub all_past : (b k : ℕ) → ((i : ℕ) → i < k → note_nine note i 0 < b)
      → Past b m.topology (put_back_all note k m).topology × (drop b (put_back_all note k m).locks ≡ drop b m.locks)
  unfolding put_back_all
  all_past b zero f = (past_same b m.topology, refl)
  all_past b (suc k) f =
      let (P, l) = all_past b k (λ i c. f i (omega arith)) in
      let n = put_back_all note k m in
      let c = f k (omega arith) in (
        past_on P (record {
          corners = drop_put n.topology.corners _ b _ c;
          links = drop_put n.topology.links _ b _ c;
          generations = drop-set-lt b n.topology.generations _ _ c;
        }),
        drop-set-lt b n.locks _ _ c ∙ l,
      )

  -- A slot that is not noted.
  pub all_other : (s k : ℕ) → ((i : ℕ) → i < k → s ≢ note_nine note i 0) → SlotSame (put_back_all note k m) m s
  unfolding put_back_all
  all_other s zero f = slot_same m s
  all_other s (suc k) f =
      slot_on (put_other note k (put_back_all note k m) s (f k (omega arith))) (all_other s k (λ i l. f i (omega arith)))

  -- A slot that is noted, where the note has of each what it holds in n.
  pub all_noted : (n : Mesh) (k : ℕ)
      → ((i j : ℕ) → i < k → j < 9 → note_nine note i j ≡ get_or (nine_of n (note_nine note i 0)) j 0)
      → (i s : ℕ) → i < k → s ≡ note_nine note i 0 → HasSlot m s → SlotSame (put_back_all note k m) n s
  unfolding put_back_all
  all_noted n zero f i s l e H = absurd (omega arith)
  all_noted n (suc k) f i s l e H =
      go (ℕ_discrete s (note_nine note k 0)) (λ c. all_noted n k (λ i j b. f i j (omega arith)) i s c e H)
    where
      go : Dec (s ≡ note_nine note k 0) → (i < k → SlotSame (put_back_all note k m) n s)
          → SlotSame (put_back note k (put_back_all note k m)) n s
      go (yes q) ih =
          put_this note k (put_back_all note k m) n s (has_on (all_sizes k) H) q
          (λ j b. f k j (omega arith) b ∙ ap (λ (s : ℕ). get_or (nine_of n s) j 0) (sym q))
      go (no q) ih =
          slot_on (put_other note k (put_back_all note k m) s q)
          (ih (below (ℕ_discrete i k)))
        where
          below : Dec (i ≡ k) → i < k
          below (yes d) = absurd (q (e ∙ ap (λ (i : ℕ). note_nine note i 0) d))
          below (no d) = omega arith
