-- Starts that are kept for the vertices: none at first, then with one side more; and that walks may begin there.
use borrow.Author.Count.{below_more}
use Prim.Native.Nat.{ℕ, ◌+◌, ◌-◌, ◌≤◌, ◌<◌}
use native.Mathlib.Decide.{ℕ_discrete}
use native.Mathlib.Omega.{arith}
use mathlib.Core.List.{List}
use mathlib.Core.Logic.{◌≢◌, ◌⊎◌, inl, inr}
use mathlib.Core.Path.{◌≡◌, sym, ◌∙◌, subst}
use lib.ListN.{get_or, set, replicate, length-set, length-replicate, get_or-replicate}
use lib.Seq.{get_or-set_same, get_or-set_other}
use Rattle.rules.specs.Tables.{boundary}
use Rattle.rings.specs.Walks.{Zeroed, NoneOnBoundary, AllBegun}
use Rattle.sides.specs.Starts.{Kept, AllKept}

-- An array of zeros has room for fewer.
pub zeroed : (k n : ℕ) → n ≤ k → Zeroed n (replicate k 0)
zeroed k n l = record {
  size = rw (length-replicate {A = ℕ} k 0) l;
  each = λ i b. get_or-replicate k i 0 0 (omega arith);
}

none_kept : (c l : List ℕ) (v x : ℕ) → x ≡ 0 → Kept c l 0 v x
none_kept c l v x e = record {
  begun = record {
    none = λ _ h k. absurd (omega arith);
    in_use = omega arith;
    out = λ k. absurd (omega arith);
    best = λ k. absurd (omega arith);
  };
  lowest = λ k. absurd (omega arith);
}

pub none_seen : (n : ℕ) (c l s : List ℕ) → Zeroed n s → AllKept n c l 0 s
none_seen n c l s Z = record { size = Z.size; each = λ v k. none_kept c l v (get_or s v 0) (Z.each v k) }

module _ (c l : List ℕ) (h v x : ℕ) where
  none_more : NoneOnBoundary c l h v → (get_or c h 0 ≡ v → get_or l h 0 ≢ boundary) → NoneOnBoundary c l (h + 1) v
  none_more = below_more (λ k. get_or c k 0 ≡ v → get_or l k 0 ≢ boundary) h

  -- Side h does not go out of v, or is not better than the start that there is.
  pub still_kept : (get_or c h 0 ≡ v → 0 < x × (get_or l h 0 ≢ boundary)) → Kept c l h v x → Kept c l (h + 1) v x
  still_kept f K =
      let B = K.begun in
      record {
        begun = record {
          none = λ e. below_more (λ k. get_or c k 0 ≢ v) h (B.none e) (λ o. let p = f o in omega (arith, p.0));
          in_use = omega (arith, B.in_use);
          out = B.out;
          best = λ p. elim (B.best p) [ inl e ↦ inl e | inr n ↦ inr (none_more n (λ o. (f o).1)) ];
        };
        lowest = λ p n.
            below_more (λ k. get_or c k 0 ≡ v → x ≤ k + 1) h (K.lowest p n) (λ o. omega (arith, B.in_use));
      }

  -- Side h is the start.
  module _ (o : get_or c h 0 ≡ v) where
    newly_kept : (get_or l h 0 ≡ boundary) ⊎ ((k : ℕ) → k < h → get_or c k 0 ≢ v) × (get_or l h 0 ≢ boundary)
        → Kept c l (h + 1) v (h + 1)
    newly_kept b =
        let e : h + 1 - 1 ≡ h = omega arith in
        record {
          begun = record {
            none = λ z. absurd (omega arith);
            in_use = omega arith;
            out = λ _. rw e o;
            best = λ _. rw e (elim b [
              | inl q ↦ inl q
              | inr (f, n) ↦ inr (none_more (λ k j q. absurd (f k j q)) (λ _. n))
            ]);
          };
          lowest = λ _. rw e (λ n. elim b [
            | inl q ↦ absurd (n q)
            | inr (f, _) ↦ below_more (λ k. get_or c k 0 ≡ v → h + 1 ≤ k + 1) h (λ k j q. absurd (f k j q))
                (λ _. omega arith)
          ]);
        }

    pub kept_boundary : get_or l h 0 ≡ boundary → Kept c l (h + 1) v (h + 1)
    kept_boundary e = newly_kept (inl e)

    pub kept_first : x ≡ 0 → get_or l h 0 ≢ boundary → Kept c l h v x → Kept c l (h + 1) v (h + 1)
    kept_first z n K = newly_kept (inr (K.begun.none z, n))

-- One side more, whose vertex u has its start written.
module _ (n : ℕ) (c l s : List ℕ) (h u x : ℕ) (A : AllKept n c l h s) (e : u ≡ get_or c h 0) where
  pub side_seen : u < n → (Kept c l h (get_or c h 0) (get_or s u 0) → Kept c l (h + 1) (get_or c h 0) x)
      → AllKept n c l (h + 1) (set s u x)
  side_seen low f = record { size = rw length-set A.size; each = λ v k. go v k (ℕ_discrete v u) }
    where
      go : (v : ℕ) → v < n → Dec (v ≡ u) → Kept c l (h + 1) v (get_or (set s u x) v 0)
      go v k (yes q) =
          let K = subst (λ (w : ℕ). Kept c l h w (get_or s u 0)) e (A.each u low) in
          rw (q, get_or-set_same s u x 0 (omega (arith, A.size)), e) (f K)
      go v k (no q) =
          rw (get_or-set_other s u v x 0 q)
          (still_kept c l h v (get_or s v 0) (λ o. absurd (q (sym o ∙ sym e))) (A.each v k))

-- The same starts, with the number of sides under another name.
pub kept_at : {n : ℕ} {c l s : List ℕ} (h k : ℕ) → h ≡ k → AllKept n c l h s → AllKept n c l k s
kept_at h k e A = rw e at A

-- Starts that are kept are sides to walk from.
pub all_begun : {n : ℕ} {c l s : List ℕ} {h : ℕ} → AllKept n c l h s → AllBegun n c l h h s
all_begun A = record { size = A.size; each = λ v k. (A.each v k).begun }
