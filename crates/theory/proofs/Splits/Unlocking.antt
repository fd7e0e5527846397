-- Locks: what a split writes and what it leaves. (Request i)
use mathlib.Core.Path.{◌≡◌, ap, ◌∙◌}
use mathlib.Core.List.{List}
use Prim.Native.Nat.{ℕ, ◌+◌, ◌≤◌, ◌<◌}
use native.Mathlib.Omega.{arith}
use native.Mathlib.Decide.{dec_lt}
use lib.ListN.{length, get_or, set, drop, length-set, get_or-eq_default}
use lib.Seq.{get_or-set_same, get_or-set_other, set_out, drop-set-lt}
use Rattle.rules.specs.Promises.{SameLocks}
use Rattle.rules.specs.Split.{new_unlocked}
use Rattle.rules.specs.Tables.{Mesh, lock}

-- The locks of n are those of m and clear new ones, and nothing is written past them.
pub record Unlocks (m n : Mesh) : Type 0 where
  pub size : length n.locks ≡ length m.locks
  pub grows : m.topology.triangles ≤ n.topology.triangles
  pub same : SameLocks m n
  pub past : (b : ℕ) → n.topology.triangles ≤ b → drop b n.locks ≡ drop b m.locks

-- Neither triangles nor locks change.
pub unlocks_stay : (m n : Mesh) → n.locks ≡ m.locks → n.topology.triangles ≡ m.topology.triangles → Unlocks m n
unlocks_stay m n l f = record {
  size = ap length l;
  grows = omega arith;
  same = record { old = λ t i. ap (λ k. get_or k t 0) l; new = λ t i j. absurd (omega arith) };
  past = λ b i. ap (drop b) l;
}

pub unlocks_on : {m k n : Mesh} → Unlocks m k → Unlocks k n → Unlocks m n
unlocks_on {m} {k} {n} A B = record {
  size = B.size ∙ A.size;
  grows = omega (arith, A.grows, B.grows);
  same = record {
    old = λ t i. let g = A.grows in B.same.old t (omega arith) ∙ A.same.old t i;
    new = λ t i j. go t i j (dec_lt t k.topology.triangles);
  };
  past = λ b i. let g = B.grows in B.past b i ∙ A.past b (omega arith);
}
  where
    go : (t : ℕ) → m.topology.triangles ≤ t → t < n.topology.triangles → Dec (t < k.topology.triangles)
        → lock n t ≡ 0
    go t i j (yes q) = B.same.old t q ∙ A.same.new t i q
    go t i j (no q) = B.same.new t (omega arith) j

-- So locks that are 0 or 1 stay so.
pub locks_fit : {m n : Mesh} → Unlocks m n → ((t : ℕ) → t < m.topology.triangles → lock m t ≤ 1)
    → (t : ℕ) → t < n.topology.triangles → lock n t ≤ 1
locks_fit {m} {n} U fit t l = go (dec_lt t m.topology.triangles)
  where
    go : Dec (t < m.topology.triangles) → lock n t ≤ 1
    go (yes q) = omega (arith, U.same.old t q, fit t q)
    go (no q) = omega (arith, U.same.new t (omega arith) l)

-- An entry set to 0 reads as 0, past the list too.
reads_clear : (l : List ℕ) (i : ℕ) → get_or (set l i 0) i 0 ≡ 0
reads_clear l i = go (dec_lt i (length l))
  where
    go : Dec (i < length l) → get_or (set l i 0) i 0 ≡ 0
    go (yes q) = get_or-set_same l i 0 0 q
    go (no q) = ap (λ k. get_or k i 0) (set_out l i 0 (omega arith)) ∙ get_or-eq_default l 0 (omega arith)

-- The two new slots of a split.
pub unlocks_new : (m n : Mesh) → n.topology.triangles ≡ m.topology.triangles + 2
    → n.locks ≡ new_unlocked m.topology.triangles m.locks → Unlocks m n
unlocks_new m n two put = record {
  size = ap length put ∙ simp length-set;
  grows = omega arith;
  same = record {
    old = λ t i. ap (λ k. get_or k t 0) put
        ∙ get_or-set_other (set m.locks f 0) (f + 1) t 0 0 (λ e. omega arith)
        ∙ get_or-set_other m.locks f t 0 0 (λ e. omega arith);
    new = λ t i j. ap (λ k. get_or k t 0) put ∙ go t i j (dec_lt t (f + 1));
  };
  past = λ b i. ap (drop b) put
      ∙ drop-set-lt b (set m.locks f 0) (f + 1) 0 (omega arith)
      ∙ drop-set-lt b m.locks f 0 (omega arith);
}
  where
    f : ℕ
    f = m.topology.triangles

    go : (t : ℕ) → f ≤ t → t < n.topology.triangles → Dec (t < f + 1) → get_or (new_unlocked f m.locks) t 0 ≡ 0
    go t i j (yes q) =
        let e : t ≡ f = omega arith in
        get_or-set_other (set m.locks f 0) (f + 1) t 0 0 (λ e. omega arith) ∙ rw e (reads_clear m.locks f)
    go t i j (no q) = let e : t ≡ f + 1 = omega arith in rw e (reads_clear (set m.locks f 0) (f + 1))
