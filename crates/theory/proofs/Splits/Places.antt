-- Positions and locks: what a split writes and what it leaves.
use mathlib.Core.Path.{◌≡◌, refl, sym, ap, ◌∙◌, subst}
use mathlib.Core.Logic.{◌≢◌}
use Prim.Native.Nat.{ℕ, suc, ◌+◌, ◌*◌, ◌/◌, ◌≤◌, ◌<◌}
use native.Mathlib.Omega.{arith}
use native.Mathlib.Decide.{dec_lt}
use lib.ListN.{length, get_or, drop, length-set}
use lib.IntN.{ℤ, pos}
use Rattle.theory.proofs.Links.Past.{drop_put}
use Rattle.theory.proofs.Links.Sides.{put_else, put_row, row_each}
use Rattle.theory.proofs.Splits.Unlocking.{Unlocks, unlocks_stay, unlocks_on}
use Rattle.rules.specs.Numbers.{InRange}
use Rattle.rules.specs.Tables.{Mesh, put_three}

-- The vertices of m stand in n where they stood, nothing is written past those of n, and new ones are in range where
-- the old ones are; locks stand too, new ones are clear, and the rule goes on.
pub record Places (m n : Mesh) : Type 0 where
  pub size : length n.positions ≡ length m.positions
  pub grows : m.topology.vertices ≤ n.topology.vertices
  pub old : (i : ℕ) → i < 3 * m.topology.vertices → get_or n.positions i (pos 0) ≡ get_or m.positions i (pos 0)
  pub past : (b : ℕ) → n.topology.vertices ≤ b → drop (3 * b) n.positions ≡ drop (3 * b) m.positions
  pub range : 3 * n.topology.vertices ≤ length n.positions
      → ((i : ℕ) → i < 3 * m.topology.vertices → InRange (get_or m.positions i (pos 0)))
      → (i : ℕ) → i < 3 * n.topology.vertices → InRange (get_or n.positions i (pos 0))
  pub locks : Unlocks m n
  pub rule : n.rule ≡ m.rule

pub places_same : (m : Mesh) → Places m m
places_same m = record {
  size = refl;
  grows = omega arith;
  old = λ i l. refl;
  past = λ b l. refl;
  range = λ r a. a;
  locks = unlocks_stay m m refl refl;
  rule = refl;
}

pub places_on : {m k n : Mesh} → Places m k → Places k n → Places m n
places_on A B = record {
  size = B.size ∙ A.size;
  grows = omega (arith, A.grows, B.grows);
  old = λ i l. let g = A.grows in B.old i (omega arith) ∙ A.old i l;
  past = λ b l. let g = B.grows in B.past b l ∙ A.past b (omega arith);
  range = λ r a. let g = B.grows in B.range r (A.range (omega (arith, B.size)) a);
  locks = unlocks_on A.locks B.locks;
  rule = B.rule ∙ A.rule;
}

-- Neither vertices nor positions change.
pub places_stay : (m n : Mesh) → n.positions ≡ m.positions → n.topology.vertices ≡ m.topology.vertices
    → Unlocks m n → n.rule ≡ m.rule → Places m n
places_stay m n p v u e = record {
  size = ap length p;
  grows = omega arith;
  old = λ i l. ap (λ q. get_or q i (pos 0)) p;
  past = λ b l. ap (drop (3 * b)) p;
  range = λ r a i l. subst (λ q. InRange (get_or q i (pos 0))) (sym p) (a i (omega arith));
  locks = u;
  rule = e;
}

-- A new vertex placed in the first free slot.
module _ (m n : Mesh) (p : ℤ × ℤ × ℤ) (one : n.topology.vertices ≡ suc m.topology.vertices)
    (put : n.positions ≡ put_three m.topology.vertices p m.positions) (locks : Unlocks m n)
    (rule : n.rule ≡ m.rule) where
  v : ℕ
  v = m.topology.vertices

  size : length n.positions ≡ length m.positions
  unfolding v
  size = ap length put ∙ simp length-set

  read : (i : ℕ) → i / 3 ≢ v → get_or n.positions i (pos 0) ≡ get_or m.positions i (pos 0)
  unfolding v
  read i n' = ap (λ l. get_or l i (pos 0)) put ∙ put_else m.positions v p.0 p.1 p.2 (pos 0) i n'

  -- Each of the three new entries is in range.
  new : 3 * v + 3 ≤ length m.positions → InRange p.0 → InRange p.1 → InRange p.2 → (i : ℕ) → i / 3 ≡ v
      → InRange (get_or n.positions i (pos 0))
  unfolding v
  new r x y z i e =
      subst (λ l. InRange (get_or l i (pos 0))) (sym put)
      (row_each InRange (put_three v p m.positions) (pos 0) v p.0 p.1 p.2
      (put_row m.positions v p.0 p.1 p.2 (pos 0) r) x y z i e)

  pub places_new :
      (((i : ℕ) → i < 3 * m.topology.vertices → InRange (get_or m.positions i (pos 0))) → InRange p.0
      × InRange p.1 × InRange p.2)
      → Places m n
  unfolding v
  places_new fits = record {
    size = size;
    grows = omega arith;
    old = λ i l. read i (omega arith);
    past = λ b l. ap (drop (3 * b)) put ∙ drop_put m.positions v b p (omega arith);
    range = λ r a i l. go a (omega (arith, size)) i l (dec_lt i (3 * v));
    locks = locks;
    rule = rule;
  }
    where
      go : ((i : ℕ) → i < 3 * v → InRange (get_or m.positions i (pos 0))) → 3 * v + 3 ≤ length m.positions
          → (i : ℕ) → i < 3 * n.topology.vertices
          → Dec (i < 3 * v) → InRange (get_or n.positions i (pos 0))
      go a r i l (yes q) = subst InRange (sym (read i (omega arith))) (a i q)
      go a r i l (no q) = let f = fits a in new r f.0 f.1 f.2 i (omega arith)
