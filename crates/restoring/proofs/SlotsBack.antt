-- The slots of a note put back one by one.
use mathlib.Core.List.{List}
use mathlib.Core.Path.{◌≡◌, refl, ap, ◌∙◌}
use Prim.Native.Nat.{ℕ, ◌+◌, ◌*◌}
use native.Mathlib.Numerals.{add-one}
use native.Mathlib.Omega.{arith}
use lib.IntN.{ℤ}
use lib.ListN.{get_or, set}
use Rattle.rules.specs.Notes.{note_nine, put_back, put_back_all}
use Rattle.rules.specs.Tables.{Mesh, Topology, with_topology, with_locks}
use Rattle.tables.specs.declared.Counts.{Counts}
use Rattle.tables.specs.declared.Triangle.{Triangle}
use Rattle.tables.proofs.Lending.{same_at_first, same_on}
use Rattle.tables.specs.declared.Tables.{Tables}
use Rattle.tables.specs.Lent.{mesh_with, mesh_over, held, put, SameTables}
use Rattle.restoring.specs.Putting.{slot_as_triangle}

-- ---- one slot

-- Its number is the first of its nine.
pub first_of_nine : (note : List ℕ) (i : ℕ) → note_nine note i 0 ≡ get_or note (4 + 9 * i) 0
first_of_nine note i = ap (λ (h : ℕ). get_or note h 0) (omega arith)

-- The mesh with slot i of a note, by what is stored of it.
pub one_put : (note : List ℕ) (i : ℕ) (m : Mesh) {t : Topology} {k : ℕ} {x : Triangle}
    → x ≡ slot_as_triangle note i → k ≡ note_nine note i 8 → t ≡ put (get_or note (4 + 9 * i) 0) x m.topology
    → with_locks (set m.locks (get_or note (4 + 9 * i) 0) k) (with_topology t m) ≡ put_back note i m
one_put note i m a b d = rw (d, a, b, first_of_nine note i) refl

-- ---- slot by slot

-- The first i slots of a note have been put into tables.
pub record PutUpTo (note : List ℕ) (i : ℕ) (old new : Tables) : Type 0 where
  pub put : (n : Counts) → mesh_with n (held new) ≡ put_back_all note i (mesh_with n (held old))
  pub over : (n : Counts) (p : List ℤ) → mesh_over n p (held new) ≡ put_back_all note i (mesh_over n p (held old))
  pub lent : SameTables new old

pub none_put : (note : List ℕ) (old : Tables) → PutUpTo note 0 old old
unfolding put_back_all
none_put note old = record { put = λ n. refl; over = λ n p. refl; lent = same_at_first old }

pub one_more_put : {note : List ℕ} {i : ℕ} {old now new : Tables} → PutUpTo note i old now → SameTables new now
    → ((n : Counts) → mesh_with n (held new) ≡ put_back note i (mesh_with n (held now)))
    → ((n : Counts) (p : List ℤ) → mesh_over n p (held new) ≡ put_back note i (mesh_over n p (held now)))
    → PutUpTo note (i + 1) old new
unfolding put_back_all
one_more_put {note} {i} P L f g = record {
  put = λ n. rw (add-one) (f n ∙ ap (put_back note i) (P.put n));
  over = λ n p. rw (add-one) (g n p ∙ ap (put_back note i) (P.over n p));
  lent = same_on L P.lent;
}
