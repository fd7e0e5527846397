-- What is proved of a list of triangles. (Request e)
use mathlib.Core.Path.{◌≡◌}
use mathlib.Core.Logic.{◌≢◌}
use mathlib.Core.List.{List, [], ◌∷◌, ◌++◌}
use Prim.Native.Nat.{ℕ}
use lib.ListN.{length}
use Rattle.theory.proofs.Lists.Entries.{handled_then}
use Rattle.theory.proofs.Lists.ListCall.{list_makes, list_stops}
use Rattle.theory.proofs.Lists.OneEntry.{one_entry}
use Rattle.theory.proofs.Lists.EveryList.{refused_first, empty_list_lem, held_in_spares_lem, one_failure, listed_twice_lem}
use Rattle.theory.proofs.Spares.Adds.{refine_adds}
use Rattle.rules.specs.Calls.{refine_call, spare_room, refused_with}
use Rattle.rules.specs.Conditions.{FailsAfter}
use Rattle.rules.specs.Lists.{Progress, begun, handle_all, refine_each, spares_refusal, all_or_nothing, list_call}
use Rattle.rules.specs.Promises.{added, ListMakes, SameWork}
use Rattle.rules.specs.Sound.{Sound}
use Rattle.rules.specs.Spares.{Spares, copied, mesh_in, SameSizes}
use Rattle.rules.specs.Split.{Work, at_first, refine}
use Rattle.rules.specs.Tables.{Mesh}

-- A list that is carried out answers and leaves what its entries make, each at its turn.
pub list_carried : (list : List ℕ) (spares : Spares) (m : Mesh) → (list_call list spares m).answer.refusal ≡ 0
    → let p = refine_each list m in
    (list_call list spares m ≡ all_or_nothing 0 p spares m) × (p.handled ≡ length list) × ListMakes list m p.work
list_carried = list_makes

-- One that is refused with 1, 17 or 7, which `spares_refusal` computes, answers zeros and leaves the spare tables too.
pub list_refused : (list : List ℕ) (spares : Spares) (m : Mesh) → spares_refusal spares m ≢ 0
    → list_call list spares m ≡ refused_with (spares_refusal spares m) m (spare_room spares)
list_refused = refused_first

-- One that is refused after 7 tells which entry failed, and leaves the mesh, and in the spare tables what the entries
-- before it made.
pub list_stopped : (list : List ℕ) (spares : Spares) (m : Mesh) → SameSizes spares m → Sound m
    → (list_call list spares m).answer.refusal ≢ 0
    → let p = refine_each list m in
    (list_call list spares m ≡ all_or_nothing p.refusal p spares m)
    × FailsAfter list m p.handled p.work p.refusal
list_stopped = list_stops

-- A list fails at one place alone, and with one number.
pub list_fails_once : {list : List ℕ} {m : Mesh} {k k' n n' : ℕ} {w w' : Work} → Sound m → FailsAfter list m k w n
    → FailsAfter list m k' w' n' → (k ≡ k') × (n ≡ n')
list_fails_once = one_failure

-- After 7, carried out or refused, the spare tables hold what the entries that succeeded made of the mesh, and it is
-- sound there; their other slots keep their content.
pub list_held : (list : List ℕ) (spares : Spares) (m : Mesh) → SameSizes spares m → Sound m
    → let n = (refine_each list m).work.mesh in
    ((list_call list spares m).room ≡ spare_room (copied n spares)) × Sound (mesh_in (copied n spares) n)
list_held = held_in_spares_lem

-- A refine adds its splits, flips and report to those made before it, in this order, and makes of the mesh what it
-- makes alone.
pub list_sums : (t : ℕ) (w : Work) → refine t w ≡ added w (refine t (at_first w.mesh))
list_sums = refine_adds

-- An empty list is carried out, with zeros.
pub list_empty : (spares : Spares) (m : Mesh) → SameSizes spares m → Sound m
    → list_call [] spares m ≡ all_or_nothing 0 (begun m) spares m
list_empty = empty_list_lem

-- The entries of a list in two parts: those of the second go on from what the first part left, judged by the call's
-- start.
pub list_parts : (start : Mesh) (xs ys : List ℕ) (p : Progress)
    → handle_all start (xs ++ ys) p ≡ handle_all start ys (handle_all start xs p)
list_parts = handled_then

-- A triangle listed again does no harm: carried out or refused, on any content, the list does to the mesh and to the
-- spare tables, and answers of the mesh, what it does without this entry.
pub list_twice : (t : ℕ) (xs ys zs : List ℕ) (spares : Spares) (m : Mesh) →
    let a = list_call (xs ++ (t ∷ ys) ++ (t ∷ zs)) spares m in
    let b = list_call (xs ++ (t ∷ ys) ++ zs) spares m in
    SameWork a b × (a.room ≡ b.room)
list_twice = listed_twice_lem

-- A list of one triangle answers and does to the mesh what a refine of it does.
pub list_of_one : (t : ℕ) (spares : Spares) (m : Mesh) → SameSizes spares m
    → SameWork (list_call (t ∷ []) spares m) (refine_call t m)
list_of_one = one_entry
