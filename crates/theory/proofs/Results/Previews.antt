-- What is proved of a list foreseen. (Request f)
use mathlib.Core.Path.{◌≡◌}
use mathlib.Core.List.{List}
use Prim.Native.Nat.{ℕ}
use Rattle.theory.proofs.Lists.Preview.{preview_refusal, preview_is, preview_same, preview_shows, list_after}
use Rattle.theory.proofs.Lists.Preview.{preview_again}
use Rattle.rules.specs.Calls.{outcome_of}
use Rattle.rules.specs.Conditions.{First, list_conditions}
use Rattle.rules.specs.Lists.{list_call, preview_call}
use Rattle.rules.specs.Promises.{AgreeInUse}
use Rattle.rules.specs.Spares.{Spares, SameSizes}
use Rattle.rules.specs.Tables.{Mesh}

-- A preview returns the number that the list would return.
pub preview_returns : (list : List ℕ) (spares : Spares) (m : Mesh)
    → First (list_conditions list spares m) (preview_call list spares m).answer.refusal
preview_returns = preview_refusal

-- It answers and leaves in the spare tables what the list would, on every content, and the mesh stands.
pub preview_is_list : (list : List ℕ) (spares : Spares) (m : Mesh)
    → preview_call list spares m ≡ outcome_of (list_call list spares m).answer m (list_call list spares m).room
preview_is_list = preview_is

-- The list that follows, in the same spare tables or in others of these sizes, answers the same; where it is carried
-- out, it leaves in the mesh, in every entry in use, what the preview left in the spare tables.
pub preview_then_list : (list : List ℕ) {s t : Spares} {m : Mesh} → SameSizes s m → SameSizes t m
    → ((preview_call list s m).answer ≡ (list_call list t m).answer)
    × ((list_call list t m).answer.refusal ≡ 0
    → AgreeInUse (preview_call list s m).room.spares (list_call list t m).mesh)
preview_then_list list a b = (preview_same list a b, preview_shows list a b)

-- A preview before it changes nothing of what the list does in the same spare tables, carried out or refused, on every
-- content.
pub list_after_preview : (list : List ℕ) (spares : Spares) (m : Mesh)
    → list_call list (preview_call list spares m).room.spares m ≡ list_call list spares m
list_after_preview = list_after

-- A preview repeated, in what it left of the spare tables, gives the same outcome.
pub preview_repeats : (list : List ℕ) (spares : Spares) (m : Mesh)
    → preview_call list (preview_call list spares m).room.spares m ≡ preview_call list spares m
preview_repeats = preview_again
