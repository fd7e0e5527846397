-- What is lent to a replay: what the spare tables hold does not matter to it.
use Prim.Native.Nat.{ℕ, zero, suc, ◌≤◌, max}
use native.Mathlib.Omega.{arith}
use mathlib.Core.List.{List, ◌∷◌}
use mathlib.Core.Path.{◌≡◌, refl, ap, sym, subst, ◌∙◌}
use lib.ListN.{length, drop, length-drop}
use Rattle.rules.specs.History.{changed}
use Rattle.rules.specs.Spares.{Spares, same_sizes}
use Rattle.rules.specs.Tables.{Mesh, vertex_slots, triangle_slots}
use Rattle.journal.specs.Journal.{Entry, loaded, refined, stepped, refined_each, refined_in_box, lock_set, taken_back}
use Rattle.journal.specs.Journal.{header_stop, entry_at, record_length}
use Rattle.journal.specs.Recording.{StopsWith, no_record, too_many, refuses, SameLengths, LentAlike}
use Rattle.journal.specs.Replay.{call_of, Lent, Replay, one_more, started_at, replay_if, replay}
use Rattle.journal.proofs.Changes.{Alike, list_alike, box_alike}
use Rattle.journal.proofs.Replaying.{next_call, Advances, Replays, halts, advances, replays_first, replays_is}

sizes_alike : (s t : Spares) (m : Mesh) → SameLengths s t → same_sizes s m ≡ same_sizes t m
unfolding same_sizes
sizes_alike s t m L = rw (L.positions, L.corners, L.links, L.generations, L.locks) refl

-- A change does the same in either.
pub entry_alike : (s t : Spares) (m : Mesh) → SameLengths s t → (e : Entry)
    → Alike (changed (call_of s e) m) (changed (call_of t e) m)
entry_alike s t m L (loaded rule cage) = record { refusal = refl; mesh = refl }
entry_alike s t m L (refined i) = record { refusal = refl; mesh = refl }
entry_alike s t m L stepped = record { refusal = refl; mesh = refl }
entry_alike s t m L (refined_each list) = list_alike s t m (sizes_alike s t m L) list
entry_alike s t m L (refined_in_box box) = box_alike s t m (sizes_alike s t m L) box
entry_alike s t m L (lock_set on i) = record { refusal = refl; mesh = refl }
entry_alike s t m L (taken_back note) = record { refusal = refl; mesh = refl }

-- So a replay stops alike.
pub stops_alike : {lent later : Lent} {bytes : List ℕ} {m : Mesh} {n k : ℕ} → LentAlike lent later
    → StopsWith later bytes m n k → StopsWith lent bytes m n k
stops_alike L (no_record x) = no_record x
stops_alike L (too_many z l) = let e = L.numbers in too_many z (omega arith)
stops_alike {lent} {later} {bytes} {m} L (refuses z l x) =
    let A = entry_alike lent.spares later.spares m L.spares (entry_at bytes) in
    let e = L.numbers in
    subst (StopsWith lent bytes m 5) A.refusal (refuses z (omega arith) (λ q. x (sym A.refusal ∙ q)))

-- It goes on alike, and leaves the same.
advances_alike : (lent later : Lent) (bytes : List ℕ) (m : Mesh) (entries : List Entry) (r : Replay)
    → LentAlike lent later → Advances later bytes m
    → Replays lent (drop (record_length bytes) bytes) (changed (next_call later bytes) m).mesh entries r
    → Replays lent bytes m (entry_at bytes ∷ entries) (one_more (record_length bytes) r)
advances_alike lent later bytes m entries r L x s =
    let A = entry_alike lent.spares later.spares m L.spares (entry_at bytes) in
    let e = L.numbers in
    let k = x.room in
    let y : Advances lent bytes m =
    record { whole = x.whole; room = omega arith; carried = A.refusal ∙ x.carried } in
    advances y (subst (λ (n : Mesh). Replays lent (drop (record_length bytes) bytes) n entries r) (sym A.mesh) s)

replays_alike : {lent later : Lent} {bytes : List ℕ} {m : Mesh} {entries : List Entry} {r : Replay}
    → LentAlike lent later → Replays later bytes m entries r → Replays lent bytes m entries r
replays_alike L (halts x) = halts (stops_alike L x)
replays_alike {lent} {later} L (advances {bytes} {m} {entries} {r} x s) =
    advances_alike lent later bytes m entries r L x (replays_alike L s)

if_alike : (n : ℕ) (lent later : Lent) (bytes : List ℕ) (at : ℕ) (m : Mesh) → LentAlike lent later
    → replay_if n lent bytes at m ≡ replay_if n later bytes at m
if_alike zero lent later bytes at m L =
    let l : length (drop at bytes) ≤ length bytes = simp length-drop (omega arith) in
    ap (started_at at) (replays_is (replays_alike L (replays_first (length bytes) later (drop at bytes) m l).1) l)
if_alike (suc n) lent later bytes at m L = refl

pub lent_alike : (lent later : Lent) (bytes : List ℕ) (at : ℕ) (m : Mesh) → LentAlike lent later
    → replay lent bytes at m ≡ replay later bytes at m
unfolding replay
lent_alike lent later bytes at m L =
    if_alike (header_stop (vertex_slots m) (triangle_slots m) bytes) lent later bytes (max 20 at) m L
