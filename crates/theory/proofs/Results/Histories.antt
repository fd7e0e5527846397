-- What is proved of every history. (the customer's third demand)
use mathlib.Core.Path.{◌≡◌}
use mathlib.Core.List.{List}
use Prim.Native.Nat.{ℕ}
use Rattle.theory.proofs.Calls.Histories.{every_history, history_sound, history_keeps_sound, history_none_of_two}
use Rattle.rules.specs.Cage.{cage_of}
use Rattle.rules.specs.Conditions.{SizesFit, SomeInnerOfTwo}
use Rattle.rules.specs.History.{Call, after, last_load, nothing, cage, EveryHistory}
use Rattle.rules.specs.Sound.{Sound}
use Rattle.rules.specs.Tables.{Mesh, TablesAgree}

-- For every list of calls, begun on any tables and counts, once a load in it was accepted: all links are mutual;
-- vertices minus edges plus triangles is that of the cage of the last accepted load; neighbours' generations differ as
-- demanded; and a refine that follows, with a note or a report or without, makes and reports what is demanded.
pub third_demand : EveryHistory
third_demand = every_history

-- From an accepted load on the tables are sound, so that no later call is refused with 1 or 7.
pub sound_after : (calls : List Call) (m : Mesh) (bytes : List ℕ) → last_load calls m nothing ≡ cage bytes
    → Sound (after calls m)
sound_after = history_sound

-- So they are after every list of calls that begins with sound tables.
pub sound_kept : (calls : List Call) (m : Mesh) → Sound m → Sound (after calls m)
sound_kept = history_keeps_sound

-- The cage of an accepted load has no vertex off the boundary of exactly two triangles, whichever tables it is loaded
-- into. (Request g)
pub none_of_two_after : (calls : List Call) (m : Mesh) (bytes : List ℕ) → last_load calls m nothing ≡ cage bytes
    → (n : Mesh) → TablesAgree n → SizesFit bytes n → ¬ SomeInnerOfTwo (cage_of bytes) n
none_of_two_after = history_none_of_two
