-- What is proved of soundness. (The cage and the lent tables)
use mathlib.Core.Logic.{◌↔◌}
use lib.Dec.{T}
use Rattle.theory.proofs.Soundness.SoundTest.{sound_is}
use Rattle.rules.specs.Sound.{Sound, is_sound}
use Rattle.rules.specs.Tables.{Mesh}

-- The test that the calls compute says yes exactly for sound tables, on every content of them.
pub sound_test : (m : Mesh) → T (is_sound m) ↔ Sound m
sound_test m = ((sound_is m).holds, (sound_is m).passes)
