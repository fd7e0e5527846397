-- `boxing::refine_within` meets its contract.
use native.Mathlib.Omega.{arith}
use Rattle.wanting.proofs.Turn.{none_put, none_seen}
use Rattle.boxing.proofs.refine_within.Goals as goal

pub refine_wanted-requires : goal.refine_wanted-requires
refine_wanted-requires g c =
    let w = c.requires.words in (
      c.requires.begins,
      none_put _ _ c.requires.triangles (omega arith) w.0,
      none_seen _ c.requires.vertices,
    )
