-- `refine::answer_all` meets its contract: its reads are answered one after the other.
use Rattle.std.proofs.Common.{refl, ◌∙◌, arith}
use Rattle.std.proofs.lemmas.List.{length-take-le}
use Rattle.refine.proofs.Parts.{reading_on}
use Rattle.refine.proofs.answer_all.Goals as goal

pub loop-turn-preserved : goal.loop-turn-preserved
loop-turn-preserved g c =
    let i = c.loop-turn.invariant in
    let next = c.answer_some-read in
    let l = length-take-le _ c.loop-turn.requests i.fits in
    record {
      size = next.auto.requests ∙ i.size;
      fits = next.ensures.read_in_bounds;
      reading =
          reading_on i.reading (omega (arith, c.answer_some-last.auto.requests, c.requires))
          (omega (arith, l, i.size)) refl next.ensures.answered;
    }
