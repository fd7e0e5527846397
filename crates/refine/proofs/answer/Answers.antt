-- `refine::answer` meets its contract: each request meets the mesh that the one before left.
use Rattle.std.proofs.Common.{sym, ◌∙◌, arith}
use Rattle.refine.proofs.Parts.{rest_dropped, first_answered}
use Rattle.refine.proofs.answer.Goals as goal

pub loop-request-preserved : goal.loop-request-preserved
loop-request-preserved g c =
    let i = c.loop-request.invariant in
    let s = c.in-Some.ensures.steps in
    let r = c.refine-done.ensures in
    record {
      four = s.0 ∙ i.four;
      left = first_answered _ _ _ _ s.1.0 (s.1.1 ∙ i.four) c.number_at.ensures r.counts r.outcome ∙ i.left;
    }

pub returns : goal.returns
returns g c =
    let i = c.loop-request.invariant in
    let s = c.in-None.ensures.steps in
    sym (rest_dropped _ _ (omega (arith, i.four, s.1.0))) ∙ c.loop-request.invariant.left
