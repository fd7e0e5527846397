-- The reads so far are answered, of which all but the last filled the buffer.
use Rattle.std.proofs.Common.{length, take, ◌≤◌, ◌≡◌}
use Rattle.refine.specs.Requests.{store_mesh}
use Rattle.refine.proofs.Parts.{Reading}
use Rattle.refine.proofs.answer_all.Given as goal

abbrev pub invariant-loop-turn : goal.invariant-loop-turn
invariant-loop-turn g l = record {
  size : length l.requests ≡ length l.initial.requests;
  fits : l.last ≤ length l.requests;
  reading : Reading (length l.initial.requests) l._turn (take l.initial.last l.initial.requests)
      (take l.last l.requests) (store_mesh l.initial.store) (store_mesh l.store);
}
