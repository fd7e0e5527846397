-- What is left of the bytes makes of the mesh that is reached what all of them make of the first.
use Rattle.std.proofs.Common.{◌≡◌}
use Rattle.std.specs.Slice.Iter.{chunks_exact_rest, chunks_exact_size}
use Rattle.refine.specs.Requests.{store_mesh, after_bytes}
use Rattle.refine.proofs.answer.Given as goal

abbrev pub invariant-loop-request : goal.invariant-loop-request
invariant-loop-request g l = record {
  four : chunks_exact_size l.request-iterator ≡ 4;
  left : after_bytes (chunks_exact_rest l.request-iterator) (store_mesh l.store) ≡ after_bytes l.requests (store_mesh l.initial.store);
}
