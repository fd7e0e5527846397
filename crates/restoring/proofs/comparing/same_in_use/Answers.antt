-- `restoring::comparing::same_in_use` meets its contract.
use Rattle.std.proofs.Common.{rules}
use Rattle.restoring.proofs.SameMeshes.{same_by_slices}
use Rattle.restoring.proofs.comparing.same_in_use.Goals as goal

pub returns-then-eq-5 : goal.returns-then-eq-5
returns-then-eq-5 c =
    rw (← same_by_slices c.args.counts c.args.other_counts c.requires.has_slots c.requires.other_slots) (search rules)

pub returns-else-eq-5 : goal.returns-else-eq-5
returns-else-eq-5 c =
    rw (← same_by_slices c.args.counts c.args.other_counts c.requires.has_slots c.requires.other_slots) (search rules)
