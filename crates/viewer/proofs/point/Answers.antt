-- `viewer::point` meets its contract.
use Rattle.std.proofs.Common.{ap, ◌∙◌}
use Rattle.viewer.proofs.Viewing.{refused_seen, read_seen, read_near}
use Rattle.viewer.specs.declared.Seen.TheVariants as Seen·
use Rattle.viewer.proofs.point.Goals as goal

pub returns-then-read-ne0 : goal.returns-then-read-ne0
returns-then-read-ne0 c =
    refused_seen _ _ _ c.position-read.ensures c.if-read-ne0.true

pub view_point-requires : goal.view_point-requires
view_point-requires c =
    let near = read_near _ _ _ c.position-read.ensures c.if-read-ne0.false in
    record { x = near.0; y = near.1; z = near.2 }

pub returns : goal.returns
returns c =
    ap Seen·.Point c.view_point.ensures
    ∙ read_seen _ _ _ c.position-read.ensures c.if-read-ne0.false
