-- `refining::check_triangle` meets its contract.
use borrow.Author.Tests.{le-leb, lt-leb}
use mathlib.Core.Path.{sym, ap, ◌∙◌}
use Rattle.tables.specs.Lent.{seen}
use Rattle.tables.specs.Refusals.{refused}
use Rattle.tables.proofs.Refusing.{refused_some, passed_on}
use Rattle.refining.specs.Finding.{mesh_cornered}
use Rattle.refining.proofs.Refusing.{triangle_stands, triangle_eight, triangle_nine, triangle_none}
use Rattle.refining.proofs.check_triangle.Goals as goal

pub returns-in_err-stands : goal.returns-in_err-stands
returns-in_err-stands c k e =
    passed_on _ c.in_err-stands.was c.from_residual.ensures.1
    ∙ triangle_stands c.args.t (mesh_cornered c.args.counts k (seen c.args.view.now)) _ e (refused_some c.in_err-stands.was)

pub returns-then-counts-t : goal.returns-then-counts-t
returns-then-counts-t c k e =
    triangle_eight c.args.t (mesh_cornered c.args.counts k (seen c.args.view.now)) _ e (ap refused c.in_ok-stands.was)
    (le-leb _ _ c.if-counts-t.true)

pub returns-then-too_old : goal.returns-then-too_old
returns-then-too_old c k e =
    triangle_nine c.args.t (mesh_cornered c.args.counts k (seen c.args.view.now)) _ e (ap refused c.in_ok-stands.was)
    (lt-leb _ _ c.if-counts-t.false) (sym (c.too_old.ensures c.args.counts) ∙ c.if-too_old.true)

pub returns : goal.returns
returns c k e =
    triangle_none c.args.t (mesh_cornered c.args.counts k (seen c.args.view.now)) _ e (ap refused c.in_ok-stands.was)
    (lt-leb _ _ c.if-counts-t.false) (sym (c.too_old.ensures c.args.counts) ∙ c.if-too_old.false)
