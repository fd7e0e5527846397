-- `refining::locked::is_locked_base` meets its contract.
use mathlib.Core.List.{[]}
use mathlib.Core.Path.{sym, ◌∙◌}
use Prim.Native.Nat.{◌/◌}
use native.Mathlib.Omega.{arith}
use Rattle.theory.proofs.Numbers.Decide.{when_true}
use Rattle.theory.proofs.Splits.Bases.{base_is}
use Rattle.rules.specs.Tables.{topology_of}
use Rattle.refining.proofs.Locking.{odd_inside}
use Rattle.refining.proofs.locked.is_locked_base.Goals as goal

pub returns-then-not-is_base : goal.returns-then-not-is_base
returns-then-not-is_base c n =
    rw (sym (c.is_base.ensures n c.args.view.now.corners.now c.args.view.now.links.now) ∙ c.if-not-is_base.true)

pub is_locked-requires : goal.is_locked-requires
is_locked-requires c =
    let told = c.is_base.ensures (record { vertices = 0; triangles = 0; rule = 0 }) [] [] in
    let m = topology_of 0 0 [] [] c.args.view.now.generations.now in
    let B = when_true (base_is m c.args.h) (sym told ∙ c.if-not-is_base.false) in
    omega (arith, odd_inside c.args.view.now.generations.now (c.args.h / 3) B.1, c.requires)

pub returns : goal.returns
returns c n =
    rw (sym (c.is_base.ensures n c.args.view.now.corners.now c.args.view.now.links.now) ∙ c.if-not-is_base.false) c.is_locked.ensures
