use Prim.Native.Nat.{◌+◌, ◌/◌}
use mathlib.Core.Bool.{◌&&◌}
use mathlib.Core.Path.{◌≡◌}
use Rattle.rules.specs.Below.{any}
use Rattle.rules.specs.Tables.{link, is_base, locked}
use Rattle.tables.specs.declared.Counts.{Counts}
use Rattle.tables.specs.Lent.{seen, mesh_with}
use Rattle.refining.proofs.locked.meets_locked.Given as goal

abbrev pub invariant-loop-i : goal.invariant-loop-i
invariant-loop-i l =
    (n : Counts) →
    let m = mesh_with n (seen l.view) in
    l.some ≡ any l.i (λ k. let h = link m.topology (l.first + k) in is_base m.topology h && locked m (h / 3))
