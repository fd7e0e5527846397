-- After j vertices their points are written, in any mesh of these tables whose rim this is.
use Rattle.std.proofs.Common.{length, ◌≡◌}
use Rattle.tables.specs.Lent.{seen, mesh_with}
use Rattle.tables.specs.declared.Counts.{Counts}
use Rattle.rim.specs.Traced.{Traced}
use Rattle.rim.proofs.Writing.{Writing}
use Rattle.rim.proofs.write_curve.Given as goal

abbrev pub invariant-loop-j : goal.invariant-loop-j
invariant-loop-j l = record {
  size : length l.table ≡ length l.initial.table;
  written : (n : Counts) →
      let m = mesh_with n (seen l.fn.view) in
      Traced m l.first l.fn.trace → Writing m l.first l.j l.h l.before l.this l.initial.table l.table;
}
