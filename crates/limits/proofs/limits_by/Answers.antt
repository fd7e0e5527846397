-- `limits::limits_by` meets its contract.
use native.Mathlib.Omega.{arith}
use mathlib.Core.List.{List}
use mathlib.Core.Path.{refl, sym, ap, ◌∙◌}
use Prim.Native.Nat.{ℕ}
use Rattle.theory.proofs.Steps.StepRefusals.{limit_refused, limit_carried}
use Rattle.rules.specs.Sound.{Sound}
use Rattle.rules.specs.Tables.{Mesh}
use Rattle.rings.specs.Sums.{RingSums}
use Rattle.rings.specs.declared.sums.RingSum.{RingSum}
use Rattle.tables.specs.Answers.{table_outcome}
use Rattle.tables.specs.Lent.{mesh_now}
use Rattle.tables.specs.Refusals.{refused}
use Rattle.tables.proofs.Refusing.{refused_some, passed_on}
use Rattle.moving.specs.Moves.{Movable}
use Rattle.limits.proofs.limits_by.Goals as goal

movable : {m : Mesh} {rings : List RingSum} → Sound m → RingSums m rings
    → Movable m.topology.vertices m.rule m m.positions rings
movable {m} S R = record {
  all = refl;
  rule = refl;
  few = omega (arith, S.tables.few_vertices, S.vertex_room);
  room = omega (arith, S.tables.positions, S.vertex_room);
  old = λ i l. refl;
  summed = R;
}

pub returns-in_err-refusal : goal.returns-in_err-refusal
returns-in_err-refusal c k S =
    let same = passed_on _ c.in_err-refusal.was c.from_residual.ensures.1 in
    limit_refused _ _ _ (same ∙ (c.refusal.ensures k S).0 _ refl) (λ z. refused_some c.in_err-refusal.was (sym same ∙ z))

pub write_all-requires : goal.write_all-requires
write_all-requires c =
    let mesh : List ℕ → Mesh = λ k. mesh_now c.args.counts c.args.view.now.positions.now c.args.view.now.corners.now
    c.args.view.now.links.now c.args.view.now.generations.now k in
    let (k, S) = c.requires.0 in
    let found = (c.refusal.ensures k S).1 (ap refused c.in_ok-refusal.was) in
    ((mesh k, movable S found.0), omega (arith, found.1))

pub returns : goal.returns
returns c k S =
    let mesh : List ℕ → Mesh = λ k. mesh_now c.args.counts c.args.view.now.positions.now c.args.view.now.corners.now
    c.args.view.now.links.now c.args.view.now.generations.now k in
    let found = c.refusal.ensures k S in
    let none = ap refused c.in_ok-refusal.was in
    ap (table_outcome 0 (mesh k)) (c.write_all.ensures (mesh k) (movable S (found.1 none).0))
    ∙ limit_carried _ (mesh k) (sym none ∙ found.0 _ refl)
