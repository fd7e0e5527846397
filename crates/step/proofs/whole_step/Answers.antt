-- `step::whole_step` meets its contract.
use Prim.Native.Nat.{◌*◌, ◌/◌}
use native.Mathlib.Omega.{arith}
use mathlib.Core.List.{List, []}
use mathlib.Core.Path.{◌≡◌, refl, sym, ap, ◌∙◌}
use lib.IntN.{ℤ, pos}
use lib.ListN.{length, get_or}
use Rattle.theory.proofs.Calls.Carried.{StepFound}
use Rattle.theory.proofs.Steps.Closed.{with_centres, centres_leave, closed_step, step_closed}
use Rattle.rules.specs.Calls.{Outcome, worked}
use Rattle.rules.specs.Split.{Work, with_mesh}
use Rattle.rules.specs.Step.{move_vertices, whole_step}
use Rattle.rules.specs.Tables.{Mesh, mesh_of, with_positions}
use Rattle.rings.specs.Sums.{RingSums}
use Rattle.rings.specs.declared.sums.RingSum.{RingSum}
use Rattle.moving.specs.Moves.{Movable}
use Rattle.dividing.proofs.ChildRows.{length_placed}
use Rattle.step.proofs.whole_step.Goals as goal

-- The step is its closed form and then its moves.
whole_step_steps : (m : Mesh) → StepFound m → (w : Mesh) (positions : List ℤ) → w ≡ closed_step m
    → positions ≡ move_vertices m.topology.vertices m w.positions
    → worked (record {
      mesh = mesh_of w.topology positions w.locks w.rule;
      splits = m.topology.triangles;
      flips = 3 * m.topology.triangles / 2;
      report = [];
    })
    ≡ worked (whole_step m)
unfolding whole_step
whole_step_steps m R w positions ew ep =
    let after : Work → Outcome = λ x.
    worked (with_mesh (with_positions (move_vertices m.topology.vertices m x.mesh.positions) x.mesh) x) in
    rw (ep, ew) refl ∙ sym (ap after (step_closed m R))

-- After the splits the vertices still stand where they stood.
movable : {m : Mesh} {rings : List RingSum} {w : Mesh} → StepFound m → RingSums m rings
    → w ≡ closed_step m → Movable m.topology.vertices m.rule m w.positions rings
unfolding closed_step
movable {m} {w = w} F R e =
    let p : w.positions ≡ with_centres m.topology.triangles m = ap (λ (x : Mesh). x.positions) e in
    let S = F.sound in
    record {
      all = refl;
      rule = refl;
      few = omega (arith, S.tables.few_vertices, S.vertex_room);
      room = omega (
        arith,
        S.tables.positions,
        S.vertex_room,
        ap length p ∙ length_placed m m.topology.triangles,
      );
      old = λ i l. ap (λ (x : List ℤ). get_or x i (pos 0)) p ∙ centres_leave m.topology.triangles m i l;
      summed = R;
    }

pub move_all-requires : goal.move_all-requires
move_all-requires c =
    (_, movable c.requires.0 c.requires.1 c.split_all.ensures.split)

pub returns-clause-stepped : goal.returns-clause-stepped
returns-clause-stepped c =
    whole_step_steps _ c.requires.0 _ _ c.split_all.ensures.split
    (c.move_all.ensures _ (movable c.requires.0 c.requires.1 c.split_all.ensures.split))
