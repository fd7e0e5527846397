-- `decoding::sizes_fit` meets its contract: the test of the rules decides the same statement.
use native.Mathlib.Omega.{arith}
use Rattle.theory.proofs.Loads.CageTests.{sizes_fit_is}
use Rattle.theory.proofs.Numbers.Decide.{is_true, is_false, is_same}
use Rattle.rules.specs.Cage.{cage_of}
use Rattle.decoding.proofs.sizes_fit.Goals as goal

pub returns-then-cage-lt8 : goal.returns-then-cage-lt8
returns-then-cage-lt8 c n =
    is_same (is_false (λ S. omega (arith, S.header))) (sizes_fit_is _ _)

pub returns-then-v-lt1 : goal.returns-then-v-lt1
unfolding cage_of
returns-then-v-lt1 c n =
    is_same (is_false (λ S. omega (arith, S.some_vertex))) (sizes_fit_is _ _)

pub returns-then-f-lt1 : goal.returns-then-f-lt1
unfolding cage_of
returns-then-f-lt1 c n =
    is_same (is_false (λ S. omega (arith, S.some_triangle))) (sizes_fit_is _ _)

pub returns-then-view-v : goal.returns-then-view-v
unfolding cage_of
returns-then-view-v c n =
    is_same (is_false (λ S. omega (arith, S.vertex_room))) (sizes_fit_is _ _)

pub returns-then-view-f : goal.returns-then-view-f
unfolding cage_of
returns-then-view-f c n =
    is_same (is_false (λ S. omega (arith, S.triangle_room))) (sizes_fit_is _ _)

pub returns-then-cage-v : goal.returns-then-cage-v
unfolding cage_of
returns-then-cage-v c n =
    is_same (is_false (λ S. omega (arith, S.size))) (sizes_fit_is _ _)

pub returns : goal.returns
unfolding cage_of
returns c n =
    is_same
    (is_true (record {
      header = omega arith;
      some_vertex = omega arith;
      some_triangle = omega arith;
      vertex_room = omega arith;
      triangle_room = omega arith;
      size = omega arith;
    }))
    (sizes_fit_is _ _)
