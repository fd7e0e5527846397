-- `refining::find` meets its contract.
use Prim.Native.Nat.{ℕ}
use mathlib.Core.List.{List}
use mathlib.Core.Path.{◌≡◌, refl}
use Rattle.rules.specs.Tables.{Mesh}
use Rattle.std.proofs.lemmas.Result.{err_from_is_err_and}
use Rattle.tables.specs.Lent.{seen}
use Rattle.tables.specs.Refusals.{refused}
use Rattle.tables.specs.Standing.{standing}
use Rattle.refining.specs.Finding.{mesh_cornered}
use Rattle.tables.proofs.Refusing.{number_some}
use Rattle.refining.proofs.Locking.{follows_cornered}
use Rattle.refining.proofs.Refusing.{triangle_refusal, refine_triangle, refine_chain, refine_stands, refine_young}
use Rattle.refining.proofs.find.Goals.{After-check_triangle, In_ok-check_triangle}
use Rattle.refining.proofs.find.Goals as goal

abbrev mesh_of : After-check_triangle → List ℕ → Mesh
mesh_of c k = mesh_cornered c.args.counts k (seen c.args.view.now)

-- Nothing refuses the triangle.
passed : (c : In_ok-check_triangle) (k : List ℕ) →
    let m = mesh_cornered c.args.counts k (seen c.args.view.now) in
    refused c.args.stands ≡ standing m → 0 ≡ triangle_refusal c.args.t m
passed c k s = c.in_ok-check_triangle.ensures k s

pub returns-in_err-check_triangle : goal.returns-in_err-check_triangle
returns-in_err-check_triangle c k s =
    let m = mesh_of (goal.at.returns-in_err-check_triangle c).After-check_triangle k in
    let (r, e, f) = err_from_is_err_and c.from_residual.result c.from_residual.ensures.1 in
    rw (e, f) (refine_triangle c.args.t m _ (c.in_err-check_triangle.ensures k s) (number_some _), tt)

pub base_chain-chain-requires : goal.base_chain-chain-requires
base_chain-chain-requires c =
    let (k, s) = c.requires in
    let m = mesh_of (goal.at.base_chain-chain-requires c).After-check_triangle k in
    refine_young c.args.t m 0 (passed (goal.at.base_chain-chain-requires c).In_ok-check_triangle k s) refl

pub check_chain-requires : goal.check_chain-requires
check_chain-requires c =
    let (k, s) = c.requires in
    let m = mesh_of (goal.at.check_chain-requires c).After-check_triangle k in
    let (S, l) = refine_stands c.args.t m 0 (passed (goal.at.check_chain-requires c).In_ok-check_triangle k s) refl in
    follows_cornered S l c.args.view.now.corners.now (c.base_chain-chain.ensures c.args.counts k)

pub returns-in_err-check_chain : goal.returns-in_err-check_chain
returns-in_err-check_chain c k s =
    let m = mesh_of (goal.at.returns-in_err-check_chain c).After-check_triangle k in
    let C = c.base_chain-chain.ensures c.args.counts k in
    let q = c.in_err-check_chain.ensures c.args.t k C in
    let p = passed (goal.at.returns-in_err-check_chain c).In_ok-check_triangle k s in
    let (r, e, f) = err_from_is_err_and c.from_residual-in_err-check_chain.result c.from_residual-in_err-check_chain.ensures.1 in
    rw (e, f) (refine_chain c.args.t m 0 p refl _ (rw (← C.odd, ← C.rim) q), tt)

pub returns : goal.returns
returns c k s =
    let m = mesh_of (goal.at.returns c).After-check_triangle k in
    let C = c.base_chain-chain.ensures c.args.counts k in
    let q = c.in_ok-check_chain.ensures c.args.t k C in
    let p = passed (goal.at.returns c).In_ok-check_triangle k s in
    (refine_chain c.args.t m 0 p refl 0 (rw (← C.odd, ← C.rim) q), C)
