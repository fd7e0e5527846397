-- `split::settle` meets its contract.
use Prim.Native.Nat.{ℕ, ◌*◌, ◌/◌}
use native.Mathlib.Omega.{arith}
use mathlib.Core.Bool.{Bool}
use mathlib.Core.List.{List, [], ◌∷◌, ◌++◌}
use mathlib.Core.Path.{◌≡◌, sym, ap, ◌∙◌}
use Rattle.rules.specs.Spares.{Spares}
use Rattle.rules.specs.Tables.{Topology, link, is_base}
use Rattle.tables.specs.Lent.{held, topology_with, topology_now}
use Rattle.tables.specs.declared.Counts.{Counts}
use Rattle.split.specs.Made.{counts_of, work_now}
use Rattle.split.proofs.Bounds.{base_within}
use Rattle.split.proofs.Steps.{settle_flips, settle_keeps}
use Rattle.split.proofs.settle.Goals as goal

-- Whether h is a base, by the generations as they were seen.
base_met : (n : Counts) (h : ℕ) (seen lent : Spares) {b : Bool} → seen ≡ lent
    → b ≡ is_base (topology_now n [] [] seen.generations) h → b ≡ is_base (topology_with n lent) h
base_met n h seen lent e t = t ∙ ap (λ (x : Spares). is_base (topology_now n [] [] x.generations) h) e

pub flip-requires : goal.flip-requires
flip-requires c =
    let n : Counts = counts_of 0 c.args.work in
    let m : Topology = topology_with n (held c.args.tables.now) in
    let h : ℕ = link m (3 * c.args.s) in
    let tested = base_met n h _ _ c.view.ensures.same (c.is_base.ensures n [] []) in
    let within = base_within m h (sym tested ∙ c.if-is_base.true) in
    omega (arith, c.requires, within)

pub returns-then-is_base-clause-settled : goal.returns-then-is_base-clause-settled
returns-then-is_base-clause-settled c rule report =
    let n : Counts = counts_of rule c.args.work in
    let m : Topology = topology_with n (held c.args.tables.now) in
    let h : ℕ = link m (3 * c.args.s) in
    let tested = base_met n h _ _ c.view.ensures.same (c.is_base.ensures n [] []) in
    let more : List ℕ = report ++ (c.args.s ∷ h / 3 ∷ []) in (
      more,
      rw (c.flip.ensures.rest.positions, c.flip.ensures.rest.locks)
          (settle_flips c.args.s (work_now rule report c.args.work (held c.args.tables.now)) _ tested _ c.if-is_base.true
          (c.flip.ensures.flipped n)),
    )

pub returns-else-is_base-clause-settled : goal.returns-else-is_base-clause-settled
returns-else-is_base-clause-settled c rule report =
    let n : Counts = counts_of rule c.args.work in
    let m : Topology = topology_with n (held c.args.tables.now) in
    let tested = base_met n (link m (3 * c.args.s)) _ _ c.view.ensures.same (c.is_base.ensures n [] []) in
    (report, settle_keeps c.args.s (work_now rule report c.args.work (held c.args.tables.now)) _ tested c.if-is_base.false)
