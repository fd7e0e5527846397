-- What a preview foresees is what the list makes.
use mathlib.Core.List.{List}
use mathlib.Core.Logic.{◌≢◌}
use mathlib.Core.Path.{◌≡◌, refl, sym, ap, ◌∙◌}
use Prim.Native.Nat.{ℕ, zero, suc}
use native.Mathlib.Omega.{arith}
use lib.IntN.{ℤ}
use Rattle.theory.proofs.Chains.Going.{Going}
use Rattle.theory.proofs.Lists.Holding.{Done, failed_is, copied_is}
use Rattle.theory.proofs.Spares.CopiedBack.{tables_of}
use Rattle.rules.specs.Calls.{outcome_of, spare_room}
use Rattle.rules.specs.Lists.{Progress, spares_answer, all_or_nothing}
use Rattle.rules.specs.Spares.{Spares, copied, SameSizes}
use Rattle.rules.specs.Tables.{Mesh, mesh_of, with_topology}
use Rattle.tables.specs.declared.Counts.{Counts}
use Rattle.tables.specs.Lent.{mesh_now}
use Rattle.refining.specs.Batches.{Made, only_read}
use Rattle.refining.specs.declared.spares.Batch.{Batch}
use Rattle.foreseeing.specs.Foreseen.{foreseen_if, foreseen_of, foreseen_outcome}
use Rattle.foreseeing.specs.declared.BatchForeseen.{BatchForeseen}

module _ {m : Mesh} {p : Progress} {s : Spares} {n at k f : ℕ} {x : Mesh} (D : Done p s n at k f x) where
  foreseen_failed : n ≢ 0
      → outcome_of (spares_answer n 0 0 m at x) m (spare_room (tables_of x))
      ≡ only_read m (all_or_nothing p.refusal p s m)
  foreseen_failed z = ap (only_read m) (failed_is m D z)

  foreseen_done : SameSizes s m → Going m p.work → n ≡ 0
      → outcome_of (spares_answer 0 k f (with_topology x.topology m) at x) m (spare_room (tables_of x))
      ≡ only_read m (all_or_nothing p.refusal p s m)
  foreseen_done L G z =
      let r : x.rule ≡ m.rule = ap (λ (y : Mesh). y.rule) D.tables ∙ G.places.rule in
      let e = copied_is {y = copied x (tables_of m)} L G (rw z at D) refl in
      ap (λ (q : ℕ).
      outcome_of (spares_answer 0 k f (mesh_of x.topology m.positions m.locks q) at x) m (spare_room (tables_of x)))
      (sym r)
      ∙ ap (only_read m) e

pub foreseen_is : (n : Counts) {p : List ℤ} {c l g k : List ℕ} {w : Progress} {s : Spares} (r : Batch) {q : List ℤ}
    {c' l' g' k' : List ℕ} {a : BatchForeseen} →
    let m = mesh_now n p c l g k in
    let x = mesh_now r.counts q c' l' g' k' in
    a ≡ foreseen_of n r → Made w s m r x
    → foreseen_outcome a m (tables_of x) ≡ only_read m (all_or_nothing w.refusal w s m)
foreseen_is n {p} {c} {l} {g} {k} {w} {s} r {q} {c'} {l'} {g'} {k'} e M = rw e (go r.refusal M.done)
  where
    go : (i : ℕ) →
        let m = mesh_now n p c l g k in
        let x = mesh_now r.counts q c' l' g' k' in
        Done w s i r.handled r.splits r.flips x
        → foreseen_outcome (foreseen_if i n r) m (tables_of x) ≡ only_read m (all_or_nothing w.refusal w s m)
    go zero D = foreseen_done D M.sizes M.going refl
    go (suc i) D = foreseen_failed D (λ z. omega (arith, z))
