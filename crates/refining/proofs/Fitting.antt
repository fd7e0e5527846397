-- Work in spare tables with a report: it is fitted to the buffer, made again and carried back.
use borrow.Author.Tests.{ltb-false}
use mathlib.Core.Bool.{Bool, true, false}
use mathlib.Core.List.{List}
use mathlib.Core.Logic.{◌≢◌}
use mathlib.Core.Path.{◌≡◌, refl, sym, ap, ◌∙◌, subst}
use Prim.Native.Nat.{ℕ, zero, suc, ◌+◌, ◌*◌, ◌≤◌}
use native.Mathlib.Omega.{arith}
use lib.Dec.{ltb}
use lib.IntN.{ℤ}
use lib.ListN.{length}
use Rattle.theory.proofs.Calls.ReportedCalls.{going_length}
use Rattle.theory.proofs.Chains.Going.{Going}
use Rattle.theory.proofs.Lists.Holding.{Holding, Done, holding_few, holding_length}
use Rattle.theory.proofs.Lists.Preview.{copied_twice}
use Rattle.theory.proofs.Spares.CopiedBack.{tables_of}
use Rattle.rules.specs.Calls.{Answer, Outcome}
use Rattle.rules.specs.Calls.{with_report}
use Rattle.rules.specs.Lists.{Progress, all_or_nothing}
use Rattle.rules.specs.Reports.{report_in}
use Rattle.rules.specs.Spares.{Spares, copied, mesh_in, SameSizes}
use Rattle.rules.specs.Split.{Work}
use Rattle.rules.specs.Tables.{Mesh}
use Rattle.tables.specs.Lent.{mesh_now}
use Rattle.reporting.specs.Told.{Told}
use Rattle.refining.specs.Batches.{Holds, Made, MayWork, only_read}
use Rattle.refining.specs.Batches.{fitted_if, fitted, fit_if, fit_in, left_unless}
use Rattle.refining.specs.Batches.{report_left, reported_done}
use Rattle.refining.specs.declared.spares.Batch.{Batch}
use Rattle.refining.proofs.Batching.{over_sizes}
use Rattle.refining.proofs.Telling.{told_all}

module _ {p : Progress} {s : Spares} {m : Mesh} {r : Batch} {x : Mesh} (M : Made p s m r x) where
  made_holding : Holding m s p.work r.splits r.flips p.work.report x
  made_holding = record {
    sizes = M.sizes;
    going = M.going;
    splits = M.done.splits;
    flips = M.done.flips;
    report = refl;
    tables = M.done.tables;
  }

  pub made_few : (r.splits ≤ 32768) × (r.flips ≤ 98304)
  made_few = holding_few made_holding

-- The counts that are answered are small.
pub few_answered : {p : Progress} {s : Spares} {m : Mesh} {r : Batch} {x : Mesh} {a : Answer} → Made p s m r x
    → a ≡ (all_or_nothing p.refusal p s m).answer → (a.splits ≤ 32768) × (a.flips ≤ 98304)
few_answered {p} {s} {m} M e = rw e (go p.refusal)
  where
    go : (n : ℕ) → let a = (all_or_nothing n p s m).answer in (a.splits ≤ 32768) × (a.flips ≤ 98304)
    go zero =
        let (i, j) = made_few M in
        (omega (arith, i, M.done.splits), omega (arith, j, M.done.flips))
    go (suc n) = (omega arith, omega arith)

-- ---- the work with a report

-- Where the work is made again on what it left, it leaves the same.
module _ {p : Progress} {s : Spares} {n at k f : ℕ} {x : Mesh} (D : Done p s n at k f x) where
  left_is : tables_of x ≡ copied p.work.mesh s
  left_is = ap tables_of D.tables

  pub may_again : {m : Mesh} → MayWork m s → MayWork m (tables_of x)
  may_again W =
      let L = W.sizes in
      let Z = over_sizes s p.work.mesh in
      record {
        stands = W.stands;
        sizes = rw left_is (record {
          positions = sym Z.positions ∙ L.positions;
          corners = sym Z.corners ∙ L.corners;
          links = sym Z.links ∙ L.links;
          generations = sym Z.generations ∙ L.generations;
          locks = sym Z.locks ∙ L.locks;
        });
      }

  pub done_again : {n' at' k' f' : ℕ} {y : Mesh} → Done p (tables_of x) n' at' k' f' y → Done p s n' at' k' f' y
  done_again E = record {
    refusal = E.refusal;
    handled = E.handled;
    splits = E.splits;
    flips = E.flips;
    tables =
        E.tables
        ∙ ap (λ (t : Spares). mesh_in t p.work.mesh)
        (ap (copied p.work.mesh) left_is ∙ copied_twice p.work.mesh s);
  }

-- What is answered is fitted as the work is.
fit_by : (i : ℕ) (b : Bool) {p : Progress} {s : Spares} (r : Batch) {q : List ℤ} {c l g k : List ℕ}
    → Holds p s r (mesh_now r.counts q c l g k)
    → Holds (fitted_if i b p) s (fit_if i b r) (mesh_now (fit_if i b r).counts q c l g k)
fit_by (suc i) b r D = D
fit_by zero false r D = D
fit_by zero true r D = record {
  refusal = refl;
  handled = D.handled;
  splits = D.splits;
  flips = D.flips;
  tables = D.tables;
}

fit_both : {i j : ℕ} {b d : Bool} {p : Progress} {s : Spares} (r : Batch) {q : List ℤ} {c l g k : List ℕ} → i ≡ j
    → b ≡ d → Holds p s r (mesh_now r.counts q c l g k)
    → Holds (fitted_if j d p) s (fit_if i b r) (mesh_now (fit_if i b r).counts q c l g k)
fit_both {j = j} {d = d} r e f D = rw (e, f) (fit_by j d r D)

pub fit_holds : {p : Progress} {s : Spares} {m : Mesh} (r : Batch) {q : List ℤ} {c l g k : List ℕ} (buffer : List ℕ)
    → Made p s m r (mesh_now r.counts q c l g k) → {a : Batch} → a ≡ fit_in (length buffer) r
    → Holds (fitted p buffer) s a (mesh_now a.counts q c l g k)
fit_holds {p} {s} r {q} {c} {l} {g} {k} buffer M e =
    subst (λ (a : Batch). Holds (fitted p buffer) s a (mesh_now a.counts q c l g k)) (sym e)
    (fit_both r M.done.refusal (ap (ltb (length buffer)) (sym (holding_length (made_holding M)))) M.done)

left_failed : (n : ℕ) (l buffer : List ℕ) → n ≢ 0 → buffer ≡ left_unless n l buffer
left_failed zero l buffer z = absurd (z refl)
left_failed (suc n) l buffer z = refl

pub fit_failed : {p : Progress} {s : Spares} {m : Mesh} (r : Batch) {q : List ℤ} {c l g k : List ℕ} (buffer : List ℕ)
    → Made p s m r (mesh_now r.counts q c l g k) → {a : Batch} → a ≡ fit_in (length buffer) r → a.refusal ≢ 0
    → Holds (fitted p buffer) s a (mesh_now a.counts q c l g k) × (buffer ≡ report_left p buffer)
fit_failed {p} r buffer M e z =
    let D = fit_holds r buffer M e in
    (D, left_failed (fitted p buffer).refusal p.work.report buffer (λ x. z (D.refusal ∙ x)))

-- Nothing refuses it: the report has room.
fitted_zero : (p : Progress) (buffer : List ℕ) → (fitted p buffer).refusal ≡ 0
    → (fitted p buffer ≡ p) × (length p.work.report ≤ length buffer)
fitted_zero p buffer z = go p.refusal refl (ltb (length buffer) (length p.work.report)) refl z
  where
    go : (i : ℕ) → p.refusal ≡ i → (b : Bool) → ltb (length buffer) (length p.work.report) ≡ b
        → (fitted_if i b p).refusal ≡ 0 → (fitted_if i b p ≡ p) × (length p.work.report ≤ length buffer)
    go (suc i) e b q z = absurd (omega (arith, e, z))
    go zero e true q z = absurd (omega (arith, z))
    go zero e false q z = (refl, ltb-false _ _ q)

pub fit_done : {p : Progress} {s : Spares} {buffer after : List ℕ} {n at k f n' at' k' f' : ℕ} {x y : Mesh}
    → Done (fitted p buffer) s n at k f x → n ≡ 0 → Done p s n' at' k' f' y → Told p.work.report buffer after 0
    → Done (fitted p buffer) s n' at' k' f' y × (after ≡ report_left p buffer)
fit_done {p} {s} {buffer} {after} {n' = n'} {at'} {k'} {f'} {y = y} D z E T =
    let (e, room) = fitted_zero p buffer (sym D.refusal ∙ z) in (
      subst (λ (w : Progress). Done w s n' at' k' f' y) (sym e) E,
      told_all T room
          ∙ ap (λ (i : ℕ). left_unless i p.work.report buffer) (sym z ∙ D.refusal),
    )

-- What is carried back, or foreseen, of work that was fitted.
fitted_work : (i : ℕ) (b : Bool) (p : Progress) → (fitted_if i b p).work ≡ p.work
fitted_work (suc i) b p = refl
fitted_work zero true p = refl
fitted_work zero false p = refl

work_fitted : (p : Progress) (buffer : List ℕ) → (fitted p buffer).work ≡ p.work
work_fitted p buffer = fitted_work p.refusal (ltb (length buffer) (length p.work.report)) p

pub fitted_made : (p : Progress) (buffer : List ℕ) {m : Mesh} {s : Spares} {r : Batch} {x : Mesh} → SameSizes s m
    → Going m p.work → Holds (fitted p buffer) s r x → Made (fitted p buffer) s m r x
fitted_made p buffer {m} L G D = record {
  sizes = L;
  going = subst (Going m) (sym (work_fitted p buffer)) G;
  done = D;
}

abbrev fitted_done : Progress → List ℕ → Mesh → Spares → Outcome
fitted_done p buffer m s = all_or_nothing (fitted p buffer).refusal (fitted p buffer) s m

reported_by : (w : Work) (h i : ℕ) (buffer : List ℕ) (m : Mesh) (s : Spares) →
    let p : Progress = record { work = w; handled = h; refusal = i } in
    let o = fitted_done p buffer m s in
    length w.report ≡ 3 * w.splits + 2 * w.flips
    → with_report (report_left p buffer) (3 * o.answer.splits + 2 * o.answer.flips) o ≡ reported_done p buffer m s
reported_by w h (suc i) buffer m s e = refl
reported_by w h zero buffer m s e = go (ltb (length buffer) (length w.report))
  where
    go : (b : Bool) →
        let p : Progress = record { work = w; handled = h; refusal = 0 } in
        let q = fitted_if 0 b p in
        let o = all_or_nothing q.refusal q s m in
        with_report (left_unless q.refusal w.report buffer) (3 * o.answer.splits + 2 * o.answer.flips) o
        ≡ elim b [
          | true ↦ with_report buffer 0 (all_or_nothing 23 p s m)
          | false ↦ with_report (report_in w.report buffer) (length w.report) (all_or_nothing 0 p s m)
        ]
    go true = refl
    go false =
        let p : Progress = record { work = w; handled = h; refusal = 0 } in
        ap (λ (n : ℕ). with_report (report_in w.report buffer) n (all_or_nothing 0 p s m)) (sym e)

module _ (p : Progress) (buffer : List ℕ) (s : Spares) {after : List ℕ} {m : Mesh} (G : Going m p.work)
    (e : after ≡ report_left p buffer) where
  pub reported_is : {o : Outcome} → o ≡ fitted_done p buffer m s
      → with_report after (3 * o.answer.splits + 2 * o.answer.flips) o ≡ reported_done p buffer m s
  reported_is d = rw (d, e) (reported_by p.work p.handled p.refusal buffer m s (going_length G))

  pub foreseen_reported : {o : Outcome} → o ≡ only_read m (fitted_done p buffer m s)
      → with_report after (3 * o.answer.splits + 2 * o.answer.flips) o ≡ only_read m (reported_done p buffer m s)
  foreseen_reported d = rw d (ap (only_read m) (reported_is refl))
