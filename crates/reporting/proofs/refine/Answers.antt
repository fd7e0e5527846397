-- `reporting::refine` meets its contract: the loop of refine.
use Prim.Native.Nat.{ℕ, ◌+◌, ◌-◌, ◌≤◌, ◌<◌}
use native.Mathlib.Omega.{arith}
use mathlib.Core.Bool.{Bool, true}
use mathlib.Core.List.{List, []}
use lib.Dec.{leb}
use lib.ListN.{length}
use mathlib.Core.Path.{◌≡◌, refl, sym, ap, ◌∙◌, subst}
use Rattle.theory.proofs.Calls.Carried.{RefineFound}
use Rattle.theory.proofs.Chains.RefineLoop.{Refining, refining_begins, refining_ends, few_splits}
use Rattle.rules.specs.Split as rules
use Rattle.rules.specs.Split.{chain_end}
use Rattle.rules.specs.Tables.{Mesh}
use Rattle.split.specs.declared.Work.{Work}
use Rattle.split.specs.Made.{work_now}
use Rattle.reporting.specs.Told.{Tells, Told}
use Rattle.reporting.proofs.Telling.{fits_seen, tells_none, splits_are, fits_from, tells_if}
use Rattle.reporting.proofs.Turns.{end_within, Turned, turn_may_split, turn_asks, turn_done}
use Rattle.rules.specs.Spares.{Spares}
use Rattle.tables.specs.Lent.{held, mesh_with}
use Rattle.tables.proofs.Lending.{same_on}
use Rattle.reporting.proofs.refine.Goals.{After-fits-telling, After-split_at-work, After-tell_split-told, After-across_last-end, After-split_at-work-in-loop-left}
use Rattle.reporting.proofs.refine.Goals as goal

none_left : {t left : ℕ} {m : Mesh} {slots : List ℕ} {w : rules.Work} → RefineFound t m → left ≡ 0
    → Refining t m slots left w → w ≡ rules.refine t (rules.at_first m)
none_left {t} {m = m} {slots} {w} R z N = refining_ends R (subst (λ (k : ℕ). Refining t m slots k w) z N)

-- Its report is that of the refine, told where the whole has room.
told_whole : (rule : ℕ) (report : List ℕ) (work : Work) (tables : Spares) {x : rules.Work} {r s : List ℕ}
    {at end : ℕ} {b : Bool} → work_now rule report work tables ≡ x → (b ≡ true → Tells report r s at end)
    → b ≡ leb (length x.report) (length r - at) → length s ≡ length r
    → (work_now rule x.report work tables ≡ x) × Told x.report r s at
told_whole rule report work tables {x} {r} {s} {at} {end} e T f z =
    let q : report ≡ x.report = ap (λ (w : rules.Work). w.report) e in (
      subst (λ (j : List ℕ). work_now rule j work tables ≡ x) q e,
      (end, tells_if (λ i. subst (λ (j : List ℕ). Tells j r s at end) q (T i)) f z),
    )

-- ---- before the first split

-- The mesh that is refined, and the work of which nothing is done.
abbrev mesh_of : After-fits-telling → Mesh
mesh_of c = mesh_with c.args.counts (held c.args.tables.now)

abbrev whole : After-fits-telling → List ℕ
whole c = (rules.refine c.args.t (rules.at_first (mesh_of c))).report

begun : (c : After-fits-telling) →
    Turned c.args.t (mesh_of c) c.args.chain.slots c.fits-telling.result c.args.report.now c.args.at
    c.splits-splits.result (rules.at_first (mesh_of c)) c.args.report.now c.args.at
begun c = record {
  refining =
      subst (λ (k : ℕ). Refining c.args.t (mesh_of c) c.args.chain.slots k (rules.at_first (mesh_of c)))
      (sym (c.splits-splits.ensures ∙ splits_are c.requires.1))
      (refining_begins c.requires.0 (λ i b. c.requires.1.slots i (omega (arith, c.requires.1.odd))));
  tells = λ f. tells_none _ _;
  size = refl;
}

some_split : (c : After-fits-telling) → 0 < c.splits-splits.result
some_split c = omega (arith, c.splits-splits.ensures)

fitted : (c : After-fits-telling)
    → c.fits-telling.result ≡ leb (length (whole c)) (length c.args.report.now - c.args.at)
fitted c =
    fits_seen c.args.t c.args.counts c.args.chain _ c.view.ensures.same
    (c.fits-telling.ensures c.args.t c.args.counts _ _ _) c.requires.0 c.requires.1
    ∙ ap (leb (length (whole c))) c.saturating_sub.ensures

room : (c : After-fits-telling) → c.fits-telling.result ≡ true
    → c.args.at + length (whole c) ≤ length c.args.report.now
room c f = fits_from c.args.at (length c.args.report.now) c.requires.0 (sym (fitted c) ∙ f)

-- ---- after the first split, and after one in the loop

abbrev first : After-split_at-work → List ℕ → rules.Work
first c report =
    work_now c.args.counts.rule report c.split_at-work.result (held c.split_at-work.new.tables)

abbrev so_far : After-across_last-end → List ℕ → rules.Work
so_far c report =
    work_now c.args.counts.rule report c.loop-left.work (held c.loop-left.tables)

more : (c : After-across_last-end) → 0 < c.loop-left.left - 1
more c = omega (arith, c.loop-left-test.true)

at_end : (c : After-across_last-end)
    → c.across_last-end.result ≡ chain_end (so_far c c.loop-left.invariant.1).mesh.topology c.args.t
at_end c = c.across_last-end.ensures ∙ sym (c.loop-left.invariant.3 (more c)).next

abbrev next : After-split_at-work-in-loop-left → List ℕ → rules.Work
next c report =
    work_now c.args.counts.rule report c.split_at-work-in-loop-left.result (held c.split_at-work-in-loop-left.new.tables)

-- ---- the answers

pub fits-telling-requires : goal.fits-telling-requires
fits-telling-requires c =
    omega (arith, c.view.ensures.sizes, end_within c.requires.0 c.requires.1.end)

pub split_at-work-requires : goal.split_at-work-requires
split_at-work-requires c =
    let start = (goal.at.split_at-work-requires c).After-fits-telling in
    (c.args.counts.rule, [], turn_may_split c.requires.0 (begun start).refining (some_split start) c.requires.1.end)

pub tell_split-told-requires : goal.tell_split-told-requires
tell_split-told-requires c =
    let start = (goal.at.tell_split-told-requires c).After-fits-telling in
    let split = (goal.at.tell_split-told-requires c).After-split_at-work in
    let (report, e) = c.split_at-work.ensures.split c.args.counts.rule [] in
    turn_asks c.requires.0 (begun start).refining (some_split start) c.requires.1.end (first split report) e
    (begun start) (room start)

pub loop-left-init : goal.loop-left-init
loop-left-init c =
    let start = (goal.at.loop-left-init c).After-fits-telling in
    let split = (goal.at.loop-left-init c).After-split_at-work in
    let (report, e) = c.split_at-work.ensures.split c.args.counts.rule [] in
    let (T, N) =
    turn_done c.requires.0 (begun start).refining (some_split start) c.requires.1.end (first split report) e
    (begun start) c.tell_split-told.ensures c.tell_split-told.auto.report in
    (c.split_at-work.ensures.lent, report, T, N)

pub across_last-end-requires : goal.across_last-end-requires
across_last-end-requires c =
    let (_, report, T, N) = c.loop-left.invariant in
    let more : 0 < c.loop-left.left - 1 = omega (arith, c.loop-left-test.true) in (
      more,
      omega (arith, few_splits c.requires.0, T.refining.splits),
      omega (arith, (N more).in_use, T.refining.ahead.room.links),
    )

pub split_at-work-requires-in-loop-left : goal.split_at-work-requires-in-loop-left
split_at-work-requires-in-loop-left c =
    let turn = (goal.at.split_at-work-requires-in-loop-left c).After-across_last-end in
    let (_, report, T, N) = c.loop-left.invariant in
    (c.args.counts.rule, report, turn_may_split c.requires.0 T.refining (more turn) (at_end turn))

pub tell_split-told-requires-in-loop-left : goal.tell_split-told-requires-in-loop-left
tell_split-told-requires-in-loop-left c =
    let start = (goal.at.tell_split-told-requires-in-loop-left c).After-fits-telling in
    let turn = (goal.at.tell_split-told-requires-in-loop-left c).After-across_last-end in
    let split = (goal.at.tell_split-told-requires-in-loop-left c).After-split_at-work-in-loop-left in
    let (_, report, T, N) = c.loop-left.invariant in
    let (after, e) = c.split_at-work-in-loop-left.ensures.split c.args.counts.rule report in
    turn_asks c.requires.0 T.refining (more turn) (at_end turn) (next split after) e T (room start)

pub loop-left-preserved : goal.loop-left-preserved
loop-left-preserved c =
    let turn = (goal.at.loop-left-preserved c).After-across_last-end in
    let split = (goal.at.loop-left-preserved c).After-split_at-work-in-loop-left in
    let (_, report, T, N) = c.loop-left.invariant in
    let (after, e) = c.split_at-work-in-loop-left.ensures.split c.args.counts.rule report in
    let (U, B) =
    turn_done c.requires.0 T.refining (more turn) (at_end turn) (next split after) e T
    c.tell_split-told-in-loop-left.ensures c.tell_split-told-in-loop-left.auto.report in
    (same_on c.split_at-work-in-loop-left.ensures.lent c.loop-left.invariant.0, after, U, B)

pub returns-clause-refined : goal.returns-clause-refined
returns-clause-refined c =
    let start = (goal.at.returns-clause-refined c).After-fits-telling in
    let (_, report, T, N) = c.loop-left.invariant in
    let done : c.loop-left.left - 1 ≡ 0 = omega (arith, c.loop-left-test.false) in
    told_whole c.args.counts.rule report c.loop-left.work (held c.loop-left.tables) (none_left c.requires.0 done T.refining) T.tells (fitted start) T.size
