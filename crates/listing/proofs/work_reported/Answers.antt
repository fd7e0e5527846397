-- `listing::work_reported` meets its contract.
use Rattle.refining.proofs.Batching.{list_made}
use Rattle.refining.proofs.Fitting.{made_few, may_again, done_again, fit_holds, fit_failed, fit_done}
use Rattle.listing.proofs.work_reported.Goals as goal

pub fit-fitted-requires : goal.fit-fitted-requires
fit-fitted-requires c =
    made_few (list_made c.args.list.now {r = c.work_in_spares-first.result} c.requires c.work_in_spares-first.ensures.worked.0)

pub returns-then-fitted-ne0-clause-worked : goal.returns-then-fitted-ne0-clause-worked
returns-then-fitted-ne0-clause-worked c =
    let made = list_made c.args.list.now {r = c.work_in_spares-first.result} c.requires c.work_in_spares-first.ensures.worked.0 in
    fit_failed _ c.args.report.now made c.fit-fitted.ensures c.if-fitted-ne0.true

pub work_in_spares-requires : goal.work_in_spares-requires
work_in_spares-requires c =
    let made = list_made c.args.list.now {r = c.work_in_spares-first.result} c.requires c.work_in_spares-first.ensures.worked.0 in
    may_again made.done c.requires

pub returns-clause-worked : goal.returns-clause-worked
returns-clause-worked c =
    let made = list_made c.args.list.now {r = c.work_in_spares-first.result} c.requires c.work_in_spares-first.ensures.worked.0 in
    let (E, T) = c.work_in_spares.ensures.worked in
    fit_done (fit_holds _ c.args.report.now made c.fit-fitted.ensures) c.if-fitted-ne0.false (done_again made.done E) T
