-- `boxing::work_reported` meets its contract.
use Rattle.wanting.proofs.Begins.{box_made}
use Rattle.refining.proofs.Fitting.{made_few, done_again, fit_holds, fit_failed, fit_done}
use Rattle.boxing.proofs.work_reported.Goals as goal

pub fit-fitted-requires : goal.fit-fitted-requires
fit-fitted-requires c =
    made_few (box_made _ {r = c.work_in_spares-first.result} c.requires c.work_in_spares-first.ensures.boxed)

pub returns-then-fitted-ne0-clause-boxed : goal.returns-then-fitted-ne0-clause-boxed
returns-then-fitted-ne0-clause-boxed c =
    (fit_failed _ c.args.report.now (box_made _ c.requires c.work_in_spares-first.ensures.boxed) c.fit-fitted.ensures
    c.if-fitted-ne0.true).0

pub returns-then-fitted-ne0-clause-reported : goal.returns-then-fitted-ne0-clause-reported
returns-then-fitted-ne0-clause-reported c =
    (fit_failed _ c.args.report.now (box_made _ c.requires c.work_in_spares-first.ensures.boxed) c.fit-fitted.ensures
    c.if-fitted-ne0.true).1

pub returns-clause-boxed : goal.returns-clause-boxed
returns-clause-boxed c =
    (fit_done
    (fit_holds _ c.args.report.now (box_made _ c.requires c.work_in_spares-first.ensures.boxed) c.fit-fitted.ensures)
    c.if-fitted-ne0.false (done_again c.work_in_spares-first.ensures.boxed c.work_in_spares.ensures.boxed)
    c.work_in_spares.ensures.told).0

pub returns-clause-reported : goal.returns-clause-reported
returns-clause-reported c =
    (fit_done
    (fit_holds _ c.args.report.now (box_made _ c.requires c.work_in_spares-first.ensures.boxed) c.fit-fitted.ensures)
    c.if-fitted-ne0.false (done_again c.work_in_spares-first.ensures.boxed c.work_in_spares.ensures.boxed)
    c.work_in_spares.ensures.told).1
