use Rattle.std.proofs.Common.{◌∙◌}
use Rattle.ialg.specs.Log.{called, Activate}
use Rattle.ialg.proofs.Loans.{SameLoans-then, AllLent-SameLoans}
use Rattle.ialg.proofs.laws.Ialg.activate_and_process.Goals as goal

pub returns-clause-loans : goal.returns-clause-loans
returns-clause-loans g c = SameLoans-then _ _ _ c.alg_activate.ensures.loans c.process.ensures.loans

pub returns-clause-law : goal.returns-clause-law
returns-clause-law g c p w l lawful closed lent poison keeps =
    let first = c.alg_activate.ensures.loans in
    rw first.table at
    (c.process.ensures.law p w (called Activate l) lawful (first.writable ∙ closed) (AllLent-SameLoans _ _ first lent) (rw (← first.table) at (c.alg_activate.ensures.law p w l lawful closed lent poison keeps)))
