use Rattle.std.proofs.Common.{◌∙◌}
use Rattle.ialg.specs.Log.{called, fed, Activate}
use Rattle.ialg.proofs.Loans.{SameLoans-then, AllLent-SameLoans}
use Rattle.test_diary.proofs.turns.take_turn.Goals as goal

pub returns-clause-loans : goal.returns-clause-loans
returns-clause-loans g c = SameLoans-then _ _ _ (SameLoans-then _ _ _ c.alg_activate.ensures.loans c.process.ensures.loans) c.alg_deactivate.ensures.loans

pub returns-clause-law : goal.returns-clause-law
returns-clause-law g c p w l lawful closed lent poison keeps =
    let first = c.alg_activate.ensures.loans in
    let both = SameLoans-then _ _ _ first c.process.ensures.loans in
    let active = rw (← first.table) at (c.alg_activate.ensures.law p w l lawful closed lent poison keeps) in
    let ran = (c.process.ensures.law p w (called Activate l) lawful (first.writable ∙ closed) (AllLent-SameLoans _ _ first lent) active).0 in
    rw both.table at (c.alg_deactivate.ensures.law p w (fed (called Activate l) c.args.input.now) lawful (both.writable ∙ closed) (AllLent-SameLoans _ _ both lent) (rw (← c.process.ensures.loans.table) at ran))
