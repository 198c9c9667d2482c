use Rattle.alg_g711.proofs.Computed.{a_shift, mu_shift}
use Rattle.alg_g711.proofs.companding.step_width.Goals as goal

pub returns-in-A-clause-bounded : goal.returns-in-A-clause-bounded
returns-in-A-clause-bounded c = rw c.saturating_sub.ensures (a_shift c.args.segment c.requires)

pub returns-in-Mu-clause-width : goal.returns-in-Mu-clause-width
returns-in-Mu-clause-width c = rw c.in-Mu.is (mu_shift c.args.segment c.requires)
