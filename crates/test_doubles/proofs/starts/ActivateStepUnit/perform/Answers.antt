use Rattle.std.proofs.Common.{[]}
use Rattle.test_doubles.proofs.starts.ActivateStepUnit.perform.Goals as goal

pub returns-clause-done : goal.returns-clause-done
returns-clause-done c p w h lawful closed lent poison keeps = c.alg_activate.ensures.law p w (record { history = h; calls = [] }) lawful closed lent poison keeps
