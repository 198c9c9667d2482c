use Rattle.std.proofs.Common.{refl}
use Rattle.test_runs.proofs.TwoRuns.{both, runs_agree}
use Rattle.test_runs.proofs.two_runs.run_both.Goals as goal

pub returns-clause-one : goal.returns-clause-one
returns-clause-one g c = record {
  size = c.run-ended.ensures.size;
  unused = λ which. let still = c.run-ended.ensures.unused which in rw (still.script, still.inputs, still.outputs, still.replies) refl;
  few = c.run-ended.ensures.few;
  ok = c.run-ended.ensures.ok;
  read = c.run-ended.ensures.read;
  write = c.run-ended.ensures.write;
}

pub returns-clause-other : goal.returns-clause-other
returns-clause-other g c = record {
  size = c.run-other_ended.ensures.size;
  unused = λ which. let still = c.run-other_ended.ensures.unused which in rw (still.script, still.inputs, still.outputs, still.replies) refl;
  few = c.run-other_ended.ensures.few;
  ok = c.run-other_ended.ensures.ok;
  read = c.run-other_ended.ensures.read;
  write = c.run-other_ended.ensures.write;
}

pub returns-clause-agree : goal.returns-clause-agree
returns-clause-agree g c = λ one two.
    both _ _ _ c.run-ended.result c.run-other_ended.result (c.run-ended.ensures.headline one) (c.run-other_ended.ensures.headline two)
    (λ summary other_summary. runs_agree c.headline.ensures.two)
