use Rattle.std.proofs.Common.{sym, ap, ◌∙◌}
use Rattle.ialg.specs.History.{with_samples}
use Rattle.ialg.proofs.Histories.{IsWordHistory-with_samples}
use Rattle.kind_steps.specs.Recursions.{state_after, tuning_by}
use Rattle.kind_steps.proofs.Recursions.{before_state, same_tuning}
use Rattle.kind_steps.proofs.recursion.RecursiveFilter.run.Goals as goal

pub returns-in-Some-clause-history : goal.returns-in-Some-clause-history
returns-in-Some-clause-history g c p h runs =
    let R = g.K.Recursion in
    let xs = c.args.input.now in
    let before = before_state R.STATE_WORDS R.tuned p runs.tuning c.args.kept.now c.args.running.now runs.keeps runs.size in
    let named = sym (c.in-Some.ensures.value ∙ ap (tuning_by R.tuned) before) in
    let same = same_tuning (tuning_by R.tuned p) c.in-Some.tuning runs.tuning named runs.keeps.named in
    let ran = c.run.ensures.law h (runs.state ∙ ap (λ t. R.words_of (state_after R.first R.taken t h)) (sym same)) in
    record {
      history = IsWordHistory-with_samples h xs runs.history ran.samples;
      tuning = runs.tuning;
      keeps = runs.keeps;
      size = c.run.auto.words ∙ runs.size;
      state = ran.state ∙ ap (λ t. R.words_of (state_after R.first R.taken t (with_samples h xs))) same;
    }
