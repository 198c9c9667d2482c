use Rattle.std.proofs.Common.{◌∙◌}
use Rattle.ialg.proofs.Histories.{IsWordHistory-with_samples}
use Rattle.kind_parts.proofs.Framings.{before_running}
use Rattle.kind_parts.proofs.framing.FramedFilter.run.Goals as goal

pub returns-then-takes-clause-history : goal.returns-then-takes-clause-history
returns-then-takes-clause-history g c p h runs =
    let F = g.K.Framing in
    let same = before_running F.STATE_WORDS F.taken p c.args.kept.now c.args.running.now runs.parameters runs.size in
    let on = rw same at (c.run_frames.ensures.law h) in
    record {
      history = IsWordHistory-with_samples h c.args.input.now runs.history on.samples;
      parameters = runs.parameters;
      size = c.run_frames.auto.words ∙ runs.size;
      state = on.state runs.state;
    }

pub returns-then-takes-clause-outputs : goal.returns-then-takes-clause-outputs
returns-then-takes-clause-outputs g c p h runs =
    let F = g.K.Framing in
    let same = before_running F.STATE_WORDS F.taken p c.args.kept.now c.args.running.now runs.parameters runs.size in
    (rw same at (c.run_frames.ensures.law h)).outputs runs.state
