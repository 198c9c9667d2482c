use Rattle.std.proofs.Common.{◌∙◌}
use Rattle.kind_parts.proofs.Framings.{empty_frame, no_state}
use Rattle.kind_parts.proofs.framing.FramedFilter.reset.Goals as goal

pub returns : goal.returns
returns g c p h kept runs =
    let F = g.K.Framing in
    let size = c.clear.auto.words ∙ runs.size in
    record {
      history = (tt, runs.history);
      parameters = runs.parameters;
      size = size;
      state = empty_frame F.state_of F.STATE_WORDS g.met.K.Framing.begins p c.clear.new.words size c.clear.ensures ∙ no_state F.state_of p;
    }
