use Rattle.std.proofs.Common.{ap, ◌∙◌}
use Rattle.octet_ports.specs.Ports.{Sink}
use Rattle.dsp_program.proofs.serving.serve_ports.Goals as goal

pub run-requires-clause-ready : goal.run-requires-clause-ready
run-requires-clause-ready g c =
    record {
      inputs = c.requires.ready;
      outs = c.in_ok-outputs.ensures.to_write;
      reply = ap (λ (s : Sink). s.failed) c.new-replies.ensures ∙ c.new.ensures;
    }
