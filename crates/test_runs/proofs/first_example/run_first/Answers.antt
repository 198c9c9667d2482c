use Rattle.std.proofs.lemmas.List.{length-map}
use Rattle.std.proofs.Common.{◌∙◌, None}
use Rattle.script_server.specs.Runs.{known_of}
use Rattle.test_runs.proofs.FirstExampleLemmas.{first_sounds_like_it}
use Rattle.test_runs.proofs.first_example.run_first.Goals as goal

pub returns : goal.returns
returns g c = record {
  gave = first_sounds_like_it c.args.poison (λ voice p. c.voices_are_lawful.ensures voice p None) (λ voice p. c.voices_are_lawful.ensures voice p c.args.poison)
      c.sounds_are_one.ensures.runs c.voices_give_their_equations.ensures.fir c.run.result
      (known_of g.S.PortIn.source g.I.PortIn.source g.O.PortOut.sink g.P.PortOut.sink c.args.script.now c.args.inputs.now.items c.args.outputs.now.items c.args.replies.now)
      (known_of g.S.PortIn.source g.I.PortIn.source g.O.PortOut.sink g.P.PortOut.sink c.run.new.script c.run.new.inputs.items c.run.new.outputs.items c.run.new.replies)
      c.requires.first (length-map c.args.outputs.now.items g.O.PortOut.sink ∙ c.requires.pairs) (c.run.ensures.sounds c.requires.first.honest_script);
}
