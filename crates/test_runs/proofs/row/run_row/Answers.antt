use Rattle.std.proofs.lemmas.List.{length-map}
use Rattle.std.proofs.Common.{◌∙◌}
use Rattle.script_server.specs.Runs.{known_of}
use Rattle.test_runs.proofs.RowLemmas.{row_gave}
use Rattle.test_runs.proofs.row.run_row.Goals as goal

pub returns : goal.returns
returns g c = record {
  gave = row_gave c.args.poison (λ voice p. c.voices_are_lawful.ensures voice p c.args.poison) c.voices_give_their_equations.ensures.fir c.run.result
      (known_of g.S.PortIn.source g.I.PortIn.source g.O.PortOut.sink g.P.PortOut.sink c.args.script.now c.args.inputs.now.items c.args.outputs.now.items c.args.replies.now)
      (known_of g.S.PortIn.source g.I.PortIn.source g.O.PortOut.sink g.P.PortOut.sink c.run.new.script c.run.new.inputs.items c.run.new.outputs.items c.run.new.replies)
      c.requires.row (length-map c.args.outputs.now.items g.O.PortOut.sink ∙ c.requires.pairs) (c.run.ensures.headline c.requires.row.honest_script);
}
