use Rattle.std.proofs.Common.{[], arith, ◌∙◌}
use Rattle.std.proofs.lemmas.Grind.{common_steps}
use Rattle.octet_ports.specs.Ports.{Holds, HasPassedAll}
use Rattle.script_server.specs.Runs.{no_sink, IsReadyOut, HasFailedOut}
use Rattle.script_server.proofs.Steps.{steps_at, all_after, any_after, ready_at}
use Rattle.script_server.proofs.line.flush_at.Goals as goal

pub flush-requires : goal.flush-requires
flush-requires g c = ready_at IsReadyOut g.O.PortOut.sink c.args.outputs.now.items c.args.channel c.index_mut.result.now c.requires.there c.index_mut.ensures.value c.requires.ready

pub returns-clause-holds : goal.returns-clause-holds
returns-clause-holds g c = steps_at (Holds []) g.O.PortOut.sink no_sink c.args.outputs.now.items c.args.channel c.index_mut.result.now c.flush.new.self c.requires.there c.index_mut.ensures.value c.flush.ensures.octets

pub returns-clause-passed : goal.returns-clause-passed
returns-clause-passed g c = λ ok. steps_at (λ _ new. HasPassedAll new) g.O.PortOut.sink no_sink c.args.outputs.now.items c.args.channel c.index_mut.result.now c.flush.new.self c.requires.there c.index_mut.ensures.value
    (c.flush.ensures.all ok)

pub returns-clause-ready : goal.returns-clause-ready
returns-clause-ready g c = λ ok. all_after IsReadyOut g.O.PortOut.sink c.args.outputs.now.items c.args.channel c.flush.new.self c.requires.ready (grind (arith, common_steps, c.flush.ensures.failed))

pub returns-clause-failed : goal.returns-clause-failed
returns-clause-failed g c = λ bad. any_after HasFailedOut g.O.PortOut.sink c.args.outputs.now.items c.args.channel c.flush.new.self c.requires.there (c.flush.ensures.failed ∙ bad)
