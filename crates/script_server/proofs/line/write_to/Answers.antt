use Rattle.std.proofs.Common.{arith, ◌∙◌}
use Rattle.std.proofs.lemmas.Grind.{common_steps}
use Rattle.octet_ports.specs.Ports.{Takes, TakesFirst}
use Rattle.script_server.specs.Runs.{no_sink, IsReadyOut, HasFailedOut}
use Rattle.script_server.proofs.Steps.{steps_at, all_after, any_after, ready_at}
use Rattle.script_server.proofs.line.write_to.Goals as goal

pub write_octets-requires : goal.write_octets-requires
write_octets-requires g c = ready_at IsReadyOut g.O.PortOut.sink c.args.outputs.now.items c.args.channel c.index_mut.result.now c.requires.there c.index_mut.ensures.value c.requires.ready

pub returns-clause-ok : goal.returns-clause-ok
returns-clause-ok g c = λ ok. steps_at (Takes c.args.octets.now) g.O.PortOut.sink no_sink c.args.outputs.now.items c.args.channel c.index_mut.result.now c.write_octets.new.output c.requires.there c.index_mut.ensures.value (c.write_octets.ensures.ok ok)

pub returns-clause-fault : goal.returns-clause-fault
returns-clause-fault g c = λ bad. steps_at (TakesFirst c.args.octets.now) g.O.PortOut.sink no_sink c.args.outputs.now.items c.args.channel c.index_mut.result.now c.write_octets.new.output c.requires.there c.index_mut.ensures.value (c.write_octets.ensures.fault bad)

pub returns-clause-ready : goal.returns-clause-ready
returns-clause-ready g c = λ ok. all_after IsReadyOut g.O.PortOut.sink c.args.outputs.now.items c.args.channel c.write_octets.new.output c.requires.ready (grind (arith, common_steps, c.write_octets.ensures.failed))

pub returns-clause-failed : goal.returns-clause-failed
returns-clause-failed g c = λ bad. any_after HasFailedOut g.O.PortOut.sink c.args.outputs.now.items c.args.channel c.write_octets.new.output c.requires.there (c.write_octets.ensures.failed ∙ bad)
