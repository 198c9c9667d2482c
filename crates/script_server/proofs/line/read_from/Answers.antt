use Rattle.std.proofs.Common.{length, arith, ◌∙◌}
use Rattle.std.proofs.lemmas.Grind.{common_steps}
use Rattle.octet_ports.specs.Ports.{Gives}
use Rattle.octet_ports.specs.Ports.{EndsWithin}
use Rattle.script_server.specs.Runs.{no_source, IsReadyIn, HasFailedIn, FailsWithin}
use Rattle.script_server.proofs.Steps.{steps_at, all_after, any_after, ready_at}
use Rattle.script_server.proofs.line.read_from.Goals as goal

pub read_octets-requires : goal.read_octets-requires
read_octets-requires g c = ready_at IsReadyIn g.I.PortIn.source c.args.inputs.now.items c.args.channel c.index_mut.result.now c.requires.there c.index_mut.ensures.value c.requires.ready

pub returns-clause-filled : goal.returns-clause-filled
returns-clause-filled g c = λ ok. steps_at (Gives c.read_octets.new.buffer) g.I.PortIn.source no_source c.args.inputs.now.items c.args.channel c.index_mut.result.now c.read_octets.new.input c.requires.there c.index_mut.ensures.value (c.read_octets.ensures.filled ok)

pub returns-clause-short : goal.returns-clause-short
returns-clause-short g c = λ ok. steps_at (EndsWithin (length c.args.octets.now)) g.I.PortIn.source no_source c.args.inputs.now.items c.args.channel c.index_mut.result.now c.read_octets.new.input c.requires.there c.index_mut.ensures.value (c.read_octets.ensures.short ok)

pub returns-clause-ready : goal.returns-clause-ready
returns-clause-ready g c = λ ok. all_after IsReadyIn g.I.PortIn.source c.args.inputs.now.items c.args.channel c.read_octets.new.input c.requires.ready (grind (arith, common_steps, c.read_octets.ensures.failed))

pub returns-clause-failed : goal.returns-clause-failed
returns-clause-failed g c = λ bad. any_after HasFailedIn g.I.PortIn.source c.args.inputs.now.items c.args.channel c.read_octets.new.input c.requires.there (c.read_octets.ensures.failed ∙ bad)

pub returns-clause-fault : goal.returns-clause-fault
returns-clause-fault g c = λ bad. steps_at (FailsWithin (length c.args.octets.now)) g.I.PortIn.source no_source c.args.inputs.now.items c.args.channel c.index_mut.result.now c.read_octets.new.input c.requires.there c.index_mut.ensures.value
    (record { failed = c.read_octets.ensures.failed ∙ bad; gives = c.read_octets.ensures.few })
