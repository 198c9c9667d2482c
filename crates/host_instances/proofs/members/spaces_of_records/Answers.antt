use Rattle.std.proofs.Common.{sym, ◌∙◌, ap}
use Rattle.std.proofs.lemmas.Option.{same_Some}
use Rattle.host_spaces.specs.Pieces.{spaces_of}
use Rattle.host_table.specs.declared.member.Member.{Member}
use Rattle.host_table.specs.Table.{instance_of}
use Rattle.host_table.proofs.Changes.{read_there}
use Rattle.host_instances.proofs.members.spaces_of_records.Goals as goal

pub returns-in-Idling : goal.returns-in-Idling
returns-in-Idling g c m at =
    let same = same_Some m c.in-Some.member (sym at ∙ read_there c.args.instances.now.items c.args.i m at _ c.index.ensures ∙ c.in-Some.is) in
    c.record_spaces.ensures ∙ ap spaces_of c.table.ensures ∙ ap (λ o. spaces_of (instance_of o).table) (sym (ap (λ (o : Member _). o.inst) same ∙ c.in-Idling.is))

pub returns-in-Running : goal.returns-in-Running
returns-in-Running g c m at =
    let same = same_Some m c.in-Some.member (sym at ∙ read_there c.args.instances.now.items c.args.i m at _ c.index.ensures ∙ c.in-Some.is) in
    c.record_spaces-in-Running.ensures ∙ ap spaces_of c.table-in-Running.ensures ∙ ap (λ o. spaces_of (instance_of o).table) (sym (ap (λ (o : Member _). o.inst) same ∙ c.in-Running.is))
