use Rattle.std.proofs.Common.{refl, ◌∙◌}
use Rattle.host_table.specs.Table.{slot_at}
use Rattle.host_table.proofs.Changes.{member_of, read_there}
use Rattle.host_table.proofs.member.active_group.Goals as goal

pub returns-in-Idling : goal.returns-in-Idling
returns-in-Idling g c =
    let m = member_of (slot_at c.args.instances.now.items c.args.i) c.requires in
    rw (read_there c.args.instances.now.items c.args.i m.0 m.1 _ c.index.ensures ∙ c.in-Some.is, c.in-Idling.is) refl

pub returns-in-Running : goal.returns-in-Running
returns-in-Running g c =
    let m = member_of (slot_at c.args.instances.now.items c.args.i) c.requires in
    rw (read_there c.args.instances.now.items c.args.i m.0 m.1 _ c.index.ensures ∙ c.in-Some.is, c.in-Running.is) refl
