use Rattle.std.proofs.Common.{◌<◌, length, refl, rules}
use Rattle.host_table.proofs.Running.{active_within, group_within, not_empty, not_idle, opened, can_be_lent, controlled_steps, controlled_answers}
use Rattle.host_table.proofs.Stepping.{steps_to}
use Rattle.host_table.proofs.tables.Tables.control_active.Goals as goal

pub control-requires : goal.control-requires
control-requires g c = record {
  lent = can_be_lent (opened c.self.view_is c.requires.ok c.requires.active c.index_mut.ensures.value c.in-Some.is c.in-Running.is c.index_mut-group.ensures.value);
}

pub returns-clause-step : goal.returns-clause-step
returns-clause-step g c w m at poisoned accepts =
    let there = opened c.self.view_is c.requires.ok c.requires.active c.index_mut.ensures.value c.in-Some.is c.in-Running.is c.index_mut-group.ensures.value in
    rw (← c.self.view_is)
    (steps_to refl c.control.ensures.seen (controlled_steps there _ _ _ c.control.ensures.did w m (rw (← c.self.view_is) at at) (rw (← c.self.view_is) at poisoned) accepts))

pub returns-clause-status : goal.returns-clause-status
returns-clause-status g c w histories m at lawful accepts keeps =
    let there = opened c.self.view_is c.requires.ok c.requires.active c.index_mut.ensures.value c.in-Some.is c.in-Running.is c.index_mut-group.ensures.value in
    controlled_answers there _ _ _ c.control.ensures.did w m (rw (← c.self.view_is) at at) histories lawful accepts (rw (← c.self.view_is) at keeps)

pub index_mut-requires : goal.index_mut-requires
index_mut-requires g c =
    let inside : c.args.i < length c.self.inside.instances.items = active_within c.args.i c.self.view_is c.requires.active in
    search (inside, rules)

pub index_mut-group-requires : goal.index_mut-group-requires
index_mut-group-requires g c =
    let inside : c.in-Some.member.group < length c.self.inside.groups.items =
    group_within c.args.i c.self.view_is c.requires.active c.index_mut.ensures.value c.requires.ok c.in-Some.is in
    search (inside, rules)

pub unreachable-requires : goal.unreachable-requires
unreachable-requires g c = not_idle c.args.i c.self.view_is c.requires.active c.index_mut.ensures.value c.in-Some.is c.in-Idling.is

pub unreachable-requires-in-None : goal.unreachable-requires-in-None
unreachable-requires-in-None g c = not_empty c.args.i c.self.view_is c.requires.active c.index_mut.ensures.value c.in-None.is
