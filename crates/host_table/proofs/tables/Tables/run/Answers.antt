use Rattle.std.proofs.Common.{◌<◌, length, refl, rules}
use Rattle.host_table.proofs.Running.{active_within, group_within, not_empty, not_idle, opened, can_be_lent, ran_steps, ran_gives}
use Rattle.host_table.proofs.Stepping.{steps_to}
use Rattle.host_table.proofs.tables.Tables.run.Goals as goal

pub run-requires-clause-lent : goal.run-requires-clause-lent
run-requires-clause-lent g c =
    can_be_lent (opened c.self.view_is c.requires.ok c.requires.active c.index_mut.ensures.value c.in-Some.is c.in-Running.is c.index_mut-group.ensures.value)

pub returns-clause-step : goal.returns-clause-step
returns-clause-step g c w poisoned =
    let there = opened c.self.view_is c.requires.ok c.requires.active c.index_mut.ensures.value c.in-Some.is c.in-Running.is c.index_mut-group.ensures.value in
    rw (← c.self.view_is)
    (steps_to refl c.run.ensures.seen (ran_steps there _ _ _ c.run.ensures.did w (rw (← c.self.view_is) at poisoned)))

pub returns-clause-output : goal.returns-clause-output
returns-clause-output g c w =
    let there = opened c.self.view_is c.requires.ok c.requires.active c.index_mut.ensures.value c.in-Some.is c.in-Running.is c.index_mut-group.ensures.value in
    rw (← c.self.view_is) (ran_gives there _ _ _ c.run.ensures.did w)

pub index_mut-requires : goal.index_mut-requires
index_mut-requires g c =
    let inside : c.args.i < length c.self.inside.instances.items = active_within c.args.i c.self.view_is c.requires.active in
    search (inside, rules)

pub index_mut-group-requires : goal.index_mut-group-requires
index_mut-group-requires g c =
    let inside : c.in-Some.member.group < length c.self.inside.groups.items =
    group_within c.args.i c.self.view_is c.requires.active c.index_mut.ensures.value c.requires.ok c.in-Some.is in
    search (inside, rules)

pub run-requires-clause-empty : goal.run-requires-clause-empty
run-requires-clause-empty g c = c.requires.empty

pub run-requires-clause-some : goal.run-requires-clause-some
run-requires-clause-some g c = c.requires.some

pub run-requires-clause-within : goal.run-requires-clause-within
run-requires-clause-within g c = c.requires.within

pub unreachable-requires : goal.unreachable-requires
unreachable-requires g c = not_idle c.args.i c.self.view_is c.requires.active c.index_mut.ensures.value c.in-Some.is c.in-Idling.is

pub unreachable-requires-in-None : goal.unreachable-requires-in-None
unreachable-requires-in-None g c = not_empty c.args.i c.self.view_is c.requires.active c.index_mut.ensures.value c.in-None.is

pub returns-clause-bounded : goal.returns-clause-bounded
returns-clause-bounded g c = c.run.ensures.did.bounded
