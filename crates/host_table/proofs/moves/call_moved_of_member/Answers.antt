use Rattle.host_table.proofs.Moving.{can_be_lent, idle_told, idle_stays, idle_keeps, active_told, active_inactive, active_stays, active_activity, active_keeps}
use Rattle.host_table.proofs.moves.call_moved_of_member.Goals as goal

pub moved-requires-clause-lent : goal.moved-requires-clause-lent
moved-requires-clause-lent g c = can_be_lent c.tables.view_is c.requires.told c.requires.member c.requires.number c.requires.range c.index_mut.ensures.value c.in-Some.is c.in-Idling.is c.index.ensures

pub moved-requires-in-Running-clause-lent : goal.moved-requires-in-Running-clause-lent
moved-requires-in-Running-clause-lent g c = can_be_lent c.tables.view_is c.requires.told c.requires.member c.requires.number c.requires.range c.index_mut.ensures.value c.in-Some.is c.in-Running.is c.index_mut-in-Running.ensures.value

pub returns-in-Idling-clause-told : goal.returns-in-Idling-clause-told
returns-in-Idling-clause-told g c = idle_told c.tables.view_is c.requires.told c.requires.member c.requires.number c.requires.range c.index_mut.ensures.value c.in-Some.is c.in-Idling.is c.index.ensures c.moved.ensures.seen c.moved.ensures.did

pub returns-in-Idling-clause-same : goal.returns-in-Idling-clause-same
returns-in-Idling-clause-same g c = idle_stays c.tables.view_is c.requires.told c.requires.member c.requires.number c.requires.range c.index_mut.ensures.value c.in-Some.is c.in-Idling.is c.index.ensures c.moved.ensures.seen c.moved.ensures.did

pub returns-in-Idling-clause-keeps : goal.returns-in-Idling-clause-keeps
returns-in-Idling-clause-keeps g c = idle_keeps c.tables.view_is c.requires.told c.requires.member c.requires.number c.requires.range c.index_mut.ensures.value c.in-Some.is c.in-Idling.is c.index.ensures c.moved.ensures.seen c.moved.ensures.did

-- the active member of the group is told
pub returns-in-Running-clause-told : goal.returns-in-Running-clause-told
returns-in-Running-clause-told g c = active_told c.tables.view_is c.requires.told c.requires.member c.requires.number c.requires.range c.index_mut.ensures.value c.in-Some.is c.in-Running.is c.index_mut-in-Running.ensures.value c.moved-in-Running.ensures.seen c.moved-in-Running.ensures.did

pub returns-in-Running-clause-inactive : goal.returns-in-Running-clause-inactive
returns-in-Running-clause-inactive g c = active_inactive c.tables.view_is c.requires.told c.requires.member c.requires.number c.requires.range c.index_mut.ensures.value c.in-Some.is c.in-Running.is c.index_mut-in-Running.ensures.value c.moved-in-Running.ensures.seen c.moved-in-Running.ensures.did

pub returns-in-Running-clause-same : goal.returns-in-Running-clause-same
returns-in-Running-clause-same g c = active_stays c.tables.view_is c.requires.told c.requires.member c.requires.number c.requires.range c.index_mut.ensures.value c.in-Some.is c.in-Running.is c.index_mut-in-Running.ensures.value c.moved-in-Running.ensures.seen c.moved-in-Running.ensures.did

pub returns-in-Running-clause-activity : goal.returns-in-Running-clause-activity
returns-in-Running-clause-activity g c = active_activity c.tables.view_is c.requires.told c.requires.member c.requires.number c.requires.range c.index_mut.ensures.value c.in-Some.is c.in-Running.is c.index_mut-in-Running.ensures.value c.moved-in-Running.ensures.seen c.moved-in-Running.ensures.did

pub returns-in-Running-clause-keeps : goal.returns-in-Running-clause-keeps
returns-in-Running-clause-keeps g c = active_keeps c.tables.view_is c.requires.told c.requires.member c.requires.number c.requires.range c.index_mut.ensures.value c.in-Some.is c.in-Running.is c.index_mut-in-Running.ensures.value c.moved-in-Running.ensures.seen c.moved-in-Running.ensures.did
