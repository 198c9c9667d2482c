use Rattle.std.proofs.Common.{sym, ◌∙◌}
use Rattle.host_table.proofs.Deactivations.{active_range, idle_after, deactivates, idle_stays}
use Rattle.host_table.proofs.tables.Tables.deactivate.Goals as goal

pub deactivate_by_call-was_active-requires-clause-range : goal.deactivate_by_call-was_active-requires-clause-range
deactivate_by_call-was_active-requires-clause-range g c =
    active_range _ c.args.i c.requires.ready.ok (rw (← c.self.view_is) (sym c.active_group-active.ensures ∙ c.in-Some.is))

pub returns-in-Some-clause-idle : goal.returns-in-Some-clause-idle
returns-in-Some-clause-idle g c =
    idle_after _ c.args.i c.requires.ready.ok (rw (← c.self.view_is) (sym c.active_group-active.ensures ∙ c.in-Some.is)) c.deactivate_by_call-was_active.ensures.step

pub returns-in-Some-clause-step : goal.returns-in-Some-clause-step
returns-in-Some-clause-step g c =
    deactivates _ c.args.i c.requires.ready.ok (rw (← c.self.view_is) (sym c.active_group-active.ensures ∙ c.in-Some.is)) c.deactivate_by_call-was_active.ensures.step

pub returns-in_default-clause-idle : goal.returns-in_default-clause-idle
returns-in_default-clause-idle g c = rw (← c.self.view_is) (sym c.active_group-active.ensures ∙ c.in_default.is)

pub returns-in_default-clause-step : goal.returns-in_default-clause-step
returns-in_default-clause-step g c =
    idle_stays c.args.i c.requires.living c.requires.ready (rw (← c.self.view_is) (sym c.active_group-active.ensures ∙ c.in_default.is))
