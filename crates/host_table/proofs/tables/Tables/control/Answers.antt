use Rattle.std.proofs.Common.{◌≡◌, ◌∙◌, refl, sym, true, rules}
use Rattle.ialg.specs.Views.{control_of}
use Rattle.lifecycle.specs.States.{IsLawful, Accepts}
use Rattle.host_table.specs.Table.{instance_of}
use Rattle.host_table.proofs.Changes.{later_member, member_of}
use Rattle.host_table.proofs.Housing.{lawful_before, lawful_after}
use Rattle.host_table.proofs.Stepping.{steps_then, steps_told, stays_of}
use Rattle.host_table.specs.Steps.{active_beside, turned}
use Rattle.host_table.proofs.Histories.{given_turned}
use Rattle.host_table.proofs.tables.Tables.control.Goals as goal

pub returns-clause-step : goal.returns-clause-step
returns-clause-step g c =
    let before = member_of _ c.requires.living in
    let later = later_member _ _ before.0 before.1 (c.activate.ensures.step.same.slot c.args.i) in
    let same = later.1.1 in
    let yes : c.accepts.result ≡ true = search rules in
    let accepts : IsLawful g.M.Ialg.law.meaning (instance_of later.0.inst) c.args.poison → Accepts g.M.Ialg.law.meaning (instance_of later.0.inst) (control_of c.args.c.now) =
    λ lawful. rw (same.kind, same.params) (sym (c.accepts.ensures c.args.poison before.0 before.1 (lawful_before g.M.Ialg.law.meaning _ _ c.args.poison same lawful)) ∙ yes) in
    steps_told c.activate.ensures.step.activity
    (steps_then c.activate.ensures.step (c.control_active.ensures.step c.args.poison later.0 later.1.0 c.activate.ensures.step.poisoned accepts))

pub returns-clause-status : goal.returns-clause-status
returns-clause-status g c histories m at lawful keeps =
    let later = later_member _ _ m at (c.activate.ensures.step.same.slot c.args.i) in
    let same = later.1.1 in
    let yes : c.accepts.result ≡ true = search rules in
    let accepts : Accepts g.M.Ialg.law.meaning (instance_of later.0.inst) (control_of c.args.c.now) =
    rw (same.kind, same.params) (sym (c.accepts.ensures c.args.poison m at lawful) ∙ yes) in
    let active = active_beside c.args.self.now c.args.i in
    rw (same.kind, same.params, given_turned c.args.i active histories c.args.i) at
    (c.control_active.ensures.status c.args.poison (turned c.args.i active histories) later.0 later.1.0 (lawful_after g.M.Ialg.law.meaning _ _ c.args.poison same lawful) accepts (c.activate.ensures.step.keeps histories keeps))

pub returns-clause-stays : goal.returns-clause-stays
returns-clause-stays g c = stays_of (returns-clause-step g c)

pub returns-then-not-accepts-clause-refused : goal.returns-then-not-accepts-clause-refused
returns-then-not-accepts-clause-refused g c = refl
