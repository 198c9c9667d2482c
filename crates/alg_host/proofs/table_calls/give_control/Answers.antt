use Rattle.std.proofs.Common.{rules, ◌<◌, ap, arith, sym}
use Rattle.std.specs.Prelude.{IsSome}
use Rattle.ialg.specs.Views.{control_of, answer_of}
use Rattle.host_table.specs.Table.{slot_at}
use Rattle.host_table.specs.Refinement.{logs_of}
use Rattle.host_table.specs.Steps.{active_beside}
use Rattle.host_table.proofs.HistoriesGo.{histories_controlled}
use Rattle.host_moves.proofs.KeptLemmas.{control_given, control_refused, same_kept}
use Rattle.alg_host.proofs.Refused.{missing, out_of_range}
use Rattle.alg_host.proofs.table_calls.give_control.Goals as goal

pub returns-in-Some-clause-machine : goal.returns-in-Some-clause-machine
returns-in-Some-clause-machine g c =
    let did = c.in-Some.ensures in
    let lt : c.args.i < 64 = omega arith in
    let living : IsSome (slot_at c.args.tables.now.instances c.args.i) = search rules in
    λ before e kept.
    control_given g.M.Ialg.law c.args.tables.now.instances c.args.tables.now.sharing c.args.tables.now.groups
    c.control.new.self.instances c.control.new.self.sharing c.control.new.self.groups before c.args.i c.args.poison
    (control_of c.args.c.now) (answer_of c.in-Some.status) e kept living lt did.taken
    (λ histories m at lawful was. did.status (logs_of histories was.0) m at lawful was.1) did.step.same did.step.activity
    (histories_controlled g.M.Ialg.law c.args.poison c.args.tables.now c.control.new.self c.args.i (control_of c.args.c.now) (active_beside c.args.tables.now c.args.i) did.step.keeps)

pub returns-in-None-clause-machine : goal.returns-in-None-clause-machine
returns-in-None-clause-machine g c =
    let did = c.in-None.ensures in
    let lt : c.args.i < 64 = omega arith in
    let living : IsSome (slot_at c.args.tables.now.instances c.args.i) = search rules in
    λ before e kept. (
      before,
      control_refused g.M.Ialg.law c.args.tables.now.instances c.args.tables.now.sharing c.args.tables.now.groups
          c.control.new.self.instances c.control.new.self.sharing c.control.new.self.groups before c.args.i c.args.poison
          (control_of c.args.c.now) e kept living lt did.taken,
      same_kept g.M.Ialg.law c.args.tables.now.instances c.args.tables.now.sharing c.args.tables.now.groups
          c.control.new.self.instances c.control.new.self.sharing c.control.new.self.groups before c.args.i
          (ap (λ v. v.instances) did.refused) (ap (λ v. v.sharing) did.refused) (ap (λ v. v.groups) did.refused) kept,
    )

pub returns-then-from-ge-INSTANCES-clause-machine : goal.returns-then-from-ge-INSTANCES-clause-machine
returns-then-from-ge-INSTANCES-clause-machine g c before e kept =
    out_of_range c.args.i (control_of c.args.c.now) (rw c.from.ensures at c.if-from-ge-INSTANCES.true) c.requires.ready.ok before kept

pub returns-then-not-lives-clause-machine : goal.returns-then-not-lives-clause-machine
returns-then-not-lives-clause-machine g c before e kept =
    missing c.args.i (control_of c.args.c.now) (rw c.from.ensures at c.if-from-ge-INSTANCES.false) (sym c.if-not-lives.ensures) before kept
