use Rattle.std.proofs.lemmas.Grind.{common_steps}
use Rattle.std.proofs.Common.{rules, ◌<◌, arith}
use Rattle.std.specs.Prelude.{IsSome}
use Rattle.host_table.specs.Table.{slot_at}
use Rattle.host_instances.proofs.Deleted.{deleted_kept}
use Rattle.host_instances.proofs.deletions.delete.Goals as goal

pub returns-clause-machine : goal.returns-clause-machine
returns-clause-machine g c =
    let below : c.args.i < 64 = omega arith in
    let living : IsSome (slot_at c.args.tables.now.instances c.args.i) = search rules in
    λ before e kept.
    deleted_kept g.M.Ialg.law c.args.i c.args.poison c.args.tables.now.instances c.end_instance.new.tables.instances
    c.args.tables.now.sharing c.end_instance.new.tables.sharing c.args.tables.now.groups c.end_instance.new.tables.groups c.args.spaces.now c.end_instance.new.spaces
    before below living c.end_instance.ensures e kept

pub returns-then-not-lives-clause-machine : goal.returns-then-not-lives-clause-machine
returns-then-not-lives-clause-machine g c = search rules

pub returns-then-from-ge-INSTANCES-clause-gone : goal.returns-then-from-ge-INSTANCES-clause-gone
returns-then-from-ge-INSTANCES-clause-gone g c = grind (arith, common_steps)
