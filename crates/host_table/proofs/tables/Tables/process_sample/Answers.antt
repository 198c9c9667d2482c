use Rattle.std.proofs.Common.{◌≡◌, None, Some, rules, refl, subst, sym, ◌∙◌, w16}
use Rattle.std.specs.Prelude.{IfSome}
use Rattle.std.proofs.Math.Facts.{to_z-of_z}
use Rattle.host_table.specs.Table.{slot_at, group_at}
use Rattle.host_table.specs.Steps.{TellsOutput}
use Rattle.host_table.proofs.Running.{found, can_be_lent, told_there}
use Rattle.host_table.proofs.Stepping.{ok_in}
use Rattle.host_table.proofs.tables.Tables.process_sample.Goals as goal

pub process_sample-requires : goal.process_sample-requires
process_sample-requires g c =
    let read : slot_at c.deref.result.now c.args.i ≡ Some c.in-Some-Some.member = sym (c.in-Some-Some.ensures.lookup.3.1 None) ∙ search rules in
    let there = found (ok_in c.self.view_is c.requires.ok) (rw c.deref.ensures.value at read) c.in-Running.is in
    record { lent = (group_at c.self.inside.groups.items c.in-Some-Some.member.group, can_be_lent there) }

pub returns-in-Running : goal.returns-in-Running
returns-in-Running g c = record {
  told =
      let read : slot_at c.deref.result.now c.args.i ≡ Some c.in-Some-Some.member = sym (c.in-Some-Some.ensures.lookup.3.1 None) ∙ search rules in
      let there = found (ok_in c.self.view_is c.requires.ok) (rw c.deref.ensures.value at read) c.in-Running.is in
      let told = c.process_sample.result in
      subst (λ t. IfSome told (TellsOutput g.M.Ialg.law t c.args.i c.args.x)) c.self.view_is
      (told_there there g.M.Ialg.law c.args.x told (rw (to_z-of_z {w = w16} c.ranges.x) at c.process_sample.ensures.told));
}
