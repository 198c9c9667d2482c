use Rattle.std.proofs.Common.{◌≡◌, ◌≤◌, length, arith}
use Rattle.host_instances.proofs.Closed.{without_first, closing_next, closing_end, none_next, none_in, empty_left}
use Rattle.host_instances.proofs.closing.delete_all.Goals as goal

pub loop-i-preserved : goal.loop-i-preserved
loop-i-preserved g c = record {
  ok = c.delete-answer.ensures.ok;
  standing = c.delete-answer.ensures.standing;
  poisoned = c.delete-answer.ensures.poisoned;
  none = none_next c.loop-i.tables.instances c.delete-answer.new.tables.instances c.loop-i.i c.delete-answer.ensures.others c.delete-answer.ensures.gone c.loop-i.invariant.none;
  machine = λ before e kept.
      let amid = c.loop-i.invariant.machine before e kept in
      let next = c.delete-answer.ensures.machine (without_first g.M.Ialg.law.meaning before c.loop-i.i) amid.poison amid.kept in
      closing_next g.M.Ialg.law _ _ _ _ c.args.poison before c.loop-i.i c.delete-answer.result next.0 amid.poison next.1 next.2;
}

pub returns-clause-empty : goal.returns-clause-empty
returns-clause-empty g c =
    let count : length c.loop-i.tables.instances ≤ c.loop-i.i = omega (arith, c.loop-i.invariant.ok.slot_count) in
    empty_left _ _ _ c.loop-i.spaces c.loop-i.invariant.standing (none_in c.loop-i.tables.instances c.loop-i.i count c.loop-i.invariant.none)

pub returns-clause-machine : goal.returns-clause-machine
returns-clause-machine g c before e kept =
    let all : c.loop-i.i ≡ 64 = omega arith in
    closing_end g.M.Ialg.law _ _ _ _ c.args.poison before c.loop-i.i all (c.loop-i.invariant.machine before e kept)
