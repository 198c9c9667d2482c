use Rattle.record_loans.proofs.TakenLemmas.{has_record, taken_are_lent, second_fits, third_fits, third_can_put, second_can_put, first_can_put, all_back}
use Rattle.record_loans.proofs.loans.lend_with_blocks.Goals as goal

pub take-first-requires : goal.take-first-requires
take-first-requires g c = record { fit = c.requires.fit.1.0 }

pub take-second-requires : goal.take-second-requires
take-second-requires g c = record { fit = second_fits c.args.loan.now.plan.now c.args.own.now c.args.shared.now c.requires.fit c.take-first.ensures.cut }

pub take-third-requires : goal.take-third-requires
take-third-requires g c = record { fit = third_fits c.args.loan.now.plan.now c.args.own.now c.args.shared.now c.requires.fit c.take-first.ensures.cut c.take-second.ensures.cut }

pub lend_object-requires-clause-object : goal.lend_object-requires-clause-object
lend_object-requires-clause-object g c = c.requires.fit.0

pub lend_object-requires-clause-first : goal.lend_object-requires-clause-first
lend_object-requires-clause-first g c = has_record c.requires.fit.1.0 c.take-first.ensures.cut

pub lend_object-requires-clause-second : goal.lend_object-requires-clause-second
lend_object-requires-clause-second g c =
    has_record (second_fits c.args.loan.now.plan.now c.args.own.now c.args.shared.now c.requires.fit c.take-first.ensures.cut) c.take-second.ensures.cut

pub lend_object-requires-clause-third : goal.lend_object-requires-clause-third
lend_object-requires-clause-third g c =
    has_record (third_fits c.args.loan.now.plan.now c.args.own.now c.args.shared.now c.requires.fit c.take-first.ensures.cut c.take-second.ensures.cut) c.take-third.ensures.cut

pub put_back-requires : goal.put_back-requires
put_back-requires g c =
    let lent = c.lend_object.ensures in
    record { can = third_can_put _ c.args.own.now c.args.shared.now c.requires.fit c.take-first.ensures.cut c.take-second.ensures.cut c.take-third.ensures.cut _ _ _ lent.first lent.second lent.third }

pub put_back-requires-2 : goal.put_back-requires-2
put_back-requires-2 g c =
    let lent = c.lend_object.ensures in
    record { can = second_can_put _ c.args.own.now c.args.shared.now c.requires.fit c.take-first.ensures.cut c.take-second.ensures.cut c.take-third.ensures.cut _ _ _ lent.first lent.second lent.third c.put_back.ensures.put }

pub put_back-requires-3 : goal.put_back-requires-3
put_back-requires-3 g c =
    let lent = c.lend_object.ensures in
    record { can = first_can_put _ c.args.own.now c.args.shared.now c.requires.fit c.take-first.ensures.cut c.take-second.ensures.cut c.take-third.ensures.cut _ _ _ lent.first lent.second lent.third c.put_back.ensures.put c.put_back-2.ensures.put }

pub returns : goal.returns
returns g c =
    let lent = c.lend_object in let first = c.take-first.ensures.cut in let second = c.take-second.ensures.cut in let third = c.take-third.ensures.cut in
    let back = all_back _ c.args.own.now c.args.shared.now c.requires.fit first second third _ _ _ lent.ensures.first lent.ensures.second lent.ensures.third c.put_back.ensures.put c.put_back-2.ensures.put c.put_back-3.ensures.put in
    record {
      done = rw (taken_are_lent c.args.loan.now.plan.now c.args.own.now c.args.shared.now first second third, back.again lent.new.object c.args.shared.now.p0) lent.ensures.done;
      own = back.own_back lent.new.object lent.ensures.object;
      shared = back.shared_back;
      daram = back.daram;
      saram = back.saram;
      external = back.external;
    }
