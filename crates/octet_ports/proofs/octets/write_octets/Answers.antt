use Rattle.std.proofs.Common.{rules, arith}
use Rattle.std.proofs.Math.Seq.{take-add}
use Rattle.std.proofs.lemmas.Grind.{common_steps}
use Rattle.std.proofs.lemmas.List.{take-append-drop, take_all, take_rest}
use Rattle.octet_ports.proofs.Ports.{takes_more, takes_some}
use Rattle.octet_ports.proofs.octets.write_octets.Goals as goal

pub returns-in_err-count-clause-fault : goal.returns-in_err-count-clause-fault
returns-in_err-count-clause-fault g c =
    λ bad. rw (take_rest c.args.octets.now c.loop-done.done, take-append-drop c.loop-done.done c.args.octets.now) at (takes_some c.loop-done.invariant.taken c.in_err-count.ensures.fault)

pub loop-done-preserved : goal.loop-done-preserved
loop-done-preserved g c = record {
  within = grind (arith, common_steps);
  ready = search rules;
  taken = rw (take-add c.loop-done.done c.in_ok-count.count c.args.octets.now) (takes_more c.loop-done.invariant.taken (rw (take_rest c.args.octets.now c.loop-done.done) at c.in_ok-count.ensures.octets));
}

pub returns-clause-ok : goal.returns-clause-ok
returns-clause-ok g c = λ _. rw (take_all c.loop-done.done c.args.octets.now c.loop-done-test.false) at c.loop-done.invariant.taken
