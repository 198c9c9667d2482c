use Rattle.std.proofs.Common.{rules, ◌≡◌, length, arith, ◌-◌, ◌≤◌, [], ◌++◌, take}
use Rattle.std.proofs.lemmas.Grind.{common_steps}
use Rattle.std.proofs.lemmas.List.{take_all}
use Rattle.octet_ports.proofs.Ports.{gives_more, take-put_mid_more}
use Rattle.octet_ports.proofs.octets.read_octets.Goals as goal

pub loop-done-preserved : goal.loop-done-preserved
loop-done-preserved g c =
    let buffer = c.loop-done.buffer in
    let within = c.loop-done.invariant.within in
    let same : length c.get.new.buffer ≡ length buffer - c.loop-done.done = grind (arith, common_steps, c.get.auto.buffer) in
    let count : c.in_ok-count.count ≤ length c.get.new.buffer = grind (arith, common_steps, c.in_ok-count.ensures.count) in
    record {
      within = grind (arith, common_steps);
      ready = search rules;
      given = rw (take-put_mid_more c.loop-done.done c.in_ok-count.count buffer c.get.new.buffer within count) (gives_more c.loop-done.invariant.given c.in_ok-count.ensures.octets);
    }

pub returns-then-count-eq0-clause-filled : goal.returns-then-count-eq0-clause-filled
returns-then-count-eq0-clause-filled g c = λ same. cc

pub returns-then-count-eq0-clause-short : goal.returns-then-count-eq0-clause-short
returns-then-count-eq0-clause-short g c = λ _. record {
  octets = take c.loop-done.done c.loop-done.buffer ++ take c.in_ok-count.count c.get.new.buffer;
  few = grind (arith, common_steps);
  gives = gives_more c.loop-done.invariant.given c.in_ok-count.ensures.octets;
  at_end = c.in_ok-count.ensures.end c.if-count-eq0.true (grind (arith, common_steps));
}

pub returns-then-count-eq0-clause-few : goal.returns-then-count-eq0-clause-few
returns-then-count-eq0-clause-few g c = record {
  octets = take c.loop-done.done c.loop-done.buffer ++ take c.in_ok-count.count c.get.new.buffer;
  few = grind (arith, common_steps);
  gives = gives_more c.loop-done.invariant.given c.in_ok-count.ensures.octets;
}

pub returns-in_err-count-clause-few : goal.returns-in_err-count-clause-few
returns-in_err-count-clause-few g c = record {
  octets = take c.loop-done.done c.loop-done.buffer ++ [];
  few = grind (arith, common_steps);
  gives = gives_more c.loop-done.invariant.given c.in_err-count.ensures.fault;
}

pub returns-clause-filled : goal.returns-clause-filled
returns-clause-filled g c = λ _. rw (take_all c.loop-done.done c.loop-done.buffer c.loop-done-test.false) at c.loop-done.invariant.given

pub returns-clause-few : goal.returns-clause-few
returns-clause-few g c = record {
  octets = take c.loop-done.done c.loop-done.buffer;
  few = grind (arith, common_steps);
  gives = c.loop-done.invariant.given;
}
