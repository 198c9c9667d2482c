use Rattle.std.proofs.Common.{arith}
use Rattle.std.proofs.KnownBytes.{Appends-nil, Appends-trans}
use Rattle.std.proofs.Math.Seq.{take-add}
use Rattle.std.proofs.lemmas.Grind.{common_steps}
use Rattle.std.proofs.lemmas.List.{take_rest}
use Rattle.octet_ports.proofs.waiting.write_some.Goals as goal

pub loop-done-init : goal.loop-done-init
loop-done-init g c = record {
  within = omega arith;
  appends = Appends-nil _;
}

pub loop-done-preserved : goal.loop-done-preserved
loop-done-preserved g c = record {
  within = grind (arith, common_steps);
  appends = rw (take-add c.loop-done.done c.in-Ok.count c.args.octets.now)
      (Appends-trans _ _ _ _ _ c.loop-done.invariant.appends (rw (take_rest c.args.octets.now c.loop-done.done) at c.in-Ok.ensures.bytes));
}
