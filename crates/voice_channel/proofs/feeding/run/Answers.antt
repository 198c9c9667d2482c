use Rattle.voice_channel.proofs.Fed.{ran, some_samples, not_given, not_there}
use Rattle.std.proofs.Common.{arith}
use Rattle.voice_channel.proofs.feeding.run.Goals as goal
use Rattle.voice_channel.proofs.feeding.run.Goals.{else-not-is_empty-via-then-not-is_empty+else-living, else-not-is_empty-via-else-not-is_empty}

pub process-requires-clause-some : goal.process-requires-clause-some
process-requires-clause-some g c = some_samples c.args.block.now c.if-not-is_empty.ensures

pub returns-then-living-clause-bounded : goal.returns-then-living-clause-bounded
returns-then-living-clause-bounded g c = c.process.ensures.bounded

pub returns-then-living-clause-passes : goal.returns-then-living-clause-passes
returns-then-living-clause-passes g c =
    ran g.M.Ialg.law c.args.member c.args.block.now c.process.new.out.items c.args.host.now c.process.new.self
    (some_samples c.args.block.now c.if-not-is_empty.ensures) c.process.ensures.machine

pub returns-else-not-is_empty-clause-bounded : goal.returns-else-not-is_empty-clause-bounded
returns-else-not-is_empty-clause-bounded g c = rw c.clear.ensures (omega arith)

pub returns-else-not-is_empty-clause-passes : goal.returns-else-not-is_empty-clause-passes
returns-else-not-is_empty-clause-passes g c = elim c.else-not-is_empty.branch [
  | else-not-is_empty-via-then-not-is_empty+else-living w ↦ not_there g.M.Ialg.law c.args.member c.args.block.now c.clear.new.self.items c.args.host.now (rw w.if-living.false at w.living.ensures.machine)
  | else-not-is_empty-via-else-not-is_empty w ↦ not_given g.M.Ialg.law c.args.member c.args.block.now c.clear.new.self.items c.args.host.now w.if-not-is_empty.ensures c.clear.ensures
]
