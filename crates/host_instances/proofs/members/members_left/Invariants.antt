use Rattle.host_instances.proofs.Belonging.{NoneBelow}
use Rattle.host_instances.proofs.members.members_left.Given as goal

abbrev pub invariant-loop-i : goal.invariant-loop-i
invariant-loop-i g l = record { none : NoneBelow l.instances.items l.g l.i }
