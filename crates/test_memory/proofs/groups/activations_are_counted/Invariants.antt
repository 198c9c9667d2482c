-- No block comes.
use Rattle.std.proofs.Common.{◌≡◌, None}
use Rattle.mem_rec.specs.declared.Space.{Space}
use Rattle.scratch_group.specs.Blocks.{block_in}
use Rattle.test_memory.proofs.groups.activations_are_counted.Given as goal

abbrev pub invariant-loop-member : goal.invariant-loop-member
invariant-loop-member g l = (space : Space) → block_in l.group space ≡ None
