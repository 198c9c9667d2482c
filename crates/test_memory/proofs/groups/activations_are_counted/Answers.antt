use Rattle.std.proofs.Common.{◌∙◌}
use Rattle.test_memory.proofs.groups.activations_are_counted.Goals as goal

pub loop-member-init : goal.loop-member-init
loop-member-init g c = c.new-group.ensures.blocks

pub loop-member-preserved : goal.loop-member-preserved
loop-member-preserved g c space = c.set_active.ensures.blocks space ∙ c.loop-member.invariant space

pub end-requires : goal.end-requires
end-requires g c = c.loop-member.invariant
