use Rattle.std.proofs.Common.{sym}
use Rattle.host_spaces.proofs.Owners.{disowned_none}
use Rattle.host_spaces.proofs.blocks.SpaceBlocks.give_back.Goals as goal

pub returns-in-Some-clause-others : goal.returns-in-Some-clause-others
returns-in-Some-clause-others c = rw (c.in-Some.is) c.take_out.ensures.others

pub returns-in-None-clause-only : goal.returns-in-None-clause-only
returns-in-None-clause-only c = rw (c.in-None.is) (λ owner align none. sym (disowned_none owner c.args.self.now.blocks none))
