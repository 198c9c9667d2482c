use Rattle.lifecycle.proofs.Groups.{same_blocks}
use Rattle.test_lives.proofs.Housing.{same_blocks_then}
use Rattle.test_lives.proofs.neighbour_tests.control.Goals as goal

pub returns-clause-blocks : goal.returns-clause-blocks
returns-clause-blocks g c =
    same_blocks_then c.args.group.now c.activate.new.group c.deactivate.new.group c.activate.ensures.did.blocks
    (same_blocks_then c.activate.new.group c.control-status.new.group c.deactivate.new.group (same_blocks c.activate.new.group c.control-status.new.group c.control-status.ensures.did.group) c.deactivate.ensures.did.blocks)
