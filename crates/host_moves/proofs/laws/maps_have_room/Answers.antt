use Rattle.host_moves.proofs.Maps.{single_blocks}
use Rattle.host_moves.proofs.laws.maps_have_room.Goals as goal

pub returns-clause-single : goal.returns-clause-single
returns-clause-single g c = λ instances sharing groups spaces space ok standing. single_blocks instances sharing groups spaces space ok standing

pub returns-clause-few : goal.returns-clause-few
returns-clause-few g c = λ instances sharing groups spaces space ok standing.
    c.blocks_are_few.ensures.few _ (single_blocks instances sharing groups spaces space ok standing)
