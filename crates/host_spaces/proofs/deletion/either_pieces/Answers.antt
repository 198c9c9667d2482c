-- Each record has one of its pieces.
use Rattle.host_spaces.proofs.Leaving.{either_each}
use Rattle.host_spaces.proofs.deletion.either_pieces.Goals as goal

pub either_piece-p0-requires : goal.either_piece-p0-requires
either_piece-p0-requires c = record { one = c.requires.one 0 }

pub either_piece-p1-requires : goal.either_piece-p1-requires
either_piece-p1-requires c = record { one = c.requires.one 1 }

pub either_piece-p2-requires : goal.either_piece-p2-requires
either_piece-p2-requires c = record { one = c.requires.one 2 }

pub either_piece-p3-requires : goal.either_piece-p3-requires
either_piece-p3-requires c = record { one = c.requires.one 3 }

pub returns : goal.returns
returns c = either_each c.args.own c.args.shared c.either_piece-p0.ensures c.either_piece-p1.ensures c.either_piece-p2.ensures c.either_piece-p3.ensures
