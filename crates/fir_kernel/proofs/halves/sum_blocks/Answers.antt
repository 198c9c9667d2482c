use Rattle.fir_kernel.proofs.halves.sum_blocks.Goals as goal

pub sum_watched-requires-clause-rooms : goal.sum_watched-requires-clause-rooms
sum_watched-requires-clause-rooms c = c.find_rooms.ensures.rooms c.if-find_rooms.true c.args.line.now c.requires.quiet

pub returns-then-find_rooms-clause-sums : goal.returns-then-find_rooms-clause-sums
returns-then-find_rooms-clause-sums c = c.sum_watched.ensures.sums
