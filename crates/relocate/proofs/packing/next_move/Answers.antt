use Rattle.std.proofs.Common.{map}
use Rattle.relocate.proofs.CompactionLemmas.{first_if_any, packed_iff_none}
use Rattle.relocate.proofs.packing.next_move.Goals as goal

pub returns-clause-first : goal.returns-clause-first
returns-clause-first g c = first_if_any (map g.B.Standing.stands c.args.blocks.now) c.next_move_behind.result c.next_move_behind.ensures.value

pub returns-clause-packed : goal.returns-clause-packed
returns-clause-packed g c = packed_iff_none (map g.B.Standing.stands c.args.blocks.now) c.next_move_behind.result c.next_move_behind.ensures.value
