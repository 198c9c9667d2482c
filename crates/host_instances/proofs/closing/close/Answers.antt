use Rattle.host_moves.proofs.Maps.{no_block}
use Rattle.host_instances.proofs.closing.close.Goals as goal

pub end_tables-requires-clause-none : goal.end_tables-requires-clause-none
end_tables-requires-clause-none g c = λ i. c.delete_all.ensures.standing.free i (c.delete_all.ensures.none i)

pub end_tables-requires-clause-blocks : goal.end_tables-requires-clause-blocks
end_tables-requires-clause-blocks g c = λ group space.
    no_block c.delete_all.new.tables.instances c.delete_all.new.tables.sharing c.delete_all.new.tables.groups c.delete_all.new.spaces
    c.delete_all.ensures.none c.delete_all.ensures.standing group space
