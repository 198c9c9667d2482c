use Rattle.host_table.proofs.table_memory.end_tables.Goals as goal

pub end_groups-requires : goal.end_groups-requires
end_groups-requires g c = rw (← c.tables.view_is) at c.requires.blocks

pub end_sharing-requires : goal.end_sharing-requires
end_sharing-requires g c = rw (← c.tables.view_is) at c.requires.none

pub end_instances-requires : goal.end_instances-requires
end_instances-requires g c = rw (← c.tables.view_is) at c.requires.empty
