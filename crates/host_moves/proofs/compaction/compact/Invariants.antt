use Rattle.std.proofs.Common.{◌≡◌, ℤ, ◌+◌, length, Option}
use Rattle.host_map.specs.Moves.{unpacked_behind}
use Rattle.host_map.specs.MemoryMap.{blocks_in}
use Rattle.host_spaces.specs.MemoryMap.{map_of}
use Rattle.host_spaces.specs.Spaces.{HasFront}
use Rattle.host_table.specs.Table.{TablesOk, ArePoisoned}
use Rattle.host_moves.specs.Standing.{AgreeWithMap}
use Rattle.host_spec.specs.State.{State}
use Rattle.host_moves.specs.Hosts.{ListsAndSpacesRefine}
use Rattle.host_moves.proofs.Compactions.{IsAmid}
use Rattle.host_moves.proofs.compaction.compact.Given as goal

abbrev pub invariant-loop-space : goal.invariant-loop-space
invariant-loop-space g l = record {
  ok : TablesOk l.tables.instances l.tables.sharing l.tables.groups;
  standing : AgreeWithMap l.tables.instances l.tables.sharing l.tables.groups l.spaces;
  front : HasFront l.packed (blocks_in (map_of l.spaces) l.space);
  poisoned : (w : Option ℤ) → ArePoisoned w l.fn.tables.groups → ArePoisoned w l.tables.groups;
  counted : l.moved + length (unpacked_behind 0 (blocks_in (map_of l.spaces) l.space)) ≡ length (unpacked_behind 0 (blocks_in (map_of l.fn.spaces) l.space));
  amid : (before : State _) → ListsAndSpacesRefine g.M.Ialg.law l.fn.tables.instances l.fn.tables.sharing l.fn.tables.groups l.fn.spaces before
      → IsAmid g.M.Ialg.law l.space l.tables.instances l.tables.sharing l.tables.groups l.spaces l.moved before;
}

abbrev pub decreases-loop-space : goal.decreases-loop-space
decreases-loop-space g l = length (unpacked_behind 0 (blocks_in (map_of l.spaces) l.space))
