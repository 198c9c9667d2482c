-- Each space has its blocks under their names.
use Rattle.std.proofs.Common.{rules}
use Rattle.host_spaces.specs.MemoryMap.{map_of}
use Rattle.host_map.specs.MemoryMap.{renamed}
use Rattle.host_map.specs.Blocks.{renaming}
use Rattle.host_spaces.proofs.Maps.{maps_equal}
use Rattle.host_spaces.proofs.Renaming.{same_each}
use Rattle.host_spaces.proofs.spaces.Spaces.rename.Goals as goal

pub returns-clause-map : goal.returns-clause-map
returns-clause-map c = maps_equal _ (renamed (renaming c.args.from c.args.to) (map_of c.args.self.now)) (search rules) (search rules) (search rules)

pub returns-clause-stays : goal.returns-clause-stays
returns-clause-stays c = same_each c.args.self.now _ (search rules) (search rules) (search rules)
