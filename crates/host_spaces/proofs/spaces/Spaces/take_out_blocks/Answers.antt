-- Each space has its block back.
use Rattle.std.proofs.Common.{rules}
use Rattle.mem_rec.specs.declared.Space.TheVariants.{Daram, Saram, External}
use Rattle.host_spaces.specs.MemoryMap.{map_of}
use Rattle.host_spaces.specs.Pieces.{without_pieces}
use Rattle.host_spaces.proofs.Leaving.{group_left, group_others, owns_any}
use Rattle.host_spaces.proofs.Maps.{maps_equal}
use Rattle.host_spaces.proofs.Renaming.{same_each}
use Rattle.host_spaces.proofs.spaces.Spaces.take_out_blocks.Goals as goal

pub give_back-requires : goal.give_back-requires
give_back-requires c = record {
  region = c.requires.regions Daram;
  owner = owns_any c.args.g c.args.pieces.daram c.args.self.now.daram.blocks (c.requires.owner Daram);
}

pub give_back-requires-2 : goal.give_back-requires-2
give_back-requires-2 c = record {
  region = c.requires.regions Saram;
  owner = owns_any c.args.g c.args.pieces.saram c.args.self.now.saram.blocks (c.requires.owner Saram);
}

pub give_back-requires-3 : goal.give_back-requires-3
give_back-requires-3 c = record {
  region = c.requires.regions External;
  owner = owns_any c.args.g c.args.pieces.external c.args.self.now.external.blocks (c.requires.owner External);
}

pub returns-clause-map : goal.returns-clause-map
returns-clause-map c = maps_equal _ (without_pieces (map_of c.args.self.now) c.args.pieces) (search rules) (search rules) (search rules)

pub returns-clause-last : goal.returns-clause-last
returns-clause-last c = group_left c.args.g c.args.pieces c.args.self.now _ (search rules) (search rules) (search rules)

pub returns-clause-others : goal.returns-clause-others
returns-clause-others c = group_others c.args.g c.args.pieces c.args.self.now _ c.requires.owner (search rules) (search rules) (search rules)

pub returns-clause-stays : goal.returns-clause-stays
returns-clause-stays c = same_each c.args.self.now _ (search rules) (search rules) (search rules)
