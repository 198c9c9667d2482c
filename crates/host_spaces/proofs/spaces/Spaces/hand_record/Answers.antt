-- The record's owner has its name.
use Rattle.std.proofs.Common.{Some, sym, ◌∙◌, ap}
use Rattle.host_map.specs.declared.placed.Owner.TheVariants.{Record}
use Rattle.host_map.specs.Blocks.{renaming}
use Rattle.host_spaces.specs.MemoryMap.{map_of}
use Rattle.host_map.specs.MemoryMap.{renamed}
use Rattle.host_map.specs.Creation.{handed_on, only}
use Rattle.host_spaces.proofs.Renaming.{alike, kept_names, handed_one, handed_stays}
use Rattle.host_spaces.proofs.spaces.Spaces.hand_record.Goals as goal

pub returns-in-Some-clause-map : goal.returns-in-Some-clause-map
returns-in-Some-clause-map c =
    let i = c.args.i in let k = c.args.k in let sharer = c.in-Some.sharer in
    c.rename.ensures.map
    ∙ alike (renaming (Record i k) (Record sharer k)) (handed_on (only k (Some sharer)) i) (handed_one i k sharer) (map_of c.args.self.now)
    ∙ ap (λ t. renamed (handed_on (only k t) i) (map_of c.args.self.now)) (sym c.in-Some.is)

pub returns-in-None-clause-map : goal.returns-in-None-clause-map
returns-in-None-clause-map c =
    kept_names (handed_on (only c.args.k c.args.sharer) c.args.i) (handed_stays c.args.i c.args.k c.args.sharer c.in-None.is) (map_of c.args.self.now)
