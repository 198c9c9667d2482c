-- The record's owner has its name.
use Rattle.std.proofs.Common.{Some, inl, inr, sym, ◌∙◌, ap}
use Rattle.host_map.specs.declared.placed.Owner.TheVariants.{Record}
use Rattle.host_map.specs.Blocks.{renaming}
use Rattle.host_spaces.specs.MemoryMap.{map_of}
use Rattle.host_map.specs.MemoryMap.{renamed}
use Rattle.host_map.specs.Creation.{taken_over, only}
use Rattle.host_spaces.proofs.Renaming.{alike, kept_names, taken_one, taken_stays}
use Rattle.host_spaces.proofs.spaces.Spaces.take_record.Goals as goal

pub returns-then-i-sharer-clause-map : goal.returns-then-i-sharer-clause-map
returns-then-i-sharer-clause-map c =
    let i = c.args.i in let k = c.args.k in let sharer = c.in-Some.sharer in
    c.rename.ensures.map
    ∙ alike (renaming (Record sharer k) (Record i k)) (taken_over (only k (Some sharer)) i) (taken_one i k sharer c.if-i-sharer.true) (map_of c.args.self.now)
    ∙ ap (λ t. renamed (taken_over (only k t) i) (map_of c.args.self.now)) (sym c.in-Some.is)

pub returns-else-i-sharer-clause-map : goal.returns-else-i-sharer-clause-map
returns-else-i-sharer-clause-map c =
    kept_names (taken_over (only c.args.k c.args.sharer) c.args.i)
    (taken_stays c.args.i c.args.k c.args.sharer (inr (c.in-Some.sharer, c.in-Some.is, c.if-i-sharer.false))) (map_of c.args.self.now)

pub returns-in-None-clause-map : goal.returns-in-None-clause-map
returns-in-None-clause-map c =
    kept_names (taken_over (only c.args.k c.args.sharer) c.args.i) (taken_stays c.args.i c.args.k c.args.sharer (inl c.in-None.is)) (map_of c.args.self.now)
