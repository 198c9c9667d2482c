-- Where there is no new block all stays as it was.
use Rattle.std.proofs.Common.{◌≡◌, refl, subst}
use Rattle.host_spaces.specs.declared.pieces.NewBlocks.{NewBlocks}
use Rattle.host_spaces.specs.MemoryMap.{space_in}
use Rattle.host_table.specs.Table.{slot_at, group_at}
use Rattle.host_moves.proofs.OwnMoves.{kind_itself}
use Rattle.host_instances.specs.Blocks.{no_blocks}
use Rattle.host_instances.specs.Growth.{ArePlaced}
use Rattle.host_instances.proofs.Grown.{grown_still, need_still}
use Rattle.host_instances.proofs.growth.grow.Goals as goal

pub returns-then-has_none : goal.returns-then-has_none
returns-then-has_none g c =
    let none : c.args.blocks ≡ no_blocks = c.has_none.ensures.none c.if-has_none.true in
    record {
      ok = c.requires.ok;
      poisoned = c.requires.poisoned;
      grown =
          grown_still c.args.g c.args.tables.now.instances c.args.tables.now.sharing c.args.tables.now.groups c.args.spaces.now
          (subst (λ (b : NewBlocks). ArePlaced c.args.g b c.args.tables.now.instances c.args.tables.now.sharing c.args.tables.now.groups c.args.spaces.now) none c.requires.placed)
          c.in_order.ensures c.requires.ok.held;
      need = λ rs needed. need_still rs (group_at c.args.tables.now.groups c.args.g) (λ space. (space_in c.args.spaces.now space).region) (rw none at needed);
      same = λ i. kind_itself (slot_at c.args.tables.now.instances i);
      activity = λ k. rw none refl;
      map = rw none refl;
      others = λ o space apart. refl;
      stays = λ space. record { region = refl; slid = refl };
      keeps = λ histories before. before;
    }

pub returns : goal.returns
returns g c = c.grow_by_blocks.ensures
