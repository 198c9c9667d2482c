use Rattle.std.proofs.Common.{refl, sym, ◌∙◌, arith}
use Rattle.host_map.specs.declared.placed.Owner.TheVariants.{Scratch}
use Rattle.host_map.specs.MemoryMap.{blocks_in}
use Rattle.host_spaces.specs.MemoryMap.{map_of}
use Rattle.host_moves.proofs.Hears.{block_told}
use Rattle.host_moves.proofs.Seen.{words_seen}
use Rattle.host_moves.proofs.Owners.{standing_stays}
use Rattle.host_moves.proofs.OwnMoves.{kind_itself, then_same, same_sizes, words_copied}
use Rattle.host_moves.proofs.BlockMoves.{block_there, next_is, range_is, region_is, stands, words_now, inactive_words, told_now}
use Rattle.host_moves.proofs.moves.move_block.Goals as goal

pub take_block-requires : goal.take_block-requires
take_block-requires g c = omega (arith, c.requires.number, (rw (← c.tables.view_is) at c.requires.ok).group_count)

pub make_move-moved-requires-clause-region : goal.make_move-moved-requires-clause-region
make_move-moved-requires-clause-region g c =
    region_is _ _ _ _ _ c.args.g c.args.align (rw (← c.tables.view_is) at c.requires.ok) (rw (← c.tables.view_is) at c.requires.standing) c.requires.next c.requires.align _ (sym c.take_block.ensures.old ∙ c.in-Some.is)

pub make_move-moved-requires-clause-next : goal.make_move-moved-requires-clause-next
make_move-moved-requires-clause-next g c =
    range_is _ _ _ _ _ c.args.g c.args.align (rw (← c.tables.view_is) at c.requires.ok) (rw (← c.tables.view_is) at c.requires.standing) c.requires.next c.requires.align _ (sym c.take_block.ensures.old ∙ c.in-Some.is)

pub call_moved_in_group-requires-clause-told : goal.call_moved_in_group-requires-clause-told
call_moved_in_group-requires-clause-told g c =
    told_now _ _ _ _ _ c.args.g c.args.align (rw (← c.tables.view_is) at c.requires.ok) (rw (← c.tables.view_is) at c.requires.standing) c.requires.next c.requires.align _ (sym c.take_block.ensures.old ∙ c.in-Some.is)
    c.make_move-moved.result _ _ _ c.make_move-moved.ensures.owned c.make_move-moved.ensures.others c.make_move-moved.ensures.elsewhere c.make_move-moved.ensures.regions
    c.make_move-moved.ensures.words.0 c.make_move-moved.ensures.words.1 c.take_block.ensures.others c.put_block-old.ensures.others c.put_block-old.ensures.new
    c.in_order.ensures (c.put_block-old.ensures.length ∙ c.take_block.ensures.length ∙ (rw (← c.tables.view_is) at c.requires.ok).group_count) (λ k. c.put_block-old.ensures.activity k ∙ c.take_block.ensures.activity k)

pub unreachable-requires : goal.unreachable-requires
unreachable-requires g c =
    block_there _ _ _ _ _ c.args.g c.args.align (rw (← c.tables.view_is) at c.requires.ok) (rw (← c.tables.view_is) at c.requires.standing) c.requires.next c.requires.align (sym c.take_block.ensures.old ∙ c.in-None.is)

pub returns : goal.returns
returns g c =
    rw (← c.tables.view_is)
    (let location = stands _ _ _ _ _ c.args.g c.args.align (rw (← c.tables.view_is) at c.requires.ok) (rw (← c.tables.view_is) at c.requires.standing) c.requires.next c.requires.align _ (sym c.take_block.ensures.old ∙ c.in-Some.is)
    c.make_move-moved.result _ _ _ c.make_move-moved.ensures.owned c.make_move-moved.ensures.others c.make_move-moved.ensures.elsewhere c.make_move-moved.ensures.regions
    c.make_move-moved.ensures.words.0 c.make_move-moved.ensures.words.1 c.take_block.ensures.others c.put_block-old.ensures.others c.put_block-old.ensures.new in
    let words = words_now _ _ _ _ _ c.args.g c.args.align (rw (← c.tables.view_is) at c.requires.ok) (rw (← c.tables.view_is) at c.requires.standing) c.requires.next c.requires.align _ (sym c.take_block.ensures.old ∙ c.in-Some.is)
    c.make_move-moved.result _ _ _ c.make_move-moved.ensures.owned c.make_move-moved.ensures.others c.make_move-moved.ensures.elsewhere c.make_move-moved.ensures.regions
    c.make_move-moved.ensures.words.0 c.make_move-moved.ensures.words.1 c.take_block.ensures.others c.put_block-old.ensures.others c.put_block-old.ensures.new in
    let resting = inactive_words _ _ _ _ _ c.args.g c.args.align (rw (← c.tables.view_is) at c.requires.ok) (rw (← c.tables.view_is) at c.requires.standing) c.requires.next c.requires.align _ (sym c.take_block.ensures.old ∙ c.in-Some.is)
    c.make_move-moved.result _ _ _ c.make_move-moved.ensures.owned c.make_move-moved.ensures.others c.make_move-moved.ensures.elsewhere c.make_move-moved.ensures.regions
    c.make_move-moved.ensures.words.0 c.make_move-moved.ensures.words.1 c.take_block.ensures.others c.put_block-old.ensures.others c.put_block-old.ensures.new
    _ (λ k. c.put_block-old.ensures.activity k ∙ c.take_block.ensures.activity k) c.call_moved_in_group.ensures.inactive in
    record {
      ok = c.call_moved_in_group.ensures.ok;
      standing = standing_stays c.call_moved_in_group.ensures.same location;
      words = resting;
      same = then_same _ (λ j. kind_itself _) c.call_moved_in_group.ensures.same;
      activity = λ k. c.call_moved_in_group.ensures.activity k ∙ c.put_block-old.ensures.activity k ∙ c.take_block.ensures.activity k;
      map = c.make_move-moved.ensures.map;
      sizes = same_sizes _ _ c.make_move-moved.ensures.regions;
      copied = words_copied (blocks_in (map_of c.args.spaces.now) c.args.space) _ _ _ _ c.in-Some.piece
          (next_is _ _ _ _ _ c.args.g c.args.align (rw (← c.tables.view_is) at c.requires.ok) (rw (← c.tables.view_is) at c.requires.standing) c.requires.next c.requires.align _ (sym c.take_block.ensures.old ∙ c.in-Some.is)) c.make_move-moved.ensures.copied;
      keeps = λ b next w logs before.
          block_told c.tables.inside.instances.items c.tables.inside.sharing.items c.args.spaces.now c.args.space (Scratch c.args.g) b c.requires.next next logs
          g.M.Ialg.law w c.args.g c.call_moved_in_group.new.tables refl c.call_moved_in_group.ensures.ok.slot_count
          (c.call_moved_in_group.ensures.keeps w logs (words_seen g.M.Ialg.law w logs (rw (← c.tables.view_is) at c.requires.ok) words before));
    })
