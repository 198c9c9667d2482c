use Rattle.std.proofs.Common.{refl}
use Rattle.host_map.specs.MemoryMap.{blocks_in}
use Rattle.host_spaces.specs.MemoryMap.{map_of}
use Rattle.ialg.specs.Log.{Moved}
use Rattle.host_table.specs.Steps.{called_at}
use Rattle.host_map.specs.declared.placed.Owner.TheVariants.{Record}
use Rattle.host_moves.proofs.Logs.{relogged}
use Rattle.host_moves.proofs.Hears.{own_told}
use Rattle.host_moves.proofs.Seen.{words_at_rest, words_seen}
use Rattle.host_moves.proofs.Owners.{standing_stays}
use Rattle.host_moves.proofs.OwnMoves.{next_is, region_is, range_is, living_away, can_come_back, told_others, tables_away, room_back, stands_back, kinds_back, words_back, then_same, same_sizes, words_copied}
use Rattle.host_moves.proofs.moves.move_own.Goals as goal

pub make_move-moved-requires-clause-region : goal.make_move-moved-requires-clause-region
make_move-moved-requires-clause-region g c =
    region_is _ _ _ _ _ c.args.i c.args.k _ (rw (← c.tables.view_is) at c.requires.ok) (rw (← c.tables.view_is) at c.requires.standing) c.requires.next c.take_own-piece.ensures.piece

pub make_move-moved-requires-clause-next : goal.make_move-moved-requires-clause-next
make_move-moved-requires-clause-next g c =
    range_is _ _ _ _ _ c.args.i c.args.k _ (rw (← c.tables.view_is) at c.requires.ok) (rw (← c.tables.view_is) at c.requires.standing) c.requires.next c.take_own-piece.ensures.piece

pub tell-requires-clause-living : goal.tell-requires-clause-living
tell-requires-clause-living g c =
    rw c.take_own-piece.ensures.left (living_away _ _ _ _ _ c.args.i c.args.k _ (rw (← c.tables.view_is) at c.requires.ok) (rw (← c.tables.view_is) at c.requires.standing) c.requires.next c.take_own-piece.ensures.piece)

pub tell-requires-clause-back : goal.tell-requires-clause-back
tell-requires-clause-back g c =
    rw c.take_own-piece.ensures.left (can_come_back _ _ _ _ _ c.args.i c.args.k _ (rw (← c.tables.view_is) at c.requires.ok) (rw (← c.tables.view_is) at c.requires.standing) c.requires.next c.take_own-piece.ensures.piece)

pub tell-requires-clause-there : goal.tell-requires-clause-there
tell-requires-clause-there g c =
    rw c.take_own-piece.ensures.left (tables_away _ _ _ _ _ c.args.i c.args.k _ (rw (← c.tables.view_is) at c.requires.ok) (rw (← c.tables.view_is) at c.requires.standing) c.requires.next c.take_own-piece.ensures.piece)

pub tell-requires-clause-room : goal.tell-requires-clause-room
tell-requires-clause-room g c =
    rw c.take_own-piece.ensures.left
    (room_back _ _ _ _ _ c.args.i c.args.k _ (rw (← c.tables.view_is) at c.requires.ok) (rw (← c.tables.view_is) at c.requires.standing) c.requires.next c.take_own-piece.ensures.piece _ _
    c.make_move-moved.ensures.owned c.make_move-moved.ensures.others c.make_move-moved.ensures.elsewhere c.make_move-moved.ensures.regions
    c.make_move-moved.ensures.words.0 c.make_move-moved.ensures.words.1 c.in_order.ensures)

pub returns : goal.returns
returns g c =
    rw (← c.tables.view_is)
    (let same = rw c.take_own-piece.ensures.left at c.tell.ensures.same in
    let keeps = rw c.take_own-piece.ensures.left at c.tell.ensures.keeps in
    let stands = stands_back _ _ _ _ _ c.args.i c.args.k _ (rw (← c.tables.view_is) at c.requires.ok) (rw (← c.tables.view_is) at c.requires.standing) c.requires.next c.take_own-piece.ensures.piece _ _
    c.make_move-moved.ensures.owned c.make_move-moved.ensures.others c.make_move-moved.ensures.elsewhere c.make_move-moved.ensures.regions
    c.make_move-moved.ensures.words.0 c.make_move-moved.ensures.words.1 in
    let kinds = kinds_back _ _ _ _ _ c.args.i c.args.k _ (rw (← c.tables.view_is) at c.requires.ok) (rw (← c.tables.view_is) at c.requires.standing) c.requires.next c.take_own-piece.ensures.piece _ _
    c.make_move-moved.ensures.owned c.make_move-moved.ensures.others c.make_move-moved.ensures.elsewhere c.make_move-moved.ensures.regions
    c.make_move-moved.ensures.words.0 c.make_move-moved.ensures.words.1 in
    let words = words_back _ _ _ _ _ c.args.i c.args.k _ (rw (← c.tables.view_is) at c.requires.ok) (rw (← c.tables.view_is) at c.requires.standing) c.requires.next c.take_own-piece.ensures.piece _ _
    c.make_move-moved.ensures.owned c.make_move-moved.ensures.others c.make_move-moved.ensures.elsewhere c.make_move-moved.ensures.regions
    c.make_move-moved.ensures.words.0 c.make_move-moved.ensures.words.1 in
    record {
      ok = c.tell.ensures.ok (rw c.take_own-piece.ensures.left (told_others _ _ _ _ _ c.args.i c.args.k _ (rw (← c.tables.view_is) at c.requires.ok) (rw (← c.tables.view_is) at c.requires.standing) c.requires.next c.take_own-piece.ensures.piece));
      standing = standing_stays same stands;
      words = words_at_rest _ _ c.tell.ensures.inactive;
      same = then_same _ kinds same;
      activity = c.tell.ensures.activity;
      map = c.make_move-moved.ensures.map;
      sizes = same_sizes _ _ c.make_move-moved.ensures.regions;
      copied = words_copied (blocks_in (map_of c.args.spaces.now) c.args.space) _ _ _ _ c.take_own-piece.result (next_is _ _ _ _ _ c.args.i c.args.k _ (rw (← c.tables.view_is) at c.requires.ok) (rw (← c.tables.view_is) at c.requires.standing) c.requires.next c.take_own-piece.ensures.piece) c.make_move-moved.ensures.copied;
      keeps = λ b next w logs before.
          relogged g.M.Ialg.law w c.tell.new.tables (called_at c.args.i Moved logs) _
          (λ j.
          own_told c.tables.inside.instances.items c.tables.inside.sharing.items c.args.spaces.now c.args.space (Record c.args.i c.args.k) b c.requires.next next logs c.args.i c.args.k j refl
          (rw (← c.tables.view_is) at c.requires.unshared))
          (keeps w logs (words_seen g.M.Ialg.law w logs (rw (← c.tables.view_is) at c.requires.ok) words before));
    })
